-- `mend_inside`: the header is opened, its nonce copied, and then the file is mended under what it says.
-- Assumes nothing.
use Prim.Native.Nat.{ℕ, ◌+◌, ◌≤◌}
use mathlib.Core.Path.{◌≡◌, sym, ap, ap₂, ◌∙◌}
use mathlib.Core.Bool.{true}
use mathlib.Core.List.{List}
use native.Mathlib.Omega.{arith}
use lib.ListN.{length, take, drop, replicate, length-take, length-drop, length-append}
use lib.Seq.{length-take-le, take_at}
use borrow.Author.Rules.{rules}
use Rattle.frame.specs.Layout.{Sizes, right_length, file_length, header_at}
use Rattle.frame.proofs.Lengths.{file-clear}
use Rattle.vault.specs.Vault.{sizes_of}
use Rattle.vault.proofs.Combos.{sized_exactly, small_nonce, nonce-within}
use Rattle.vault.proofs.Payloads.{key-part}
use Rattle.file_mend.specs.Under.{mend_under}
use Rattle.file_mend.proofs.Under.{refused_9, mend_under_lem}
use Rattle.octets.specs.Bytes.{placed}
use Rattle.vault.specs.declared.record.Combo.{Combo}
use Rattle.answer.specs.declared.Refusal.TheVariants.{Header}
use Rattle.std.proofs.lemmas.Result.{err_from_is_err_and}
use Rattle.file_mend.proofs.inside.mend_inside.Goals as goal

-- the code's s is the size of the nonce, which stands in front of the file and fits 16 bytes
nonce_in : (c : Combo) (z : Sizes) (f : List ℕ) → z ≡ sizes_of c → right_length (sizes_of c) (length f) ≡ true → (z.nonce ≡ (sizes_of c).nonce) × (z.nonce ≤ length f) × (z.nonce ≤ 16)
nonce_in c z f e r =
    let g = ap (λ (y : Sizes). y.nonce) e in
    (g, omega (arith, g, nonce-within c, file-clear (sizes_of c) (length f) r), omega (arith, g, small_nonce c))

-- d is the header's nonce, copied to the front of 16 bytes
copied : (c : Combo) (z : Sizes) (f d : List ℕ) → z ≡ sizes_of c → right_length (sizes_of c) (length f) ≡ true → d ≡ placed (take z.nonce f) 0 (replicate 16 0)
    → (z.nonce ≤ length d) × (take z.nonce d ≡ take (sizes_of c).nonce f)
copied c z f d e r h =
    let n = nonce_in c z f e r in
    let l = length-take-le z.nonce f n.1 in (
      omega (arith, ap length h, length-append (take z.nonce f) (drop (0 + length (take z.nonce f)) (replicate 16 0)), l),
      ap (take z.nonce) h ∙ take_at (take z.nonce f) _ z.nonce l ∙ ap (λ (m : ℕ). take m f) n.0,
    )

pub open_head-requires : goal.open_head-requires
open_head-requires c = record { enc_len = (search rules, c.requires.file_len.0) }

pub returns-in_err-payload : goal.returns-in_err-payload
returns-in_err-payload c =
    let x = c.args in
    let k = (sized_exactly x.v.combo x.v.enc x.v.mac).1 (search rules, search rules) in
    let h = rw c.in_err-payload.ensures.ok_part at c.open_head.ensures in
    let e : c.in_err-payload.field-0.0 ≡ Header = search rules in
    let p = err_from_is_err_and c.from_residual.result c.from_residual.ensures.1 in
    rw (p.1, p.2, e) (refused_9 x.v.enc x.v.mac x.file.now x.from x.new.now x.nonces.now x.v.combo k c.requires.file_len.3 c.requires.file_len.0 (omega (arith, c.requires.file_len.1, c.requires.file_len.2)) c.requires.nonces_value h)

pub key_tables-requires : goal.key_tables-requires
key_tables-requires c =
    let n : length c.in_ok-payload.payload ≡ 40 = search rules in
    record { key_len = simp (length-take, length-drop) (omega (arith, n)) }

pub slice_bounds-copy_at-end : goal.slice_bounds-copy_at-end
slice_bounds-copy_at-end c = (nonce_in c.args.v.combo _ c.args.file.now c.sizes_of-s.ensures c.requires.file_len.0).1

pub slice_bounds-copy_at-end-2 : goal.slice_bounds-copy_at-end-2
slice_bounds-copy_at-end-2 c = sym (length-take-le c.sizes_of-s.result.nonce _ (nonce_in c.args.v.combo _ c.args.file.now c.sizes_of-s.ensures c.requires.file_len.0).1)

pub copy_at-requires : goal.copy_at-requires
copy_at-requires c =
    let n = nonce_in c.args.v.combo _ c.args.file.now c.sizes_of-s.ensures c.requires.file_len.0 in
    omega (arith, length-take-le c.sizes_of-s.result.nonce c.args.file.now n.1, n.2)

pub invariant_of-content : goal.invariant_of-content
invariant_of-content c = record { keyed = c.key_tables.ensures.0 }

pub invariant_of-keys : goal.invariant_of-keys
invariant_of-keys c =
    let d = copied c.args.v.combo _ c.args.file.now c.copy_at.new.dst c.sizes_of-s.ensures c.requires.file_len.0 c.copy_at.ensures in
    record { nonce_size = length-take-le _ _ d.0 ∙ ap (λ (z : Sizes). z.nonce) c.sizes_of-s.ensures }

pub mend_under-requires : goal.mend_under-requires
mend_under-requires c =
    let x = c.args in
    let z = sizes_of x.v.combo in
    (file-clear z (length x.file.now) c.requires.file_len.0 ∙ ap (file_length z) (sym c.requires.file_len.1), c.requires.file_len.2, c.requires.file_len.3)

pub returns : goal.returns
returns c =
    let x = c.args in
    let f = x.file.now in
    let b = header_at (sizes_of x.v.combo) f in
    let k = (sized_exactly x.v.combo x.v.enc x.v.mac).1 (search rules, search rules) in
    let p = c.in_ok-payload.payload in
    let said = rw c.in_ok-payload.ensures.ok_part at c.open_head.ensures in
    let n : length p ≡ 40 = search rules in
    let d = copied x.v.combo _ f c.copy_at.new.dst c.sizes_of-s.ensures c.requires.file_len.0 c.copy_at.ensures in
    c.mend_under.ensures _ c.key_tables.ensures.1
    ∙ ap₂ (λ (nonce key : List ℕ). mend_under x.v.combo x.v.mac nonce key f x.from x.new.now x.nonces.now) d.1 (key-part x.v.enc x.v.mac b p x.v.combo said.1 n)
    ∙ sym (mend_under_lem x.v.enc x.v.mac f x.from x.new.now x.nonces.now x.v.combo k c.requires.file_len.3 c.requires.file_len.0 (omega (arith, c.requires.file_len.1, c.requires.file_len.2)) c.requires.nonces_value said.0)
