-- `write_file`: the rows in order, and the file at the front of the buffer.
-- Assumes nothing.
use Prim.Native.Nat.{ℕ, ◌*◌}
use mathlib.Core.Path.{◌≡◌, sym, ap, ap₂, ◌∙◌}
use mathlib.Core.Bool.{Bool, ◌&&◌}
use mathlib.Core.List.{List, [], ◌∷◌, ◌++◌}
use native.Mathlib.Omega.{arith}
use borrow.Author.Rules.{rules}
use lib.ListN.{length, drop}
use lib.Seq.{length-take-le}
use lib.Dec.{eqb}
use Rattle.octets.specs.Rows.{done, End, ended}
use Rattle.frame.specs.Layout.{Sizes, chunks, repeats, file_length}
use Rattle.frame.specs.Frame.{Codec, Choice, own_head, own_choice, head_right, file_of, write_file}
use Rattle.frame.specs.Rules.{KeySizes}
use Rattle.frame.proofs.KeySizes.{keys_exactly}
use Rattle.vault.specs.declared.record.Vault.{Vault}
use Rattle.vault.specs.Vault.{sizes_of, codec_of}
use Rattle.vault.proofs.Combos.{small_nonce, codec_by, codec_by_lem}
use Rattle.file_write.proofs.Ends.{sizes_right, sizes_facts, row_1, row_4, row_7, row_8, no_row, front_length}
use Rattle.file_write.proofs.write_file.Goals as goal

-- under the record's keys, where the code has the combo's sizes z in a variable
module _ (v : Vault) (header_nonce key nonces p : List ℕ) (z : Sizes) (same : z ≡ sizes_of v.combo) where
  abbrev codec : Codec
  codec = codec_by v.combo v.enc v.mac

  abbrev chosen : Choice
  chosen = own_choice header_nonce key nonces p

  by : (out : List ℕ) (e : End) → e ≡ write_file codec chosen out → e ≡ write_file (codec_of v) chosen out
  by out e h = h ∙ ap (λ (C : Codec). write_file C chosen out) (codec_by_lem v.combo v.enc v.mac)

  told : (b : Bool) → KeySizes v.enc v.mac → b ≡ (head_right (sizes_of v.combo) (own_head header_nonce key) && eqb (length nonces) (z.nonce * chunks (length p))) → sizes_right codec chosen ≡ b
  told b k h =
      ap₂ (λ (a : Bool) (s : Sizes). a && (head_right (sizes_of v.combo) chosen.head && eqb (length nonces) (s.nonce * chunks (length p)))) ((keys_exactly v.enc v.mac).1 k) (sym same)
      ∙ sym h

  again : (k : ℕ) (b : Bool) → k ≡ chunks (length p) → b ≡ repeats z.nonce k nonces → repeats (sizes_of v.combo).nonce (chunks (length p)) nonces ≡ b
  again k b e h = ap₂ (λ (s : Sizes) (m : ℕ). repeats s.nonce m nonces) (sym same) (sym e) ∙ sym h

pub sizes_right-requires : goal.sizes_right-requires
sizes_right-requires c =
    let x = c.args in
    omega (arith, ap (λ (z : Sizes). z.nonce) c.sizes_of-w.ensures, small_nonce x.v.combo)

pub returns-then-not-sizes_right : goal.returns-then-not-sizes_right
returns-then-not-sizes_right c =
    let x = c.args in
    let t = told x.v x.header_nonce.now x.key.now x.nonces.now x.cleartext.now _ c.sizes_of-w.ensures _ (search rules, search rules) c.if-not-sizes_right.ensures in
    by x.v x.header_nonce.now x.key.now x.nonces.now x.cleartext.now _ c.sizes_of-w.ensures x.out.now _ (row_1 (codec_by x.v.combo x.v.enc x.v.mac) (own_choice x.header_nonce.now x.key.now x.nonces.now x.cleartext.now) x.out.now t)

pub returns-then-n-gt16777216 : goal.returns-then-n-gt16777216
returns-then-n-gt16777216 c =
    let x = c.args in
    let t = told x.v x.header_nonce.now x.key.now x.nonces.now x.cleartext.now _ c.sizes_of-w.ensures _ (search rules, search rules) c.if-not-sizes_right.ensures in
    by x.v x.header_nonce.now x.key.now x.nonces.now x.cleartext.now _ c.sizes_of-w.ensures x.out.now _ (row_4 (codec_by x.v.combo x.v.enc x.v.mac) (own_choice x.header_nonce.now x.key.now x.nonces.now x.cleartext.now) x.out.now t (omega arith))

pub returns-then-out-size : goal.returns-then-out-size
returns-then-out-size c =
    let x = c.args in
    let t = told x.v x.header_nonce.now x.key.now x.nonces.now x.cleartext.now _ c.sizes_of-w.ensures _ (search rules, search rules) c.if-not-sizes_right.ensures in
    by x.v x.header_nonce.now x.key.now x.nonces.now x.cleartext.now _ c.sizes_of-w.ensures x.out.now _ (row_7 (codec_by x.v.combo x.v.enc x.v.mac) (own_choice x.header_nonce.now x.key.now x.nonces.now x.cleartext.now) x.out.now t (omega arith) (omega (arith, c.file_length-size.ensures)))

pub repeats-requires : goal.repeats-requires
repeats-requires c =
    let x = c.args in
    let t = told x.v x.header_nonce.now x.key.now x.nonces.now x.cleartext.now _ c.sizes_of-w.ensures _ (search rules, search rules) c.if-not-sizes_right.ensures in
    let l = (sizes_facts (codec_by x.v.combo x.v.enc x.v.mac) (own_choice x.header_nonce.now x.key.now x.nonces.now x.cleartext.now) t).2 in
    omega (arith, l ∙ ap₂ (λ (z : Sizes) (m : ℕ). z.nonce * m) (sym c.sizes_of-w.ensures) (sym c.chunks.ensures))

pub returns-then-repeats : goal.returns-then-repeats
returns-then-repeats c =
    let x = c.args in
    let t = told x.v x.header_nonce.now x.key.now x.nonces.now x.cleartext.now _ c.sizes_of-w.ensures _ (search rules, search rules) c.if-not-sizes_right.ensures in
    let a = again x.v x.header_nonce.now x.key.now x.nonces.now x.cleartext.now _ c.sizes_of-w.ensures _ _ c.chunks.ensures c.if-repeats.ensures in
    by x.v x.header_nonce.now x.key.now x.nonces.now x.cleartext.now _ c.sizes_of-w.ensures x.out.now _ (row_8 (codec_by x.v.combo x.v.enc x.v.mac) (own_choice x.header_nonce.now x.key.now x.nonces.now x.cleartext.now) x.out.now t (omega arith) (omega (arith, c.file_length-size.ensures)) a)

pub slice_bounds-file-end-2 : goal.slice_bounds-file-end-2
slice_bounds-file-end-2 c = sym (length-take-le _ c.args.out.now c.if-out-size.false)

pub seal_file-requires : goal.seal_file-requires
seal_file-requires c =
    let x = c.args in
    let t = told x.v x.header_nonce.now x.key.now x.nonces.now x.cleartext.now _ c.sizes_of-w.ensures _ (search rules, search rules) c.if-not-sizes_right.ensures in
    let f = sizes_facts (codec_by x.v.combo x.v.enc x.v.mac) (own_choice x.header_nonce.now x.key.now x.nonces.now x.cleartext.now) t in
    record { header_nonce_len = (f.0, f.1); nonces_len = (f.2, length-take-le _ x.out.now c.if-out-size.false ∙ c.file_length-size.ensures) }

pub returns : goal.returns
returns c =
    let x = c.args in
    let t = told x.v x.header_nonce.now x.key.now x.nonces.now x.cleartext.now _ c.sizes_of-w.ensures _ (search rules, search rules) c.if-not-sizes_right.ensures in
    let a = again x.v x.header_nonce.now x.key.now x.nonces.now x.cleartext.now _ c.sizes_of-w.ensures _ _ c.chunks.ensures c.if-repeats.ensures in
    let out = x.out.now in
    let f = c.seal_file.new.out in
    let e = c.file_length-size.ensures in
    let n = file_length (sizes_of x.v.combo) (length x.cleartext.now) in
    let l = front_length f out n (omega (arith, e)) (ap (λ (m : ℕ). length (f ++ drop m out)) (sym e) ∙ c.out-1.given.1) in
    let q = c.seal_file.ensures ∙ sym (ap (λ (C : Codec). file_of C (own_choice x.header_nonce.now x.key.now x.nonces.now x.cleartext.now)) (codec_by_lem x.v.combo x.v.enc x.v.mac)) in
    ap (λ (m : ℕ). ended (done (m ∷ [])) (f ++ drop m out)) e
    ∙ by x.v x.header_nonce.now x.key.now x.nonces.now x.cleartext.now _ c.sizes_of-w.ensures x.out.now _ (no_row (codec_by x.v.combo x.v.enc x.v.mac) (own_choice x.header_nonce.now x.key.now x.nonces.now x.cleartext.now) out t (omega arith) (omega (arith, e)) a f q l)
