-- `mend_chunk`: the part of the file that is chunk i is lent to `reseal`.
-- Assumes nothing.
use Prim.Native.Nat.{ℕ, ◌+◌, ◌-◌, ◌≤◌, ◌<◌, min}
use mathlib.Core.Path.{◌≡◌, sym, ap, ap₂, ◌∙◌}
use mathlib.Core.List.{List}
use native.Mathlib.Omega.{arith}
use lib.ListN.{length, take, drop, length-take, length-drop}
use Rattle.octets.specs.Bytes.{placed}
use Rattle.octets.proofs.Lists.{placed-part}
use Rattle.aes_spec.specs.Cipher.{cipher}
use Rattle.frame.proofs.Pieces.{chunk_length}
use Rattle.frame.proofs.Filling.{chunk_part}
use Rattle.vault.specs.Vault.{sizes_of}
use Rattle.vault.specs.Under.{sealed_under, good_under, opened_under}
use Rattle.vault.proofs.Combos.{small_overhead}
use Rattle.file_mend.proofs.chunks.mend_chunk.Goals as goal

-- the part from a to b of a file of l bytes, which begins inside
ends : (f : List ℕ) (a b m o : ℕ) → b ≡ min (a + m) (length f) → a + o < length f → (a ≤ b) × (length (take (b - a) (drop a f)) ≡ b - a)
ends f a b m o e l = (omega (arith, e, l), omega (arith, length-take (b - a) (drop a f), length-drop a f, e, l))

pub slice_bounds-reseal-count : goal.slice_bounds-reseal-count
slice_bounds-reseal-count c = let s = c.span_of-span in (ends c.args.file.now s.result.start s.result.end _ _ s.ensures.1 s.ensures.2).0

pub slice_bounds-reseal-start : goal.slice_bounds-reseal-start
slice_bounds-reseal-start c = let s = c.span_of-span in omega (arith, (ends c.args.file.now s.result.start s.result.end _ _ s.ensures.1 s.ensures.2).0)

pub reseal-requires : goal.reseal-requires
reseal-requires c =
    let x = c.args in
    let k = x.keys.now in
    let s = c.span_of-span in
    let cut = chunk_part (sizes_of k.combo) x.file.now x.i s.result.start s.result.end s.ensures.0 s.ensures.1 in
    let l = ap length cut ∙ chunk_length (sizes_of k.combo) x.file.now x.n x.i c.requires.file_len.0 c.requires.file_len.1 in
    let o = small_overhead k.combo in
    record { nonce_len = (c.requires.nonce_len, omega (arith, l, o), omega (arith, l, c.requires.file_len.2)); chunk_value = ap (good_under k.combo (cipher 14 k.content.w.now) k.mac.now k.header_nonce.now x.i) cut ∙ c.requires.i_value }

pub returns : goal.returns
returns c =
    let x = c.args in
    let k = x.keys.now in
    let s = c.span_of-span in
    let a = s.result.start in
    let b = s.result.end in
    let cut = chunk_part (sizes_of k.combo) x.file.now x.i a b s.ensures.0 s.ensures.1 in
    let e = cipher 14 k.content.w.now in
    let r = c.reseal in
    let last = r.new.chunk in
    let kept = r.auto.chunk in
    let sealed = r.ensures
    ∙ ap (λ (y : List ℕ). sealed_under k.combo e k.mac.now k.header_nonce.now x.i x.nonce.now (placed x.part.now x.lo (opened_under k.combo e y))) cut in
    let size : length last ≡ b - a = kept ∙ (ends x.file.now a b _ _ s.ensures.1 s.ensures.2).1 in
    record { file_after = placed-part last x.file.now a (b - a) size ∙ ap₂ (λ (y : List ℕ) (m : ℕ). placed y m x.file.now) sealed s.ensures.0; i_len = sym (ap length sealed) ∙ kept ∙ ap length cut }
