-- `seal_file`: the header goes to the front of out, and the chunks behind it.
-- Assumes nothing.
use Prim.Native.Nat.{ℕ, ◌≤◌}
use mathlib.Core.Path.{◌≡◌, refl, ap, ap₂, ◌∙◌}
use mathlib.Core.List.{List, ◌++◌}
use native.Mathlib.Omega.{arith}
use lib.ListN.{length, drop, length-drop}
use lib.Seq.{length-take-le}
use Rattle.octets.proofs.Lists.{part-rest}
use Rattle.frame.specs.Layout.{Sizes, chunks, chunks_from, file_length}
use Rattle.frame.specs.Frame.{Codec, own_choice, file_of}
use Rattle.vault.specs.Vault.{sizes_of}
use Rattle.vault.specs.Under.{sealed_under}
use Rattle.vault.proofs.Combos.{codec_by_lem}
use Rattle.file_write.proofs.Ends.{front_length, two-parts}
use borrow.Author.Rules.{rules}
use Rattle.file_write.proofs.seal_file.Goals as goal

-- the code's h is the size of the header, and the buffer has room for it
headed : (z : Sizes) (s : Sizes) (n l : ℕ) → z ≡ s → l ≡ file_length s n → (z.header ≡ s.header) × (z.header ≤ l)
headed z s n l e h = let g = ap (λ (y : Sizes). y.header) e in (g, omega (arith, g, h))

pub slice_bounds-seal_header-end : goal.slice_bounds-seal_header-end
slice_bounds-seal_header-end c =
    let x = c.args in
    let g = headed _ _ (length x.cleartext.now) (length x.out.now) c.sizes_of-header.ensures c.requires.nonces_len.1 in
    omega (arith, g.1)

pub seal_header-requires : goal.seal_header-requires
seal_header-requires c =
    let x = c.args in
    let g = headed _ _ (length x.cleartext.now) (length x.out.now) c.sizes_of-header.ensures c.requires.nonces_len.1 in
    record { enc_len = (search rules, c.requires.header_nonce_len.0, c.requires.header_nonce_len.1, length-take-le c.sizes_of-header.result.header x.out.now g.1 ∙ g.0) }

pub slice_bounds-write_chunks-count : goal.slice_bounds-write_chunks-count
slice_bounds-write_chunks-count c =
    let x = c.args in
    let g = headed _ _ (length x.cleartext.now) (length x.out.now) c.sizes_of-header.ensures c.requires.nonces_len.1 in
    omega (arith, g.1, c.out-1.given.1)

pub slice_bounds-write_chunks-start : goal.slice_bounds-write_chunks-start
slice_bounds-write_chunks-start c =
    let x = c.args in
    let g = headed _ _ (length x.cleartext.now) (length x.out.now) c.sizes_of-header.ensures c.requires.nonces_len.1 in
    omega (arith, g.1, c.out-1.given.1)

pub write_chunks-requires : goal.write_chunks-requires
write_chunks-requires c =
    let x = c.args in
    let g = headed _ _ (length x.cleartext.now) (length x.out.now) c.sizes_of-header.ensures c.requires.nonces_len.1 in
    let h = c.sizes_of-header.result.header in
    let xs = c.seal_header.new.out ++ drop h x.out.now in
    let l = c.out-1.given.1 in
    let d = length-drop h xs in
    (c.requires.nonces_len.0, ap length (part-rest xs (length xs) h refl) ∙ omega (arith, d, l, g.0, c.requires.nonces_len.1))

pub returns : goal.returns
unfolding file_of
returns c =
    let x = c.args in
    let g = headed _ _ (length x.cleartext.now) (length x.out.now) c.sizes_of-header.ensures c.requires.nonces_len.1 in
    let h = c.sizes_of-header.result.header in
    let head = c.seal_header in
    let v = head.new.out in
    let l = front_length v x.out.now h g.1 c.out-1.given.1 in
    two-parts v _ x.out.now h l
    ∙ ap₂ (λ (a c : List ℕ). a ++ c) head.ensures
    (c.write_chunks.ensures
    ∙ ap
    (λ (f : List ℕ → List ℕ). chunks_from (sizes_of x.v.combo) (sealed_under x.v.combo f x.v.mac x.header_nonce.now) 0 (chunks (length x.cleartext.now)) x.nonces.now x.cleartext.now)
    c.key_tables.ensures.1)
    ∙ ap (λ (C : Codec). file_of C (own_choice x.header_nonce.now x.key.now x.nonces.now x.cleartext.now)) (codec_by_lem x.v.combo x.v.enc x.v.mac)
