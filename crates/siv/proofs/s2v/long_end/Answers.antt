-- `long_end`: CMAC from the whole blocks that the block does not reach, and the end.
-- Assumes nothing.
use Prim.Native.Nat.{ℕ, ◌+◌, ◌-◌, ◌*◌, ◌/◌, ◌≤◌}
use mathlib.Core.Path.{◌≡◌, refl, sym, ◌∙◌, ap, ap₂}
use mathlib.Core.List.{List, ◌++◌}
use native.Mathlib.Omega.{arith}
use lib.ListN.{length, take, drop, replicate, length-append, length-drop}
use lib.Seq.{length-take-le, take_at}
use Rattle.octets.specs.Words.{word_bytes}
use Rattle.octets.proofs.Lists.{part-rest}
use Rattle.aes_spec.specs.Cipher.{cipher}
use Rattle.aes.specs.Blocks.{state}
use Rattle.siv.specs.Cmac as mac
use Rattle.siv.specs.Siv as spec
use Rattle.siv.proofs.Ends.{length-xorend, cmac-end}
use Rattle.siv.proofs.s2v.long_end.Goals as goal

-- Where the end begins, and how long it is.
abbrev start : List ℕ → ℕ
start s = 16 * (length s / 16 - 1)

abbrev rest : List ℕ → ℕ
rest s = length s - start s

room : (s : List ℕ) → 16 ≤ length s → length (take (rest s) (replicate {A = ℕ} 32 0)) ≡ rest s
room s h = length-take-le (rest s) (replicate 32 0) (omega arith)

end-length : (s : List ℕ) → 16 ≤ length s → length (take (rest s) (drop (start s) s)) ≡ rest s
end-length s h = ap length (part-rest s (length s) (start s) refl) ∙ length-drop (start s) s

pub slice_bounds-xor_end-end-2 : goal.slice_bounds-xor_end-end-2
slice_bounds-xor_end-end-2 c = sym (room c.args.s.now c.requires.in_bounds.1)

pub xor_end-requires : goal.xor_end-requires
xor_end-requires c =
    let s = c.args.s.now in
    let n = end-length s c.requires.in_bounds.1 in
    (omega (arith, n, c.requires.in_bounds.1), room s c.requires.in_bounds.1 ∙ sym n)

-- out is the end of s with the block d added.
module _ (s d out : List ℕ) (h : 16 ≤ length s) (l : length d ≡ 16) (e : out ≡ spec.xorend (take (rest s) (drop (start s) s)) d) where
  tail : out ≡ spec.xorend (drop (start s) s) d
  tail = e ∙ ap (λ (x : List ℕ). spec.xorend x d) (part-rest s (length s) (start s) refl)

  tail_length : length out ≡ rest s
  tail_length =
      let n : length (drop (start s) s) ≡ rest s = length-drop (start s) s in
      ap length tail ∙ length-xorend (drop (start s) s) d l (omega (arith, n, h)) ∙ n

  front : take (rest s) (out ++ drop (rest s) (replicate {A = ℕ} 32 0)) ≡ out
  front = take_at out (drop (rest s) (replicate {A = ℕ} 32 0)) _ tail_length

pub slice_bounds-tail-end-2 : goal.slice_bounds-tail-end-2
unfolding word_bytes
slice_bounds-tail-end-2 c =
    let s = c.args.s.now in
    let n = tail_length s (state c.args.d) _ c.requires.in_bounds.1 refl c.xor_end.ensures in
    omega (arith, n, length-append c.xor_end.new.out (drop (rest s) (replicate {A = ℕ} 32 0)))

pub slice_bounds-cmac_from-end : goal.slice_bounds-cmac_from-end
unfolding word_bytes
slice_bounds-cmac_from-end c =
    let s = c.args.s.now in
    sym (ap length (front s (state c.args.d) _ c.requires.in_bounds.1 refl c.xor_end.ensures) ∙ tail_length s (state c.args.d) _ c.requires.in_bounds.1 refl c.xor_end.ensures)

pub returns : goal.returns
unfolding word_bytes
returns c =
    let x = c.args in
    let s = x.s.now in
    let e = cipher 14 x.w.now in
    let h : start s + 16 ≤ length s = omega (arith, c.requires.in_bounds.1) in
    c.cmac_from.ensures
    ∙ ap₂ (mac.cmac_from e) (c.chain.ensures ∙ ap (λ (z : List ℕ). mac.chain e z s (length s / 16 - 1)) c.zeros.ensures)
    (front s (state x.d) _ c.requires.in_bounds.1 refl c.xor_end.ensures ∙ tail s (state x.d) _ c.requires.in_bounds.1 refl c.xor_end.ensures)
    ∙ cmac-end s (state x.d) refl e (length s / 16 - 1) h
