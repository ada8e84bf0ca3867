-- `differences`: the sum of the differences is 0 where the blocks are equal, and only there.
-- Assumes nothing.
use Prim.Native.Nat.{ℕ, ◌+◌}
use mathlib.Core.Path.{◌≡◌, ◌∙◌}
use mathlib.Core.List.{[], ◌∷◌}
use borrow.Author.Tests.{eq-eqb, eqb-true}
use native.Mathlib.Omega.{arith}
use lib.Dec.{eqb}
use lib.Bits.{bit_xor, xor_self}
use Rattle.octets.specs.Bytes.{same}
use Rattle.octets.specs.Words.{word_bytes}
use Rattle.octets.proofs.Bits.{xor_zero}
use Rattle.octets.proofs.Equality.{same_self, same_eq, iff}
use Rattle.octets.proofs.Words.{parts}
use Rattle.aes.proofs.block.differences.Goals as goal

-- Words whose bytes are equal.
words_same : (a b c d a' b' c' d' : ℕ) → word_bytes (a ∷ b ∷ c ∷ d ∷ []) ≡ word_bytes (a' ∷ b' ∷ c' ∷ d' ∷ []) → (a ≡ a') × (b ≡ b') × (c ≡ c') × (d ≡ d')
unfolding word_bytes
words_same a b c d a' b' c' d' e =
    (parts a ∙ cc (parts a'), parts b ∙ cc (parts b'), parts c ∙ cc (parts c'), parts d ∙ cc (parts d'))

no_difference : (a b c d a' b' c' d' : ℕ)
    → eqb (bit_xor a a' + bit_xor b b' + bit_xor c c' + bit_xor d d') 0 ≡ same (word_bytes (a ∷ b ∷ c ∷ d ∷ [])) (word_bytes (a' ∷ b' ∷ c' ∷ d' ∷ []))
no_difference a b c d a' b' c' d' =
    let n = bit_xor a a' + bit_xor b b' + bit_xor c c' + bit_xor d d' in
    iff (eqb n 0) (same (word_bytes (a ∷ b ∷ c ∷ d ∷ [])) (word_bytes (a' ∷ b' ∷ c' ∷ d' ∷ [])))
    (λ h.
    let z = eqb-true n 0 h in
    rw (xor_zero a a' (omega arith), xor_zero b b' (omega arith), xor_zero c c' (omega arith), xor_zero d d' (omega arith)) (same_self _))
    (λ h.
    let e = words_same a b c d a' b' c' d' (same_eq _ _ h) in
    eq-eqb n 0 (rw (e.0, e.1, e.2, e.3, xor_self, xor_self, xor_self, xor_self)))

pub returns : goal.returns
returns c =
    let x = c.args.x in
    let y = c.args.y in
    let e = no_difference x.a x.b x.c x.d y.a y.b y.c y.d in (
      omega arith,
      rw (c.difference.ensures.0, c.difference-2.ensures.0, c.difference-3.ensures.0, c.difference-4.ensures.0) e,
    )
