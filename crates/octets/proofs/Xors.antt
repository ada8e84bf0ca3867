-- Laws of the exclusive or of byte strings.
-- Assumes nothing.
use Prim.Native.Nat.{ℕ, zero, suc, ◌+◌, ◌≤◌, ◌<◌}
use mathlib.Core.Path.{◌≡◌, refl, sym, ap, ap₂, ◌∙◌}
use mathlib.Core.List.{List, [], ◌∷◌}
use native.Mathlib.Omega.{arith}
use native.Mathlib.Nat.{not-suc-le-zero, le_of_suc-le-suc}
use lib.ListN.{length, get_or, set}
use lib.Bits.{bit_xor}
use Rattle.octets.specs.Bytes.{filled}
use Rattle.octets.specs.Xors.{xors}
use Rattle.octets.proofs.Lists.{fill_one, filled_at}
use Rattle.octets.proofs.Bits.{xor_assoc, xor_twice}

pub get_d_xors : (a b : List ℕ) (j : ℕ) → j < length a → j < length b → get_or (xors a b) j 0 ≡ bit_xor (get_or a j 0) (get_or b j 0)
unfolding xors
get_d_xors [] b j h k = absurd (not-suc-le-zero h)
get_d_xors (x ∷ a) [] j h k = absurd (not-suc-le-zero k)
get_d_xors (x ∷ a) (y ∷ b) zero h k = refl
get_d_xors (x ∷ a) (y ∷ b) (suc j) h k = get_d_xors a b j (le_of_suc-le-suc h) (le_of_suc-le-suc k)

pub length-xors : (a b : List ℕ) → length a ≤ length b → length (xors a b) ≡ length a
unfolding xors
length-xors [] b h = refl
length-xors (x ∷ a) [] h = absurd (not-suc-le-zero h)
length-xors (x ∷ a) (y ∷ b) h = ap suc (length-xors a b (le_of_suc-le-suc h))

pub xors_assoc : (a b c : List ℕ) → xors (xors a b) c ≡ xors a (xors b c)
unfolding xors
xors_assoc [] b c = refl
xors_assoc (x ∷ a) [] c = refl
xors_assoc (x ∷ a) (y ∷ b) [] = refl
xors_assoc (x ∷ a) (y ∷ b) (z ∷ c) = ap₂ (λ (v : ℕ) (l : List ℕ). v ∷ l) (xor_assoc x y z) (xors_assoc a b c)

-- What is added twice is gone.
pub xors_twice : (s k : List ℕ) → length s ≤ length k → xors (xors s k) k ≡ s
unfolding xors
xors_twice [] k h = refl
xors_twice (a ∷ s) [] h = absurd (not-suc-le-zero h)
xors_twice (a ∷ s) (b ∷ k) h = ap₂ (λ (x : ℕ) (l : List ℕ). x ∷ l) (xor_twice a b) (xors_twice s k (le_of_suc-le-suc h))

-- Where the first i bytes of d have their sums, one more gets its sum.
pub xor_more : (s d l : List ℕ) (i : ℕ) → length d ≤ length s → i < length d → l ≡ filled (xors d s) i d
    → set l i (bit_xor (get_or l i 0) (get_or s i 0)) ≡ filled (xors d s) (i + 1) d
xor_more s d l i h k e =
    let n = length-xors d s h in
    let v : bit_xor (get_or l i 0) (get_or s i 0) ≡ get_or (xors d s) i 0 =
    ap (λ (x : ℕ). bit_xor x (get_or s i 0)) (ap (λ (x : List ℕ). get_or x i 0) e ∙ filled_at (xors d s) d i (omega arith)) ∙ sym (get_d_xors d s i k (omega arith)) in
    ap (λ (x : List ℕ). set x i (bit_xor (get_or l i 0) (get_or s i 0))) e ∙ fill_one (xors d s) d i (bit_xor (get_or l i 0) (get_or s i 0)) (omega arith) k v
