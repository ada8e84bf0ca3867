-- The decimal digits of a number: those of its tenth and then its last.
-- Assumes nothing.
use mathlib.Core.Path.{◌≡◌, ap, ◌∙◌}
use mathlib.Core.List.{List, [], ◌∷◌, ◌++◌}
use mathlib.Core.Logic.{⊎_elim}
use Prim.Native.Nat.{ℕ, zero, suc, ◌+◌, ◌*◌, ◌/◌, ◌%◌, ◌≤◌, ◌<◌}
use native.Mathlib.Nat.{not-suc-le-zero, mod-eq_of_lt}
use native.Mathlib.Omega.{arith}
use borrow.Author.Tests.{lt-ltb, le-ltb}
use lib.ListN.{length, length-append}
use Rattle.octets.proofs.Lists.{le_or_lt}
use Rattle.check_line.specs.Line.{digits, decimal}

-- the number's digits, at most as many as one likes beyond its own
enough : (j k n : ℕ) → n < j → n < k → digits j n ≡ digits k n
unfolding digits
enough zero k n h l = absurd (not-suc-le-zero h)
enough (suc j) zero n h l = absurd (not-suc-le-zero l)
enough (suc j) (suc k) n h l =
    ⊎_elim (λ (g : 10 ≤ n). let e = enough j k (n / 10) (omega arith) (omega arith) in rw (le-ltb n 10 g, e)) (λ (g : n < 10). rw (lt-ltb n 10 g)) (le_or_lt 10 n)

pub decimal_one : (n : ℕ) → n < 10 → decimal n ≡ (48 + n) ∷ []
unfolding decimal digits
decimal_one n h = rw (lt-ltb n 10 h, mod-eq_of_lt h)

pub decimal_more : (n : ℕ) → 10 ≤ n → decimal n ≡ decimal (n / 10) ++ ((48 + n % 10) ∷ [])
unfolding decimal digits
decimal_more n h =
    let e : digits n (n / 10) ≡ digits (suc (n / 10)) (n / 10) = enough n (suc (n / 10)) (n / 10) (omega arith) (omega arith) in
    rw (le-ltb n 10 h) (ap (λ (s : List ℕ). s ++ ((48 + n % 10) ∷ [])) e)

pub length_one : (n : ℕ) → n < 10 → length (decimal n) ≡ 1
length_one n h = ap length (decimal_one n h)

pub length_more : (n : ℕ) → 10 ≤ n → length (decimal n) ≡ length (decimal (n / 10)) + 1
length_more n h = ap length (decimal_more n h) ∙ length-append (decimal (n / 10)) ((48 + n % 10) ∷ [])

-- a number of at most k + 1 digits
abbrev pub bound : ℕ → ℕ
bound zero = 10
bound (suc k) = 10 * bound k

pub length_most : (k n : ℕ) → n < bound k → length (decimal n) ≤ suc k
length_most zero n h = omega (arith, length_one n h)
length_most (suc k) n h =
    ⊎_elim (λ (g : 10 ≤ n). let l = length_more n g in let m = length_most k (n / 10) (omega arith) in omega arith) (λ (g : n < 10). omega (arith, length_one n g)) (le_or_lt 10 n)
