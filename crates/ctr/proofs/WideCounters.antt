-- Counter blocks of a counter of 128 bits.
-- Assumes nothing.
use Rattle.std.proofs.Common.{◌≡◌, ℕ, ◌+◌, ◌*◌, ◌/◌, ◌%◌, ◌^◌, ◌<◌, [], ◌∷◌, sym, ap, ◌∙◌, add_assoc, div-add-mod', zero-add}
use native.Mathlib.Nat.{mul-add-mod_self_right}
use Rattle.octets.specs.BigEndian.{int, be}
use Rattle.octets.specs.Words.{word_bytes}
use Rattle.octets.proofs.BigEndian.{int-be, be-low, be-state}
use Rattle.ctr.specs.Ctr.{inc128, after}
use Rattle.ctr.proofs.Counters.{after-at}

-- The block of the number n, modulo 2^128, and the next one.
wide-next : (n : ℕ) → inc128 (be 16 n) ≡ be 16 (n + 1)
unfolding inc128 int
wide-next n =
    let g : 0 * 256 ^ 16 + n % 256 ^ 16 ≡ n % 2 ^ 128 = zero-add (n % 2 ^ 128) in
    let e : n + 1 ≡ n / 2 ^ 128 * 2 ^ 128 + (n % 2 ^ 128 + 1) = ap (λ (y : ℕ). y + 1) (sym (div-add-mod' n (2 ^ 128))) ∙ add_assoc (n / 2 ^ 128 * 2 ^ 128) (n % 2 ^ 128) 1 in
    let f : (n + 1) % 2 ^ 128 ≡ (n % 2 ^ 128 + 1) % 2 ^ 128 = ap (λ (y : ℕ). y % 2 ^ 128) e ∙ mul-add-mod_self_right (n / 2 ^ 128) (2 ^ 128) (n % 2 ^ 128 + 1) in
    ap (λ (y : ℕ). be 16 ((y + 1) % 2 ^ 128)) (int-be 16 0 n ∙ g) ∙ ap (be 16) (sym f) ∙ be-low 16 (n + 1)

-- A block of four words plus i.
pub after_sum : (a b c d i s : ℕ) → a < 2 ^ 32 → b < 2 ^ 32 → c < 2 ^ 32 → d < 2 ^ 32 → s ≡ ((a * 2 ^ 32 + b) * 2 ^ 64 + (c * 2 ^ 32 + d) + i) % 2 ^ 128
    → be 16 s ≡ after inc128 i (word_bytes (a ∷ b ∷ c ∷ d ∷ []))
after_sum a b c d i s p q r t e =
    let n = (a * 2 ^ 32 + b) * 2 ^ 64 + (c * 2 ^ 32 + d) in
    ap (be 16) e ∙ be-low 16 (n + i) ∙ sym (ap (after inc128 i) (be-state a b c d p q r t) ∙ after-at inc128 (be 16) wide-next i n)
