-- The entries of a table, and the product made from them, byte by byte and not yet reduced.
-- Assumes nothing.
use Prim.Native.Nat.{ℕ, ◌+◌, ◌-◌, ◌*◌, ◌/◌, ◌%◌, ◌^◌, ◌<◌, ◌≤◌}
use mathlib.Core.Path.{◌≡◌, refl, sym, ◌∙◌, ap, ap₂, subst}
use mathlib.Core.Logic.{⊎_elim}
use mathlib.Core.List.{List}
use native.Mathlib.Omega.{arith}
use native.Mathlib.Nat.{not-suc-le-zero, mul_assoc, mul-mod_left, add-zero, zero-mul, one-mul, div-add-mod'}
use lib.Dec.{lit≤}
use lib.Pow.{pow-add, field, mod-mod-pow, shr-shr, shl-shr}
use lib.Bits.{bit_xor, xor_comm, xor_shr, xor_mod, xor_zero_l, xor_zero_r}
use lib.ListN.{length, set, length-set}
use lib.Seq.{get_or-set_same, get_or-set_other}
use Rattle.octets.proofs.Lists.{le_or_lt}
use Rattle.octets.proofs.Bits.{xor_parts}
use Rattle.gcm.specs.Field.{mul_from, mul}
use Rattle.gcm.specs.Digits.{nexts, part}
use Rattle.gcm.specs.Table.{entry_of, four_bits, Entries}
use Rattle.gcm.specs.Statements.{SingleBits, OneSubkey}
use Rattle.gcm.proofs.Steps.{nexts_xor, nexts_zero, nexts_add, nexts_swap, whole, whole_more}
use Rattle.gcm.proofs.Digits.{four_bits_lem, two_entries, byte_more, two_halves}

-- ---- the table

pub entries_none : (h : ℕ) (m : List ℕ) → Entries h m 0
entries_none h m = record { entry = λ i k. absurd (not-suc-le-zero k) }

pub entries_more : {h : ℕ} {m : List ℕ} {n : ℕ} (v w : ℕ) → Entries h m n → 2 * n + 1 < length m → v * 2 ^ 64 + w ≡ mul (four_bits n) h
    → Entries h (set (set m (2 * n) v) (2 * n + 1) w) (n + 1)
entries_more {h} {m} {n} v w t l e =
    let s : List ℕ = set m (2 * n) v in
    let k : 2 * n + 1 < length s = rw length-set (omega arith) in
    record {
      entry = λ i u.
          ⊎_elim (λ (a : n ≤ i).
          let f : n ≡ i = omega arith in
          let d : 2 * n ≡ 2 * n + 1 → ⊥ = λ g. omega arith in
          subst (λ (x : ℕ). entry_of (set s (2 * n + 1) w) x ≡ mul (four_bits x) h) f
          (rw (get_or-set_other s (2 * n + 1) (2 * n) w 0 d, get_or-set_same m (2 * n) v 0 (omega arith), get_or-set_same s (2 * n + 1) w 0 k) e))
          (λ (b : i < n).
          let d₁ : 2 * i ≡ 2 * n + 1 → ⊥ = λ g. omega arith in
          let d₂ : 2 * i + 1 ≡ 2 * n + 1 → ⊥ = λ g. omega arith in
          let d₃ : 2 * i ≡ 2 * n → ⊥ = λ g. omega arith in
          let d₄ : 2 * i + 1 ≡ 2 * n → ⊥ = λ g. omega arith in
          rw (get_or-set_other s (2 * n + 1) (2 * i) w 0 d₁, get_or-set_other m (2 * n) (2 * i) v 0 d₃, get_or-set_other s (2 * n + 1) (2 * i + 1) w 0 d₂, get_or-set_other m (2 * n) (2 * i + 1) v 0 d₄)
          (t.entry i b))
          (le_or_lt n i);
    }

pub single_bits : SingleBits
unfolding mul_from
single_bits h m t = (
  t.entry 8 (lit≤ tt) ∙ four_bits_lem 8 h ∙ simp (zero-mul, one-mul, xor_zero_l, xor_zero_r),
  t.entry 4 (lit≤ tt) ∙ four_bits_lem 4 h ∙ simp (zero-mul, one-mul, xor_zero_l, xor_zero_r),
  t.entry 2 (lit≤ tt) ∙ four_bits_lem 2 h ∙ simp (zero-mul, one-mul, xor_zero_l, xor_zero_r),
  t.entry 1 (lit≤ tt) ∙ four_bits_lem 1 h ∙ simp (zero-mul, one-mul, xor_zero_l, xor_zero_r),
)

pub one_subkey : OneSubkey
one_subkey h k m s t = sym (single_bits h m s).0 ∙ (single_bits k m t).0

-- ---- the product

-- The n lowest bytes of two words, times h: one 64 places behind the other.
abbrev pub so_far : ℕ → ℕ → ℕ → ℕ → ℕ
so_far h v w n = bit_xor (part (8 * n) v h) (nexts 64 (part (8 * n) w h))

-- g stands for it: the places that are still to come are zero, and its reduction is that product.
pub record Sums (h v w n g : ℕ) : Type 0 where
  pub clear : g % 2 ^ (68 - 8 * n) ≡ 0
  pub sums : nexts 128 g ≡ so_far h v w n

pub sums_none : (h v w : ℕ) → Sums h v w 0 0
unfolding mul_from nexts
sums_none h v w = record { clear = refl; sums = nexts_zero 128 ∙ sym (nexts_zero 64) }

-- A multiple of a power.
multiple : (a n k : ℕ) → k ≤ n → a * 2 ^ n % 2 ^ k ≡ 0
multiple a n k l =
    let e : n - k + k ≡ n = omega arith in
    ap (λ (x : ℕ). a * x % 2 ^ k) (ap (λ (x : ℕ). 2 ^ x) (sym e) ∙ pow-add 2 (n - k) k)
    ∙ ap (λ (x : ℕ). x % 2 ^ k) (sym (mul_assoc a (2 ^ (n - k)) (2 ^ k))) ∙ mul-mod_left (a * 2 ^ (n - k)) (2 ^ k)

-- Two blocks, 64 places apart.
abbrev pub pair : ℕ → ℕ → ℕ
pair x y = bit_xor (x * 2 ^ 64) y

pair_reduced : (x y : ℕ) → nexts 64 (pair x y) ≡ bit_xor x (nexts 64 y)
pair_reduced x y = nexts_xor 64 (x * 2 ^ 64) y ∙ ap (λ (z : ℕ). bit_xor z (nexts 64 y)) (whole 64 x)

-- One byte more of each word: b of v, and c of w, by the entries of their halves.
module _ (h v w n g : ℕ) (s : Sums h v w n g) (l : n < 8) where
  multiple_of_256 : g % 2 ^ (60 - 8 * n + 8) ≡ 0
  multiple_of_256 = let e : 68 - 8 * n ≡ 60 - 8 * n + 8 = omega arith in ap (λ (x : ℕ). g % 2 ^ x) (sym e) ∙ s.clear

  moved_clear : g / 2 ^ 8 % 2 ^ (60 - 8 * n) ≡ 0
  moved_clear = sym (field g (60 - 8 * n) 8) ∙ ap (λ (x : ℕ). x / 2 ^ 8) multiple_of_256

  moved_reduced : nexts 128 (g / 2 ^ 8) ≡ bit_xor (nexts 8 (part (8 * n) v h)) (nexts 64 (nexts 8 (part (8 * n) w h)))
  moved_reduced =
      let z : g % 2 ^ 8 ≡ 0 = sym (mod-mod-pow g (60 - 8 * n) 8) ∙ ap (λ (x : ℕ). x % 2 ^ 8) multiple_of_256 in
      let q : g / 2 ^ 8 * 2 ^ 8 ≡ g = sym (add-zero (g / 2 ^ 8 * 2 ^ 8)) ∙ ap (λ (x : ℕ). g / 2 ^ 8 * 2 ^ 8 + x) (sym z) ∙ div-add-mod' g (2 ^ 8) in
      ap (nexts 128) (sym (whole 8 (g / 2 ^ 8)) ∙ ap (nexts 8) q)
      ∙ nexts_swap 128 8 g ∙ ap (nexts 8) s.sums
      ∙ nexts_xor 8 (part (8 * n) v h) (nexts 64 (part (8 * n) w h))
      ∙ ap (bit_xor (nexts 8 (part (8 * n) v h))) (nexts_swap 8 64 (part (8 * n) w h))

  module _ (b c e₁ e₂ e₃ e₄ : ℕ)
      (p₁ : e₁ ≡ mul (four_bits (b / 16)) h) (p₂ : e₂ ≡ mul (four_bits (c / 16)) h)
      (p₃ : e₃ ≡ mul (four_bits (b % 16)) h) (p₄ : e₄ ≡ mul (four_bits (c % 16)) h) where
    added_reduced : nexts 128 (bit_xor (pair e₁ e₂ * 2 ^ 64) (pair e₃ e₄ * 2 ^ 60)) ≡ bit_xor (part 8 b h) (nexts 64 (part 8 c h))
    added_reduced =
        nexts_xor 128 (pair e₁ e₂ * 2 ^ 64) (pair e₃ e₄ * 2 ^ 60)
        ∙ ap₂ bit_xor
        (whole_more 64 64 (pair e₁ e₂) ∙ pair_reduced e₁ e₂)
        (whole_more 68 60 (pair e₃ e₄) ∙ sym (nexts_add 4 64 (pair e₃ e₄)) ∙ ap (nexts 4) (pair_reduced e₃ e₄)
        ∙ nexts_xor 4 e₃ (nexts 64 e₄) ∙ ap (bit_xor (nexts 4 e₃)) (nexts_swap 4 64 e₄))
        ∙ xor_parts e₁ (nexts 64 e₂) (nexts 4 e₃) (nexts 64 (nexts 4 e₄))
        ∙ ap₂ bit_xor
        (ap₂ (λ (x y : ℕ). bit_xor x (nexts 4 y)) p₁ p₃ ∙ two_entries b h)
        (sym (nexts_xor 64 e₂ (nexts 4 e₄)) ∙ ap (nexts 64) (ap₂ (λ (x y : ℕ). bit_xor x (nexts 4 y)) p₂ p₄ ∙ two_entries c h))

    pub sums_more : b ≡ v / 2 ^ (8 * n) % 256 → c ≡ w / 2 ^ (8 * n) % 256
        → Sums h v w (n + 1) (bit_xor (g / 2 ^ 8) (bit_xor (pair e₁ e₂ * 2 ^ 64) (pair e₃ e₄ * 2 ^ 60)))
    sums_more q r =
        let m = 60 - 8 * n in
        let x = pair e₁ e₂ * 2 ^ 64 in
        let y = pair e₃ e₄ * 2 ^ 60 in
        let k : 68 - 8 * (n + 1) ≡ m = omega arith in
        record {
          clear =
              ap (λ (i : ℕ). bit_xor (g / 2 ^ 8) (bit_xor x y) % 2 ^ i) k
              ∙ xor_mod (g / 2 ^ 8) (bit_xor x y) m
              ∙ ap₂ bit_xor moved_clear (xor_mod x y m ∙ ap₂ bit_xor (multiple (pair e₁ e₂) 64 m (omega arith)) (multiple (pair e₃ e₄) 60 m (omega arith)));
          sums =
              nexts_xor 128 (g / 2 ^ 8) (bit_xor x y)
              ∙ ap₂ bit_xor moved_reduced added_reduced
              ∙ xor_comm _ (bit_xor (part 8 b h) (nexts 64 (part 8 c h)))
              ∙ xor_parts (part 8 b h) (nexts 64 (part 8 c h)) (nexts 8 (part (8 * n) v h)) (nexts 64 (nexts 8 (part (8 * n) w h)))
              ∙ ap₂ bit_xor (byte_more n v b h q) (sym (nexts_xor 64 (part 8 c h) (nexts 8 (part (8 * n) w h))) ∙ ap (nexts 64) (byte_more n w c h r));
        }

-- The two sums that the code keeps, as one.
pub two_sums : (p q x y : ℕ)
    → bit_xor (bit_xor (p / 2 ^ 8) (x * 2 ^ 64)) (bit_xor (q / 2 ^ 8) (y * 2 ^ 64) / 2 ^ 4) ≡ bit_xor (bit_xor p (q / 2 ^ 4) / 2 ^ 8) (bit_xor (x * 2 ^ 64) (y * 2 ^ 60))
two_sums p q x y =
    let e : q / 2 ^ 8 / 2 ^ 4 ≡ q / 2 ^ 4 / 2 ^ 8 = shr-shr q 8 4 ∙ sym (shr-shr q 4 8) in
    let f : y * 2 ^ 64 / 2 ^ 4 ≡ y * 2 ^ 60 = ap (λ (z : ℕ). z / 2 ^ 4) (sym (mul_assoc y (2 ^ 60) (2 ^ 4))) ∙ shl-shr (y * 2 ^ 60) 4 in
    ap (bit_xor (bit_xor (p / 2 ^ 8) (x * 2 ^ 64))) (xor_shr (q / 2 ^ 8) (y * 2 ^ 64) 4 ∙ ap₂ bit_xor e f)
    ∙ xor_parts (p / 2 ^ 8) (x * 2 ^ 64) (q / 2 ^ 4 / 2 ^ 8) (y * 2 ^ 60)
    ∙ ap (λ (z : ℕ). bit_xor z (bit_xor (x * 2 ^ 64) (y * 2 ^ 60))) (sym (xor_shr p (q / 2 ^ 4) 8))

-- All eight bytes of both.
pub sums_all : (h v w g : ℕ) → w < 2 ^ 64 → Sums h v w 8 g → nexts 128 g ≡ mul (v * 2 ^ 64 + w) h
sums_all h v w g k s = s.sums ∙ two_halves v w h k
