-- What rows 1 and 8 of the mend test, exactly: a nonce for each covering chunk, and that they are fresh.
-- Assumes nothing.
use mathlib.Core.Path.{◌≡◌, refl, sym, ap, ◌∙◌}
use mathlib.Core.Bool.{true, false}
use mathlib.Core.Logic.{◌↔◌, ⊎_elim}
use mathlib.Core.List.{List}
use Prim.Native.Nat.{ℕ, zero, suc, ◌+◌, ◌-◌, ◌*◌, ◌/◌, ◌≤◌, ◌<◌}
use native.Mathlib.Omega.{arith}
use lib.ListN.{length, take, drop}
use lib.Dec.{eqb}
use borrow.Author.Tests.{eqb-true, eq-eqb}
use Rattle.octets.specs.Bytes.{same}
use Rattle.octets.proofs.Lists.{le_or_lt}
use Rattle.octets.proofs.Tests.{or_fails, same_fails}
use Rattle.frame.specs.Layout.{Sizes, chunk_size, chunks, covering, repeats, clear_length}
use Rattle.frame.specs.Rules.{piece}
use Rattle.frame.proofs.Pieces.{covers_all, covers_count}
use Rattle.frame.proofs.Rules.{piece-first, piece-drop, repeats_exactly}
use Rattle.mend_spec.specs.Mend.{nonce_in, in_use, any_in_use, clashes}
use Rattle.mend_spec.specs.Rules.{Due, NonceForEach, FreshNonces}
use Rattle.mend_spec.specs.Statements.{DueBytes, DueCovers}

-- the nonces that are due are those with a number below the count of covering chunks
pub due_exactly : (from count i : ℕ) → (i < covering from count) ↔ Due from count i
due_exactly from count i = (
  λ h. covers_all from count (from / chunk_size + i) (omega arith) (omega arith),
  λ l. let u = covers_count from count (from / chunk_size + i) l.0 (omega arith) l.1 in omega (arith, u),
)

-- and a byte of the range lies in the chunk of each
pub due_bytes : DueBytes
due_bytes from count zero = (
  λ d. (from, omega arith, omega (arith, d.0), omega arith),
  λ t. let a = t.1 in let b = t.2 in let c = t.3 in (omega (arith, a, b), omega (arith, a, b, c)),
)
due_bytes from count (suc i) = (
  λ d. let h = d.1 in (chunk_size * (from / chunk_size + suc i), omega arith, omega (arith, d.0, h), omega arith),
  λ t. let a = t.1 in let b = t.2 in let c = t.3 in (omega (arith, a, b), omega (arith, a, b, c)),
)

pub due_covers : DueCovers
due_covers z l from count i s = (λ d. record { inside = s; some = d.0; low = omega arith; high = d.1 }, λ v. (v.some, v.high))

-- two counts below which the same numbers are, are equal
same_count : (a b : ℕ) → ((i : ℕ) → i < a → i < b) → ((i : ℕ) → i < b → i < a) → a ≡ b
same_count a b f g =
    ⊎_elim (λ (h : a ≤ b). ⊎_elim (λ (k : b ≤ a). omega (arith, h, k)) (λ (k : a < b). let x = g a k in absurd (omega (arith, x))) (le_or_lt b a))
    (λ (h : b < a). let x = f b h in absurd (omega (arith, x)))
    (le_or_lt a b)

pub covering_none : (from count : ℕ) → count ≡ 0 → covering from count ≡ 0
unfolding covering
covering_none from zero e = refl
covering_none from (suc c) e = absurd (omega (arith, e))

pub covering-number : (from count : ℕ) → 0 < count → covering from count ≡ (from + count - 1) / chunk_size + 1 - from / chunk_size
unfolding covering
covering-number from zero h = absurd (omega arith)
covering-number from (suc c) h = omega arith

module _ (z : Sizes) where
  open z use {nonce}

  pub counted_exactly : (from count : ℕ) (nonces : List ℕ) → (eqb (length nonces) (nonce * covering from count) ≡ true) ↔ NonceForEach z from count nonces
  counted_exactly from count nonces = (
    λ e. (covering from count, eqb-true (length nonces) (nonce * covering from count) e, due_exactly from count),
    λ t.
        let k : t.0 ≡ covering from count =
        same_count t.0 (covering from count) (λ i h. (due_exactly from count i).1 ((t.2 i).0 h)) (λ i h. (t.2 i).1 ((due_exactly from count i).0 h)) in
        eq-eqb (length nonces) (nonce * covering from count) (t.1 ∙ ap (λ (m : ℕ). nonce * m) k),
  )

  -- the count by its number
  pub counted_by : (from count k : ℕ) (nonces : List ℕ) → covering from count ≡ k → NonceForEach z from count nonces ↔ (length nonces ≡ nonce * k)
  counted_by from count k nonces e =
      let t = counted_exactly from count nonces in (
        λ x. eqb-true (length nonces) (nonce * covering from count) (t.1 x) ∙ ap (λ (m : ℕ). nonce * m) e,
        λ x. t.0 (eq-eqb (length nonces) (nonce * covering from count) (x ∙ ap (λ (m : ℕ). nonce * m) (sym e))),
      )

  in_use_exactly : (n : ℕ) (x f : List ℕ) (i : ℕ) → (in_use z x f i n ≡ false) ↔ ((j : ℕ) → i ≤ j → j < i + n → x ≡ nonce_in z f j → ⊥)
  unfolding in_use
  in_use_exactly zero x f i = (λ e j a b. absurd (omega arith), λ n. refl)
  in_use_exactly (suc n) x f i =
      let step = or_fails (same x (nonce_in z f i)) (in_use z x f (suc i) n) (same_fails x (nonce_in z f i)) (in_use_exactly n x f (suc i)) in
      (λ e. later (step.0 e), λ g. step.1 (λ q. g i (omega arith) (omega arith) q, λ j a b q. g j (omega arith) (omega arith) q))
    where
      later : (x ≡ nonce_in z f i → ⊥) × ((j : ℕ) → suc i ≤ j → j < suc i + n → x ≡ nonce_in z f j → ⊥) → (j : ℕ) → i ≤ j → j < i + suc n → x ≡ nonce_in z f j → ⊥
      later p j a b q =
          ⊎_elim (λ (h : j ≤ i). let e : j ≡ i = omega (arith, h, a) in p.0 (q ∙ ap (nonce_in z f) e)) (λ (h : i < j). p.1 j h (omega (arith, b)) q) (le_or_lt j i)

  any_exactly : (k : ℕ) (l f : List ℕ) (n : ℕ) → (any_in_use z k l f n ≡ false) ↔ ((i j : ℕ) → i < k → j < n → piece nonce l i ≡ nonce_in z f j → ⊥)
  unfolding any_in_use
  any_exactly zero l f n = (λ e i j a b. absurd (omega arith), λ g. refl)
  any_exactly (suc k) l f n =
      let step = or_fails (in_use z (take nonce l) f 0 n) (any_in_use z k (drop nonce l) f n) (in_use_exactly n (take nonce l) f 0) (any_exactly k (drop nonce l) f n) in (
        λ e. later (step.0 e),
        λ g. step.1 (
          λ j a b q. g 0 j (omega arith) (omega arith) (sym (piece-first nonce l) ∙ q),
          λ i j a b q. g (suc i) j (omega arith) b (sym (piece-drop nonce i l) ∙ q),
        ),
      )
    where
      later : ((j : ℕ) → 0 ≤ j → j < 0 + n → take nonce l ≡ nonce_in z f j → ⊥) × ((i j : ℕ) → i < k → j < n → piece nonce (drop nonce l) i ≡ nonce_in z f j → ⊥)
          → (i j : ℕ) → i < suc k → j < n → piece nonce l i ≡ nonce_in z f j → ⊥
      later p zero j a b q = p.0 j (omega arith) (omega arith) (piece-first nonce l ∙ q)
      later p (suc i) j a b q = p.1 i j (omega arith) b (piece-drop nonce i l ∙ q)

  pub clashes_exactly : (f : List ℕ) (from count : ℕ) (nonces : List ℕ) → (clashes z f from count nonces ≡ false) ↔ FreshNonces z f from count nonces
  unfolding clashes
  clashes_exactly f from count nonces =
      let k = covering from count in
      let n = chunks (clear_length z (length f)) in
      let step = or_fails (repeats nonce k nonces) (any_in_use z k nonces f n) (repeats_exactly nonce k nonces) (any_exactly k nonces f n) in (
        λ e. let s = step.0 e in (λ i j a b. s.0 i j a ((due_exactly from count j).1 b), λ i j a. s.1 i j ((due_exactly from count i).1 a)),
        λ t. step.1 (λ i j a b. t.0 i j a ((due_exactly from count j).0 b), λ i j a. t.1 i j ((due_exactly from count i).0 a)),
      )
