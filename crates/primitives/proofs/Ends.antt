-- The ends of a call, by their test; and what the test of the sizes says.
-- Assumes nothing.
use Prim.Native.Nat.{ℕ, ◌-◌, ◌^◌, ◌<◌, ◌≤◌}
use mathlib.Core.Path.{◌≡◌}
use mathlib.Core.Bool.{Bool, true, false, ◌&&◌}
use mathlib.Core.List.{List}
use borrow.Author.Tests.{eqb-true, ltb-true, leb-true}
use lib.Dec.{eqb, ltb, leb}
use lib.ListN.{length}
use Rattle.octets.specs.Bytes.{placed}
use Rattle.octets.proofs.Equality.{and_true}
use Rattle.primitives.specs.Results.{end, done_if, gcm_fits, siv_fits}

module _ (b : Bool) (s d : List ℕ) where
  pub refused : b ≡ false → end 0 d ≡ done_if b s d
  unfolding done_if
  refused e = rw (e, done_if)

  pub done : b ≡ true → end 1 (placed s 0 d) ≡ done_if b s d
  unfolding done_if
  done e = rw (e, done_if)

module _ (key nonce aad : List ℕ) (n : ℕ) where
  pub fits_facts : gcm_fits key nonce aad n ≡ true → (length key ≡ 32) × (length nonce ≡ 12) × (length aad < 2 ^ 61) × (n ≤ 2 ^ 36 - 32)
  unfolding gcm_fits
  fits_facts e =
      let p = and_true (eqb (length key) 32 && eqb (length nonce) 12 && ltb (length aad) (2 ^ 61)) (leb n (2 ^ 36 - 32)) e in
      let q = and_true (eqb (length key) 32 && eqb (length nonce) 12) (ltb (length aad) (2 ^ 61)) p.0 in
      let r = and_true (eqb (length key) 32) (eqb (length nonce) 12) q.0 in
      (eqb-true _ _ r.0, eqb-true _ _ r.1, ltb-true _ _ q.1, leb-true _ _ p.1)

pub siv_facts : (mac enc : List ℕ) (n : ℕ) → siv_fits mac enc n ≡ true → (length mac ≡ 32) × (length enc ≡ 32) × (n ≤ 1024)
unfolding siv_fits
siv_facts mac enc n e =
    let p = and_true (eqb (length mac) 32 && eqb (length enc) 32) (leb n 1024) e in
    let q = and_true (eqb (length mac) 32) (eqb (length enc) 32) p.0 in
    (eqb-true _ _ q.0, eqb-true _ _ q.1, leb-true _ _ p.1)
