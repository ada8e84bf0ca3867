-- GHASH block by block, and part by part.
-- Assumes nothing.
use Prim.Native.Nat.{ℕ, zero, suc, ◌+◌, ◌-◌, ◌*◌, ◌/◌, ◌%◌, ◌^◌, ◌<◌, ◌≤◌}
use mathlib.Core.Path.{◌≡◌, refl, sym, ◌∙◌, ap, ap₂}
use mathlib.Core.List.{List, [], ◌∷◌, ◌++◌, append_assoc, append-nil}
use native.Mathlib.Omega.{arith}
use native.Mathlib.Nat.{zero-add, suc-add, add_comm, mod-eq_of_lt}
use lib.ListN.{length, take, drop, replicate, length-append, length-drop, length-replicate}
use lib.Seq.{drop-append-le, take-append-le, drop-drop, take_all}
use lib.Bits.{bit_xor}
use Rattle.octets.specs.BigEndian.{int_from, int, be}
use Rattle.ctr.specs.Ctr.{blocks}
use Rattle.gcm.specs.Field.{mul}
use Rattle.gcm.specs.Gcm.{ghash_step, ghash_from, ghash, pad, hashed}
use Rattle.octets.proofs.BigEndian.{int-append, int-be, length-be}

pub length-pad : (s : List ℕ) → length (pad s) ≡ 16 * blocks (length s)
unfolding pad
length-pad s = simp (length-append, length-replicate) (omega arith)

module _ (h : ℕ) where
  pub one_block : (y n : ℕ) (s : List ℕ) → ghash_from h y s (suc n) ≡ ghash_from h (ghash_step h y (take 16 s)) (drop 16 s) n
  unfolding ghash_from
  one_block y n s = refl

  pub no_block : (y : ℕ) (s : List ℕ) → ghash_from h y s 0 ≡ y
  unfolding ghash_from
  no_block y s = refl

  -- GHASH of two parts, of which the first is whole blocks.
  pub two-parts : (n m y : ℕ) (s t : List ℕ) → length s ≡ 16 * n → ghash_from h y (s ++ t) (n + m) ≡ ghash_from h (ghash_from h y s n) t m
  two-parts zero m y [] t l = rw (zero-add, no_block)
  two-parts zero m y (a ∷ s) t l = absurd (omega arith)
  two-parts (suc n) m y s t l =
      let k : length (drop 16 s) ≡ 16 * n = rw length-drop (omega arith) in
      rw (suc-add, one_block, one_block, take-append-le 16 s t (omega arith), drop-append-le 16 s t (omega arith))
      (two-parts n m (ghash_step h y (take 16 s)) (drop 16 s) t k)

  module _ (s : List ℕ) where
    -- What is left at block i.
    abbrev pub rest : ℕ → ℕ → ℕ
    rest z i = ghash_from h z (drop (16 * i) (pad s)) (blocks (length s) - i)

    pub hash_more : (z z' i : ℕ) (b : List ℕ) → i < blocks (length s) → b ≡ take 16 (drop (16 * i) (pad s)) → z' ≡ ghash_step h z b → rest z i ≡ rest z' (i + 1)
    hash_more z z' i b l p q =
        let e : blocks (length s) - i ≡ suc (blocks (length s) - (i + 1)) = omega arith in
        let f : 16 + 16 * i ≡ 16 * (i + 1) = omega arith in
        let d : drop 16 (drop (16 * i) (pad s)) ≡ drop (16 * (i + 1)) (pad s) = drop-drop 16 (16 * i) (pad s) ∙ ap (λ (x : ℕ). drop x (pad s)) (add_comm (16 * i) 16 ∙ f) in
        ap (ghash_from h z (drop (16 * i) (pad s))) e
        ∙ one_block z (blocks (length s) - (i + 1)) (drop (16 * i) (pad s))
        ∙ rw (← p, d, q)

    pub hash_none : (z i : ℕ) → i ≡ blocks (length s) → rest z i ≡ z
    hash_none z i k =
        let e : blocks (length s) - i ≡ 0 = omega arith in
        ap (ghash_from h z (drop (16 * i) (pad s))) e ∙ no_block z _

-- A whole block of s.
module _ (s : List ℕ) (i : ℕ) where
  pub block-whole : 16 * i + 16 ≤ length s → take 16 (drop (16 * i) s) ≡ take 16 (drop (16 * i) (pad s))
  unfolding pad
  block-whole l =
      let zs : List ℕ = replicate (16 * blocks (length s) - length s) 0 in
      let g : 16 ≤ length (drop (16 * i) s) = rw length-drop (omega arith) in
      sym (ap (take 16) (drop-append-le (16 * i) s zs (omega arith)) ∙ take-append-le 16 (drop (16 * i) s) zs g)

  -- The last block, filled up.
  pub block_last : 16 * i < length s → length s < 16 * i + 16 → drop (16 * i) s ++ replicate (16 - length (drop (16 * i) s)) 0 ≡ take 16 (drop (16 * i) (pad s))
  unfolding pad
  block_last l k =
      let zs : List ℕ = replicate (16 * blocks (length s) - length s) 0 in
      let n : 16 * blocks (length s) - length s ≡ 16 - length (drop (16 * i) s) = rw length-drop (omega arith) in
      let t : drop (16 * i) (s ++ zs) ≡ drop (16 * i) s ++ replicate (16 - length (drop (16 * i) s)) 0 = drop-append-le (16 * i) s zs (omega arith) ∙ ap (λ (x : ℕ). drop (16 * i) s ++ replicate x 0) n in
      let m : length (drop (16 * i) (s ++ zs)) ≤ 16 = rw t (simp (length-append, length-replicate, length-drop) (omega arith)) in
      sym (take_all 16 (drop (16 * i) (s ++ zs)) m ∙ t)

-- The last block of all, the lengths.
pub int_lengths : (a c : ℕ) → a < 2 ^ 64 → c < 2 ^ 64 → int (be 8 a ++ be 8 c) ≡ a * 2 ^ 64 + c
unfolding int
int_lengths a c h k =
    int-append 0 (be 8 a) (be 8 c) ∙ int-be 8 (int_from 0 (be 8 a)) c
    ∙ ap₂ (λ (x y : ℕ). x * 256 ^ 8 + y) (int-be 8 0 a ∙ zero-add (a % 256 ^ 8) ∙ mod-eq_of_lt h) (mod-eq_of_lt k)

-- A single block, as a number.
pub hash_block : (h z v : ℕ) (s : List ℕ) → v < 256 ^ 16 → s ≡ be 16 v → ghash_from h z (pad s) (blocks (length s)) ≡ mul (bit_xor z v) h
unfolding int pad
hash_block h z v s k e =
    let l : length s ≡ 16 = ap length e ∙ length-be 16 v in
    let n : blocks (length s) ≡ 1 = ap blocks l in
    let p : pad s ≡ s = ap (λ (x : ℕ). s ++ replicate (16 * blocks x - x) 0) l ∙ append-nil s in
    ap₂ (λ (x : List ℕ) (y : ℕ). ghash_from h z x y) p n
    ∙ one_block h z 0 s ∙ no_block h _ _
    ∙ ap (λ (x : List ℕ). mul (bit_xor z (int x)) h) (take_all 16 s (omega arith) ∙ e)
    ∙ ap (λ (x : ℕ). mul (bit_xor z x) h) (int-be 16 0 v ∙ zero-add (v % 256 ^ 16) ∙ mod-eq_of_lt k)

pub hash_all : (h : ℕ) (a c : List ℕ) → length a < 2 ^ 61 → length c < 2 ^ 61
    → mul (bit_xor (ghash_from h (ghash_from h 0 (pad a) (blocks (length a))) (pad c) (blocks (length c))) (8 * length a * 2 ^ 64 + 8 * length c)) h ≡ hashed h a c
unfolding hashed ghash
hash_all h a c p q =
    let z = be 8 (8 * length a) ++ be 8 (8 * length c) in
    let n = blocks (length a) in
    let m = blocks (length c) in
    let l : length z ≡ 16 = length-append (be 8 (8 * length a)) (be 8 (8 * length c)) ∙ omega (arith, length-be 8 (8 * length a), length-be 8 (8 * length c)) in
    let s : pad a ++ pad c ++ be 8 (8 * length a) ++ be 8 (8 * length c) ≡ pad a ++ (pad c ++ z) = simp append_assoc in
    let k : length (pad a ++ (pad c ++ z)) / 16 ≡ n + (m + 1) = rw (length-append, length-append, length-pad, length-pad, l) (omega arith) in
    sym (ap (λ (x : List ℕ). ghash_from h 0 x (length x / 16)) s
    ∙ ap (ghash_from h 0 (pad a ++ (pad c ++ z))) k
    ∙ two-parts h n (m + 1) 0 (pad a) (pad c ++ z) (length-pad a)
    ∙ two-parts h m 1 _ (pad c) z (length-pad c)
    ∙ one_block h _ 0 z ∙ no_block h _ _
    ∙ ap (λ (x : ℕ). mul (bit_xor (ghash_from h (ghash_from h 0 (pad a) n) (pad c) m) x) h) (ap int (take_all 16 z (omega arith)) ∙ int_lengths (8 * length a) (8 * length c) (omega arith) (omega arith)))
