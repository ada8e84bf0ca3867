-- A nonce, a ciphertext and its MAC: what was sealed opens, and what opens was sealed. Over any block cipher that gives 16 bytes, and any MAC of 32.
-- Assumes nothing.
use Prim.Native.Nat.{ℕ, ◌+◌, ◌-◌, ◌≤◌}
use mathlib.Core.Path.{◌≡◌, sym, ap, ap₂, ◌∙◌}
use mathlib.Core.Bool.{true}
use mathlib.Core.List.{List, ◌++◌, append_assoc}
use native.Mathlib.Omega.{arith}
use lib.ListN.{length, take, drop, length-append, length-drop, take-append-drop}
use lib.Seq.{take_at, drop_at, take-add, length-take-le}
use Rattle.octets.specs.Bytes.{Bytes, same}
use Rattle.octets.proofs.Bytes.{below_append, below_take, below_drop}
use Rattle.octets.proofs.Equality.{same_self, same_eq}
use Rattle.ctr.specs.Ctr.{inc128}
use Rattle.ctr.proofs.Texts.{length-ctr, ctr_twice, ctr-bytes}
use Rattle.siv_ctrmac.specs.SivCtrmac.{crypt, sealed, opens, opened}
use Rattle.siv_ctrmac.specs.Statements.{MacCovers}

module _ (e : List ℕ → List ℕ) (le : (s : List ℕ) → length (e s) ≡ 16) where
  pub length-opened : (b : List ℕ) → length (opened e b) ≡ length b - 48
  unfolding opened
  length-opened b =
      let d = length-drop 16 b in
      length-ctr inc128 e le (take 16 b) (take (length b - 48) (drop 16 b)) ∙ length-take-le (length b - 48) (drop 16 b) (omega arith)

  module _ (m : List ℕ → List ℕ) (lm : (s : List ℕ) → length (m s) ≡ 32) (a : List ℕ) where
    -- ---- what is sealed

    module _ (n p : List ℕ) (h : length n ≡ 16) where
      tag : List ℕ
      tag = m (a ++ (n ++ crypt e n p))

      length-text : length (n ++ crypt e n p) ≡ length p + 16
      length-text = length-append n (crypt e n p) ∙ omega (arith, h, length-ctr inc128 e le n p)

      pub length-sealed : length (sealed e m a n p) ≡ length p + 48
      unfolding sealed tag
      length-sealed = length-append (n ++ crypt e n p) tag ∙ omega (arith, length-text, lm (a ++ (n ++ crypt e n p)))

      covers : drop (length (sealed e m a n p) - 32) (sealed e m a n p) ≡ m (a ++ take (length (sealed e m a n p) - 32) (sealed e m a n p))
      unfolding sealed tag
      covers =
          let l : length (n ++ crypt e n p) ≡ length (sealed e m a n p) - 32 = omega (arith, length-text, length-sealed) in
          drop_at (n ++ crypt e n p) tag (length (sealed e m a n p) - 32) l
          ∙ sym (ap (λ (x : List ℕ). m (a ++ x)) (take_at (n ++ crypt e n p) tag (length (sealed e m a n p) - 32) l))

      split : sealed e m a n p ≡ n ++ (crypt e n p ++ tag)
      unfolding sealed tag
      split = append_assoc n (crypt e n p) tag

      pub nonce-sealed : take 16 (sealed e m a n p) ≡ n
      nonce-sealed = ap (take 16) split ∙ take_at n (crypt e n p ++ tag) 16 h

      pub opens-sealed : opens m a (sealed e m a n p) ≡ true
      unfolding opens sealed tag
      opens-sealed =
          let l : length (n ++ crypt e n p) ≡ length (sealed e m a n p) - 32 = omega (arith, length-text, length-sealed) in
          ap₂ (λ (x y : List ℕ). same (m (a ++ x)) y)
          (take_at (n ++ crypt e n p) tag (length (sealed e m a n p) - 32) l)
          (drop_at (n ++ crypt e n p) tag (length (sealed e m a n p) - 32) l)
          ∙ same_self tag

      pub opened-sealed : opened e (sealed e m a n p) ≡ p
      unfolding opened
      opened-sealed =
          let b = sealed e m a n p in
          let d : drop 16 b ≡ crypt e n p ++ tag = ap (drop 16) split ∙ drop_at n (crypt e n p ++ tag) 16 h in
          let l : length (crypt e n p) ≡ length b - 48 = omega (arith, length-ctr inc128 e le n p, length-sealed) in
          let t : take (length b - 48) (drop 16 b) ≡ crypt e n p = ap (take (length b - 48)) d ∙ take_at (crypt e n p) tag (length b - 48) l in
          ap₂ (crypt e) nonce-sealed t ∙ ctr_twice inc128 e le n p

    -- ---- what opens

    pub was_sealed : (b : List ℕ) → 48 ≤ length b → opens m a b ≡ true → b ≡ sealed e m a (take 16 b) (opened e b)
    unfolding opens opened sealed
    was_sealed b long h =
        let n = take 16 b in
        let c = take (length b - 48) (drop 16 b) in
        let t = same_eq (m (a ++ take (length b - 32) b)) (drop (length b - 32) b) h in
        let k : length b - 32 ≡ 16 + (length b - 48) = omega arith in
        let f : take (length b - 32) b ≡ n ++ c = ap (λ (x : ℕ). take x b) k ∙ take-add 16 (length b - 48) b in
        let again : crypt e n (crypt e n c) ≡ c = ctr_twice inc128 e le n c in
        sym (take-append-drop (length b - 32) b) ∙ ap₂ (λ (x y : List ℕ). x ++ y) f (sym t ∙ ap (λ (x : List ℕ). m (a ++ x)) f)
        ∙ ap (λ (x : List ℕ). (n ++ x) ++ m (a ++ (n ++ x))) (sym again)

-- A buffer of k bytes and a MAC's room, whose first k bytes became the nonce and the ciphertext, with the MAC written behind.
pub sealed_front : (e m : List ℕ → List ℕ) (a n p y d : List ℕ) (k : ℕ) → length y ≡ k → length d ≡ k + 32 → y ≡ n ++ crypt e n p
    → take (length (y ++ drop k d) - 32) (y ++ drop k d) ++ m (a ++ take (length (y ++ drop k d) - 32) (y ++ drop k d)) ≡ sealed e m a n p
unfolding sealed
sealed_front e m a n p y d k h l q =
    let j = length (y ++ drop k d) - 32 in
    let t : take j (y ++ drop k d) ≡ y = take_at y (drop k d) j (omega (arith, h, l, length-append y (drop k d), length-drop k d)) in
    ap (λ (x : List ℕ). x ++ m (a ++ x)) (t ∙ q)

-- ---- the statement

pub mac_covers : MacCovers
mac_covers e le m lm a n p h = covers e le m lm a n p h

-- ---- byte strings

module _ (e : List ℕ → List ℕ) (be : (s : List ℕ) → Bytes (e s)) where
  pub bytes-opened : (b : List ℕ) → Bytes b → Bytes (opened e b)
  unfolding opened
  bytes-opened b h = ctr-bytes inc128 e be (take 16 b) (below_take (length b - 48) (below_drop 16 h))

  pub bytes-sealed : (m : List ℕ → List ℕ) → ((s : List ℕ) → Bytes (m s)) → (a n p : List ℕ) → Bytes n → Bytes p → Bytes (sealed e m a n p)
  unfolding sealed
  bytes-sealed m bm a n p bn bp = below_append (below_append bn (ctr-bytes inc128 e be n bp)) (bm (a ++ (n ++ crypt e n p)))
