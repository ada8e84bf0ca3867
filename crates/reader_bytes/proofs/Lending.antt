-- A read through lent bytes: their row, or the read through the keys that they stand for.
-- Assumes nothing.
use Prim.Native.Nat.{ℕ, ◌≤◌, ◌<◌}
use mathlib.Core.Path.{◌≡◌, refl, sym, ap, ap₂, ◌∙◌}
use mathlib.Core.Bool.{Bool, true, false, cond}
use mathlib.Core.List.{List, [], ◌∷◌, ◌++◌, append_assoc}
use native.Mathlib.Omega.{arith}
use borrow.Author.Tests.{eq-eqb, ne_eqb, leb-true, leb-false, le-leb, lt-leb}
use lib.Dec.{leb, lit≤}
use lib.ListN.{length, take, drop, get_or, length-append, length-drop}
use lib.Seq.{length-take-le, split_at, take-add, take_at, drop_at, get_or_at}
use Rattle.octets.specs.Rows.{refused, ended}
use Rattle.octets.proofs.Lists.{drop_all}
use Rattle.frame.specs.Rules.{KeySizes}
use Rattle.vault_bytes.specs.VaultBytes.{combo_of}
use Rattle.file_reader.specs.declared.keys.ReaderKeys.{ReaderKeys}
use Rattle.file_reader.specs.Kept.{keys_with, read_kept}
use Rattle.file_reader.proofs.Combos.{none_held}
use Rattle.reader_bytes.specs.ReaderBytes.{keys_in, file_in, read_lent}
use Rattle.reader_bytes.specs.Statements.{KnownLast, ReaderLentExactly}
use Rattle.reader_bytes.proofs.Storing.{joined-size}

-- ---- for code

module _ (f b : List ℕ) (from count : ℕ) (out : List ℕ) where
  pub no_size : (length b ≡ 65 → ⊥) → read_lent f b from count out ≡ ended (refused 1) out
  unfolding read_lent
  no_size n = rw (ne_eqb (length b) 65 n)

  module _ (l : length b ≡ 65) where
    pub no_combo : 2 < get_or b 64 0 → read_lent f b from count out ≡ ended (refused 17) out
    unfolding read_lent
    no_combo h = rw (eq-eqb (length b) 65 l, lt-leb (get_or b 64 0) 2 h)

    pub lent : get_or b 64 0 ≤ 2 → read_lent f b from count out ≡ read_kept (keys_in b) (file_in b f) from count out
    unfolding read_lent
    lent h = rw (eq-eqb (length b) 65 l, le-leb (get_or b 64 0) 2 h)

    pub none_lent : get_or b 64 0 ≡ 0 → read_lent f b from count out ≡ ended (refused 4) out
    unfolding keys_in file_in
    none_lent z =
        lent (omega (arith, z))
        ∙ ap (λ (t : Bool). read_kept (keys_in b) (cond t [] f) from count out) (eq-eqb (get_or b 64 0) 0 z)
        ∙ none_held (keys_in b) from count out

-- ---- two keys and a number, joined

module _ (content mac : List ℕ) (n : ℕ) (k : KeySizes content mac) where
  number_in : get_or (content ++ mac ++ n ∷ []) 64 0 ≡ n
  number_in = get_or_at (content ++ mac) n [] 0 64 (omega (arith, length-append content mac, k))

  keys_in_lem : keys_in (content ++ mac ++ n ∷ []) ≡ keys_with content mac (combo_of n)
  unfolding keys_in
  keys_in_lem =
      let q = append_assoc content mac (n ∷ []) in
      let e = ap (take 32) q ∙ take_at content (mac ++ n ∷ []) 32 k.0 in
      let m = ap (λ (s : List ℕ). take 32 (drop 32 s)) q ∙ ap (take 32) (drop_at content (mac ++ n ∷ []) 32 k.0) ∙ take_at mac (n ∷ []) 32 k.1 in
      ap₂ (λ (x y : List ℕ). keys_with x y (combo_of (get_or (content ++ mac ++ n ∷ []) 64 0))) e m
      ∙ ap (λ (i : ℕ). keys_with content mac (combo_of i)) number_in

  pub lent-joined : 0 < n → n ≤ 2 → (f b : List ℕ) (from count : ℕ) (out : List ℕ) → content ++ mac ++ n ∷ [] ≡ b → read_lent f b from count out ≡ read_kept (keys_with content mac (combo_of n)) f from count out
  unfolding file_in
  lent-joined s h f b from count out q =
      let j = content ++ mac ++ n ∷ [] in
      ap (λ (x : List ℕ). read_lent f x from count out) (sym q)
      ∙ lent f j from count out (joined-size content mac n k) (omega (arith, number_in, h))
      ∙ ap (λ (t : Bool). read_kept (keys_in j) (cond t [] f) from count out) (ne_eqb (get_or j 64 0) 0 (λ z. omega (arith, number_in, z, s)))
      ∙ ap (λ (x : ReaderKeys). read_kept x f from count out) keys_in_lem

-- The parts of 65 bytes.
parts : (b : List ℕ) → length b ≡ 65 → take 32 b ++ take 32 (drop 32 b) ++ get_or b 64 0 ∷ [] ≡ b
parts b l =
    ap (λ (s : List ℕ). s ++ get_or b 64 0 ∷ []) (sym (take-add 32 32 b))
    ∙ ap (λ (s : List ℕ). take 64 b ++ get_or b 64 0 ∷ s) (sym (drop_all 65 b (omega arith)))
    ∙ sym (split_at b 64 0 (omega arith))

-- A last byte that is neither 0 nor a combo's is above 2.
beyond : (n : ℕ) → (KnownLast n → ⊥) → 2 < n
beyond n u = go (leb n 2) refl
  where
    known : n ≤ 2 → KnownLast n
    known h z o = omega (arith, h, z, o)

    go : (t : Bool) → leb n 2 ≡ t → 2 < n
    go true e = absurd (u (known (leb-true n 2 e)))
    go false e = leb-false n 2 e

pub lent_exactly : ReaderLentExactly
unfolding combo_of
lent_exactly f b from count out = (
  no_size f b from count out,
  λ l u. no_combo f b from count out l (beyond (get_or b 64 0) u),
  none_lent f b from count out,
  λ content mac k. (lent-joined content mac 1 k (lit≤ tt) (lit≤ tt) f b from count out, lent-joined content mac 2 k (lit≤ tt) (lit≤ tt) f b from count out),
  λ l. (take 32 b, take 32 (drop 32 b), (length-take-le 32 b (omega arith), length-take-le 32 (drop 32 b) (omega (arith, length-drop 32 b))), parts b l),
)
