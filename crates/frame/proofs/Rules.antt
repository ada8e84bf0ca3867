-- The rows of each call match its rules: each test says, exactly, what the rule asks for.
-- Assumes nothing.
use mathlib.Core.Path.{◌≡◌, refl, sym, ap, ◌∙◌}
use mathlib.Core.Bool.{Bool, true, false}
use mathlib.Core.Logic.{◌↔◌, ⊎_elim}
use mathlib.Core.List.{List}
use Prim.Native.Nat.{ℕ, zero, suc, ◌+◌, ◌-◌, ◌*◌, ◌/◌, ◌≤◌, ◌<◌}
use native.Mathlib.Nat.{mul-zero, mul-suc}
use native.Mathlib.Omega.{arith}
use lib.ListN.{length, take, drop}
use lib.Seq.{drop-drop}
use lib.Dec.{ltb}
use borrow.Author.Tests.{ltb-false, le-ltb}
use Rattle.octets.specs.Bytes.{same}
use Rattle.octets.proofs.Lists.{le_or_lt}
use Rattle.octets.proofs.Equality.{true_false}
use Rattle.octets.proofs.Tests.{self, eqb_exactly, leb_exactly, ltb_fails, both_exactly, or_fails, not_fails, same_fails}
use Rattle.octets.proofs.Rows.{Matches}
use Rattle.frame.specs.Layout.{Sizes, chunk_size, limit, chunks, covering, among, repeats, stored, file_length, clear_length, right_length, header_at, chunk_at, lowest_bad}
use Rattle.frame.specs.Frame.{Head, Codec, Choice, key_size, head_right, head_in, bad_chunk, range_rows, open_rows, write_rows}
use Rattle.frame.specs.Single.{write_header_rows, open_header_rows, write_chunk_rows, open_chunk_rows}
use Rattle.frame.specs.Rules.{HeadSizes, piece, Differ, FileLength, write_header_rules, open_header_rules, write_file_rules, open_file_rules, read_range_rules, write_chunk_rules, open_chunk_rules}
use Rattle.frame.specs.Statements.{RepeatsExactly}
use Rattle.frame.proofs.Lengths.{right_lengths}
use Rattle.frame.proofs.Pieces.{covers_all, covers_count, below_good, bad_at}
use Rattle.frame.proofs.Success.{whole-covering}

-- ---- sizes and lengths

pub head-sizes : (z : Sizes) (h : Head) → (head_right z h ≡ true) ↔ HeadSizes z h
head-sizes z h = both_exactly (eqb_exactly (length h.nonce) z.nonce) (eqb_exactly (length h.key) key_size)

pub length_exactly : (z : Sizes) (l : ℕ) → (right_length z l ≡ true) ↔ FileLength z l
length_exactly z l = (
  λ e. let k = (right_lengths z).0 l e in (clear_length z l, k.1, k.0),
  λ t. ap (right_length z) t.2 ∙ ((right_lengths z).1 t.0 t.1).0,
)

-- ---- equal nonces

-- the pieces after the first
pub piece-drop : (w i : ℕ) (l : List ℕ) → piece w (drop w l) i ≡ piece w l (suc i)
piece-drop w i l = let e : w + w * i ≡ w * suc i = omega (arith, mul-suc w i) in rw (drop-drop (w * i) w l, e)

pub piece-first : (w : ℕ) (l : List ℕ) → take w l ≡ piece w l 0
piece-first w l = rw mul-zero

among_exactly : (w k : ℕ) (x l : List ℕ) → (among w k x l ≡ false) ↔ ((j : ℕ) → j < k → x ≡ piece w l j → ⊥)
unfolding among
among_exactly w zero x l = (λ e j h. absurd (omega arith), λ n. refl)
among_exactly w (suc k) x l =
    let step = or_fails (same x (take w l)) (among w k x (drop w l)) (same_fails x (take w l)) (among_exactly w k x (drop w l)) in
    (λ e. later (step.0 e), λ n. step.1 (λ q. n 0 (omega arith) (q ∙ piece-first w l), λ j h q. n (suc j) (omega arith) (q ∙ piece-drop w j l)))
  where
    later : (x ≡ take w l → ⊥) × ((j : ℕ) → j < k → x ≡ piece w (drop w l) j → ⊥) → (j : ℕ) → j < suc k → x ≡ piece w l j → ⊥
    later p zero h q = p.0 (q ∙ sym (piece-first w l))
    later p (suc j) h q = p.1 j (omega arith) (q ∙ sym (piece-drop w j l))

pub repeats_exactly : RepeatsExactly
unfolding repeats
repeats_exactly w zero l = (λ e i j a b. absurd (omega arith), λ n. refl)
repeats_exactly w (suc k) l =
    let step = or_fails (among w k (take w l) (drop w l)) (repeats w k (drop w l)) (among_exactly w k (take w l) (drop w l)) (repeats_exactly w k (drop w l)) in (
      λ e. later (step.0 e),
      λ n. step.1 (
        λ j h q. n 0 (suc j) (omega arith) (omega arith) (sym (piece-first w l) ∙ q ∙ piece-drop w j l),
        λ i j a b q. n (suc i) (suc j) (omega arith) (omega arith) (sym (piece-drop w i l) ∙ q ∙ piece-drop w j l),
      ),
    )
  where
    later : ((j : ℕ) → j < k → take w l ≡ piece w (drop w l) j → ⊥) × Differ w k (drop w l) → Differ w (suc k) l
    later p i zero a b q = absurd (omega arith)
    later p zero (suc j) a b q = p.0 j (omega arith) (piece-first w l ∙ q ∙ sym (piece-drop w j l))
    later p (suc i) (suc j) a b q = p.1 i j (omega arith) (omega arith) (piece-drop w i l ∙ q ∙ sym (piece-drop w j l))

-- ---- bad chunks

-- none of the n chunks from s on is bad
all_good : (z : Sizes) (good : ℕ → List ℕ → Bool) (f : List ℕ) (s n : ℕ)
    → (s + n ≤ lowest_bad z good f s n) ↔ ((i : ℕ) → s ≤ i → i < s + n → good i (chunk_at z f i) ≡ true)
all_good z good f s n = (
  λ h i a b. below_good z good f s n i a (omega arith),
  λ all.
      ⊎_elim (λ (h : s + n ≤ lowest_bad z good f s n). h)
      (λ (h : lowest_bad z good f s n < s + n). let b = bad_at z good f s n h in absurd (true_false (sym (all (lowest_bad z good f s n) b.0 h) ∙ b.1)))
      (le_or_lt (s + n) (lowest_bad z good f s n)),
)

module _ (C : Codec) (f : List ℕ) where
  open C use {sizes as z, good}

  abbrev Good : ℕ → Type 0
  Good i = good (head_in C f) i (chunk_at z f i) ≡ true

  pub covering-good : (from count : ℕ)
      → (from / chunk_size + covering from count ≤ bad_chunk C f from count) ↔ ((i : ℕ) → 0 < count → from / chunk_size ≤ i → i ≤ (from + count - 1) / chunk_size → Good i)
  unfolding bad_chunk
  covering-good from count =
      let all = all_good z (good (head_in C f)) f (from / chunk_size) (covering from count) in (
        λ h i s a b. all.0 h i a (covers_count from count i s a b),
        λ g. all.1 (λ i a b. let c = covers_all from count i a b in g i c.0 a c.1),
      )

  whole-good : (n : ℕ) → (chunks n ≤ bad_chunk C f 0 n) ↔ ((i : ℕ) → i < chunks n → Good i)
  unfolding bad_chunk
  whole-good n =
      let all = all_good z (good (head_in C f)) f 0 (covering 0 n) in
      let w = whole-covering n in (
        λ h i a. all.0 (omega (arith, h, w)) i (omega arith) (omega (arith, a, w)),
        λ g. let h = all.1 (λ i a b. g i (omega (arith, b, w))) in omega (arith, h, w),
      )

-- ---- the rows of each call

pub row_test : {m n : ℕ} {A : Type 0} → (n ≤ m) ↔ A → (ltb m n ≡ false) ↔ A
row_test {m} {n} f = (λ e. f.0 (ltb-false m n e), λ a. le-ltb m n (f.1 a))

module _ (C : Codec) (Keys : Type 0) (keys : (C.keys_right ≡ true) ↔ Keys) where
  open C use {sizes as z, keys_right, header_good}

  pub write_header_matches : (h : Head) (room : ℕ) → Matches (write_header_rows C h room) (write_header_rules C Keys h room)
  unfolding write_header_rows
  write_header_matches h room = (refl, not_fails (both_exactly keys (head-sizes z h)), (refl, ltb_fails room z.header, tt))

  pub open_header_matches : (b : List ℕ) (room : ℕ) → Matches (open_header_rows C b room) (open_header_rules C Keys b room)
  unfolding open_header_rows
  open_header_matches b room = (
    refl,
    not_fails keys,
    (refl, not_fails (eqb_exactly (length b) z.header), (refl, ltb_fails room key_size, (refl, not_fails (self (header_good b)), tt))),
  )

  pub write_file_matches : (c : Choice) (room : ℕ) → Matches (write_rows C c room) (write_file_rules C Keys c room)
  unfolding write_rows
  write_file_matches c room =
      let n = length c.clear in
      let sizes = both_exactly keys (both_exactly (head-sizes z c.head) (eqb_exactly (length c.nonces) (z.nonce * chunks n))) in (
        refl,
        not_fails (λ e. let s = sizes.0 e in (s.0, s.1.0, s.1.1), λ s. sizes.1 (s.0, (s.1, s.2))),
        (refl, ltb_fails limit n, (refl, ltb_fails room (file_length z n), (refl, repeats_exactly z.nonce (chunks n) c.nonces, tt))),
      )

  pub open_file_matches : (f : List ℕ) (room : ℕ) → Matches (open_rows C f room) (open_file_rules C Keys f room)
  unfolding open_rows
  open_file_matches f room =
      let n = clear_length z (length f) in (
        refl,
        not_fails keys,
        (
          refl,
          not_fails (length_exactly z (length f)),
          (refl, ltb_fails room n, (refl, not_fails (self (header_good (header_at z f))), (refl, row_test (whole-good C f n), tt))),
        ),
      )

  pub read_range_matches : (f : List ℕ) (from count room : ℕ) → Matches (range_rows C f from count room) (read_range_rules C Keys f from count room)
  unfolding range_rows
  read_range_matches f from count room = (
    refl,
    not_fails keys,
    (
      refl,
      not_fails (length_exactly z (length f)),
      (
        refl,
        ltb_fails (clear_length z (length f)) (from + count),
        (refl, ltb_fails room count, (refl, not_fails (self (header_good (header_at z f))), (refl, row_test (covering-good C f from count), tt))),
      ),
    ),
  )

module _ (C : Codec) where
  open C use {sizes as z, good}

  pub write_chunk_matches : (h : Head) (n p : List ℕ) (room : ℕ) → Matches (write_chunk_rows C h n p room) (write_chunk_rules C h n p room)
  unfolding write_chunk_rows
  write_chunk_matches h n p room = (
    refl,
    not_fails (both_exactly (head-sizes z h) (eqb_exactly (length n) z.nonce)),
    (refl, not_fails (both_exactly (leb_exactly 1 (length p)) (leb_exactly (length p) chunk_size)), (refl, ltb_fails room (length p + z.overhead), tt)),
  )

  pub open_chunk_matches : (h : Head) (i : ℕ) (c : List ℕ) (room : ℕ) → Matches (open_chunk_rows C h i c room) (open_chunk_rules C h i c room)
  unfolding open_chunk_rows
  open_chunk_matches h i c room = (
    refl,
    not_fails (head-sizes z h),
    (
      refl,
      not_fails (both_exactly (leb_exactly (z.overhead + 1) (length c)) (leb_exactly (length c) (stored z))),
      (refl, ltb_fails room (length c - z.overhead), (refl, not_fails (self (good h i c)), tt)),
    ),
  )
