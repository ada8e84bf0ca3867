-- With room for the input row 7 is never given, the room doesn't change the outcome, and the line is short.
-- Assumes nothing.
use mathlib.Core.Path.{◌≡◌, refl, ap}
use mathlib.Core.Bool.{Bool, true, false, cond}
use mathlib.Core.List.{List, [], ◌∷◌, ◌++◌}
use Prim.Native.Nat.{ℕ, ◌≤◌, ◌<◌}
use native.Mathlib.Omega.{arith}
use borrow.Author.Tests.{le-ltb, ltb-true, ltb-false}
use lib.Dec.{ltb, lit≤}
use lib.ListN.{length, take, drop, replicate, length-append, length-drop, length-replicate}
use Rattle.octets.specs.Rows.{Outcome, done, refused, refused_at, Row, answer, number, End, ended}
use Rattle.frame.specs.Layout.{chunks, clear_length}
use Rattle.frame.specs.Frame.{open_rows, open_file, bad_chunk}
use Rattle.siv_gcm.specs.SivGcm.{siv_gcm, codec}
use Rattle.check_line.specs.Line.{decimal, opened_text, in_text, chunks_text, refused_text, at_text, line_end, opened_line, refused_line, refused_at_line, line_of}
use Rattle.check_line.specs.Check.{check_vault, check_line, longest, Checked, checked, check}
use Rattle.check_line.specs.Statements.{NeverRoom, LineFits}
use Rattle.check_line.proofs.Decimals.{length_one, length_more, length_most}
use Rattle.check_line.proofs.Pieces.{length_three}

-- a cleartext is no longer than its file
pub clear-short : (l : ℕ) → clear_length siv_gcm l ≤ l
unfolding clear_length
clear-short l = omega arith

-- what holds of each row that applies, and of the last outcome, holds of the answer
abbrev Each : (Outcome → Type 0) → List Row → Type 0
Each P [] = Unit {0}
Each P (r ∷ rows) = (r.0 ≡ true → P r.1) × Each P rows

answers : (P : Outcome → Type 0) (rows : List Row) (o : Outcome) → Each P rows → P o → P (answer rows o)
unfolding answer
answers P [] o e p = p
answers P (r ∷ rows) o e p = go r.0 refl (answers P rows o e.1 p)
  where
    go : (b : Bool) → r.0 ≡ b → P (answer rows o) → P (cond b r.1 (answer rows o))
    go true t q = e.0 t
    go false t q = q

-- what opening a file ends in, with room
module _ (enc mac f : List ℕ) where
  opened_in : (P : Outcome → Type 0) (out : List ℕ) → length f ≤ length out
      → P (refused 1) → P (refused 4) → P (refused 9) → ((i : ℕ) → i < chunks (clear_length siv_gcm (length f)) → P (refused_at 10 i)) → P (done (clear_length siv_gcm (length f) ∷ []))
      → P (open_file (codec enc mac) f out).outcome
  unfolding open_file open_rows
  opened_in P out h p1 p4 p9 p10 pd =
      let C = codec enc mac in
      let n = clear_length siv_gcm (length f) in
      answers P (open_rows C f (length out)) (done (n ∷ [])) (
        λ t. p1,
        (
          λ t. p4,
          (
            λ t. absurd (let k = ltb-true (length out) n t in omega (arith, clear-short (length f))),
            (λ t. p9, (λ t. p10 (bad_chunk C f 0 n) (ltb-true (bad_chunk C f 0 n) (chunks n) t), tt)),
          ),
        ),
      )
      pd

  pub any_room : (a b : List ℕ) → length f ≤ length a → length f ≤ length b → (open_file (codec enc mac) f a).outcome ≡ (open_file (codec enc mac) f b).outcome
  unfolding open_file open_rows answer
  any_room a b h k =
      let n = clear_length siv_gcm (length f) in
      let s = clear-short (length f) in
      rw (le-ltb (length a) n (omega arith), le-ltb (length b) n (omega arith))

-- what checking an input ends in
module _ (input : List ℕ) where
  abbrev file : List ℕ
  file = drop 64 input

  file-short : length file ≤ length input
  file-short = rw length-drop (omega arith)

  abbrev pub zeros : List ℕ
  zeros = replicate {A = ℕ} (length input) 0

  pub zeros_long : length input ≤ length zeros
  zeros_long = rw length-replicate (omega arith)

  -- the end by the two tests of the input's size
  abbrev after : Bool → Bool → List ℕ → End
  after s t room = cond s (ended (refused 1) room) (cond t (ended (refused 4) room) (open_file (codec (take 32 input) (take 32 (drop 32 input))) file room))

  checks : (P : Outcome → Type 0) (room : List ℕ) → P (refused 1) → P (refused 4)
      → (length input ≤ 65536 → P (open_file (codec (take 32 input) (take 32 (drop 32 input))) file room).outcome) → P (check_vault input room).outcome
  unfolding check_vault
  checks P room p1 p4 po = go (ltb (length input) 64) (ltb 65536 (length input)) refl
    where
      go : (s t : Bool) → ltb 65536 (length input) ≡ t → P (after s t room).outcome
      go true t e = p1
      go false true e = p4
      go false false e = po (ltb-false 65536 (length input) e)

  same_outcome : (a b : List ℕ) → length input ≤ length a → length input ≤ length b → (check_vault input a).outcome ≡ (check_vault input b).outcome
  unfolding check_vault
  same_outcome a b h k = go (ltb (length input) 64) (ltb 65536 (length input))
    where
      go : (s t : Bool) → (after s t a).outcome ≡ (after s t b).outcome
      go true t = refl
      go false true = refl
      go false false = any_room (take 32 input) (take 32 (drop 32 input)) file a b (let l = file-short in omega arith) (let l = file-short in omega arith)

pub never_room : NeverRoom
unfolding check_line
never_room input room h = (
  checks input (λ o. o ≡ refused 7 → ⊥) room (other 1 (λ e. omega arith)) (other 4 (λ e. omega arith))
      (λ k. opened_in (take 32 input) (take 32 (drop 32 input)) (file input) (λ o. o ≡ refused 7 → ⊥) room (let l = file-short input in omega arith)
      (other 1 (λ e. omega arith)) (other 4 (λ e. omega arith)) (other 9 (λ e. omega arith)) (λ i l e. let z = ap number e in omega arith) (λ e. let z = ap number e in omega arith)),
  ap line_of (same_outcome input (zeros input) room (zeros_long input) h),
)
  where
    other : (k : ℕ) → (k ≡ 7 → ⊥) → refused k ≡ refused 7 → ⊥
    other k f e = f (ap number e)

-- a row of one digit, and chunk 0 or 1
row-short : (k : ℕ) → k < 10 → length (refused_line k) ≤ longest
unfolding refused_line
row-short k h = omega (arith, length_one k h, length-append (refused_text ++ decimal k) line_end)

chunk_short : (i : ℕ) → i < 10 → length (refused_at_line 10 i) ≤ longest
unfolding refused_at_line
chunk_short i h =
    let l = length_more 10 (lit≤ tt) in
    let m = length_one 1 (lit≤ tt) in
    omega (arith, length_one i h, length_three (refused_text ++ decimal 10) (at_text ++ decimal i) line_end)

-- a length of five digits
opened-short : (n : ℕ) → n ≤ 65536 → length (opened_line n (chunks n)) ≤ longest
unfolding opened_line
opened-short n h =
    let l = length_most 4 n (omega arith) in
    let k = length_one (chunks n) (omega arith) in
    omega (arith, length_three (opened_text ++ decimal n) (in_text ++ decimal (chunks n)) chunks_text)

pub line-fits : LineFits
unfolding check_line
line-fits input =
    checks input (λ o. length (line_of o) ≤ longest) (zeros input) (row-short 1 (lit≤ tt)) (row-short 4 (lit≤ tt))
    (λ k.
    let s = file-short input in
    let m = clear-short (length (file input)) in
    opened_in (take 32 input) (take 32 (drop 32 input)) (file input) (λ o. length (line_of o) ≤ longest) (zeros input) (let l = zeros_long input in omega arith)
    (row-short 1 (lit≤ tt)) (row-short 4 (lit≤ tt)) (row-short 9 (lit≤ tt)) (λ i l. chunk_short i (omega arith)) (opened-short (clear_length siv_gcm (length (file input))) (omega arith)))

-- what a call writes
pub written-fits : (n : ℕ) (r l input room line : List ℕ) → checked n r l ≡ check input room line → n ≤ longest
unfolding check
written-fits n r l input room line e = omega (arith, ap (λ (x : Checked). x.written) e, line-fits input)
