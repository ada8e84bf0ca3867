-- The end of each call by its rows, and of the name writer by rules.
-- Assumes nothing.
use Prim.Native.Nat.{ℕ, ◌≤◌, ◌<◌}
use mathlib.Core.Path.{◌≡◌, refl, ap, ap₂}
use mathlib.Core.Bool.{true, false, not, ◌||◌, cond}
use mathlib.Core.Logic.{◌↔◌}
use mathlib.Core.List.{List, [], ◌∷◌}
use lib.ListN.{length}
use lib.Dec.{ltb}
use borrow.Author.Tests.{le-leb, lt-leb}
use Rattle.octets.specs.Bytes.{filled, same}
use Rattle.octets.specs.Rows.{Outcome, done, Row, answer, First, NoRow, outcome_at, numbered, End, ended, ending, EndsExactly, Rule, Exactly}
use Rattle.octets.proofs.Rows.{ends_exactly, Matches, ends_by}
use Rattle.frame.specs.Frame.{master_keys_right}
use Rattle.threshold.specs.Threshold.{threshold_right}
use Rattle.name_spec.specs.Names.{id_right, path, full_name, full_length, hash_name, short, stored_name, text_right, name_length, name_of}
use Rattle.name_spec.specs.Calls.{path_length, hash_length, stored_length, written_lengths, NameEnd, name_ended, name_ending, dir_path_rows, dir_path, write_name_rows, write_name, open_text_rows, open_text, open_name_rows, open_name, open_long_name_rows, open_long_name}
use Rattle.name_spec.specs.Statements.{NameEndsBy}
use Rattle.name_spec.proofs.Texts.{length-full}

-- ---- two buffers

-- For code: the end by the rows, as `EndsExactly` has it of one buffer.
abbrev pub NameEndsExactly : List Row → List ℕ → List ℕ → List ℕ → List ℕ → List ℕ → NameEnd → Type 0
NameEndsExactly rows l newStored newFull stored full e =
    ((k : ℕ) → k < length rows → (e ≡ name_ended (outcome_at rows (done l) k) stored full) ↔ First rows k)
    × ((e ≡ name_ended (done l) newStored newFull) ↔ NoRow rows)

-- Two buffers end as each of them does.
module _ (rows : List Row) (n : numbered rows ≡ true) (l newStored newFull stored full : List ℕ) where
  first-buffer : {o : Outcome} {s f : List ℕ} → name_ending (answer rows (done l)) newStored newFull stored full ≡ name_ended o s f → ending (answer rows (done l)) newStored stored ≡ ended o s
  first-buffer e = ap (λ (x : NameEnd). ended x.outcome x.stored) e

  both_buffers : {o : Outcome} {s f : List ℕ} → ending (answer rows (done l)) newStored stored ≡ ended o s → ending (answer rows (done l)) newFull full ≡ ended o f
      → name_ending (answer rows (done l)) newStored newFull stored full ≡ name_ended o s f
  both_buffers d e = ap₂ (λ (x y : End). name_ended x.outcome x.buffer y.buffer) d e

  name_ends_exactly : NameEndsExactly rows l newStored newFull stored full (name_ending (answer rows (done l)) newStored newFull stored full)
  name_ends_exactly =
      let a = ends_exactly rows n l newStored stored in
      let b = ends_exactly rows n l newFull full in (
        λ k h. (λ e. (a.0 k h).0 (first-buffer e), λ f. both_buffers ((a.0 k h).1 f) ((b.0 k h).1 f)),
        (λ e. a.1.0 (first-buffer e), λ f. both_buffers (a.1.1 f) (b.1.1 f)),
      )

  -- So they go by the rules that the rows match.
  pub name_ends_by : (rules : List Rule) → Matches rows rules → NameEndsBy rules l newStored newFull stored full (name_ending (answer rows (done l)) newStored newFull stored full)
  name_ends_by rules m = go rules (Unit {0}) (ends_by rows rules m n l newStored stored) (ends_by rows rules m n l newFull full)
    where
      go : (rules : List Rule) (met : Type 0)
          → Exactly (λ o. ending (answer rows (done l)) newStored stored ≡ ended o stored) (ending (answer rows (done l)) newStored stored ≡ ended (done l) newStored) met rules
          → Exactly (λ o. ending (answer rows (done l)) newFull full ≡ ended o full) (ending (answer rows (done l)) newFull full ≡ ended (done l) newFull) met rules
          → Exactly (λ o. name_ending (answer rows (done l)) newStored newFull stored full ≡ name_ended o stored full)
          (name_ending (answer rows (done l)) newStored newFull stored full ≡ name_ended (done l) newStored newFull) met rules
      go [] met a b = (λ e. a.0 (first-buffer e), λ q. both_buffers (a.1 q) (b.1 q))
      go (r ∷ rules) met a b = ((λ e. a.0.0 (first-buffer e), λ q. both_buffers (a.0.1 q) (b.0.1 q)), go rules (met × r.0) a.1 b.1)

-- ---- the four calls

-- For code: the end of each call by its rows.
pub path_ends : (enc mac id out : List ℕ) → EndsExactly (dir_path_rows enc mac id (length out)) (path_length ∷ []) (filled (path enc mac id) path_length out) out (dir_path enc mac id out)
unfolding dir_path_rows dir_path
path_ends enc mac id out = ends_exactly (dir_path_rows enc mac id (length out)) refl (path_length ∷ []) (filled (path enc mac id) path_length out) out

pub name_ends : (threshold : ℕ) (enc mac id : List ℕ)
    → ((name stored full : List ℕ) →
    let f = full_name enc mac id name in
    let n = full_length (length name) in
    NameEndsExactly (write_name_rows threshold enc mac id name (length stored) (length full)) (written_lengths threshold n)
    (filled (stored_name threshold f) (stored_length threshold n) stored) (cond (short threshold n) full (filled f n full)) stored full (write_name threshold enc mac id name stored full))
    × ((t out : List ℕ)
    → EndsExactly (open_name_rows threshold enc mac id t (length out)) (name_length t ∷ []) (filled (name_of enc t) (name_length t) out) out (open_name threshold enc mac id t out))
    × ((s t out : List ℕ)
    → EndsExactly (open_long_name_rows threshold enc mac id s t (length out)) (name_length t ∷ []) (filled (name_of enc t) (name_length t) out) out (open_long_name threshold enc mac id s t out))
unfolding write_name_rows write_name open_text_rows open_name_rows open_name open_long_name_rows open_long_name
name_ends threshold enc mac id = (
  λ name stored full.
      let f = full_name enc mac id name in
      let n = full_length (length name) in
      name_ends_exactly (write_name_rows threshold enc mac id name (length stored) (length full)) refl (written_lengths threshold n) (filled (stored_name threshold f) (stored_length threshold n) stored) (cond (short threshold n) full (filled f n full)) stored full,
  λ t out. ends_exactly (open_name_rows threshold enc mac id t (length out)) refl (name_length t ∷ []) (filled (name_of enc t) (name_length t) out) out,
  λ s t out. ends_exactly (open_long_name_rows threshold enc mac id s t (length out)) refl (name_length t ∷ []) (filled (name_of enc t) (name_length t) out) out,
)

-- ---- the last rows of both openers

-- For code: their end by the rows.
pub text_ends : (enc mac id t out : List ℕ) → EndsExactly (open_text_rows enc mac id t) (name_length t ∷ []) (filled (name_of enc t) (name_length t) out) out (open_text enc mac id t out)
unfolding open_text_rows open_text
text_ends enc mac id t out = ends_exactly (open_text_rows enc mac id t) refl (name_length t ∷ []) (filled (name_of enc t) (name_length t) out) out

-- Where no row before them applies, an opener ends by them.
module _ (threshold : ℕ) (enc mac id : List ℕ) (limits : threshold_right threshold ≡ true) (keyed : master_keys_right enc mac ≡ true) (placed : id_right id ≡ true) where
  pub plain_by_text : (t out : List ℕ) → (not (text_right t) || not (short threshold (length t))) ≡ false → ltb (length out) (name_length t) ≡ false
      → open_name threshold enc mac id t out ≡ open_text enc mac id t out
  unfolding open_name open_name_rows open_text answer
  plain_by_text t out text roomy = rw (limits, keyed, placed, text, roomy)

  pub long_by_text : (s t out : List ℕ) → text_right t ≡ true → ltb (length out) (name_length t) ≡ false → (short threshold (length t) || not (same s (hash_name t))) ≡ false
      → open_long_name threshold enc mac id s t out ≡ open_text enc mac id t out
  unfolding open_long_name open_long_name_rows open_text answer
  long_by_text s t out right roomy pair = rw (limits, keyed, placed, right, roomy, pair)

-- ---- what is written where no row applies

module _ (threshold : ℕ) (enc mac id name stored full : List ℕ) where
  -- The name writer then ends in e.
  abbrev pub Written : NameEnd → Type 0
  Written e =
      let f = full_name enc mac id name in
      let n = full_length (length name) in
      name_ended (done (written_lengths threshold n)) (filled (stored_name threshold f) (stored_length threshold n) stored) (cond (short threshold n) full (filled f n full)) ≡ e

  -- A full name that is stored as it is, of n characters.
  pub plain-written : (n : ℕ) → n ≡ full_length (length name) → n ≤ threshold → Written (name_ended (done (n ∷ [])) (filled (full_name enc mac id name) n stored) full)
  unfolding stored_name
  plain-written n e h = let s : short threshold n ≡ true = le-leb n threshold h in rw (length-full enc mac id name, ← e, s)

  -- A shortened one.
  pub long_written : (n : ℕ) → n ≡ full_length (length name) → threshold < n
      → Written (name_ended (done (hash_length ∷ n ∷ [])) (filled (hash_name (full_name enc mac id name)) hash_length stored) (filled (full_name enc mac id name) n full))
  unfolding stored_name
  long_written n e h = let s : short threshold n ≡ false = lt-leb n threshold h in rw (length-full enc mac id name, ← e, s)
