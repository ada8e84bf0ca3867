-- What each call on names and directory paths ends in. enc and mac are the encryption and the MAC master key, id the directory's ID, and
-- threshold the vault's shortening threshold, which the path does not depend on.
-- Assumes nothing.
use Rattle.std.specs.Prelude.{ℕ, Bool, ◌&&◌, ◌||◌, not, cond, List, [], ◌∷◌, length, ltb}
use Rattle.octets.specs.Bytes.{filled, same}
use Rattle.octets.specs.Rows.{Outcome, done, refused, refused_at, Row, answer, End, ending, leaves}
use Rattle.frame.specs.Frame.{master_keys_right}
use Rattle.utf8.specs.ProperText.{proper_text}
use Rattle.threshold.specs.Threshold.{threshold_right}
use Rattle.name_spec.specs.Names.{id_right, name_right, path, full_name, full_length, hash_name, short, stored_name, text_right, name_length, name_of, name_good}
use Rattle.name_spec.specs.Places.{longest_full, text_broken_at}

-- ---- lengths of answers

-- The characters of a path.
abbrev pub path_length : ℕ
path_length = 36

-- The characters of a hash name.
abbrev pub hash_length : ℕ
hash_length = 32

module _ (threshold : ℕ) where
  -- The characters of what is stored for a full name of n characters.
  abbrev pub stored_length : ℕ → ℕ
  stored_length n = cond (short threshold n) n hash_length

  -- The lengths that a success returns for a full name of n characters: that one, if it is stored as it is; otherwise that of the hash
  -- name, and then that of the full name.
  abbrev pub written_lengths : ℕ → List ℕ
  written_lengths n = cond (short threshold n) (n ∷ []) (hash_length ∷ n ∷ [])

  -- Row 7 of the name writer: no room for the stored name or, if it is shortened, for the full name.
  abbrev pub lacks_room : ℕ → ℕ → ℕ → Bool
  lacks_room storedRoom fullRoom n = ltb storedRoom (stored_length n) || (not (short threshold n) && ltb fullRoom n)

-- ---- two buffers

-- What the name writer ends in: its answer, and what the buffers of the stored and of the full name hold afterwards.
pub record NameEnd : Type 0 where
  pub outcome : Outcome
  pub stored : List ℕ
  pub full : List ℕ

abbrev pub name_ended : Outcome → List ℕ → List ℕ → NameEnd
name_ended o stored full = record { outcome = o; stored = stored; full = full }

-- A success leaves the new contents, and a refusal leaves both buffers as they were.
abbrev pub name_ending : Outcome → List ℕ → List ℕ → List ℕ → List ℕ → NameEnd
name_ending o newStored newFull stored full = name_ended o (leaves o newStored stored) (leaves o newFull full)

-- ---- the calls

module _ (enc mac id : List ℕ) where
  -- the path of a directory: a key's size (1), the directory ID (2), the buffer too short (7)
  unfoldable pub dir_path_rows : ℕ → List Row
  dir_path_rows room =
      (not (master_keys_right enc mac), refused 1)
      ∷ (not (id_right id), refused 2)
      ∷ (ltb room path_length, refused 7)
      ∷ []

  unfoldable pub dir_path : List ℕ → End
  dir_path out = ending (answer (dir_path_rows (length out)) (done (path_length ∷ []))) (filled (path enc mac id) path_length out) out

  -- the last rows of both openers, for the full name t: the synthetic IV wrong (12), and only then the bytes no proper text (3)
  unfoldable pub open_text_rows : List ℕ → List Row
  open_text_rows t =
      (not (name_good enc mac id t), refused 12)
      ∷ (not (proper_text (name_of enc t)), refused 3)
      ∷ []

  -- For the code: how either opener ends where none of its rows before these applies.
  unfoldable pub open_text : List ℕ → List ℕ → End
  open_text t out = ending (answer (open_text_rows t) (done (name_length t ∷ []))) (filled (name_of enc t) (name_length t) out) out

module _ (threshold : ℕ) (enc mac id : List ℕ) where
  -- the first rows of the three calls on names: the threshold outside its limits (18), a key's size (1), the directory ID (2)
  abbrev pub name_rows : List Row → List Row
  name_rows rows =
      (not (threshold_right threshold), refused 18)
      ∷ (not (master_keys_right enc mac), refused 1)
      ∷ (not (id_right id), refused 2)
      ∷ rows

  -- writing a name: the first rows, a name of another size or no proper text (3), a buffer too short (7)
  unfoldable pub write_name_rows : List ℕ → ℕ → ℕ → List Row
  write_name_rows name storedRoom fullRoom =
      name_rows
      ((not (name_right name), refused 3)
      ∷ (lacks_room threshold storedRoom fullRoom (full_length (length name)), refused 7)
      ∷ [])

  -- The second buffer gets the full name of a shortened name, and is left as it was by any other.
  unfoldable pub write_name : List ℕ → List ℕ → List ℕ → NameEnd
  write_name name stored full =
      let f = full_name enc mac id name in
      let n = full_length (length name) in
      name_ending (answer (write_name_rows name (length stored) (length full)) (done (written_lengths threshold n)))
      (filled (stored_name threshold f) (stored_length threshold n) stored) (cond (short threshold n) full (filled f n full)) stored full

  -- opening the text t as a name that is stored as it is: the first rows, the text form broken or more characters than the threshold (5,
  -- with the place), the buffer too short (7), and the last rows of both openers
  unfoldable pub open_name_rows : List ℕ → ℕ → List Row
  open_name_rows t room =
      name_rows
      ((not (text_right t) || not (short threshold (length t)), refused_at 5 (text_broken_at threshold t))
      ∷ (ltb room (name_length t), refused 7)
      ∷ open_text_rows enc mac id t)

  unfoldable pub open_name : List ℕ → List ℕ → End
  open_name t out = ending (answer (open_name_rows t (length out)) (done (name_length t ∷ []))) (filled (name_of enc t) (name_length t) out) out

  -- opening a stored name s with its full name t: the first rows, the full name's text form broken (5, with the place), the buffer too short (7),
  -- no more characters of the full name than the threshold or s not its hash name (11), and the last rows of both openers
  unfoldable pub open_long_name_rows : List ℕ → List ℕ → ℕ → List Row
  open_long_name_rows s t room =
      name_rows
      ((not (text_right t), refused_at 5 (text_broken_at longest_full t))
      ∷ (ltb room (name_length t), refused 7)
      ∷ (short threshold (length t) || not (same s (hash_name t)), refused 11)
      ∷ open_text_rows enc mac id t)

  unfoldable pub open_long_name : List ℕ → List ℕ → List ℕ → End
  open_long_name s t out =
      ending (answer (open_long_name_rows s t (length out)) (done (name_length t ∷ []))) (filled (name_of enc t) (name_length t) out) out
