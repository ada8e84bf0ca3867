-- What the theorems say of names and directory paths. `proofs/` proves each under its name.
-- Assumes nothing.
use Rattle.std.specs.Prelude.{◌≡◌, Bool, true, false, cond, ◌↔◌, ◌⊎◌, List, [], ◌∷◌, ◌++◌, ℕ, ◌-◌, ◌≤◌, ◌<◌, length, replicate}
use Rattle.octets.specs.Bytes.{Bytes, filled, same}
use Rattle.octets.specs.Rows.{done, refused, refused_at, Rule, Exactly, EndsBy, numbers, End, ended, Succeeded}
use Rattle.aes_spec.specs.Cipher.{aes}
use Rattle.siv.specs.Siv.{s2v}
use Rattle.encoding.specs.Base64url as base64url
use Rattle.encoding.specs.Places.{Place}
use Rattle.utf8.specs.ProperText.{ProperText}
use Rattle.threshold.specs.Threshold.{ThresholdFits}
use Rattle.frame.specs.Rules.{KeySizes}
use Rattle.name_spec.specs.Names.{full_end, path, full_name, full_length, hash_name, short, stored_name, name_length, name_of}
use Rattle.name_spec.specs.Calls.{path_length, stored_length, written_lengths, NameEnd, name_ended, dir_path, write_name, open_name, open_long_name}
use Rattle.name_spec.specs.Rules.{IdFits, NameSize, NameFits, TextForm, NameRoom, dir_path_rules, write_name_rules, open_name_rules, open_long_name_rules}

-- Two master keys of 32 bytes, and a directory ID of at most 36 bytes, each below 128.
pub record Directory (enc mac id : List ℕ) : Type 0 where
  pub keys : KeySizes enc mac
  pub id_fits : IdFits id
  pub enc-bytes : Bytes enc
  pub mac-bytes : Bytes mac

-- Bytes of the size of a name that are not proper text.
abbrev pub NotText : List ℕ → Type 0
NotText name = NameSize name × Bytes name × (ProperText name → ⊥)

-- How the end e of an opener goes by whether the synthetic IV matches, and by whether the bytes are proper text.
abbrev pub MovesTo : Bool → List ℕ → List ℕ → End → Type 0
MovesTo matches name out e =
    ((e ≡ ended (refused 12) out) ↔ (matches ≡ false))
    × ((e ≡ ended (refused 3) out) ↔ ((matches ≡ true) × (ProperText name → ⊥)))
    × ((e ≡ ended (done (length name ∷ [])) (filled name (length name) out)) ↔ ((matches ≡ true) × ProperText name))

-- A call with two buffers goes by rules, as `EndsBy` says it of one.
abbrev pub NameEndsBy : List Rule → List ℕ → List ℕ → List ℕ → List ℕ → List ℕ → NameEnd → Type 0
NameEndsBy rules l newStored newFull stored full e =
    Exactly (λ o. e ≡ name_ended o stored full) (e ≡ name_ended (done l) newStored newFull) (Unit {0}) rules

-- The path of a directory has 36 characters, a hash name 32, and a full name the number that its name's length fixes. Any keys. The room that
-- a text in the text form asks for is that of the bytes which it stands for, without the 16 of the synthetic IV.
abbrev pub TextLengths : Type 0
TextLengths =
    ((enc mac id name full : List ℕ)
    → (length (path enc mac id) ≡ 36)
    × (length (hash_name full) ≡ 32)
    × (length (full_name enc mac id name) ≡ full_length (length name)))
    × ((s : List ℕ) → Bytes s → name_length (base64url.encode true s ++ full_end) ≡ length s - 16)

-- The longest full name has 1,388 characters: no name has a longer one, 1,020 bytes of proper text are a name and have as long a one, n times the
-- letter a is a name exactly for n from 1 to 1,020, and no text in the text form is longer. Any keys and directory ID.
abbrev pub LongestNames : Type 0
LongestNames =
    ((enc mac id name : List ℕ) → NameSize name → length (full_name enc mac id name) ≤ 1388)
    × ((enc mac id name : List ℕ) → length name ≡ 1020 → ProperText name → NameFits name × (length (full_name enc mac id name) ≡ 1388))
    × ((n : ℕ) → NameFits (replicate n 0x61) ↔ ((1 ≤ n) × (n ≤ 1020)))
    × ((t : List ℕ) → TextForm t → length t ≤ 1388)

-- The path is written exactly when the keys and the directory ID fit and there is room; and then its characters are those of `path`. It depends on no threshold.
abbrev pub PathWritesExactly : List ℕ → List ℕ → List ℕ → Type 0
PathWritesExactly enc mac id =
    (out : List ℕ)
    → (Succeeded (dir_path enc mac id out) ↔ (KeySizes enc mac × IdFits id × (36 ≤ length out)))
    × (KeySizes enc mac → IdFits id → 36 ≤ length out → dir_path enc mac id out ≡ ended (done (length (path enc mac id) ∷ [])) (filled (path enc mac id) (length (path enc mac id)) out))

module _ (threshold : ℕ) (enc mac id : List ℕ) where
  -- The calls go by their rules, exactly; a success leaves what is written or opened at the front of the buffer, and the full name of a
  -- shortened name in the second buffer. Any keys, and any number as threshold.
  abbrev pub NameRowsExactly : Type 0
  NameRowsExactly =
      ((out : List ℕ) → EndsBy (dir_path_rules enc mac id (length out)) (path_length ∷ []) (filled (path enc mac id) path_length out) out (dir_path enc mac id out))
      × ((name stored full : List ℕ) →
      let f = full_name enc mac id name in
      let n = full_length (length name) in
      NameEndsBy (write_name_rules threshold enc mac id name (length stored) (length full)) (written_lengths threshold n)
      (filled (stored_name threshold f) (stored_length threshold n) stored) (cond (short threshold n) full (filled f n full)) stored full (write_name threshold enc mac id name stored full))
      × ((t out : List ℕ)
      → EndsBy (open_name_rules threshold enc mac id t (length out)) (name_length t ∷ []) (filled (name_of enc t) (name_length t) out) out (open_name threshold enc mac id t out))
      × ((s t out : List ℕ)
      → EndsBy (open_long_name_rules threshold enc mac id s t (length out)) (name_length t ∷ []) (filled (name_of enc t) (name_length t) out) out (open_long_name threshold enc mac id s t out))

  -- The numbers of the rules, in the order in which they are tried. Row 18 comes first, and behind it they ascend, so that with `NameRowsExactly` the lowest of the
  -- rows that apply is given; except in the two openers, where row 3 comes last, behind row 12, since the bytes count only where the synthetic IV matches.
  abbrev pub NamesAscend : Type 0
  NamesAscend =
      ((room : ℕ) → numbers (dir_path_rules enc mac id room) ≡ 1 ∷ 2 ∷ 7 ∷ [])
      × ((name : List ℕ) (storedRoom fullRoom : ℕ) → numbers (write_name_rules threshold enc mac id name storedRoom fullRoom) ≡ 18 ∷ 1 ∷ 2 ∷ 3 ∷ 7 ∷ [])
      × ((t : List ℕ) (room : ℕ) → numbers (open_name_rules threshold enc mac id t room) ≡ 18 ∷ 1 ∷ 2 ∷ 5 ∷ 7 ∷ 12 ∷ 3 ∷ [])
      × ((s t : List ℕ) (room : ℕ) → numbers (open_long_name_rules threshold enc mac id s t room) ≡ 18 ∷ 1 ∷ 2 ∷ 5 ∷ 7 ∷ 11 ∷ 12 ∷ 3 ∷ [])

  -- Each of the three calls on names gives row 18, and leaves every buffer as it was, exactly when the threshold is below 36 or above 220; whatever the keys,
  -- the directory ID, the name, the texts and the room.
  abbrev pub OutsideThreshold : Type 0
  OutsideThreshold =
      ((name stored full : List ℕ) → (write_name threshold enc mac id name stored full ≡ name_ended (refused 18) stored full) ↔ ((threshold < 36) ⊎ (220 < threshold)))
      × ((t out : List ℕ) → (open_name threshold enc mac id t out ≡ ended (refused 18) out) ↔ ((threshold < 36) ⊎ (220 < threshold)))
      × ((s t out : List ℕ) → (open_long_name threshold enc mac id s t out ≡ ended (refused 18) out) ↔ ((threshold < 36) ⊎ (220 < threshold)))

  -- Each opener gives row 5 with the place p, and leaves the buffer as it was, exactly when the threshold, the keys and the directory ID fit and the text is broken at
  -- p: the plain opener among the texts in the text form that have at most as many characters as the threshold, the other among all that are in the text form.
  abbrev pub TextPlaces : Type 0
  TextPlaces =
      ((t out : List ℕ) (p : ℕ)
      → (open_name threshold enc mac id t out ≡ ended (refused_at 5 p) out)
      ↔ (ThresholdFits threshold × KeySizes enc mac × IdFits id × Place (λ u. TextForm u × (length u ≤ threshold)) t p))
      × ((s t out : List ℕ) (p : ℕ)
      → (open_long_name threshold enc mac id s t out ≡ ended (refused_at 5 p) out)
      ↔ (ThresholdFits threshold × KeySizes enc mac × IdFits id × Place TextForm t p))

  -- A name is written exactly when the threshold, the keys, the directory ID and the name fit and there is room.
  abbrev pub NameWritesExactly : Type 0
  NameWritesExactly =
      (name stored full : List ℕ)
      → ((lengths : List ℕ) × ((write_name threshold enc mac id name stored full).outcome ≡ done lengths))
      ↔ (ThresholdFits threshold × KeySizes enc mac × IdFits id × NameFits name × NameRoom threshold (length stored) (length full) (length (full_name enc mac id name)))

  -- And then what is written opens in the same directory to the name that went in: a full name of at most as many characters as the threshold by
  -- itself, a longer one with its hash name.
  abbrev pub NameWrittenOpens : Type 0
  NameWrittenOpens =
      (name stored full into : List ℕ) → ThresholdFits threshold → Directory enc mac id → NameFits name → NameRoom threshold (length stored) (length full) (length (full_name enc mac id name))
      → length name ≤ length into →
      let f = full_name enc mac id name in
      let e = write_name threshold enc mac id name stored full in
      let opened = ended (done (length name ∷ [])) (filled name (length name) into) in
      (length f ≤ threshold
      → (e ≡ name_ended (done (length f ∷ [])) (filled f (length f) stored) full) × (open_name threshold enc mac id f into ≡ opened))
      × (threshold < length f
      → (e ≡ name_ended (done (length (hash_name f) ∷ length f ∷ [])) (filled (hash_name f) (length (hash_name f)) stored) (filled f (length f) full))
      × (open_long_name threshold enc mac id (hash_name f) f into ≡ opened))

  -- Given room, which is asked for only where the text form and the length are right, a text opens exactly when the threshold fits and the text has at most as many
  -- characters and is the full name of some name in this directory; and then to that name.
  abbrev pub NameOpensExactly : Type 0
  NameOpensExactly =
      (t out : List ℕ) → Directory enc mac id → (TextForm t → length t ≤ threshold → name_length t ≤ length out)
      → (Succeeded (open_name threshold enc mac id t out) ↔ (ThresholdFits threshold × ((name : List ℕ) × NameFits name × (full_name enc mac id name ≡ t) × (length t ≤ threshold))))
      × ((name : List ℕ) → ThresholdFits threshold → NameFits name → full_name enc mac id name ≡ t → length t ≤ threshold
      → open_name threshold enc mac id t out ≡ ended (done (length name ∷ [])) (filled name (length name) out))

  -- Given room, which is asked for only where the text form is right, a stored name and a full name open exactly when the threshold fits, the full name has more
  -- characters and is that of some name in this directory, and the stored name is its hash name; and then to that name.
  abbrev pub LongNameOpensExactly : Type 0
  LongNameOpensExactly =
      (s t out : List ℕ) → Directory enc mac id → (TextForm t → name_length t ≤ length out)
      → (Succeeded (open_long_name threshold enc mac id s t out)
      ↔ (ThresholdFits threshold × ((name : List ℕ) × NameFits name × (full_name enc mac id name ≡ t) × (threshold < length t) × (s ≡ hash_name t))))
      × ((name : List ℕ) → ThresholdFits threshold → NameFits name → full_name enc mac id name ≡ t → threshold < length t → s ≡ hash_name t
      → open_long_name threshold enc mac id s t out ≡ ended (done (length name ∷ [])) (filled name (length name) out))

  -- An opener gives row 3, and writes nothing, exactly when the threshold fits, the text is the full name in this directory of 1 to 1,020 bytes that are not proper
  -- text, and there is room for them; with at most as many characters as the threshold by itself, with more beside its hash name.
  abbrev pub NotTextExactly : Type 0
  NotTextExactly =
      ((t out : List ℕ) → Directory enc mac id
      → (open_name threshold enc mac id t out ≡ ended (refused 3) out)
      ↔ (ThresholdFits threshold × ((name : List ℕ) × NotText name × (full_name enc mac id name ≡ t) × (length t ≤ threshold) × (length name ≤ length out))))
      × ((s t out : List ℕ) → Directory enc mac id
      → (open_long_name threshold enc mac id s t out ≡ ended (refused 3) out)
      ↔ (ThresholdFits threshold × ((name : List ℕ) × NotText name × (full_name enc mac id name ≡ t) × (threshold < length t) × (length name ≤ length out) × (s ≡ hash_name t))))

  -- A byte string of 1 to 1,020 bytes has a full name in the directory `from`, with any ID. Moved here, that text is refused with 12 exactly when its synthetic
  -- IV here is another than there; otherwise it opens to the same bytes where they are proper text, and gets row 3 where they are not.
  abbrev pub MovedNameExactly : Type 0
  MovedNameExactly =
      (from name out : List ℕ) → ThresholdFits threshold → Directory enc mac id → NameSize name → Bytes name → length name ≤ length out →
      let f = full_name enc mac from name in
      let matches = same (s2v (aes 8 mac) (id ∷ name ∷ [])) (s2v (aes 8 mac) (from ∷ name ∷ [])) in
      (length f ≤ threshold → MovesTo matches name out (open_name threshold enc mac id f out))
      × (threshold < length f → MovesTo matches name out (open_long_name threshold enc mac id (hash_name f) f out))

  -- Buffers of at least 220 and 1,388 bytes have room for whatever is written of a name, and one of at least 1,020 bytes for whatever is
  -- opened: row 7 is not given. Any number as threshold, any keys, directory ID, name and texts.
  abbrev pub RoomForAny : Type 0
  RoomForAny =
      ((name stored full : List ℕ) → 220 ≤ length stored → 1388 ≤ length full → (write_name threshold enc mac id name stored full).outcome ≡ refused 7 → ⊥)
      × ((t out : List ℕ) → 1020 ≤ length out → (open_name threshold enc mac id t out).outcome ≡ refused 7 → ⊥)
      × ((s t out : List ℕ) → 1020 ≤ length out → (open_long_name threshold enc mac id s t out).outcome ≡ refused 7 → ⊥)

-- A full name is that of one byte string only, whatever the directory; so it is not that of a name and of other bytes too.
abbrev pub OneName : Type 0
OneName =
    (enc mac id other a b : List ℕ) → Bytes enc → Bytes mac → Bytes a → Bytes b → full_name enc mac id a ≡ full_name enc mac other b → a ≡ b

-- Demand 1, of the calls on names and directory paths.
abbrev pub NameDemandOne : Type 0
NameDemandOne = (threshold : ℕ) (enc mac id : List ℕ) → NameRowsExactly threshold enc mac id × NamesAscend threshold enc mac id × OutsideThreshold threshold enc mac id × TextPlaces threshold enc mac id

-- Demand 2, of names and directory paths: they are written exactly where they fit, reading gives back what was written, and nothing else is read:
-- a text that stands for other bytes than a name is told by row 3. And the longest names, with the room that is enough for any.
abbrev pub NameDemandTwo : Type 0
NameDemandTwo =
    ((enc mac id : List ℕ) → PathWritesExactly enc mac id)
    × ((threshold : ℕ) (enc mac id : List ℕ)
    → NameWritesExactly threshold enc mac id × NameWrittenOpens threshold enc mac id
    × NameOpensExactly threshold enc mac id × LongNameOpensExactly threshold enc mac id × NotTextExactly threshold enc mac id × MovedNameExactly threshold enc mac id
    × RoomForAny threshold enc mac id)
    × OneName
    × TextLengths
    × LongestNames
