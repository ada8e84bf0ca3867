-- What each row of each call asks for, in words of sizes, limits and bytes, with the format's numbers; row 12 asks for the synthetic IV, as
-- `name_good` tests it, and row 3 of the openers looks at the bytes of `name_of`. `Statements` says that the calls go by these rules, and which place row 5 bears.
-- Assumes nothing.
use Rattle.std.specs.Prelude.{◌≡◌, true, List, [], ◌∷◌, ◌++◌, ℕ, ◌≤◌, ◌<◌, length}
use Rattle.octets.specs.Bytes.{Below, Bytes}
use Rattle.octets.specs.Rows.{refused, refused_at, Rule}
use Rattle.encoding.specs.Base64url as base64url
use Rattle.utf8.specs.ProperText.{ProperText}
use Rattle.threshold.specs.Threshold.{ThresholdFits}
use Rattle.frame.specs.Rules.{KeySizes}
use Rattle.name_spec.specs.Names.{full_end, full_length, hash_name, name_length, name_of, name_good}
use Rattle.name_spec.specs.Places.{longest_full, text_broken_at}

-- A directory ID: at most 36 bytes, each below 128.
abbrev pub IdFits : List ℕ → Type 0
IdFits id = (length id ≤ 36) × Below 128 id

-- The size of a name: 1 to 1,020 bytes.
abbrev pub NameSize : List ℕ → Type 0
NameSize name = (1 ≤ length name) × (length name ≤ 1020)

-- A name: its size, and that it is the UTF-8 encoding of some scalar values, with no zero byte and no '/'.
abbrev pub NameFits : List ℕ → Type 0
NameFits name = NameSize name × ProperText name

-- The text form of a full name: base64url with padding of 17 to 1,036 bytes, and its end.
abbrev pub TextForm : List ℕ → Type 0
TextForm t = (s : List ℕ) × Bytes s × (17 ≤ length s) × (length s ≤ 1036) × (base64url.encode true s ++ full_end ≡ t)

-- Room for what is written of a full name of n characters: up to the threshold, the first buffer holds it; beyond, the first holds the 32
-- characters of its hash name, and the second the full name.
abbrev pub NameRoom : ℕ → ℕ → ℕ → ℕ → Type 0
NameRoom threshold storedRoom fullRoom n = (n ≤ threshold → n ≤ storedRoom) × (threshold < n → (32 ≤ storedRoom) × (n ≤ fullRoom))

module _ (enc mac id : List ℕ) where
  -- the path of a directory
  abbrev pub dir_path_rules : ℕ → List Rule
  dir_path_rules room =
      (KeySizes enc mac, refused 1)
      ∷ (IdFits id, refused 2)
      ∷ (36 ≤ room, refused 7)
      ∷ []

module _ (threshold : ℕ) (enc mac id : List ℕ) where
  -- the first rules of the three calls on names
  abbrev pub name_rules : List Rule → List Rule
  name_rules rules =
      (ThresholdFits threshold, refused 18)
      ∷ (KeySizes enc mac, refused 1)
      ∷ (IdFits id, refused 2)
      ∷ rules

  -- writing a name
  abbrev pub write_name_rules : List ℕ → ℕ → ℕ → List Rule
  write_name_rules name storedRoom fullRoom =
      name_rules
      ((NameFits name, refused 3)
      ∷ (NameRoom threshold storedRoom fullRoom (full_length (length name)), refused 7)
      ∷ [])

  -- opening the text t as a name that is stored as it is
  abbrev pub open_name_rules : List ℕ → ℕ → List Rule
  open_name_rules t room =
      name_rules
      ((TextForm t × (length t ≤ threshold), refused_at 5 (text_broken_at threshold t))
      ∷ (name_length t ≤ room, refused 7)
      ∷ (name_good enc mac id t ≡ true, refused 12)
      ∷ (ProperText (name_of enc t), refused 3)
      ∷ [])

  -- opening the stored name s with the full name t
  abbrev pub open_long_name_rules : List ℕ → List ℕ → ℕ → List Rule
  open_long_name_rules s t room =
      name_rules
      ((TextForm t, refused_at 5 (text_broken_at longest_full t))
      ∷ (name_length t ≤ room, refused 7)
      ∷ ((threshold < length t) × (s ≡ hash_name t), refused 11)
      ∷ (name_good enc mac id t ≡ true, refused 12)
      ∷ (ProperText (name_of enc t), refused 3)
      ∷ [])
