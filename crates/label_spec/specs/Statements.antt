-- What is said of the label. `proofs/Theorems.antt` proves each under its name, and `proofs/Reading.antt` `reads_exactly`.
-- Assumes nothing.
use Rattle.std.specs.Prelude.{ℕ, ◌≤◌, ◌≡◌, false, ◌↔◌, ◌⊎◌, List, [], ◌∷◌, length}
use Rattle.std.proofs.Math.Option.{some}
use Rattle.octets.specs.Bytes.{Bytes}
use Rattle.octets.specs.Rows.{done, refused, refused_at, number, AnswersBy, numbers}
use Rattle.hmac.specs.Hmac.{hmac_sha256}
use Rattle.threshold.specs.Threshold.{ThresholdFits}
use Rattle.json_grammar.specs.Members.{text, whole, Member, given}
use Rattle.json_grammar.specs.Objects.{ObjectText}
use Rattle.label_spec.specs.Label.{alg_name, format_name, combo_name, threshold_name, hs256, siv_gcm_name, siv_ctrmac_name, Reading, combo_number, reading, said, open_label}
use Rattle.label_spec.specs.Rules.{signed_text, label_text, Reads, Unsigned, BrokenSegment, open_label_rules}

-- It says HS256, and its signature is right.
abbrev pub Signed : List ℕ → Reading → Type 0
Signed key r = (r.alg ≡ hs256) × (hmac_sha256 key r.signed ≡ r.signature)

abbrev pub KnownCombo : Reading → Type 0
KnownCombo r = (r.combo ≡ siv_gcm_name) ⊎ (r.combo ≡ siv_ctrmac_name)

-- The opening goes by its rules, exactly, in this order.
abbrev pub LabelRowsExactly : Type 0
LabelRowsExactly =
    (key l : List ℕ)
    → AnswersBy (open_label_rules key l) (combo_number (said l).combo ∷ (said l).threshold.1 ∷ []) (open_label key l)
    × (numbers (open_label_rules key l) ≡ 1 ∷ 13 ∷ 14 ∷ 15 ∷ 16 ∷ 17 ∷ 18 ∷ [])

-- What is read of a label is what it says.
abbrev pub ReadsExactly : Type 0
ReadsExactly = (l : List ℕ) (r : Reading) → (reading l ≡ some r) ↔ Reads l r

-- Under a raw key of 64 bytes row 13 is given exactly where a label says nothing; and of one that says r, each row beyond exactly where this holds of r.
abbrev pub RowsOfReadings : Type 0
RowsOfReadings =
    (key l : List ℕ) → length key ≡ 64
    → ((number (open_label key l) ≡ 13) ↔ ((r : Reading) → Reads l r → ⊥))
    × ((r : Reading) → Reads l r
    → ((open_label key l ≡ refused 14) ↔ (r.alg ≡ hs256 → ⊥))
    × ((open_label key l ≡ refused 15) ↔ ((r.alg ≡ hs256) × (hmac_sha256 key r.signed ≡ r.signature → ⊥)))
    × ((open_label key l ≡ refused 16) ↔ (Signed key r × (Unsigned r.format (λ n. n ≡ 8) → ⊥)))
    × ((open_label key l ≡ refused 17) ↔ (Signed key r × Unsigned r.format (λ n. n ≡ 8) × (KnownCombo r → ⊥)))
    × ((open_label key l ≡ refused 18) ↔ (Signed key r × Unsigned r.format (λ n. n ≡ 8) × KnownCombo r × (Unsigned r.threshold ThresholdFits → ⊥))))

-- Row 13 bears the place p exactly when the raw key has 64 bytes and, size and dots being right, the first broken segment is so at p. It bears none exactly when the
-- raw key has 64 bytes, the label says nothing, and no segment is broken or the size or the dots are wrong.
abbrev pub SegmentPlaces : Type 0
SegmentPlaces =
    (key l : List ℕ)
    → ((p : ℕ) → (open_label key l ≡ refused_at 13 p) ↔ ((length key ≡ 64) × BrokenSegment l p))
    × ((open_label key l ≡ refused 13) ↔ ((length key ≡ 64) × ((r : Reading) → Reads l r → ⊥) × ((p : ℕ) → BrokenSegment l p → ⊥)))

-- A label says one thing only.
abbrev pub OneReading : Type 0
OneReading = (l : List ℕ) (r q : Reading) → Reads l r → Reads l q → r ≡ q

-- A label that opens under a key: it is that of a header, a payload and a signature; header and payload are JSON objects, whose members are given once with
-- these values; and the signature is the MAC of what is signed.
pub record Opens (key l : List ℕ) (combo : List ℕ) (threshold : ℕ) : Type 0 where
  pub key-size : length key ≡ 64
  pub size : length l ≤ 4096
  pub header : List ℕ
  pub payload : List ℕ
  pub header-bytes : Bytes header
  pub payload-bytes : Bytes payload
  pub label : label_text header payload (hmac_sha256 key (signed_text header payload)) ≡ l
  pub header-members : List Member
  pub payload-members : List Member
  pub header_object : ObjectText header-members header
  pub payload_object : ObjectText payload-members payload
  pub alg : given alg_name header-members ≡ text hs256 ∷ []
  pub format : given format_name payload-members ≡ whole false 8 ∷ []
  pub cipher-combo : given combo_name payload-members ≡ text combo ∷ []
  pub shortening_threshold : given threshold_name payload-members ≡ whole false threshold ∷ []
  pub fits : ThresholdFits threshold

-- A label opens to a combo's number and a threshold exactly when its cipherCombo is SIV_GCM and the number 1, or SIV_CTRMAC and 2, and the threshold is its own.
abbrev pub OpensExactly : Type 0
OpensExactly =
    (key l : List ℕ) (combo threshold : ℕ)
    → (open_label key l ≡ done (combo ∷ threshold ∷ []))
    ↔ (((combo ≡ 1) × Opens key l siv_gcm_name threshold) ⊎ ((combo ≡ 2) × Opens key l siv_ctrmac_name threshold))
