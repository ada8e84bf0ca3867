-- What SIV promises, over any block cipher that gives 16 bytes. `proofs/Laws.antt` proves each under its name.
-- Assumes nothing.
use Rattle.std.specs.Prelude.{ℕ, ◌+◌, ◌-◌, ◌≡◌, true, List, length}
use Rattle.ctr.specs.Ctr.{BlockCipher}
use Rattle.octets.specs.Bytes.{Bytes}
use Rattle.siv.specs.Siv.{seal, good, plain}

-- What was sealed opens to what went in.
abbrev pub SealedOpens : Type 0
SealedOpens =
    (mac enc : List ℕ → List ℕ) → BlockCipher mac → BlockCipher enc → (ads : List (List ℕ)) (p : List ℕ)
    → (good mac enc ads (seal mac enc ads p) ≡ true) × (plain enc (seal mac enc ads p) ≡ p)

-- A sealed text that opens is what sealing writes for its cleartext.
abbrev pub OpenedWasSealed : Type 0
OpenedWasSealed =
    (mac enc : List ℕ → List ℕ) → BlockCipher mac → BlockCipher enc → (ads : List (List ℕ)) (z : List ℕ)
    → good mac enc ads z ≡ true → z ≡ seal mac enc ads (plain enc z)

-- Sealing adds the 16 bytes of the synthetic IV, and opening takes them away.
abbrev pub Lengths : Type 0
Lengths =
    (mac enc : List ℕ → List ℕ) → BlockCipher mac → BlockCipher enc → (ads : List (List ℕ)) (p z : List ℕ)
    → (length (seal mac enc ads p) ≡ length p + 16) × (length (plain enc z) ≡ length z - 16)

-- A byte string is sealed to a byte string, and opens to one, if the block ciphers give byte strings.
abbrev pub KeepsBytes : Type 0
KeepsBytes =
    (mac enc : List ℕ → List ℕ) → ((s : List ℕ) → Bytes (mac s)) → ((s : List ℕ) → Bytes (enc s)) → (ads : List (List ℕ))
    → ((p : List ℕ) → Bytes p → Bytes (seal mac enc ads p)) × ((z : List ℕ) → Bytes z → Bytes (plain enc z))
