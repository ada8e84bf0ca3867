-- What GCM promises, over any block cipher that gives 16 bytes, and what a table stands for. `proofs/Laws.antt` and
-- `proofs/Products.antt` prove each under its name.
-- Assumes nothing.
use Rattle.std.specs.Prelude.{ℕ, ◌+◌, ◌-◌, ◌≡◌, true, List, length}
use Rattle.ctr.specs.Ctr.{BlockCipher}
use Rattle.octets.specs.Bytes.{Bytes}
use Rattle.gcm.specs.Field.{next}
use Rattle.gcm.specs.Gcm.{seal, good, plain}
use Rattle.gcm.specs.Table.{entry_of, Entries}

-- What was sealed opens to what went in.
abbrev pub SealedOpens : Type 0
SealedOpens = (e : List ℕ → List ℕ) → BlockCipher e → (iv a p : List ℕ) → (good e iv a (seal e iv a p) ≡ true) × (plain e iv (seal e iv a p) ≡ p)

-- A sealed text that opens is what sealing writes for its cleartext.
abbrev pub OpenedWasSealed : Type 0
OpenedWasSealed = (e : List ℕ → List ℕ) → BlockCipher e → (iv a s : List ℕ) → good e iv a s ≡ true → s ≡ seal e iv a (plain e iv s)

-- Sealing adds the 16 bytes of the tag, and opening takes them away.
abbrev pub Lengths : Type 0
Lengths = (e : List ℕ → List ℕ) → BlockCipher e → (iv a p s : List ℕ) → (length (seal e iv a p) ≡ length p + 16) × (length (plain e iv s) ≡ length s - 16)

-- A byte string is sealed to a byte string, and opens to one, if the block cipher gives byte strings.
abbrev pub KeepsBytes : Type 0
KeepsBytes =
    (e : List ℕ → List ℕ) → ((s : List ℕ) → Bytes (e s)) → (iv a : List ℕ)
    → ((p : List ℕ) → Bytes p → Bytes (seal e iv a p)) × ((s : List ℕ) → Bytes s → Bytes (plain e iv s))

-- The entries of single bits: the first is h, and each further one is a step of V on, SP 800-38D, 6.3.
abbrev pub SingleBits : Type 0
SingleBits = (h : ℕ) (m : List ℕ) → Entries h m 16
    → (entry_of m 8 ≡ h) × (entry_of m 4 ≡ next h) × (entry_of m 2 ≡ next (next h)) × (entry_of m 1 ≡ next (next (next h)))

-- A table is that of one hash subkey only.
abbrev pub OneSubkey : Type 0
OneSubkey = (h k : ℕ) (m : List ℕ) → Entries h m 16 → Entries k m 16 → h ≡ k
