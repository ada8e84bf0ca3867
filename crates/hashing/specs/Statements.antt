-- What holds of the definitions. `proofs/Laws.antt` proves each under its name.
-- Assumes nothing.
use Rattle.std.specs.Prelude.{ℕ, ◌+◌, ◌-◌, ◌*◌, ◌%◌, ◌^◌, ◌<◌, ◌≡◌, List, ◌++◌, length, drop}
use Rattle.octets.specs.BigEndian.{int}
use Rattle.octets.specs.Bytes.{Below, Bytes}
use Rattle.hashing.specs.Message.{zeros, padded, digest}
use Rattle.hashing.specs.Running.{State, Running, Updated, finished}

-- 5.1.1: after the bit 1 come k zero bits, of which 7 are in the byte 0x80, and k is the least solution of l + 1 + k = 448 modulo 512,
-- where l is the message's length in bits: it is below 512.
abbrev pub LeastPadding : Type 0
LeastPadding = (n : ℕ) → ((8 * n + 1 + (7 + 8 * zeros n)) % 512 ≡ 448) × (7 + 8 * zeros n < 512)

-- 5.1.1: the padded message is whole blocks.
abbrev pub WholeBlocks : Type 0
WholeBlocks = (m : List ℕ) → length (padded m) % 64 ≡ 0

-- 5.1.1: its last eight bytes are the message's length in bits.
abbrev pub LengthAtTheEnd : Type 0
LengthAtTheEnd = (m : List ℕ) → int (drop (length (padded m) - 8) (padded m)) ≡ 8 * length m % 2 ^ 64

-- A hash value of k words.
abbrev pub HashValue : ℕ → List ℕ → Type 0
HashValue k h = (length h ≡ k) × Below (2 ^ 32) h

-- What follows holds of every compression function.
module _ (compress : List ℕ → List ℕ → List ℕ) where
  -- Where the initial hash value and all that `compress` gives are k words, the digest is 4 * k bytes.
  abbrev pub DigestBytes : Type 0
  DigestBytes =
      (k : ℕ) → ((h m : List ℕ) → HashValue k (compress h m)) → (h m : List ℕ) → HashValue k h
      → (length (digest compress h m) ≡ 4 * k) × Bytes (digest compress h m)

  -- Updated with s, a state after the message m is one after m and s.
  abbrev pub RunsOn : Type 0
  RunsOn = (h : List ℕ) (t r : State) (m s : List ℕ) → Running compress h t m → Updated compress t s r → Running compress h r (m ++ s)

  -- A state after the message m gives the digest of m at the end.
  abbrev pub EndsInDigest : Type 0
  EndsInDigest = (h : List ℕ) (t : State) (m : List ℕ) → Running compress h t m → finished compress t ≡ digest compress h m
