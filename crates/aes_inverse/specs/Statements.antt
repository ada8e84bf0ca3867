-- What the theorems say of the inverse cipher. `proofs/` proves each under its name.
-- Assumes nothing.
use Rattle.std.specs.Prelude.{◌≡◌, List, ℕ, ◌<◌, length}
use Rattle.octets.specs.Bytes.{Bytes}
use Rattle.aes_spec.specs.SBox.{sbox}
use Rattle.aes_spec.specs.Cipher.{aes}
use Rattle.aes_inverse.specs.InverseSBox.{inverse_sbox}
use Rattle.aes_inverse.specs.InverseCipher.{inverse_aes}

-- At each of the 256 bytes the inverse S-box undoes the S-box, and the S-box it.
abbrev pub SBoxUndone : Type 0
SBoxUndone = (b : ℕ) → b < 256 → (inverse_sbox (sbox b) ≡ b) × (sbox (inverse_sbox b) ≡ b)

-- A block: 16 bytes.
pub record Block (s : List ℕ) : Type 0 where
  pub size : length s ≡ 16
  pub bytes : Bytes s

-- Two functions take blocks to blocks, and each undoes the other.
pub record Inverses (e d : List ℕ → List ℕ) : Type 0 where
  pub forward : {s : List ℕ} → Block s → Block (e s)
  pub backward : {s : List ℕ} → Block s → Block (d s)
  pub undone : {s : List ℕ} → Block s → d (e s) ≡ s
  pub redone : {s : List ℕ} → Block s → e (d s) ≡ s

-- For every key and every block the inverse of AES undoes AES, and AES undoes it. Any nk, and any byte string as key: the
-- expansion reads 4 nk bytes, of a longer key the first, and zeros behind a shorter one. So the standard's keys, of 4 nk bytes for nk = 4, 6 and 8, are
-- among them.
abbrev pub AesUndone : Type 0
AesUndone = (nk : ℕ) (key : List ℕ) → Bytes key → Inverses (aes nk key) (inverse_aes nk key)
