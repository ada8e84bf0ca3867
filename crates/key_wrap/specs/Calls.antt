-- What each call on wrapped keys ends in: the wrapping and the unwrapping of a master key with AES-256 under the key-encryption key kek.
-- Assumes nothing.
use Rattle.std.specs.Prelude.{not, ◌&&◌, List, [], ◌∷◌, ℕ, length, ltb, eqb}
use Rattle.octets.specs.Bytes.{filled}
use Rattle.octets.specs.Rows.{done, refused, Row, answer, End, ending}
use Rattle.aes_spec.specs.Cipher.{aes}
use Rattle.aes_inverse.specs.InverseCipher.{inverse_aes}
use Rattle.key_wrap.specs.KeyWrap.{wrap, good, plain}

-- The bytes of a key, and of a wrapped key.
abbrev pub key_size : ℕ
key_size = 32

abbrev pub wrapped_size : ℕ
wrapped_size = 40

module _ (kek : List ℕ) where
  -- wrapping a key: the size of the key-encryption key or of the key (1), the buffer too short (7)
  unfoldable pub wrap_key_rows : List ℕ → ℕ → List Row
  wrap_key_rows key room =
      (not (eqb (length kek) key_size && eqb (length key) key_size), refused 1)
      ∷ (ltb room wrapped_size, refused 7)
      ∷ []

  unfoldable pub wrap_key : List ℕ → List ℕ → End
  wrap_key key out = ending (answer (wrap_key_rows key (length out)) (done (wrapped_size ∷ []))) (filled (wrap (aes 8 kek) key) wrapped_size out) out

  -- unwrapping the wrapped key c: the size of the key-encryption key (1), of the wrapped key (4), the buffer too short (7), the check value wrong (20)
  unfoldable pub unwrap_key_rows : List ℕ → ℕ → List Row
  unwrap_key_rows c room =
      (not (eqb (length kek) key_size), refused 1)
      ∷ (not (eqb (length c) wrapped_size), refused 4)
      ∷ (ltb room key_size, refused 7)
      ∷ (not (good (inverse_aes 8 kek) c), refused 20)
      ∷ []

  unfoldable pub unwrap_key : List ℕ → List ℕ → End
  unwrap_key c out = ending (answer (unwrap_key_rows c (length out)) (done (key_size ∷ []))) (filled (plain (inverse_aes 8 kek) c) key_size out) out
