-- Names and directory paths of the vault, format 8, after the format's sections Directory IDs, Filename Encryption and
-- Name Shortening. Names, IDs and texts are byte strings; a character is its ASCII code.
-- Assumes nothing.
use Rattle.std.specs.Prelude.{ℕ, ◌+◌, ◌-◌, Bool, true, ◌&&◌, cond, List, [], ◌∷◌, ◌++◌, length, take, drop, ltb, leb}
use Rattle.octets.specs.Bytes.{same}
use Rattle.utf8.specs.ProperText.{proper_text}
use Rattle.aes_spec.specs.Cipher.{aes}
use Rattle.siv.specs.Siv as siv
use Rattle.sha1_hash.specs.Message.{sha1}
use Rattle.encoding.specs.Base32 as base32
use Rattle.encoding.specs.Base64url as base64url

-- ---- limits

-- The most bytes of a directory ID.
abbrev pub id_limit : ℕ
id_limit = 36

-- The most bytes of a name.
abbrev pub name_limit : ℕ
name_limit = 1020

-- The bytes that SIV adds to a cleartext.
abbrev pub iv_size : ℕ
iv_size = 16

-- ---- directory IDs and names

-- Each byte is below 128.
unfoldable pub ascii : List ℕ → Bool
ascii [] = true
ascii (a ∷ s) = ltb a 128 && ascii s

-- At most 36 bytes, all ASCII; the root directory has the empty ID.
unfoldable pub id_right : List ℕ → Bool
id_right id = leb (length id) id_limit && ascii id

-- A name has 1 to 1,020 bytes, and is proper text: well-formed UTF-8, with no zero byte and no '/'.
unfoldable pub name_right : List ℕ → Bool
name_right name = leb 1 (length name) && leb (length name) name_limit && proper_text name

-- ---- fixed parts of texts

-- "/d/"
abbrev pub data_folder : List ℕ
data_folder = 0x2f ∷ 0x64 ∷ 0x2f ∷ []

-- "/"
abbrev pub slash : List ℕ
slash = 0x2f ∷ []

-- ".c9r", at the end of a full name
abbrev pub full_end : List ℕ
full_end = 0x2e ∷ 0x63 ∷ 0x39 ∷ 0x72 ∷ []

-- ".c9s", at the end of a hash name
abbrev pub hash_end : List ℕ
hash_end = 0x2e ∷ 0x63 ∷ 0x39 ∷ 0x73 ∷ []

-- ---- what is stored

-- Under AES-256: CMAC with the MAC master key, counter mode with the encryption master key.
module _ (enc mac : List ℕ) where
  -- The directory ID is sealed with no associated data.
  unfoldable pub sealed_id : List ℕ → List ℕ
  sealed_id id = siv.seal (aes 8 mac) (aes 8 enc) [] id

  -- What was sealed is hashed, and the digest encoded.
  unfoldable pub id_hash : List ℕ → List ℕ
  id_hash id = base32.encode (sha1 (sealed_id id))

  -- The path of a directory, from the vault's root on: its hash in two parts, of 2 and of 30 characters.
  unfoldable pub path : List ℕ → List ℕ
  path id = data_folder ++ take 2 (id_hash id) ++ slash ++ drop 2 (id_hash id)

  -- The name is sealed with the ID of its parent directory as the one string of associated data, also where that ID is empty.
  unfoldable pub sealed_name : List ℕ → List ℕ → List ℕ
  sealed_name id name = siv.seal (aes 8 mac) (aes 8 enc) (id ∷ []) name

  -- The full name, the format's ciphertextName: base64url with padding of the sealed name, and its end.
  unfoldable pub full_name : List ℕ → List ℕ → List ℕ
  full_name id name = base64url.encode true (sealed_name id name) ++ full_end

-- How many characters the full name of a name of n bytes has.
abbrev pub full_length : ℕ → ℕ
full_length n = base64url.encoded_length true (n + iv_size) + length full_end

-- The hash name, the format's deflatedName: base64url with padding of the digest of a full name with its end, and another end.
unfoldable pub hash_name : List ℕ → List ℕ
hash_name full = base64url.encode true (sha1 full) ++ hash_end

-- A full name of n characters is stored as it is, in a vault with this threshold.
abbrev pub short : ℕ → ℕ → Bool
short threshold n = leb n threshold

-- The stored name: a short full name itself, and the hash name of a longer one.
unfoldable pub stored_name : ℕ → List ℕ → List ℕ
stored_name threshold full = cond (short threshold (length full)) full (hash_name full)

-- ---- the text form of a full name

-- The characters before the end ".c9r".
abbrev pub stem : List ℕ → List ℕ
stem t = take (length t - length full_end) t

-- The bytes that the stem stands for: a sealed name.
unfoldable pub sealed_of : List ℕ → List ℕ
sealed_of t = base64url.decoded true (stem t)

-- How many bytes the sealed name has without its synthetic IV.
unfoldable pub name_length : List ℕ → ℕ
name_length t = length (sealed_of t) - iv_size

-- The text form: the text ends in ".c9r"; before it stands base64url with padding, which `accepted` defines (alphabet, padding, zero pad
-- bits); and that stands for 17 to 1,036 bytes, the lengths that a sealed name can have.
unfoldable pub text_right : List ℕ → Bool
text_right t =
    same (drop (length t - length full_end) t) full_end
    && base64url.accepted true (stem t)
    && leb (1 + iv_size) (length (sealed_of t))
    && leb (length (sealed_of t)) (name_limit + iv_size)

-- The bytes that a text in this form stands for; they count only where the synthetic IV matches, and are a name only where they are proper text.
unfoldable pub name_of : List ℕ → List ℕ → List ℕ
name_of enc t = siv.plain (aes 8 enc) (sealed_of t)

-- The synthetic IV of the text matches in the directory.
unfoldable pub name_good : List ℕ → List ℕ → List ℕ → List ℕ → Bool
name_good enc mac id t = siv.good (aes 8 mac) (aes 8 enc) (id ∷ []) (sealed_of t)
