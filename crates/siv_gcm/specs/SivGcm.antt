-- The vault's cipher combo SIV_GCM, format 8: headers and chunks, after the format's sections on the encryption of file headers
-- and of file contents.
-- Assumes nothing.
use Rattle.std.specs.Prelude.{ℕ, ◌≡◌, Bool, true, List, [], ◌++◌, take, drop}
use Rattle.octets.specs.BigEndian.{be}
use Rattle.aes_spec.specs.Cipher.{aes}
use Rattle.gcm.specs.Gcm as gcm
use Rattle.frame.specs.Layout.{Sizes}
use Rattle.frame.specs.Frame.{Head, Codec, reserved_size, payload_of, master_keys_right}

-- A header has 68 bytes, a nonce 12, and a chunk adds a nonce and a tag of 16 bytes to its cleartext.
abbrev pub siv_gcm : Sizes
siv_gcm = record { header = 68; nonce = 12; overhead = 28 }

-- GCM over the block cipher e: the nonce n, the ciphertext of p, and the tag, which also covers the associated data a.
unfoldable pub sealed : (List ℕ → List ℕ) → List ℕ → List ℕ → List ℕ → List ℕ
sealed e a n p = n ++ gcm.seal e n a p

-- The tag of b is right under the nonce that b begins with; and the cleartext of b, whether or not it is.
unfoldable pub opens : (List ℕ → List ℕ) → List ℕ → List ℕ → Bool
opens e a b = gcm.good e (take 12 b) a (drop 12 b)

unfoldable pub opened : (List ℕ → List ℕ) → List ℕ → List ℕ
opened e b = gcm.plain e (take 12 b) (drop 12 b)

-- The tag of b is right, under some associated data.
abbrev pub Tagged : (List ℕ → List ℕ) → List ℕ → Type 0
Tagged e b = (a : List ℕ) × (opens e a b ≡ true)

-- The associated data of chunk i in a file whose header has the nonce n: the number, below 2^64, as 8 bytes, the highest first, and n.
unfoldable pub chunk_data : List ℕ → ℕ → List ℕ
chunk_data n i = be 8 i ++ n

-- Headers are under AES-256 with the encryption master key, and have no associated data. A header is good when its tag is right, whatever its
-- reserved bytes.
module _ (enc : List ℕ) where
  unfoldable pub header_of : Head → List ℕ
  header_of h = sealed (aes 8 enc) [] h.nonce (payload_of h)

  unfoldable pub head_of : List ℕ → Head
  head_of b =
      let payload = opened (aes 8 enc) b in
      record { nonce = take 12 b; reserved = take reserved_size payload; key = drop reserved_size payload }

  unfoldable pub header_good : List ℕ → Bool
  header_good b = opens (aes 8 enc) [] b

-- Under the encryption and the MAC master key. Files go by the first alone, yet both must have their size. Chunks are under AES-256 with
-- the content key.
module _ (enc mac : List ℕ) where
  abbrev pub codec : Codec
  codec =
      record {
        sizes = siv_gcm;
        keys_right = master_keys_right enc mac;
        header_of = header_of enc;
        chunk_of = λ h i n p. sealed (aes 8 h.key) (chunk_data h.nonce i) n p;
        head_of = head_of enc;
        header_good = header_good enc;
        good = λ h i c. opens (aes 8 h.key) (chunk_data h.nonce i) c;
        plain = λ h i c. opened (aes 8 h.key) c;
      }
