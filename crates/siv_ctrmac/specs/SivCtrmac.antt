-- The vault's older cipher combo SIV_CTRMAC: headers and chunks, after the format's sections on the encryption of file headers and of file
-- contents.
-- Assumes nothing.
use Rattle.std.specs.Prelude.{ℕ, ◌-◌, ◌≡◌, Bool, true, List, [], ◌++◌, length, take, drop}
use Rattle.octets.specs.Bytes.{same}
use Rattle.octets.specs.BigEndian.{be}
use Rattle.aes_spec.specs.Cipher.{aes}
use Rattle.ctr.specs.Ctr.{inc128, ctr}
use Rattle.hmac.specs.Hmac.{hmac_sha256}
use Rattle.frame.specs.Layout.{Sizes}
use Rattle.frame.specs.Frame.{Head, Codec, reserved_size, payload_of, master_keys_right}

-- A header has 88 bytes, a nonce 16, and a chunk adds a nonce and a MAC of 32 bytes to its cleartext.
abbrev pub siv_ctrmac : Sizes
siv_ctrmac = record { header = 88; nonce = 16; overhead = 48 }

-- AES-CTR over the block cipher e: the nonce n, as it is, is the first counter block, and the counter is the whole block, modulo 2^128.
abbrev pub crypt : (List ℕ → List ℕ) → List ℕ → List ℕ → List ℕ
crypt e n p = ctr inc128 e n p

-- Under the block cipher e and the MAC m: the nonce n, the ciphertext of p, and the MAC of the data a, the nonce and the ciphertext.
unfoldable pub sealed : (List ℕ → List ℕ) → (List ℕ → List ℕ) → List ℕ → List ℕ → List ℕ → List ℕ
sealed e m a n p =
    let covered = n ++ crypt e n p in
    covered ++ m (a ++ covered)

-- The last 32 bytes of b are the MAC, of 32 bytes, of a and the bytes before them; and the cleartext of b, whether or not they are. Fewer than 48
-- bytes hold no nonce and MAC: row 4 refuses them before.
unfoldable pub opens : (List ℕ → List ℕ) → List ℕ → List ℕ → Bool
opens m a b = same (m (a ++ take (length b - 32) b)) (drop (length b - 32) b)

unfoldable pub opened : (List ℕ → List ℕ) → List ℕ → List ℕ
opened e b = crypt e (take 16 b) (take (length b - 48) (drop 16 b))

-- The MAC of b is right, under some key and data, which need not be known where b is only deciphered.
abbrev pub Tagged : List ℕ → Type 0
Tagged b = (k : List ℕ) × (a : List ℕ) × (opens (hmac_sha256 k) a b ≡ true)

-- What the MAC of chunk i covers before the chunk's nonce and ciphertext, in a file whose header has the nonce n: n, and then, unlike in SIV_GCM,
-- the number, below 2^64, as 8 bytes, the highest first.
unfoldable pub chunk_data : List ℕ → ℕ → List ℕ
chunk_data n i = n ++ be 8 i

-- Under the encryption and the MAC master key. Headers are under AES-256 with the first, and their MAC covers nothing before them; chunks are
-- under AES-256 with the content key; the MAC is HMAC-SHA-256 under the second. A header is good when its MAC is right, whatever its reserved
-- bytes.
module _ (enc mac : List ℕ) where
  unfoldable pub header_of : Head → List ℕ
  header_of h = sealed (aes 8 enc) (hmac_sha256 mac) [] h.nonce (payload_of h)

  unfoldable pub head_of : List ℕ → Head
  head_of b =
      let payload = opened (aes 8 enc) b in
      record { nonce = take 16 b; reserved = take reserved_size payload; key = drop reserved_size payload }

  unfoldable pub header_good : List ℕ → Bool
  header_good b = opens (hmac_sha256 mac) [] b

  abbrev pub codec : Codec
  codec =
      record {
        sizes = siv_ctrmac;
        keys_right = master_keys_right enc mac;
        header_of = header_of;
        chunk_of = λ h i n p. sealed (aes 8 h.key) (hmac_sha256 mac) (chunk_data h.nonce i) n p;
        head_of = head_of;
        header_good = header_good;
        good = λ h i c. opens (hmac_sha256 mac) (chunk_data h.nonce i) c;
        plain = λ h i c. opened (aes 8 h.key) c;
      }
