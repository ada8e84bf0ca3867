-- What each exported function ends in: its status, 1 for done and 0 for refused, and what its buffer holds then.
-- Assumes nothing.
use Rattle.std.specs.Prelude.{ℕ, ◌+◌, ◌-◌, ◌^◌, Bool, ◌&&◌, not, cond, List, eqb, ltb, leb, length, Option, Some, None}
use Rattle.octets.specs.Bytes.{placed}
use Rattle.aes_spec.specs.Cipher.{aes}
use Rattle.aes_inverse.specs.InverseCipher.{inverse_aes}
use Rattle.ctr.specs.Ctr.{inc128, inc_of, ctr}
use Rattle.gcm.specs.Gcm.{seal, good, plain}
use Rattle.encoding.specs.Base32 as base32
use Rattle.encoding.specs.Base64url as base64url
use Rattle.sha1_hash.specs.Message.{sha1}
use Rattle.sha256.specs.Message.{sha256}
use Rattle.hmac.specs.Hmac.{hmac_sha256}
use Rattle.siv.specs.Cmac.{cmac}
use Rattle.siv.specs.Siv as siv
use Rattle.siv.specs.Pieces.{pieces}

pub record End : Type 0 where
  pub status : ℕ
  pub buffer : List ℕ

abbrev pub end : ℕ → List ℕ → End
end status buffer = record { status = status; buffer = buffer }

-- The answer s at the front of the buffer d, if the test holds; else d as it was.
unfoldable pub done_if : Bool → List ℕ → List ℕ → End
done_if test s d = cond test (end 1 (placed s 0 d)) (end 0 d)

-- The sizes that AES-256 takes of a key, a block and a buffer.
unfoldable pub aes_fits : List ℕ → List ℕ → List ℕ → Bool
aes_fits key block d = eqb (length key) 32 && eqb (length block) 16 && leb 16 (length d)

unfoldable pub aes256 : List ℕ → List ℕ → List ℕ → End
aes256 key block d = done_if (aes_fits key block d) (aes 8 key block) d

unfoldable pub aes256_decrypt : List ℕ → List ℕ → List ℕ → End
aes256_decrypt key block d = done_if (aes_fits key block d) (inverse_aes 8 key block) d

-- The sizes that GCM takes here, of a text of n bytes. SP 800-38D, 5.2.1.1: fewer than 2^61 bytes of associated data, and at
-- most 2^36 - 32 of text.
unfoldable pub gcm_fits : List ℕ → List ℕ → List ℕ → ℕ → Bool
gcm_fits key nonce aad n = eqb (length key) 32 && eqb (length nonce) 12 && ltb (length aad) (2 ^ 61) && leb n (2 ^ 36 - 32)

unfoldable pub gcm_seal : List ℕ → List ℕ → List ℕ → List ℕ → List ℕ → End
gcm_seal key nonce aad cleartext d =
    done_if (gcm_fits key nonce aad (length cleartext) && leb (length cleartext + 16) (length d))
    (seal (aes 8 key) nonce aad cleartext) d

unfoldable pub gcm_open : List ℕ → List ℕ → List ℕ → List ℕ → List ℕ → End
gcm_open key nonce aad sealed d =
    done_if
    (leb 16 (length sealed) && gcm_fits key nonce aad (length sealed - 16) && leb (length sealed - 16) (length d)
    && good (aes 8 key) nonce aad sealed)
    (plain (aes 8 key) nonce sealed) d

-- A number that is not 0 says yes.
abbrev pub is_set : ℕ → Bool
is_set n = not (eqb n 0)

-- Counter mode with a counter of 128 bits.
unfoldable pub ctr128 : List ℕ → List ℕ → List ℕ → List ℕ → End
ctr128 key first text d =
    done_if (eqb (length key) 32 && eqb (length first) 16 && leb (length text) (length d)) (ctr inc128 (aes 8 key) first text) d

-- Counter mode in place, with a counter of 128 bits or of 32.
unfoldable pub ctr_in_place : List ℕ → List ℕ → ℕ → List ℕ → End
ctr_in_place key first wide text = done_if (eqb (length key) 32 && eqb (length first) 16) (ctr (inc_of (is_set wide)) (aes 8 key) first text) text

unfoldable pub cmac256 : List ℕ → List ℕ → List ℕ → End
cmac256 key message d = done_if (eqb (length key) 32 && leb 16 (length d)) (cmac (aes 8 key) message) d

-- The associated data, if it is given.
abbrev pub ad_of : ℕ → List ℕ → Option (List ℕ)
ad_of given ad = cond (is_set given) (Some ad) None

-- The sizes that SIV takes here, of a text of n bytes.
unfoldable pub siv_fits : List ℕ → List ℕ → ℕ → Bool
siv_fits mac enc n = eqb (length mac) 32 && eqb (length enc) 32 && leb n 1024

unfoldable pub siv_seal : List ℕ → List ℕ → ℕ → List ℕ → List ℕ → List ℕ → End
siv_seal mac enc given ad cleartext d =
    done_if (siv_fits mac enc (length cleartext) && leb (length cleartext + 16) (length d))
    (siv.seal (aes 8 mac) (aes 8 enc) (pieces (ad_of given ad)) cleartext) d

unfoldable pub siv_open : List ℕ → List ℕ → ℕ → List ℕ → List ℕ → List ℕ → End
siv_open mac enc given ad sealed d =
    done_if
    (leb 16 (length sealed) && siv_fits mac enc (length sealed - 16) && leb (length sealed - 16) (length d)
    && siv.good (aes 8 mac) (aes 8 enc) (pieces (ad_of given ad)) sealed)
    (siv.plain (aes 8 enc) sealed) d

unfoldable pub sha1_digest : List ℕ → List ℕ → End
sha1_digest message d = done_if (leb 20 (length d)) (sha1 message) d

unfoldable pub sha256_digest : List ℕ → List ℕ → End
sha256_digest message d = done_if (leb 32 (length d)) (sha256 message) d

unfoldable pub hmac_sha256_mac : List ℕ → List ℕ → List ℕ → End
hmac_sha256_mac key message d = done_if (leb 32 (length d)) (hmac_sha256 key message) d

unfoldable pub base32_text : List ℕ → List ℕ → End
base32_text bytes d = done_if (eqb (length bytes) 20 && leb 32 (length d)) (base32.encode bytes) d

unfoldable pub base64url_text : List ℕ → ℕ → List ℕ → End
base64url_text bytes padded d =
    done_if (leb (length bytes) (2 ^ 32) && leb (base64url.encoded_length (is_set padded) (length bytes)) (length d))
    (base64url.encode (is_set padded) bytes) d

-- The status that tells how a test ended.
abbrev pub told : Bool → ℕ
told test = cond test 1 0
