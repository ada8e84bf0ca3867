-- What decoding a base64url text ends in: the status, the buffer, the number of bytes written, which a refusal leaves as it was, and the place of a broken text, which
-- anything else leaves.
-- Assumes nothing.
use Rattle.std.specs.Prelude.{ℕ, cond, List, leb, length}
use Rattle.octets.specs.Bytes.{placed}
use Rattle.encoding.specs.Base64url.{accepted, decoded}
use Rattle.encoding.specs.Broken.{broken_at}
use Rattle.primitives.specs.Results.{is_set}

pub record DecodeEnd : Type 0 where
  pub status : ℕ
  pub buffer : List ℕ
  pub written : ℕ
  pub at : ℕ

abbrev pub decode_end : ℕ → List ℕ → ℕ → ℕ → DecodeEnd
decode_end status buffer written at = record { status = status; buffer = buffer; written = written; at = at }

unfoldable pub base64url_bytes : List ℕ → ℕ → List ℕ → ℕ → ℕ → DecodeEnd
base64url_bytes text padded d n at =
    let p = is_set padded in
    let bytes = decoded p text in
    cond (accepted p text)
    (cond (leb (length bytes) (length d)) (decode_end 1 (placed bytes 0 d) (length bytes) at) (decode_end 0 d n at))
    (decode_end 0 d n (broken_at p text))
