-- `signature_right`: 32 bytes, compared with the MAC.
-- Assumes nothing.
use mathlib.Core.Path.{◌≡◌, sym, ap, ap₂, ◌∙◌}
use mathlib.Core.Bool.{false}
use mathlib.Core.List.{append-nil}
use native.Mathlib.Omega.{arith}
use lib.ListN.{length}
use Rattle.octets.specs.Bytes.{same}
use Rattle.octets.proofs.Equality.{same_not}
use Rattle.octets.proofs.Lists.{placed_all}
use Rattle.encoding.specs.Base64url.{decoded}
use Rattle.hmac.specs.Hmac.{hmac_sha256}
use Rattle.hmac.proofs.Laws.{mac-bytes}
use Rattle.label.proofs.Decoding.{decoded-size}
use Rattle.label.proofs.signature.signature_right.Goals as goal

pub returns-then-decoded_length-ne32 : goal.returns-then-decoded_length-ne32
returns-then-decoded_length-ne32 c =
    let size : length (decoded false c.args.segment.now) ≡ c.decoded_length.result = decoded-size c.args.segment.now ∙ sym c.decoded_length.ensures in
    let k = c.args in
    sym (same_not _ _ λ e. c.if-decoded_length-ne32.true (sym (size) ∙ sym (ap length e) ∙ (mac-bytes k.raw_key.now k.signed.now).0))

pub decode-requires-clause-text_in_bounds : goal.decode-requires-clause-text_in_bounds
decode-requires-clause-text_in_bounds c =
    let size : length (decoded false c.args.segment.now) ≡ c.decoded_length.result = decoded-size c.args.segment.now ∙ sym c.decoded_length.ensures in
    omega (arith, size, c.if-decoded_length-ne32.false)

pub returns : goal.returns
returns c =
    let size : length (decoded false c.args.segment.now) ≡ c.decoded_length.result = decoded-size c.args.segment.now ∙ sym c.decoded_length.ensures in
    let k = c.args in
    let m = c.mac-tag.ensures ∙ ap (hmac_sha256 k.raw_key.now) (append-nil k.signed.now) in
    let g = c.decode.ensures ∙ placed_all (decoded false k.segment.now) _ (omega (arith, size, c.if-decoded_length-ne32.false)) in
    c.equal.ensures ∙ ap₂ same m g
