-- The decoder of base64url is the inverse of the encoder, exactly; and lengths.
-- Assumes nothing.
use Prim.Native.Nat.{ℕ, ◌-◌, ◌*◌, ◌/◌}
use mathlib.Core.Path.{◌≡◌, refl, sym, ap, ◌∙◌}
use mathlib.Core.List.{List, map}
use mathlib.Core.Bool.{Bool, true, false, ◌&&◌}
use native.Mathlib.Omega.{arith}
use lib.ListN.{length, length-map}
use lib.Seq.{length-take-le}
use Rattle.octets.proofs.Equality.{and_true}
use Rattle.encoding.specs.Base64url.{sextets, canonical, letter, value, known, pad, pad_length, body, whole, encode, accepted, decoded, encoded_length}
use Rattle.encoding.specs.Broken.{broken_at}
use Rattle.encoding.specs.Measures.{answer, measure_of}
use Rattle.std.proofs.Common.{Ok}
use Rattle.encoding.specs.Statements.{EncodedDecodes, DecodedWasEncoded, EncodedLength, DecodedLength, AcceptedIsMeasured, MeasuredIsAccepted}
use Rattle.encoding.proofs.Sextets.{octets-sextets, canonical-sextets, sextets_below, sextets-octets, octets_below, not_one, length-sextets, length-octets}
use Rattle.encoding.proofs.Characters.{values-letters, known-letters, letters-values, values_below}
use Rattle.encoding.proofs.Padding.{length-pad, whole-pad, body-pad, pad-body}

pub encoded_decodes : EncodedDecodes
unfolding accepted decoded encode
encoded_decodes p b h =
    let t = map letter (sextets b) in
    let k = sextets_below b h in
    let v : map value t ≡ sextets b = values-letters (sextets b) k in
    let e : body p (pad p t) ≡ t = body-pad p t (known-letters (sextets b) k) (λ r. not_one b (rw length-map at r)) in
    (rw (whole-pad p t, e, known-letters (sextets b) k, v) (canonical-sextets b), rw (e, v) (octets-sextets b h))

-- What an accepted text is.
pub accepted_facts : (p : Bool) (t : List ℕ) → accepted p t ≡ true → (whole p t ≡ true) × (known (body p t) ≡ true) × (canonical (map value (body p t)) ≡ true)
unfolding accepted
accepted_facts p t h =
    let a = and_true (whole p t && known (body p t)) (canonical (map value (body p t))) h in
    let b = and_true (whole p t) (known (body p t)) a.0 in
    (b.0, b.1, a.1)

pub decoded_was_encoded : DecodedWasEncoded
unfolding decoded encode
decoded_was_encoded p t h =
    let a = accepted_facts p t h in
    let v = values_below (body p t) a.1 in
    (sym (ap (λ (l : List ℕ). pad p (map letter l)) (sextets-octets (map value (body p t)) v a.2) ∙ ap (pad p) (letters-values (body p t) a.1) ∙ pad-body p t a.0), octets_below (map value (body p t)) v)

pub encoded-length : EncodedLength
unfolding encode encoded_length pad
encoded-length true b = length-pad (map letter (sextets b)) ∙ omega (arith, length-map (sextets b) letter, length-sextets b)
encoded-length false b = length-map (sextets b) letter ∙ length-sextets b

pub decoded-length : DecodedLength
unfolding decoded body
decoded-length p t =
    let l : length (body p t) ≡ length t - pad_length p t = length-take-le (length t - pad_length p t) t (omega arith) in
    length-octets (map value (body p t)) ∙ ap (λ (n : ℕ). n * 3 / 4) (length-map (body p t) value ∙ l)

pub accepted_is_measured : AcceptedIsMeasured
unfolding measure_of
accepted_is_measured p t h = ap (λ (b : Bool). answer b (length (decoded p t)) (broken_at p t)) h

pub measured_is_accepted : MeasuredIsAccepted
unfolding measure_of
measured_is_accepted p t n h = go (accepted p t) refl h
  where
    go : (b : Bool) → accepted p t ≡ b → answer b (length (decoded p t)) (broken_at p t) ≡ Ok n → (accepted p t ≡ true) × (length (decoded p t) ≡ n)
    go true e h = (e, cc)
    go false e h = (cc, cc)
