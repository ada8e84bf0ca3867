-- `decode`: the bytes of the body.
-- Assumes nothing.
use Prim.Native.Nat.{ℕ, ◌-◌}
use mathlib.Core.Path.{◌≡◌, sym, ap, ◌∙◌}
use mathlib.Core.List.{List}
use native.Mathlib.Omega.{arith}
use lib.ListN.{length, take}
use lib.Seq.{length-take-le}
use Rattle.octets.specs.Bytes.{placed}
use Rattle.encoding.specs.Base64url.{known, decoded}
use Rattle.encoding.proofs.Laws.{accepted_facts, decoded-length}
use Rattle.encoding.proofs.Answers.{body_is}
use Rattle.encoding.proofs.Texts.{bytes_of}
use Rattle.encoding.proofs.base64url.decode.Goals as goal

pub pad_length-requires : goal.pad_length-requires
pad_length-requires c = (accepted_facts c.args.padded c.args.text.now c.requires.text_value).0

pub slice_bounds-decode_body-end : goal.slice_bounds-decode_body-end
slice_bounds-decode_body-end c = sym (length-take-le _ c.args.text.now (omega arith))

pub decode_body-requires : goal.decode_body-requires
decode_body-requires c =
    let p = c.args.padded in
    let t = c.args.text.now in
    let l = c.pad_length in
    let n : length (take (length t - l.result) t) ≡ length t - l.result = length-take-le (length t - l.result) t (omega arith) in record { text_value = ap known (body_is p t _ l.ensures.0) ∙ (accepted_facts p t c.requires.text_value).1; text_in_bounds = omega (arith, decoded-length p t, c.requires.text_in_bounds, l.ensures.0) }

pub returns : goal.returns
unfolding decoded
returns c =
    let x = c.args in
    c.decode_body.ensures
    ∙ ap (λ (b : List ℕ). placed (bytes_of b) 0 x.out.now) (body_is x.padded x.text.now _ c.pad_length.ensures.0)
