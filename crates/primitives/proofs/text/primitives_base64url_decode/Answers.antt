-- `primitives_base64url_decode`: a text that is refused with its place, no room, and the bytes.
-- Assumes nothing.
use Prim.Native.Nat.{ℕ, ◌≤◌, ◌<◌}
use mathlib.Core.Path.{◌≡◌, sym, ◌∙◌, ap, ap₂}
use mathlib.Core.Bool.{true, false}
use mathlib.Core.List.{List}
use borrow.Author.Tests.{le-leb, lt-leb}
use native.Mathlib.Omega.{arith}
use lib.ListN.{length}
use Rattle.octets.specs.Bytes.{placed}
use Rattle.encoding.specs.Base64url as spec
use Rattle.encoding.specs.Broken.{broken_at}
use Rattle.encoding.proofs.Answers.{refused-text}
use Rattle.encoding.proofs.Laws.{measured_is_accepted}
use Rattle.primitives.specs.Results.{is_set}
use Rattle.primitives.specs.Decoding.{decode_end, base64url_bytes}
use Rattle.primitives.proofs.text.primitives_base64url_decode.Goals as goal

-- The end by its tests.
module _ (text : List ℕ) (padded : ℕ) (d : List ℕ) (n at : ℕ) where
  refused_end : spec.accepted (is_set padded) text ≡ false → decode_end 0 d n (broken_at (is_set padded) text) ≡ base64url_bytes text padded d n at
  unfolding base64url_bytes
  refused_end e = rw e

  module _ (e : spec.accepted (is_set padded) text ≡ true) where
    no_room_end : length d < length (spec.decoded (is_set padded) text) → decode_end 0 d n at ≡ base64url_bytes text padded d n at
    unfolding base64url_bytes
    no_room_end h = rw (e, lt-leb (length (spec.decoded (is_set padded) text)) (length d) h)

    done_end : length (spec.decoded (is_set padded) text) ≤ length d
        → decode_end 1 (placed (spec.decoded (is_set padded) text) 0 d) (length (spec.decoded (is_set padded) text)) at ≡ base64url_bytes text padded d n at
    unfolding base64url_bytes
    done_end h = rw (e, le-leb (length (spec.decoded (is_set padded) text)) (length d) h)

pub returns-then-out-n : goal.returns-then-out-n
returns-then-out-n c =
    let x = c.args in
    let f = measured_is_accepted (is_set x.padded) x.text.now c.in-Ok.n (sym c.check.ensures ∙ c.in-Ok.is) in
    no_room_end x.text.now x.padded x.out.now x.written.now x.at.now f.0 (omega (arith, f.1, c.if-out-n.true))

pub decode-requires : goal.decode-requires
decode-requires c =
    let f = measured_is_accepted (is_set c.args.padded) c.args.text.now c.in-Ok.n (sym c.check.ensures ∙ c.in-Ok.is) in
    record { text_value = f.0; text_in_bounds = omega (arith, f.1, c.if-out-n.false) }

pub returns-in-Err : goal.returns-in-Err
returns-in-Err c =
    let x = c.args in
    let b = refused-text (is_set x.padded) x.text.now c.in-Err.broken.0 (sym c.check.ensures ∙ c.in-Err.is) in
    ap (decode_end 0 x.out.now x.written.now) b.1 ∙ refused_end x.text.now x.padded x.out.now x.written.now x.at.now b.0

pub returns-else-out-n : goal.returns-else-out-n
returns-else-out-n c =
    let x = c.args in
    let f = measured_is_accepted (is_set x.padded) x.text.now c.in-Ok.n (sym c.check.ensures ∙ c.in-Ok.is) in
    ap₂ (λ (b : List ℕ) (n : ℕ). decode_end 1 b n x.at.now) c.decode.ensures (sym f.1)
    ∙ done_end x.text.now x.padded x.out.now x.written.now x.at.now f.0 (omega (arith, f.1, c.if-out-n.false))
