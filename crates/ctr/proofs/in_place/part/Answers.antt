-- `part`: the bytes of the enciphered block from its byte r on are added.
-- Assumes nothing.
use Rattle.std.proofs.Common.{◌≡◌, ◌-◌, length, take, drop, ap, ◌∙◌}
use Rattle.octets.specs.Words.{word_bytes}
use Rattle.octets.specs.Xors.{xors}
use Rattle.octets.proofs.Lists.{part-rest}
use Rattle.aes_spec.specs.Cipher.{cipher}
use Rattle.aes.specs.Blocks.{state}
use Rattle.ctr.proofs.in_place.part.Goals as goal

pub returns : goal.returns
unfolding word_bytes
returns c =
    let b = c.to_bytes-bytes in
    let e = c.encrypt in
    let x = c.args in
    let q : take (16 - x.r) (drop x.r b.result) ≡ drop x.r (cipher 14 x.w.now (state x.c)) =
    part-rest b.result 16 x.r (ap length b.ensures) ∙ ap (drop x.r) (b.ensures ∙ e.ensures) in
    c.xor_into.ensures ∙ ap (xors x.text.now) q
