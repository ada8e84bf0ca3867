-- `rotated_sum`: the bytes of the rotated words.
-- Assumes nothing.
use Rattle.std.proofs.Common.{arith}
use Rattle.octets.proofs.Words.{xor_bytes, self}
use Rattle.aes.proofs.Rotations.{right_8, right_16, right_24}
use Rattle.aes.proofs.rotate.rotated_sum.Goals as goal

pub returns : goal.returns
returns c =
    let x = c.args in
    xor_bytes
    (xor_bytes (xor_bytes (self x.p) (right_8 x.q (omega arith) c.rotate_right.ensures)) (right_16 x.r (omega arith) c.rotate_right-2.ensures))
    (right_24 x.s (omega arith) c.rotate_right-3.ensures)
