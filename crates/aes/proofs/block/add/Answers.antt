-- `add`: the sum of two blocks is that of their bytes.
-- Assumes nothing.
use Rattle.octets.specs.Words.{word_bytes}
use Rattle.octets.specs.Xors.{xors}
use Rattle.octets.proofs.Words.{bytes_are, xor_bytes, self}
use Rattle.aes.proofs.block.add.Goals as goal

pub returns : goal.returns
unfolding word_bytes xors
returns c =
    let x = c.args.x in
    let y = c.args.y in
    bytes_are (xor_bytes (self x.a) (self y.a)) (xor_bytes (self x.b) (self y.b)) (xor_bytes (self x.c) (self y.c)) (xor_bytes (self x.d) (self y.d))
