-- Four words as one number.
-- Assumes nothing.
use Rattle.octets.proofs.BigEndian.{int-state}
use Rattle.gcm.proofs.ghash.ElementFromBlock.from.Goals as goal

pub returns : goal.returns
returns c =
    let x = c.args.x in
    int-state x.a x.b x.c x.d
