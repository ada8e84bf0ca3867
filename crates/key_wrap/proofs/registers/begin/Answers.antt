-- `begin`: two blocks of the key behind the initial value.
-- Assumes nothing.
use Rattle.key_wrap.proofs.Parts.{begun}
use Rattle.key_wrap.proofs.registers.begin.Goals as goal

pub returns : goal.returns
returns c =
    let p = c.block_at-p in
    let q = c.block_at-q in
    begun p.result.a p.result.b p.result.c p.result.d q.result.a q.result.b q.result.c q.result.d c.args.key.now c.requires p.ensures q.ensures
