-- `read`: three blocks, of which the last two overlap.
-- Assumes nothing.
use Rattle.key_wrap.proofs.Parts.{read_in}
use Rattle.key_wrap.proofs.registers.read.Goals as goal

pub returns : goal.returns
returns c =
    let p = c.block_at-p in
    let q = c.block_at-q in
    let r = c.block_at-r in
    read_in p.result.a p.result.b p.result.c p.result.d q.result.a q.result.b q.result.c q.result.d r.result.c r.result.d r.result.a r.result.b c.args.s.now c.requires p.ensures q.ensures r.ensures
