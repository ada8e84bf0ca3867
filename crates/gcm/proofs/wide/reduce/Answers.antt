-- `reduce`: the last word, and then what has become of the one before it.
-- Assumes nothing.
use Prim.Native.Nat.{◌^◌, ◌<◌}
use mathlib.Core.Path.{◌∙◌}
use borrow.Author.Rules.{rules}
use Rattle.gcm.proofs.WideNumbers.{four_reduced}
use Rattle.gcm.proofs.wide.reduce.Goals as goal

pub returns : goal.returns
returns c =
    let small : let z = c.args.z in
    let f = c.fold-f.result in
    (z.b < 2 ^ 64) × (z.c < 2 ^ 64) × (z.d < 2 ^ 64) × (f.hi < 2 ^ 64) × (f.lo < 2 ^ 64) = (search rules, search rules, search rules, search rules, search rules) in
    let z = c.args.z in
    let f = c.fold-f.result in
    let s = small in
    c.bitxor.ensures
    ∙ four_reduced z.a z.b z.c z.d f.hi f.lo _ s.0 s.1 s.2 s.3 s.4 c.fold-f.ensures c.fold.ensures
