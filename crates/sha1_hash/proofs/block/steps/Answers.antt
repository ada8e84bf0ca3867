-- `steps`: the four runs of 20 steps.
-- Assumes nothing.
use Rattle.std.proofs.Common.{sym, ap, ◌∙◌, rules}
use Rattle.sha1_hash.specs.Compression.{steps}
use Rattle.sha1_hash.specs.Working.{variables}
use Rattle.sha1_hash.proofs.Steps.{eighty, uses}
use Rattle.sha1_hash.proofs.block.steps.Goals as goal

pub twenty_steps-y-requires-clause-uses : goal.twenty_steps-y-requires-clause-uses
twenty_steps-y-requires-clause-uses c = uses 0 _ (λ b c d r v. search rules)

pub twenty_steps-z-requires-clause-uses : goal.twenty_steps-z-requires-clause-uses
twenty_steps-z-requires-clause-uses c = uses 1 _ (λ b c d r v. search rules)

pub twenty_steps-v-requires-clause-uses : goal.twenty_steps-v-requires-clause-uses
twenty_steps-v-requires-clause-uses c = uses 2 _ (λ b c d r v. search rules)

pub twenty_steps-requires-clause-uses : goal.twenty_steps-requires-clause-uses
twenty_steps-requires-clause-uses c = uses 3 _ (λ b c d r v. search rules)

pub returns : goal.returns
returns c =
    let x = c.args in
    let w = x.w.now in
    c.twenty_steps.ensures
    ∙ ap (steps w 60 20) (c.twenty_steps-v.ensures ∙ ap (steps w 40 20) (c.twenty_steps-z.ensures ∙ ap (steps w 20 20) c.twenty_steps-y.ensures))
    ∙ sym (eighty w (variables x.x))
