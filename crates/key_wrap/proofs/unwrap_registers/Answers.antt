-- `unwrap_registers`: under the schedule of the key-encryption key.
-- Assumes nothing.
use Rattle.std.proofs.Common.{refl, sym, ◌∙◌}
use Rattle.octets.specs.Words.{word_bytes}
use Rattle.key_wrap.proofs.Parts.{good_under_lem, unwrapped_under}
use Rattle.key_wrap.proofs.unwrap_registers.Goals as goal

pub returns-then-not-checks : goal.returns-then-not-checks
returns-then-not-checks c =
    let u = c.unwrapped-x in
    let w = c.expand in
    let x = c.args in
    (sym (good_under_lem x.kek.now w.new.w w.ensures x.wrapped_key.now (word_bytes u.result) u.ensures) ∙ sym c.checks.ensures ∙ c.if-not-checks.true, refl)

pub returns : goal.returns
returns c =
    let u = c.unwrapped-x in
    let w = c.expand in
    let x = c.args in (
      sym (good_under_lem x.kek.now w.new.w w.ensures x.wrapped_key.now (word_bytes u.result) u.ensures) ∙ sym c.checks.ensures ∙ c.if-not-checks.false,
      u.ensures ∙ unwrapped_under x.kek.now w.new.w w.ensures x.wrapped_key.now,
    )
