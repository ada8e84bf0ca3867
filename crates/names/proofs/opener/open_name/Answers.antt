-- `open_name`: the rows in order, and the name. The record's keys have 32 bytes by their type.
-- Assumes nothing.
use mathlib.Core.Path.{◌∙◌}
use native.Mathlib.Omega.{arith}
use borrow.Author.Rules.{rules}
use Rattle.std.proofs.lemmas.Result.{err_from_is_err_and}
use Rattle.frame.proofs.KeySizes.{keys_exactly}
use Rattle.threshold.proofs.Exactly.{threshold_exactly}
use Rattle.names.proofs.Opening.{plain-denied, plain-broken, plain-asked, plain-lacks, plain-opens}
use Rattle.names.proofs.opener.open_name.Goals as goal

pub returns-in_err-look_at : goal.returns-in_err-look_at
returns-in_err-look_at c =
    let p = err_from_is_err_and c.from_residual.result c.from_residual.ensures.1 in
    rw (p.1, p.2) (plain-denied c.args.v.threshold c.args.v.enc c.args.v.mac c.args.dir_id.now ((keys_exactly _ _).1 (search rules, search rules)) c.args.stored.now c.args.out.now _ c.in_err-look_at.ensures.denied)

pub name_in-requires : goal.name_in-requires
name_in-requires c = let l = (threshold_exactly c.args.v.threshold).0 c.in_ok-look_at.ensures.allowed.0 in omega (arith, l.0)

pub returns-in_err-n : goal.returns-in_err-n
returns-in_err-n c =
    let p = err_from_is_err_and c.from_residual-in_err-n.result c.from_residual-in_err-n.ensures.1 in
    rw (p.1, p.2) (plain-broken c.args.v.threshold c.args.v.enc c.args.v.mac c.args.dir_id.now ((keys_exactly _ _).1 (search rules, search rules)) c.in_ok-look_at.ensures.allowed c.args.stored.now c.args.out.now _ c.in_err-n.ensures)

pub returns-then-out-n : goal.returns-then-out-n
returns-then-out-n c = plain-lacks c.args.v.threshold c.args.v.enc c.args.v.mac c.args.dir_id.now ((keys_exactly _ _).1 (search rules, search rules)) c.in_ok-look_at.ensures.allowed c.args.stored.now c.args.out.now _ c.in_ok-n.ensures c.if-out-n.true

pub open_text-requires-clause-mac_value : goal.open_text-requires-clause-mac_value
open_text-requires-clause-mac_value c = (keys_exactly _ _).1 (search rules, search rules)

pub open_text-requires-clause-text_value : goal.open_text-requires-clause-text_value
open_text-requires-clause-text_value c = plain-asked c.args.v.threshold c.args.v.enc c.args.v.mac c.args.dir_id.now ((keys_exactly _ _).1 (search rules, search rules)) c.in_ok-look_at.ensures.allowed c.args.stored.now c.args.out.now _ c.in_ok-n.ensures c.if-out-n.false

pub returns : goal.returns
returns c = c.open_text.ensures ∙ plain-opens c.args.v.threshold c.args.v.enc c.args.v.mac c.args.dir_id.now ((keys_exactly _ _).1 (search rules, search rules)) c.in_ok-look_at.ensures.allowed c.args.stored.now c.args.out.now _ c.in_ok-n.ensures c.if-out-n.false
