-- `write_name`: the rows in order, and what is written. The record's keys have 32 bytes by their type.
-- Assumes nothing.
use mathlib.Core.Path.{sym, ◌∙◌}
use native.Mathlib.Omega.{arith}
use borrow.Author.Rules.{rules}
use Rattle.std.proofs.lemmas.Result.{err_from_is_err_and}
use Rattle.frame.proofs.KeySizes.{keys_exactly}
use Rattle.name_spec.proofs.Rules.{name_exactly}
use Rattle.names.proofs.Writing.{write-denied, no_name, plain-refused, plain-ends, stored-refused, full-refused, full_part, long-ends}
use Rattle.names.proofs.writer.write_name.Goals as goal

pub returns-in_err-look_at : goal.returns-in_err-look_at
returns-in_err-look_at c =
    let p = err_from_is_err_and c.from_residual.result c.from_residual.ensures.1 in
    rw (p.1, p.2) (write-denied c.args.v.threshold c.args.v.enc c.args.v.mac c.args.dir_id.now c.args.name.now c.args.stored.now c.args.full.now ((keys_exactly _ _).1 (search rules, search rules)) _ c.in_err-look_at.ensures.denied)

pub returns-then-not-name_right : goal.returns-then-not-name_right
returns-then-not-name_right c = no_name c.args.v.threshold c.args.v.enc c.args.v.mac c.args.dir_id.now c.args.name.now c.args.stored.now c.args.full.now ((keys_exactly _ _).1 (search rules, search rules)) c.in_ok-look_at.ensures.allowed (sym c.name_right.ensures ∙ c.if-not-name_right.true)

pub full_length-n-requires : goal.full_length-n-requires
full_length-n-requires c = ((name_exactly _).0 (sym c.name_right.ensures ∙ c.if-not-name_right.false)).0.1

pub returns-then-stored-n : goal.returns-then-stored-n
returns-then-stored-n c = plain-refused c.args.v.threshold c.args.v.enc c.args.v.mac c.args.dir_id.now c.args.name.now c.args.stored.now c.args.full.now ((keys_exactly _ _).1 (search rules, search rules)) c.in_ok-look_at.ensures.allowed (sym c.name_right.ensures ∙ c.if-not-name_right.false) c.full_length-n.result c.full_length-n.ensures (sym c.short.ensures ∙ c.if-short.true) c.if-stored-n.true

pub write_full-requires-clause-mac_value : goal.write_full-requires-clause-mac_value
write_full-requires-clause-mac_value c = (keys_exactly _ _).1 (search rules, search rules)

pub write_full-requires-clause-name_len_bound : goal.write_full-requires-clause-name_len_bound
write_full-requires-clause-name_len_bound c = (((name_exactly _).0 (sym c.name_right.ensures ∙ c.if-not-name_right.false)).0.1, omega (arith, c.full_length-n.ensures, c.if-stored-n.false))

pub returns-then-short : goal.returns-then-short
returns-then-short c = plain-ends c.args.v.threshold c.args.v.enc c.args.v.mac c.args.dir_id.now c.args.name.now c.args.stored.now c.args.full.now ((keys_exactly _ _).1 (search rules, search rules)) c.in_ok-look_at.ensures.allowed (sym c.name_right.ensures ∙ c.if-not-name_right.false) c.full_length-n.result c.full_length-n.ensures (sym c.short.ensures ∙ c.if-short.true) _ c.if-stored-n.false c.write_full.ensures

pub returns-then-stored-lt32 : goal.returns-then-stored-lt32
returns-then-stored-lt32 c = stored-refused c.args.v.threshold c.args.v.enc c.args.v.mac c.args.dir_id.now c.args.name.now c.args.stored.now c.args.full.now ((keys_exactly _ _).1 (search rules, search rules)) c.in_ok-look_at.ensures.allowed (sym c.name_right.ensures ∙ c.if-not-name_right.false) c.full_length-n.result c.full_length-n.ensures (sym c.short.ensures ∙ c.if-short.false) c.if-stored-lt32.true

pub returns-then-full-n : goal.returns-then-full-n
returns-then-full-n c = full-refused c.args.v.threshold c.args.v.enc c.args.v.mac c.args.dir_id.now c.args.name.now c.args.stored.now c.args.full.now ((keys_exactly _ _).1 (search rules, search rules)) c.in_ok-look_at.ensures.allowed (sym c.name_right.ensures ∙ c.if-not-name_right.false) c.full_length-n.result c.full_length-n.ensures (sym c.short.ensures ∙ c.if-short.false) c.if-stored-lt32.false c.if-full-n.true

pub write_full-requires-2-clause-mac_value : goal.write_full-requires-2-clause-mac_value
write_full-requires-2-clause-mac_value c = (keys_exactly _ _).1 (search rules, search rules)

pub write_full-requires-2-clause-name_len_bound : goal.write_full-requires-2-clause-name_len_bound
write_full-requires-2-clause-name_len_bound c = (((name_exactly _).0 (sym c.name_right.ensures ∙ c.if-not-name_right.false)).0.1, omega (arith, c.full_length-n.ensures, c.if-full-n.false))

pub slice_bounds-write_hash-end-2 : goal.slice_bounds-write_hash-end-2
slice_bounds-write_hash-end-2 c = full_part c.args.v.threshold c.args.v.enc c.args.v.mac c.args.dir_id.now c.args.name.now c.args.stored.now c.args.full.now ((keys_exactly _ _).1 (search rules, search rules)) c.in_ok-look_at.ensures.allowed (sym c.name_right.ensures ∙ c.if-not-name_right.false) c.full_length-n.result c.full_length-n.ensures (sym c.short.ensures ∙ c.if-short.false) _ c.write_full-2.ensures

pub returns : goal.returns
returns c = long-ends c.args.v.threshold c.args.v.enc c.args.v.mac c.args.dir_id.now c.args.name.now c.args.stored.now c.args.full.now ((keys_exactly _ _).1 (search rules, search rules)) c.in_ok-look_at.ensures.allowed (sym c.name_right.ensures ∙ c.if-not-name_right.false) c.full_length-n.result c.full_length-n.ensures (sym c.short.ensures ∙ c.if-short.false) _ c.write_full-2.ensures _ c.if-stored-lt32.false c.if-full-n.false c.write_hash.ensures
