-- `dir_path`: the rows in order, and the path. The record's keys have 32 bytes by their type.
-- Assumes nothing.
use mathlib.Core.Path.{sym, ◌∙◌}
use borrow.Author.Rules.{rules}
use Rattle.frame.proofs.KeySizes.{keys_exactly}
use Rattle.name_spec.proofs.Rules.{id_exactly}
use Rattle.names.proofs.Paths.{no_id, no_room, path_written}
use Rattle.names.proofs.path.dir_path.Goals as goal

pub returns-then-not-id_right : goal.returns-then-not-id_right
returns-then-not-id_right c =
    no_id c.args.v.enc c.args.v.mac c.args.dir_id.now c.args.out.now ((keys_exactly _ _).1 (search rules, search rules)) (sym c.id_right.ensures ∙ c.if-not-id_right.true)

pub returns-then-out-lt36 : goal.returns-then-out-lt36
returns-then-out-lt36 c =
    no_room c.args.v.enc c.args.v.mac c.args.dir_id.now c.args.out.now ((keys_exactly _ _).1 (search rules, search rules)) (sym c.id_right.ensures ∙ c.if-not-id_right.false) c.if-out-lt36.true

pub write_path-requires-clause-mac_value : goal.write_path-requires-clause-mac_value
write_path-requires-clause-mac_value c = (keys_exactly c.args.v.enc c.args.v.mac).1 (search rules, search rules)

pub write_path-requires-clause-id_len_bound : goal.write_path-requires-clause-id_len_bound
write_path-requires-clause-id_len_bound c = (((id_exactly c.args.dir_id.now).0 (sym c.id_right.ensures ∙ c.if-not-id_right.false)).0, c.if-out-lt36.false)

pub returns : goal.returns
returns c =
    path_written c.args.v.enc c.args.v.mac c.args.dir_id.now c.args.out.now ((keys_exactly _ _).1 (search rules, search rules)) (sym c.id_right.ensures ∙ c.if-not-id_right.false) _ c.if-out-lt36.false c.write_path.ensures
