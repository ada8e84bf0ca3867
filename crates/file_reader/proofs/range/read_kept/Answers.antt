-- `read_kept`: the rows in order, by sizes alone; then the range is read under the keys of the reader.
-- Assumes nothing.
use Prim.Native.Nat.{◌+◌}
use mathlib.Core.Path.{sym, ap, ◌∙◌}
use native.Mathlib.Omega.{arith}
use lib.ListN.{length}
use borrow.Author.Rules.{rules}
use borrow.Author.Tests.{ltb-true, ltb-false}
use Rattle.frame.specs.Layout.{file_length}
use Rattle.frame.proofs.Lengths.{file-clear}
use Rattle.vault.specs.Vault.{sizes_of}
use Rattle.file_reader.proofs.Combos.{refused_4, refused_6, refused_7, kept_under}
use Rattle.file_reader.proofs.range.read_kept.Goals as goal

pub returns-then-not-right_length : goal.returns-then-not-right_length
returns-then-not-right_length c =
    let x = c.args in
    refused_4 x.keys x.file.now x.from x.count x.out.now (sym c.if-not-right_length.ensures)

pub returns-then-outside : goal.returns-then-outside
returns-then-outside c =
    let x = c.args in
    let h = ltb-true c.clear_length-n.result (x.from + x.count) (sym c.if-outside.ensures) in
    refused_6 x.keys x.file.now x.from x.count x.out.now (sym c.if-not-right_length.ensures) (omega (arith, c.clear_length-n.ensures, h))

pub returns-then-out-count : goal.returns-then-out-count
returns-then-out-count c =
    let x = c.args in
    let h = ltb-false c.clear_length-n.result (x.from + x.count) (sym c.if-outside.ensures) in
    refused_7 x.keys x.file.now x.from x.count x.out.now (sym c.if-not-right_length.ensures) (omega (arith, c.clear_length-n.ensures, h)) c.if-out-count.true

pub read_under-requires : goal.read_under-requires
read_under-requires c =
    let x = c.args in
    let n = c.clear_length-n in
    let z = sizes_of x.keys.combo in
    let h = ltb-false n.result (x.from + x.count) (sym c.if-outside.ensures) in
    record { key_len = (search rules, file-clear z (length x.file.now) (sym c.if-not-right_length.ensures) ∙ ap (file_length z) (sym n.ensures), h, c.if-out-count.false) }

pub returns : goal.returns
returns c =
    let x = c.args in
    let k = x.keys in
    let h = ltb-false c.clear_length-n.result (x.from + x.count) (sym c.if-outside.ensures) in
    c.read_under.ensures
    ∙ sym (kept_under k.combo k.content k.mac x.file.now x.from x.count x.out.now (sym c.if-not-right_length.ensures) (omega (arith, c.clear_length-n.ensures, h)) c.if-out-count.false)
