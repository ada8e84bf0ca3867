-- `read_inside`: the header is opened, and then the range is read under what it says.
-- Assumes nothing.
use mathlib.Core.Path.{◌≡◌, sym, ap, ◌∙◌}
use Prim.Native.Nat.{ℕ}
use mathlib.Core.List.{List}
use borrow.Author.Rules.{rules}
use native.Mathlib.Omega.{arith}
use lib.ListN.{length, take}
use Rattle.frame.specs.Layout.{file_length, header_at}
use Rattle.frame.proofs.Lengths.{file-clear}
use Rattle.vault.specs.Vault.{sizes_of}
use Rattle.vault.proofs.Combos.{sized_exactly}
use Rattle.vault.proofs.Payloads.{key-part}
use Rattle.file_range.specs.Under.{read_under}
use Rattle.file_read.proofs.Under.{refused_9, read_under_lem}
use Rattle.answer.specs.declared.Refusal.TheVariants.{Header}
use Rattle.std.proofs.Common.{length-take, length-drop}
use Rattle.std.proofs.lemmas.Result.{err_from_is_err_and}
use Rattle.file_read.proofs.inside.read_inside.Goals as goal

pub open_head-requires : goal.open_head-requires
open_head-requires c = record { enc_len = (search rules, c.requires.0) }

pub returns-in_err-payload : goal.returns-in_err-payload
returns-in_err-payload c =
    let x = c.args in
    let k = (sized_exactly x.v.combo x.v.enc x.v.mac).1 (search rules, search rules) in
    let h = rw c.in_err-payload.ensures.ok_part at c.open_head.ensures in
    let e : c.in_err-payload.field-0.0 ≡ Header = search rules in
    let p = err_from_is_err_and c.from_residual.result c.from_residual.ensures.1 in
    rw (p.1, p.2, e) (refused_9 x.v.enc x.v.mac x.file.now x.from x.count x.out.now x.v.combo k c.requires.0 (omega (arith, c.requires.1, c.requires.2)) c.requires.3 h)

pub read_under-requires : goal.read_under-requires
read_under-requires c =
    let x = c.args in
    let z = sizes_of x.v.combo in
    let n : length c.in_ok-payload.payload ≡ 40 = search rules in
    record { key_len = (simp (length-take, length-drop) (omega (arith, n)), file-clear z (length x.file.now) c.requires.0 ∙ ap (file_length z) (sym c.requires.1), c.requires.2, c.requires.3) }

pub returns : goal.returns
returns c =
    let x = c.args in
    let f = x.file.now in
    let b = header_at (sizes_of x.v.combo) f in
    let k = (sized_exactly x.v.combo x.v.enc x.v.mac).1 (search rules, search rules) in
    let p = c.in_ok-payload.payload in
    let said = rw c.in_ok-payload.ensures.ok_part at c.open_head.ensures in
    let n : length p ≡ 40 = search rules in
    c.read_under.ensures
    ∙ ap (λ (key : List ℕ). read_under x.v.combo x.v.mac (take (sizes_of x.v.combo).nonce f) key f x.from x.count x.out.now) (key-part x.v.enc x.v.mac b p x.v.combo said.1 n)
    ∙ sym (read_under_lem x.v.enc x.v.mac f x.from x.count x.out.now x.v.combo k c.requires.0 (omega (arith, c.requires.1, c.requires.2)) c.requires.3 said.0)
