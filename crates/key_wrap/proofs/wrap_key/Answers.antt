-- `wrap_key`: the tests in the rules' order, and the wrapped key at the front of the buffer.
-- Assumes nothing.
use Rattle.std.proofs.Common.{[], ◌∷◌, sym, ap, ◌∙◌, arith}
use Rattle.octets.specs.Rows.{done, ended}
use Rattle.octets.proofs.Lists.{front_filled}
use Rattle.aes_spec.specs.Cipher.{aes}
use Rattle.key_wrap.specs.KeyWrap.{wrap}
use Rattle.key_wrap.proofs.Calls.{key_rows_exactly}
use Rattle.key_wrap.proofs.wrap_key.Goals as goal

pub returns-then-kek-ne32 : goal.returns-then-kek-ne32
returns-then-kek-ne32 c = let x = c.args in sym ((key_rows_exactly.0 x.kek.now x.key.now x.out.now).0.1 (tt, λ h. c.if-kek-ne32.true h.0))

pub returns-then-key-ne32 : goal.returns-then-key-ne32
returns-then-key-ne32 c = let x = c.args in sym ((key_rows_exactly.0 x.kek.now x.key.now x.out.now).0.1 (tt, λ h. c.if-key-ne32.true h.1))

pub returns-then-out-lt40 : goal.returns-then-out-lt40
returns-then-out-lt40 c =
    let x = c.args in
    sym ((key_rows_exactly.0 x.kek.now x.key.now x.out.now).1.0.1 ((tt, (c.if-kek-ne32.false, c.if-key-ne32.false)), λ h. omega arith))

pub returns : goal.returns
returns c =
    let s = c.wrap_into in
    let x = c.args in
    ap (ended (done (40 ∷ []))) (front_filled s.new.out x.out.now 40 (wrap (aes 8 x.kek.now) x.key.now) s.auto.out s.ensures)
    ∙ sym ((key_rows_exactly.0 x.kek.now x.key.now x.out.now).1.1.1 ((tt, (c.if-kek-ne32.false, c.if-key-ne32.false)), c.if-out-lt40.false))
