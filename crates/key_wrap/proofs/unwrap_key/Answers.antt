-- `unwrap_key`: the tests in the rules' order, and the key at the front of the buffer.
-- Assumes nothing.
use Rattle.std.proofs.Common.{◌≡◌, false, [], ◌∷◌, sym, ap, ◌∙◌, arith}
use Rattle.std.proofs.lemmas.Result.{err_from_is_err_and}
use Rattle.octets.specs.Rows.{done, ended}
use Rattle.octets.proofs.Lists.{front_filled}
use Rattle.octets.specs.Words.{word_bytes}
use Rattle.answer.specs.declared.Refusal.TheVariants.{CheckValue}
use Rattle.aes_inverse.specs.InverseCipher.{inverse_aes}
use Rattle.key_wrap.specs.KeyWrap.{good, plain}
use Rattle.key_wrap.proofs.Parts.{good_value, plain_value}
use Rattle.key_wrap.proofs.Calls.{key_rows_exactly}
use Rattle.key_wrap.proofs.unwrap_key.Goals as goal

pub returns-then-kek-ne32 : goal.returns-then-kek-ne32
returns-then-kek-ne32 c = let x = c.args in sym ((key_rows_exactly.1 x.kek.now x.wrapped_key.now x.out.now).0.1 (tt, c.if-kek-ne32.true))

pub returns-then-wrapped_key-ne40 : goal.returns-then-wrapped_key-ne40
returns-then-wrapped_key-ne40 c =
    let x = c.args in
    sym ((key_rows_exactly.1 x.kek.now x.wrapped_key.now x.out.now).1.0.1 ((tt, c.if-kek-ne32.false), c.if-wrapped_key-ne40.true))

pub returns-then-out-lt32 : goal.returns-then-out-lt32
returns-then-out-lt32 c =
    let x = c.args in
    sym ((key_rows_exactly.1 x.kek.now x.wrapped_key.now x.out.now).1.1.0.1 (((tt, c.if-kek-ne32.false), c.if-wrapped_key-ne40.false), λ h. omega arith))

pub returns-in_err-x : goal.returns-in_err-x
returns-in_err-x c =
    let x = c.args in
    let p = err_from_is_err_and c.from_residual.result c.from_residual.ensures.1 in
    let h : (good (inverse_aes 8 x.kek.now) x.wrapped_key.now ≡ false) × (c.in_err-x.field-0.0 ≡ CheckValue) = c.in_err-x.ensures in
    rw (p.1, p.2, h.1)
    (sym ((key_rows_exactly.1 x.kek.now x.wrapped_key.now x.out.now).1.1.1.0.1 ((((tt, c.if-kek-ne32.false), c.if-wrapped_key-ne40.false), c.if-out-lt32.false), λ g. cc)))

pub store_key-requires-clause-x_value : goal.store_key-requires-clause-x_value
store_key-requires-clause-x_value c = let x = c.args in good_value (inverse_aes 8 x.kek.now) x.wrapped_key.now (word_bytes c.in_ok-x.x) c.in_ok-x.ensures.1 c.in_ok-x.ensures.0

pub returns : goal.returns
returns c =
    let s = c.store_key in
    let x = c.args in
    let d = inverse_aes 8 x.kek.now in
    let h = c.in_ok-x.ensures in
    ap (ended (done (32 ∷ []))) (front_filled s.new.out x.out.now 32 (plain d x.wrapped_key.now) s.auto.out (s.ensures ∙ plain_value d x.wrapped_key.now (word_bytes c.in_ok-x.x) h.1))
    ∙ sym ((key_rows_exactly.1 x.kek.now x.wrapped_key.now x.out.now).1.1.1.1.1 ((((tt, c.if-kek-ne32.false), c.if-wrapped_key-ne40.false), c.if-out-lt32.false), h.0))
