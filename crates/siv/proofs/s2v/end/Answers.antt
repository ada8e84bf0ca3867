-- `end`: a long last string, or a short one that is padded.
-- Assumes nothing.
use Prim.Native.Nat.{ℕ}
use mathlib.Core.Path.{sym, ◌∙◌, ap, ap₂}
use mathlib.Core.Bool.{Bool, cond}
use mathlib.Core.List.{List}
use borrow.Author.Tests.{le-leb, lt-leb}
use lib.ListN.{length}
use Rattle.octets.specs.Xors.{xors}
use Rattle.aes_spec.specs.Cipher.{cipher}
use Rattle.aes.specs.Blocks.{state}
use Rattle.siv.specs.Cmac as mac
use Rattle.siv.specs.Siv as spec
use Rattle.siv.proofs.s2v.end.Goals as goal

chosen : (e : List ℕ → List ℕ) (d s : List ℕ) → Bool → List ℕ
chosen e d s b = mac.cmac e (cond b (spec.xorend s d) (xors (mac.dbl d) (mac.pad s)))

pub returns-then-s-ge16 : goal.returns-then-s-ge16
unfolding chosen spec.s2v_last
returns-then-s-ge16 c =
    let x = c.args in
    c.long_end.ensures ∙ sym (ap (chosen (cipher 14 x.w.now) (state x.d) x.s.now) (le-leb 16 (length x.s.now) c.if-s-ge16.true))

pub returns : goal.returns
unfolding chosen spec.s2v_last
returns c =
    let x = c.args in
    c.cmac.ensures
    ∙ ap (mac.cmac (cipher 14 x.w.now)) (c.to_bytes.ensures ∙ c.add.ensures ∙ ap₂ xors c.double.ensures c.padded.ensures)
    ∙ sym (ap (chosen (cipher 14 x.w.now) (state x.d) x.s.now) (lt-leb 16 (length x.s.now) c.if-s-ge16.false))
