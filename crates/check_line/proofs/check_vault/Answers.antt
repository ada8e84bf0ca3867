-- `check_vault`: the two tests of the size, and opening the three parts of the input.
-- Assumes nothing.
use mathlib.Core.Path.{◌≡◌, refl, sym, ap, ap₂, ◌∙◌}
use mathlib.Core.List.{List}
use Prim.Native.Nat.{ℕ}
use native.Mathlib.Omega.{arith}
use borrow.Author.Tests.{lt-ltb, le-ltb}
use lib.ListN.{length, take, drop, length-drop}
use lib.Seq.{length-take-le}
use Rattle.octets.proofs.Lists.{part-rest}
use Rattle.threshold.specs.Threshold.{threshold_right}
use Rattle.frame.specs.Frame.{open_file}
use Rattle.frame.proofs.KeySizes.{keys_exactly}
use Rattle.vault.specs.declared.record.Combo.TheVariants.{SivGcm}
use Rattle.vault.specs.declared.record.Vault.{Vault}
use Rattle.vault.specs.Vault.{vault_with, codec_of}
use Rattle.vault.specs.Making.{Making}
use Rattle.vault.proofs.Making.{made}
use Rattle.check_line.specs.Check.{check_vault}
use Rattle.check_line.proofs.check_vault.Goals as goal

pub returns-then-input-lt64 : goal.returns-then-input-lt64
unfolding check_vault
returns-then-input-lt64 c = rw (lt-ltb (length c.args.input.now) 64 c.if-input-lt64.true) refl

pub returns-then-input-gt65536 : goal.returns-then-input-gt65536
unfolding check_vault
returns-then-input-gt65536 c =
    let n = length c.args.input.now in
    rw (le-ltb n 64 c.if-input-lt64.false, lt-ltb 65536 n (omega (arith, c.if-input-gt65536.true)))

pub slice_bounds-enc-end : goal.slice_bounds-enc-end
slice_bounds-enc-end c = sym (length-take-le 32 c.args.input.now (omega (arith, c.if-input-lt64.false)))

pub returns : goal.returns
unfolding check_vault threshold_right
returns c =
    let under : let x = c.args in
    c.make_vault-made.result.vault ≡ vault_with (take 32 x.input.now) (take 32 (drop 32 x.input.now)) SivGcm 220 = let l = c.args.input.now in
    let h = c.if-input-lt64.false in
    let e = length-take-le 32 l (omega (arith, h)) in
    let m = length-take-le 32 (drop 32 l) (omega (arith, length-drop 32 l, h)) in
    ap (λ (r : Making). r.vault) (c.make_vault-made.ensures ∙ sym (made (take 32 l) (take 32 (drop 32 l)) SivGcm 220 ((keys_exactly (take 32 l) (take 32 (drop 32 l))).1 (e, m)) refl)) in
    let x = c.args in
    let n = length x.input.now in
    rw (le-ltb n 64 c.if-input-lt64.false, le-ltb 65536 n (omega (arith, c.if-input-gt65536.false)))
    (c.open_file.ensures
    ∙ ap₂ (λ (v : Vault) (f : List ℕ). open_file (codec_of v) f x.room.now) (under) (part-rest x.input.now n 64 refl))
