-- `stem_limit`: by the characters, or by the longest name.
-- Assumes nothing.
use native.Mathlib.Omega.{arith}
use Prim.Native.Nat.{◌-◌, ◌*◌, ◌/◌}
use mathlib.Core.Path.{◌≡◌}
use mathlib.Core.Logic.{⊎_elim}
use Rattle.octets.proofs.Lists.{le_or_lt}
use Rattle.name_texts.proofs.Stems.{by_characters, by_bytes}
use Rattle.name_texts.proofs.form.stem_limit.Goals as goal

pub returns : goal.returns
returns c =
    let n = c.args.most in
    let r = c.min.result in
    let k = (n - 4) / 4 * 3 in
    ⊎_elim
    (λ h. let e : r ≡ 1036 = omega arith in rw e (by_bytes n c.requires h))
    (λ h. let e : r ≡ (n - 4) / 4 * 3 = omega arith in rw e (by_characters n c.requires h))
    (le_or_lt 1036 k)
