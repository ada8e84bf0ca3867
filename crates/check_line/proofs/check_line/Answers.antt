-- `check_line`: the line of what the check ends in, which fits.
-- Assumes nothing.
use mathlib.Core.Path.{◌≡◌, sym, ap, ◌∙◌}
use mathlib.Core.List.{List}
use Prim.Native.Nat.{ℕ, ◌≤◌}
use native.Mathlib.Omega.{arith}
use lib.ListN.{length}
use Rattle.octets.specs.Bytes.{placed}
use Rattle.octets.specs.Rows.{Outcome, End, ended}
use Rattle.check_line.specs.Line.{line_of}
use Rattle.check_line.specs.Check.{check_vault, check_line, checked, check}
use Rattle.check_line.proofs.Checks.{never_room, line-fits}
use Rattle.check_line.proofs.check_line.Goals as goal

-- the line of the outcome that the check ends in
line_is : (input room b : List ℕ) (o : Outcome) → length input ≤ length room → ended o b ≡ check_vault input room → line_of o ≡ check_line input
line_is input room b o h e = ap (λ (x : End). line_of x.outcome) e ∙ sym (never_room input room h).1

done : (n m : ℕ) (r s l k : List ℕ) → n ≡ m → r ≡ s → l ≡ k → checked n r l ≡ checked m s k
done n m r s l k e f g = λ i. record { written = e i; room = f i; line = g i }

pub write_line-requires : goal.write_line-requires
write_line-requires c =
    let v = c.check_vault-answer in
    let e = line_is c.args.input.now c.args.room.now v.new.room _ c.requires.0 v.ensures in
    omega (arith, ap length e, line-fits c.args.input.now, c.requires.1)

pub returns : goal.returns
unfolding check
returns c =
    let x = c.args in
    let v = c.check_vault-answer in
    let w = c.write_line in
    let e = line_is x.input.now x.room.now v.new.room _ c.requires.0 v.ensures in
    done w.result (length (check_line x.input.now)) _ _ _ _ (w.ensures.0 ∙ ap length e) (ap (λ (x : End). x.buffer) v.ensures) (w.ensures.1 ∙ ap (λ (c : List ℕ). placed c 0 x.line.now) e)
