-- `put_decimal`: the digits of a tenth of the number, and behind them the last. The measure is the number.
-- Assumes nothing.
use mathlib.Core.Path.{◌≡◌, sym, ap, ◌∙◌}
use mathlib.Core.List.{List, [], ◌∷◌}
use Prim.Native.Nat.{ℕ, ◌+◌, ◌/◌, ◌%◌, ◌≤◌, ◌<◌}
use native.Mathlib.Omega.{arith}
use lib.ListN.{length, set}
use Rattle.octets.specs.Bytes.{placed}
use Rattle.check_line.specs.Line.{decimal}
use Rattle.check_line.proofs.Decimals.{decimal_one, decimal_more, length_one, length_more}
use Rattle.octets.proofs.Lists.{placed-placed}
use Rattle.check_line.proofs.Pieces.{placed-byte}
use Rattle.check_line.proofs.decimal.+put_decimal.Goals as goal

-- the last digit behind the others
last : (n at r : ℕ) (d o : List ℕ) → 10 ≤ n → at + length (decimal n) ≤ length d → length o ≡ length d → r ≡ at + length (decimal (n / 10)) → o ≡ placed (decimal (n / 10)) at d
    → set o r (48 + n % 10) ≡ placed (decimal n) at d
last n at r d o h fits l e p =
    let k = length_more n h in
    let b : r < length o = omega arith in
    placed-byte (48 + n % 10) o r b ∙ ap (λ (x : ℕ). placed ((48 + n % 10) ∷ []) x o) e
    ∙ ap (λ (x : List ℕ). placed ((48 + n % 10) ∷ []) (at + length (decimal (n / 10))) x) p
    ∙ placed-placed (decimal (n / 10)) ((48 + n % 10) ∷ []) d at (omega arith) ∙ ap (λ (x : List ℕ). placed x at d) (sym (decimal_more n h))

pub bounds-out-at : goal.bounds-out-at
bounds-out-at t c = omega (arith, length_one c.args.n c.if-n-lt10.true, c.requires)

pub returns-then-n-lt10 : goal.returns-then-n-lt10
returns-then-n-lt10 t c =
    let x = c.args in
    let k = length_one x.n c.if-n-lt10.true in
    let b : x.at < length x.out.now = omega (arith, c.requires) in
    (omega arith, placed-byte (48 + x.n) x.out.now x.at b ∙ ap (λ (s : List ℕ). placed s x.at x.out.now) (sym (decimal_one x.n c.if-n-lt10.true)))

pub put_decimal-end-requires : goal.put_decimal-end-requires
put_decimal-end-requires t c =
    let q = c.requires in
    let h = c.if-n-lt10.false in
    let k = length_more c.args.n h in
    (omega arith, omega (arith, q))

pub bounds-out-end : goal.bounds-out-end
bounds-out-end t c =
    let u = c.put_decimal-end in
    let k = length_more c.args.n c.if-n-lt10.false in
    omega (arith, c.requires, u.ensures.0, u.auto.out)

pub overflow_add-result-2 : goal.overflow_add-result-2
overflow_add-result-2 t c =
    let u = c.put_decimal-end in
    let k = length_more c.args.n c.if-n-lt10.false in
    record { fits = omega (arith, c.requires, u.ensures.0) }

pub returns : goal.returns
returns t c =
    let u = c.put_decimal-end in
    let h = c.if-n-lt10.false in
    let k = length_more c.args.n h in
    (omega (arith, u.ensures.0), last c.args.n c.args.at u.result c.args.out.now u.new.out h c.requires u.auto.out u.ensures.0 u.ensures.1)
