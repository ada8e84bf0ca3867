-- The reserved bytes of a header as a number.
-- Assumes nothing.
use mathlib.Core.Path.{◌≡◌, refl, sym, ap, ◌∙◌}
use mathlib.Core.List.{List}
use Prim.Native.Nat.{ℕ, ◌+◌, ◌*◌, ◌%◌, ◌^◌, ◌<◌}
use native.Mathlib.Nat.{mod-lt}
use native.Mathlib.Omega.{arith}
use lib.Dec.{lit≤}
use Rattle.octets.specs.BigEndian.{int_from, int, be}
use Rattle.octets.proofs.BigEndian.{int-be, be-int}
use Rattle.skrapnefja.specs.Statements.{ReservedBytes}

-- a number that eight bytes give back has no more
below : (r : List ℕ) → be 8 (int r) ≡ r → int r < 2 ^ 64
unfolding int
below r e =
    let d : int r ≡ 0 * 256 ^ 8 + int r % 256 ^ 8 = sym (ap (int_from 0) e) ∙ int-be 8 0 (int r) in
    omega (arith, d, mod-lt (int r) {m = 256 ^ 8} (lit≤ tt))

pub reserved-bytes : ReservedBytes
reserved-bytes = (
  λ n before r size bytes. let e = ap (λ (k : ℕ). be k (int r)) (sym size) ∙ be-int r bytes in (e, below r e),
  λ row at before. (refl, refl),
)
