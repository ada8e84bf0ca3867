-- `product`: at each turn the two sums together stand for the product of the bytes that were taken.
-- Assumes nothing.
use Prim.Native.Nat.{ℕ, ◌*◌, ◌/◌, ◌^◌}
use mathlib.Core.Path.{◌≡◌}
use lib.Bits.{bit_xor}
use Rattle.gcm.specs.Elements.{wide}
use Rattle.gcm.specs.Table.{Entries}
use Rattle.gcm.proofs.Products.{Sums}
use Rattle.gcm.proofs.table.product.Given as goal

abbrev pub invariant-loop-n : goal.invariant-loop-n
invariant-loop-n l = (l.v ≡ l.initial.v / 2 ^ (8 * l._n)) × (l.w ≡ l.initial.w / 2 ^ (8 * l._n)) × ((h : ℕ) → Entries h l.m 16 → Sums h l.initial.v l.initial.w l._n (bit_xor (wide l.p) (wide l.q / 2 ^ 4)))
