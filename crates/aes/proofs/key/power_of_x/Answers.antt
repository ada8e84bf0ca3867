-- `power_of_x`: the constants are the powers of x, by one test over all seven.
-- Assumes nothing.
use Prim.Native.Nat.{ℕ}
use mathlib.Core.Bool.{Bool}
use mathlib.Core.List.{List, [], ◌∷◌}
use lib.Dec.{T, eqb, eqb→eq}
use lib.ListN.{get_or}
use Rattle.octets.proofs.Tables.{all, all_at}
use Rattle.aes_spec.specs.Field.{xtimes}
use Rattle.aes_spec.specs.KeyExpansion.{power_of_x}
use Rattle.aes.proofs.key.power_of_x.Goals as goal

abbrev powers : List ℕ
powers = 0x01 ∷ 0x02 ∷ 0x04 ∷ 0x08 ∷ 0x10 ∷ 0x20 ∷ 0x40 ∷ []

obeys : ℕ → Bool
obeys i = eqb (get_or powers i 0) (power_of_x i)

all_obey : T (all obeys 7)
unfolding obeys xtimes power_of_x
all_obey = tt

pub returns : goal.returns
unfolding obeys
returns c = eqb→eq (get_or powers c.args.i 0) (power_of_x c.args.i) (all_at obeys 7 all_obey c.args.i c.requires)
