-- `own_payload`: the content key behind the eight bytes.
-- Assumes nothing.
use Prim.Native.Nat.{ℕ, ◌+◌}
use mathlib.Core.Path.{◌≡◌, ◌∙◌, ap}
use mathlib.Core.List.{List, [], ◌++◌, append-nil}
use native.Mathlib.Omega.{arith}
use lib.ListN.{length, replicate}
use Rattle.octets.specs.Bytes.{placed}
use Rattle.octets.proofs.Lists.{drop_all}
use Rattle.frame.specs.Frame.{payload_of, own_head}
use Rattle.frame.proofs.own_payload.Goals as goal

behind : (k : List ℕ) → length k ≡ 32 → placed k 8 (replicate 40 255) ≡ payload_of (own_head [] k)
behind k h = ap (λ (l : List ℕ). replicate 8 255 ++ l) (ap (λ (l : List ℕ). k ++ l) (drop_all (8 + length k) (replicate 40 255) (omega arith)) ∙ append-nil k)

pub returns : goal.returns
returns c = c.copy_at.ensures ∙ behind c.args.key.now c.requires
