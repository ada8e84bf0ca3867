-- `chunk_data`: the number's eight bytes, and the nonce after them.
-- Assumes nothing.
use Prim.Native.Nat.{ℕ, ◌+◌}
use mathlib.Core.Path.{◌≡◌, ◌∙◌, ap}
use mathlib.Core.List.{List, ◌++◌}
use native.Mathlib.Omega.{arith}
use lib.ListN.{length, drop, replicate}
use Rattle.octets.specs.Bytes.{placed}
use Rattle.octets.specs.BigEndian.{be}
use Rattle.octets.proofs.BigEndian.{length-be}
use Rattle.octets.proofs.Lists.{placed-behind}
use Rattle.siv_gcm.specs.SivGcm.{chunk_data}
use Rattle.siv_gcm.proofs.chunk.chunk_data.Goals as goal

whole : (b v : List ℕ) → length b ≡ 8 → length v ≡ 12 → placed v 8 (placed b 0 (replicate 20 0)) ≡ b ++ v
whole b v h k =
    let e : 0 + length b ≡ 8 = omega arith in
    ap (λ (n : ℕ). placed v 8 (b ++ drop n (replicate 20 0))) e ∙ placed-behind b v (replicate 20 0) 8 h (omega arith)

pub returns : goal.returns
unfolding chunk_data
returns c =
    let v = c.args.header_nonce.now in
    c.copy_at-2.ensures
    ∙ ap (placed v 8) (c.copy_at.ensures ∙ ap (λ (b : List ℕ). placed b 0 (replicate 20 0)) c.split_eight.ensures)
    ∙ whole (be 8 c.args.number) v (length-be 8 c.args.number) c.requires
