-- `key_block`: the key, or its hash, at the front of zeros.
-- Assumes nothing.
use Prim.Native.Nat.{ℕ, ◌≤◌}
use mathlib.Core.Path.{◌≡◌, ◌∙◌, sym, ap}
use mathlib.Core.List.{List, ◌++◌}
use native.Mathlib.Omega.{arith}
use native.Mathlib.Nat.{zero-add}
use lib.ListN.{length, drop, replicate}
use Rattle.octets.specs.Bytes.{placed}
use Rattle.octets.proofs.Lists.{drop-replicate}
use Rattle.sha256.specs.Message.{sha256}
use Rattle.sha256.proofs.Laws.{thirty_two_bytes}
use Rattle.hmac.specs.Hmac.{to_block}
use Rattle.hmac.proofs.Laws.{short-key, long_key}
use Rattle.hmac.proofs.key_block.Goals as goal

-- At the front of a block of zeros.
in_front : (s : List ℕ) → length s ≤ 64 → placed s 0 (replicate 64 0) ≡ to_block s
unfolding to_block
in_front s h = ap (λ (n : ℕ). s ++ drop n (replicate 64 0)) (zero-add (length s)) ∙ ap (λ (l : List ℕ). s ++ l) (drop-replicate (length s) 64 0 h)

pub returns-then-key-le64 : goal.returns-then-key-le64
returns-then-key-le64 c =
    let key = c.args.key.now in
    let few : length key ≤ 64 = omega arith in
    c.copy_at.ensures ∙ in_front key few ∙ sym (short-key key few)

pub returns-else-key-le64 : goal.returns-else-key-le64
returns-else-key-le64 c =
    let key = c.args.key.now in
    let d = c.digest.ensures in
    let n = (thirty_two_bytes key).0 in
    c.copy_at-else-key-le64.ensures ∙ ap (λ (s : List ℕ). placed s 0 (replicate 64 0)) d ∙ in_front (sha256 key) (omega arith)
    ∙ sym (long_key key (omega arith))
