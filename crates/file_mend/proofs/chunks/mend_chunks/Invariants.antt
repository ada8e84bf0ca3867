-- `mend_chunks`: what the whole range asks for is what remains from chunk i on, in the file as it is.
-- Assumes nothing.
use Prim.Native.Nat.{ℕ, ◌-◌, ◌*◌, ◌≤◌, ◌<◌}
use mathlib.Core.Path.{◌≡◌}
use mathlib.Core.Bool.{true}
use mathlib.Core.List.{List}
use lib.ListN.{length, drop}
use Rattle.aes_spec.specs.Cipher.{cipher}
use Rattle.frame.specs.Layout.{chunk_at}
use Rattle.vault.specs.declared.record.Combo.{Combo}
use Rattle.vault.specs.Vault.{sizes_of}
use Rattle.vault.specs.Under.{sealed_under, good_under}
use Rattle.file_parts.specs.Under.{plain_under}
use Rattle.mend_spec.specs.Mend.{resealed, mended_from}
use Rattle.file_mend.proofs.chunks.mend_chunks.Given as goal

-- a chunk sealed again, under the expanded content key w
abbrev pub reseal : Combo → List ℕ → List ℕ → List ℕ → ℕ → List ℕ → ℕ → List ℕ → List ℕ → List ℕ
reseal k w mac n from new = resealed (sealed_under k (cipher 14 w) mac n) (plain_under k (cipher 14 w)) from new

abbrev pub invariant-loop-i : goal.invariant-loop-i
invariant-loop-i l =
    let k = l.keys in
    let z = sizes_of k.combo in
    let seal = reseal k.combo k.content.w.now k.mac.now k.header_nonce.now l.from l.new in
    (l.first ≤ l.i) × (l.i ≤ l.e) × (length l.file ≡ length l.initial.file)
    × ((j : ℕ) → l.i ≤ j → j < l.e → good_under k.combo (cipher 14 k.content.w.now) k.mac.now k.header_nonce.now j (chunk_at z l.file j) ≡ true)
    × (mended_from z seal l.first (l.e - l.first) l.nonces l.initial.file ≡ mended_from z seal l.i (l.e - l.i) (drop (z.nonce * (l.i - l.first)) l.nonces) l.file)
