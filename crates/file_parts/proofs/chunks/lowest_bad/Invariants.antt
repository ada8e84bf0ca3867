-- `lowest_bad`: upward from the first chunk; what is sought among all is what is sought from here on.
-- Assumes nothing.
use Prim.Native.Nat.{◌-◌, ◌≤◌}
use mathlib.Core.Path.{◌≡◌}
use Rattle.aes_spec.specs.Cipher.{cipher}
use Rattle.frame.specs.Layout.{lowest_bad}
use Rattle.vault.specs.Vault.{sizes_of}
use Rattle.vault.specs.Under.{good_under}
use Rattle.file_parts.proofs.chunks.lowest_bad.Given as goal

abbrev pub invariant-loop-i : goal.invariant-loop-i
invariant-loop-i l =
    let z = sizes_of l.keys.combo in
    let good = good_under l.keys.combo (cipher 14 l.keys.content.w.now) l.keys.mac.now l.keys.header_nonce.now in
    (l.i ≤ l.e) × (lowest_bad z good l.file l.first (l.e - l.first) ≡ lowest_bad z good l.file l.i (l.e - l.i))
