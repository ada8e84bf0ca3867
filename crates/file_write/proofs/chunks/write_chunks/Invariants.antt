-- `write_chunks`: what is written, and the chunks from i on behind it, are the whole.
-- Assumes nothing.
use Prim.Native.Nat.{◌+◌, ◌-◌, ◌*◌, ◌≤◌, min}
use mathlib.Core.Path.{◌≡◌}
use mathlib.Core.List.{◌++◌}
use lib.ListN.{length, take, drop}
use Rattle.aes_spec.specs.Cipher.{cipher}
use Rattle.frame.specs.Layout.{chunks_from}
use Rattle.vault.specs.Under.{sealed_under, sizes_in}
use Rattle.file_write.proofs.chunks.write_chunks.Given as goal

abbrev pub invariant-loop-i : goal.invariant-loop-i
invariant-loop-i l =
    let z = sizes_in l.z in
    let seal = sealed_under l.keys.combo (cipher 14 l.keys.content.w.now) l.keys.mac.now l.keys.header_nonce.now in
    (l.i ≤ l.k)
    × (length l.out ≡ length l.initial.out)
    × (chunks_from z seal 0 l.k l.nonces l.cleartext
    ≡ take (min (32768 * l.i) (length l.cleartext) + l.z.overhead * l.i) l.out
    ++ chunks_from z seal l.i (l.k - l.i) (drop (l.z.nonce * l.i) l.nonces) (drop (32768 * l.i) l.cleartext))
