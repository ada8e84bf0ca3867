-- `open_part`: the ciphertext stands between the nonce and the tag.
-- Assumes nothing.
use Prim.Native.Nat.{ℕ, ◌-◌, ◌≤◌}
use mathlib.Core.Path.{◌≡◌, sym, ◌∙◌, ap}
use mathlib.Core.List.{List}
use native.Mathlib.Omega.{arith}
use lib.ListN.{length, take, drop, length-drop}
use lib.Seq.{length-take-le}
use Rattle.aes_spec.specs.Cipher.{cipher}
use Rattle.gcm.specs.Gcm as gcm
use Rattle.siv_gcm.specs.SivGcm.{opened}
use Rattle.siv_gcm.proofs.stored.open_part.Goals as goal

-- the ciphertext, between a nonce and a tag
between : (s : List ℕ) → 28 ≤ length s → length (take (length s - 16 - 12) (drop 12 s)) ≡ length s - 28
between s h =
    let k : length s - 16 - 12 ≤ length (drop 12 s) = rw length-drop (omega arith) in
    length-take-le (length s - 16 - 12) (drop 12 s) k ∙ omega arith

pub slice_bounds-crypt-end : goal.slice_bounds-crypt-end
slice_bounds-crypt-end c =
    let s = c.args.stored.now in
    sym (length-take-le 12 s (omega (arith, c.requires.out_in_bounds)))

pub crypt-requires : goal.crypt-requires
crypt-requires c =
    let s = c.args.stored.now in
    let n : length (take 12 s) ≡ 12 = length-take-le 12 s (omega (arith, c.requires.out_in_bounds)) in
    let h : 28 ≤ length s = omega (arith, c.requires.out_in_bounds) in record { in_bounds = (c.requires.tagged.0, n, omega (arith, between s h, c.requires.out_in_bounds)) }

pub returns : goal.returns
unfolding opened gcm.plain
returns c =
    let x = c.args in
    let s = x.stored.now in
    let e : length s - 16 - 12 ≡ length (drop 12 s) - 16 = rw length-drop (omega arith) in
    c.crypt.ensures
    ∙ ap (λ (k : ℕ). take (length x.out.now) (drop x.lo (gcm.crypt (cipher 14 x.w.now) (take 12 s) (take k (drop 12 s))))) e
