-- `good`: the nonce and the sealed text are parts of what is stored.
-- Assumes nothing.
use Prim.Native.Nat.{ℕ, ◌-◌}
use mathlib.Core.Path.{◌≡◌, refl, sym, ◌∙◌, ap}
use mathlib.Core.List.{List}
use native.Mathlib.Omega.{arith}
use lib.ListN.{length, take, drop, length-drop}
use lib.Seq.{length-take-le}
use Rattle.octets.proofs.Lists.{part-rest}
use Rattle.aes_spec.specs.Cipher.{cipher}
use Rattle.gcm.specs.Gcm as gcm
use Rattle.siv_gcm.specs.SivGcm.{opens}
use Rattle.siv_gcm.proofs.stored.good.Goals as goal

pub slice_bounds-good-end : goal.slice_bounds-good-end
slice_bounds-good-end c =
    let s = c.args.stored.now in
    sym (length-take-le 12 s (omega (arith, c.requires.aad_len_bound)))

pub good-requires : goal.good-requires
good-requires c =
    let s = c.args.stored.now in
    let n : length (take 12 s) ≡ 12 = length-take-le 12 s (omega (arith, c.requires.aad_len_bound)) in
    let m : length (take (length s - 12) (drop 12 s)) ≡ length s - 12 = ap length (part-rest s (length s) 12 refl) ∙ length-drop 12 s in record { nonce_len = (n, c.requires.aad_len_bound.0, omega (arith, m, c.requires.aad_len_bound), omega (arith, m, c.requires.aad_len_bound)) }

pub returns : goal.returns
unfolding opens
returns c =
    let x = c.args in
    let s = x.stored.now in
    c.good.ensures ∙ ap (λ (d : List ℕ). gcm.good (cipher 14 x.k.now.w.now) (take 12 s) x.aad.now d) (part-rest s (length s) 12 refl)
