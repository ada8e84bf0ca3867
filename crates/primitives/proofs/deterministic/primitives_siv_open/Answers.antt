-- `primitives_siv_open`: the tests in order, and opening into a buffer of its own before the caller's gets a byte.
-- Assumes nothing.
use Prim.Native.Nat.{ℕ, ◌-◌, ◌≤◌}
use mathlib.Core.Path.{◌≡◌, sym, ◌∙◌, ap}
use native.Mathlib.Omega.{arith}
use lib.ListN.{length, take, drop, replicate, length-append, length-replicate}
use lib.Seq.{length-take-le, take_at}
use Rattle.aes_spec.specs.Cipher.{aes}
use Rattle.aes.proofs.Ciphers.{length-aes}
use Rattle.siv.proofs.Laws.{length-plain}
use Rattle.primitives.proofs.Ends.{siv_facts}
use Rattle.primitives.proofs.deterministic.primitives_siv_open.Goals as goal

room : (n : ℕ) → n ≤ 1024 → length (take n (replicate {A = ℕ} 1024 0)) ≡ n
room n h = length-take-le n (replicate 1024 0) (omega (arith, length-replicate {A = ℕ} 1024 0))

pub slice_bounds-cleartext-end : goal.slice_bounds-cleartext-end
slice_bounds-cleartext-end c = (siv_facts _ _ _ (sym c.siv_fits.ensures ∙ c.if-not-siv_fits.false)).2

pub slice_bounds-open_under-end : goal.slice_bounds-open_under-end
slice_bounds-open_under-end c = sym (room _ (siv_facts _ _ _ (sym c.siv_fits.ensures ∙ c.if-not-siv_fits.false)).2)

pub open_under-requires : goal.open_under-requires
open_under-requires c =
    let f = siv_facts _ _ _ (sym c.siv_fits.ensures ∙ c.if-not-siv_fits.false) in
    let n = room _ f.2 in
    (f.0, f.1, omega (arith, n, f.2), omega (arith, n, c.if-sealed-lt16.false))

pub slice_bounds-cleartext-end-2 : goal.slice_bounds-cleartext-end-2
slice_bounds-cleartext-end-2 c =
    let x = c.args in
    let n = ap length c.open_under.ensures.out_after ∙ length-plain (aes 8 x.enc_key.now) (length-aes 8 x.enc_key.now) x.sealed.now in
    omega (arith, n, length-append c.open_under.new.out (drop (length x.sealed.now - 16) (replicate {A = ℕ} 1024 0)))

pub slice_bounds-copy_at-end : goal.slice_bounds-copy_at-end
slice_bounds-copy_at-end c =
    let x = c.args in
    let n = ap length c.open_under.ensures.out_after ∙ length-plain (aes 8 x.enc_key.now) (length-aes 8 x.enc_key.now) x.sealed.now in
    sym (ap length (take_at c.open_under.new.out (drop (length x.sealed.now - 16) (replicate {A = ℕ} 1024 0)) (length x.sealed.now - 16) n) ∙ n)
