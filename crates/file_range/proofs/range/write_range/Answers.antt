-- `write_range`: each turn fills the part of the buffer that lies in one chunk.
-- Assumes nothing.
use borrow.Author.Rules.{rules}
use Prim.Native.Nat.{ℕ, ◌+◌, ◌-◌, ◌/◌, ◌%◌}
use mathlib.Core.Path.{◌≡◌, refl, ap, ◌∙◌}
use mathlib.Core.List.{List}
use native.Mathlib.Omega.{arith}
use lib.ListN.{length, take, drop}
use Rattle.octets.specs.Bytes.{filled}
use Rattle.aes_spec.specs.Cipher.{cipher}
use Rattle.aes.proofs.Ciphers.{length-cipher}
use Rattle.frame.specs.Layout.{all_parts}
use Rattle.frame.proofs.Pieces.{covers_byte}
use Rattle.frame.proofs.Filling.{length_part, part-fits, turn, filled-clear}
use Rattle.vault.specs.declared.record.Combo.{Combo}
use Rattle.vault.specs.Vault.{sizes_of}
use Rattle.vault.specs.Under.{good_under}
use Rattle.file_parts.specs.Under.{plain_under}
use Rattle.vault.proofs.Combos.{opened-size}
use Rattle.file_range.proofs.range.write_range.Goals as goal

sized_under : (k : Combo) (w : List ℕ) (i : ℕ) (b : List ℕ) → length (plain_under k (cipher 14 w) i b) ≡ length b - (sizes_of k).overhead
sized_under k w i b = opened-size k (cipher 14 w) (length-cipher 14 w) b

pub loop-done-init : goal.loop-done-init
loop-done-init c = (search rules, search rules, refl)

pub open_part-requires : goal.open_part-requires
open_part-requires c =
    let a = c.args in
    let w = c.part_len.result in
    let p = a.from + c.loop-done.done in
    let s = length_part c.loop-done.out c.loop-done.done w (search rules) in
    let f = part-fits a.n p w (search rules) (search rules) in
    let e = c.chunk_of-chunk.ensures.1 in
    let b = covers_byte a.from a.count c.loop-done.done (search rules) in
    let m = take (sizes_of a.combo).nonce a.file.now in
    let g = c.requires.by_index (p / 32768) (omega arith) b in record { tagged = (c.requires.in_bounds, (a.mac.now, m, p / 32768, ap (good_under a.combo (cipher 14 a.w.now) a.mac.now m (p / 32768)) c.chunk_of-chunk.ensures.0 ∙ g)); combo_in_bounds = omega (arith, s, f, e) }

pub loop-done-smaller : goal.loop-done-smaller
loop-done-smaller c =
    let w = c.part_len in
    omega (arith, w.ensures.1, w.ensures.3)

pub loop-done-preserved : goal.loop-done-preserved
loop-done-preserved c =
    let a = c.args in
    let w = c.part_len in
    let p = a.from + c.loop-done.done in
    let o = c.open_part in
    let plain = plain_under a.combo (cipher 14 a.w.now) in
    let sized = sized_under a.combo a.w.now in
    let e =
    turn (sizes_of a.combo) plain sized a.file.now c.loop-done.out a.out.now o.new.out a.n a.from c.loop-done.done w.result (search rules) (search rules) (search rules)
    (search rules) (search rules) c.loop-done.invariant.1 c.loop-done.invariant.2
    (o.ensures
    ∙ ap (λ (x : List ℕ). take (length (take (c.loop-done.done + w.result - c.loop-done.done) (drop c.loop-done.done c.loop-done.out))) (drop (p % 32768) (plain (p / 32768) x)))
    c.chunk_of-chunk.ensures.0) in
    (search rules, ap length e ∙ filled-clear (sizes_of a.combo) plain sized a.file.now a.out.now a.n a.from (c.loop-done.done + w.result) (search rules) (search rules) (search rules), e)

pub returns : goal.returns
returns c =
    let l = c.loop-done in
    let a = c.args in
    let e : l.done ≡ a.count = omega arith in
    l.invariant.2 ∙ ap (λ (n : ℕ). filled (drop a.from (all_parts (sizes_of a.combo) (plain_under a.combo (cipher 14 a.w.now)) a.file.now)) n a.out.now) e
