-- `put_tag`: the tag of what stands before it, to the end of out.
-- Assumes nothing.
use Prim.Native.Nat.{ℕ, ◌-◌}
use mathlib.Core.Path.{◌≡◌, sym, ◌∙◌, ap}
use mathlib.Core.List.{List, ◌++◌}
use native.Mathlib.Omega.{arith}
use lib.ListN.{length, take, take-append-drop}
use lib.Seq.{length-take-le}
use Rattle.octets.specs.Bytes.{placed}
use Rattle.octets.specs.Words.{word_bytes}
use Rattle.octets.proofs.Lists.{placed-behind}
use Rattle.gcm.proofs.aead.put_tag.Goals as goal

pub slice_bounds-tag-end-2 : goal.slice_bounds-tag-end-2
slice_bounds-tag-end-2 c =
    let d = c.args.out.now in
    sym (length-take-le (length d - 16) d (omega arith))

pub tag-x-requires : goal.tag-x-requires
tag-x-requires c =
    let d = c.args.out.now in
    let n : length (take (length d - 16) d) ≡ length d - 16 = length-take-le (length d - 16) d (omega arith) in record { nonce_len = (c.requires.nonce_len.0, c.requires.nonce_len.1, omega (arith, n, c.requires.nonce_len)) }

pub returns : goal.returns
unfolding word_bytes
returns c =
    let d = c.args.out.now in
    let n = length d - 16 in
    let t = c.to_bytes.result in
    let m : length t ≡ 16 = ap length c.to_bytes.ensures in
    c.copy_at.ensures
    ∙ ap (placed t n) (sym (take-append-drop n d))
    ∙ placed-behind (take n d) t d n (length-take-le n d (omega arith)) (omega (arith, m, c.requires.nonce_len))
    ∙ ap (λ (x : List ℕ). take n d ++ x) (c.to_bytes.ensures ∙ c.tag-x.ensures)
