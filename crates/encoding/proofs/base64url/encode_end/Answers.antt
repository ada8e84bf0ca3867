-- `encode_end`: by the number of bytes.
-- Assumes nothing.
use Prim.Native.Nat.{ℕ}
use mathlib.Core.Path.{◌≡◌, sym, ◌∙◌, ap}
use mathlib.Core.Bool.{Bool, true, false}
use mathlib.Core.List.{List, []}
use native.Mathlib.Omega.{arith}
use lib.ListN.{length}
use Rattle.octets.specs.Bytes.{placed}
use Rattle.octets.proofs.Lists.{list_tab}
use Rattle.encoding.specs.Base64url.{sextets, pad, encode}
use Rattle.encoding.proofs.Texts.{room}
use Rattle.encoding.proofs.base64url.encode_end.Goals as goal

none : (p : Bool) (s : List ℕ) → length s ≡ 0 → [] ≡ encode p s
unfolding encode pad sextets
none true s h = rw (list_tab 0 s h)
none false s h = rw (list_tab 0 s h)

pub returns-then-bytes-eq0 : goal.returns-then-bytes-eq0
returns-then-bytes-eq0 c =
    let x = c.args in
    ap (λ (l : List ℕ). placed l 0 x.out.now) (none x.padded x.bytes.now c.if-bytes-eq0.true)

pub encode_one-requires : goal.encode_one-requires
encode_one-requires c = let h = room c.args.padded (length c.args.bytes.now) 1 (length c.args.out.now) c.if-bytes-eq1.true c.requires.bytes_len_bound.1 in record { in_bounds = (h.0, h.1) }

pub returns-then-bytes-eq1 : goal.returns-then-bytes-eq1
returns-then-bytes-eq1 c =
    let x = c.args in
    c.encode_one.ensures ∙ ap (λ (l : List ℕ). placed (encode x.padded l) 0 x.out.now) (sym (list_tab 1 x.bytes.now c.if-bytes-eq1.true))

pub encode_two-requires : goal.encode_two-requires
encode_two-requires c = let h = room c.args.padded (length c.args.bytes.now) 2 (length c.args.out.now) (omega arith) c.requires.bytes_len_bound.1 in record { in_bounds = (h.0, h.1) }

pub returns : goal.returns
returns c =
    let x = c.args in
    let n : length x.bytes.now ≡ 2 = omega arith in
    c.encode_two.ensures ∙ ap (λ (l : List ℕ). placed (encode x.padded l) 0 x.out.now) (sym (list_tab 2 x.bytes.now n))
