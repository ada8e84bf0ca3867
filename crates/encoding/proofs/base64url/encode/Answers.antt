-- `encode`: after i turns i groups are written; then the end goes to the rest of the buffer.
-- Assumes nothing.
use Prim.Native.Nat.{ℕ, ◌+◌, ◌-◌, ◌*◌, ◌/◌}
use mathlib.Core.Path.{◌≡◌, refl, sym, ap, ◌∙◌}
use mathlib.Core.Bool.{false}
use mathlib.Core.List.{List, [], ◌∷◌}
use borrow.Author.Rules.{rules}
use native.Mathlib.Omega.{arith}
use native.Mathlib.Nat.{add-zero}
use lib.ListN.{length, get_or, take, drop, length-drop}
use lib.Seq.{get_or-drop}
use Rattle.octets.specs.Bytes.{placed}
use Rattle.octets.proofs.Lists.{part-rest}
use Rattle.encoding.specs.Base64url.{sextets, pad, encode}
use Rattle.encoding.proofs.Groups.{written, part-tab, group_more, group_end}
use Rattle.encoding.proofs.Texts.{encode_groups, encode-append, room, room-end}
use Rattle.encoding.proofs.base64url.encode.Goals as goal

pub loop-i-init : goal.loop-i-init
unfolding encode pad sextets
loop-i-init c =
    let h = (room c.args.padded (length c.args.bytes.now) _ (length c.args.out.now) refl c.requires).0 in
    (omega arith, refl, refl)

pub encode_three-requires : goal.encode_three-requires
encode_three-requires c = record { in_bounds = search rules }

pub loop-i-preserved : goal.loop-i-preserved
loop-i-preserved c =
    let l = c.loop-i in
    let x = c.args in
    let s = x.bytes.now in
    let g : take 3 (drop (3 * l.i) s) ≡ get_or s (3 * l.i) 0 ∷ get_or s (3 * l.i + 1) 0 ∷ get_or s (3 * l.i + 2) 0 ∷ [] =
    part-tab s (3 * l.i) 3 (omega arith) ∙ simp (get_or-drop, add-zero) in (
      omega arith,
      c.out-1.given.1 ∙ l.invariant.1,
      group_more (encode false) 3 4 encode_groups s x.out.now l.out _ l.i l.invariant.2 (encode-append false) _ (sym g) (omega arith) c.encode_three.ensures,
    )

pub encode_end-requires : goal.encode_end-requires
encode_end-requires c =
    let l = c.loop-i in
    let b = c.args.bytes.now in
    let n = length b / 3 in
    let e : length (take (length b - 3 * n) (drop (3 * n) b)) ≡ length b - 3 * n = ap length (part-rest b (length b) (3 * n) refl) ∙ length-drop (3 * n) b in
    let f : length (take (length l.out - 4 * n) (drop (4 * n) l.out)) ≡ length c.args.out.now - 4 * n =
    ap length (part-rest l.out (length l.out) (4 * n) refl) ∙ length-drop (4 * n) l.out ∙ ap (λ (k : ℕ). k - 4 * n) l.invariant.1 in record { bytes_len_bound = (omega arith, room-end c.args.padded (length b) (length c.args.out.now) _ _ c.requires e f) }

pub returns : goal.returns
returns c =
    let l = c.loop-i in
    let x = c.args in
    let s = x.bytes.now in
    let n = length s / 3 in
    let e : l.i ≡ n = omega arith in
    group_end (encode false) 3 4 encode_groups s x.out.now l.out _ n (l.invariant.2 ∙ ap (written (encode false) 3 4 s x.out.now) e) (encode x.padded) (encode-append x.padded) (omega arith)
    (c.encode_end.ensures ∙ ap (λ (b : List ℕ). placed (encode x.padded b) 0 (take (length l.out - 4 * n) (drop (4 * n) l.out))) (part-rest s (length s) (3 * n) refl))
