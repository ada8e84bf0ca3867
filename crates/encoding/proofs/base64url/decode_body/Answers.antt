-- `decode_body`: after i turns i groups are read; then the end goes to the rest of the buffer.
-- Assumes nothing.
use Prim.Native.Nat.{ℕ, ◌-◌, ◌*◌, ◌/◌}
use mathlib.Core.Path.{◌≡◌, refl, ap, ◌∙◌}
use mathlib.Core.Bool.{true}
use mathlib.Core.List.{List}
use borrow.Author.Rules.{rules}
use native.Mathlib.Omega.{arith}
use lib.ListN.{length, take, drop}
use Rattle.octets.specs.Bytes.{placed}
use Rattle.octets.proofs.Lists.{part-rest}
use Rattle.encoding.specs.Base64url.{octets, known}
use Rattle.encoding.proofs.Characters.{known-drop}
use Rattle.encoding.proofs.Groups.{written, group_more, group_end}
use Rattle.encoding.proofs.Texts.{bytes_of, bytes_groups, bytes-append}
use Rattle.encoding.proofs.base64url.decode_body.Goals as goal

-- What is left of a known text is known.
known-rest : (t : List ℕ) (k : ℕ) → known t ≡ true → known (take (length t - k) (drop k t)) ≡ true
known-rest t k h = rw (part-rest t (length t) k refl) (known-drop k t h)

pub loop-i-init : goal.loop-i-init
unfolding octets
loop-i-init c = (refl, refl)

pub decode_four-requires : goal.decode_four-requires
decode_four-requires c = record { text_value = known-rest _ _ c.requires.text_value; in_bounds = search rules }

pub loop-i-preserved : goal.loop-i-preserved
loop-i-preserved c =
    let l = c.loop-i in
    let x = c.args in
    let t = x.text.now in (
      c.out-1.given.1 ∙ l.invariant.0,
      group_more bytes_of 4 3 bytes_groups t x.out.now l.out _ l.i l.invariant.1 bytes-append _ (ap (take 4) (part-rest t (length t) (4 * l.i) refl)) (omega arith) c.decode_four.ensures,
    )

pub decode_end-requires : goal.decode_end-requires
decode_end-requires c = record { text_value = known-rest _ _ c.requires.text_value; text_len_bound = search rules }

pub returns : goal.returns
returns c =
    let l = c.loop-i in
    let x = c.args in
    let t = x.text.now in
    let n = length t / 4 in
    let e : l.i ≡ n = omega arith in
    group_end bytes_of 4 3 bytes_groups t x.out.now l.out _ n (l.invariant.1 ∙ ap (written bytes_of 4 3 t x.out.now) e) bytes_of bytes-append (omega arith)
    (c.decode_end.ensures ∙ ap (λ (b : List ℕ). placed (bytes_of b) 0 (take (length l.out - 3 * n) (drop (3 * n) l.out))) (part-rest t (length t) (4 * n) refl))
