-- `open_text`: the sealed name of the text, opened into a buffer of its own before the caller's gets a byte.
-- Assumes nothing.
use Prim.Native.Nat.{◌+◌, ◌-◌}
use mathlib.Core.Path.{◌≡◌, sym}
use native.Mathlib.Omega.{arith}
use lib.ListN.{length}
use lib.Seq.{length-take-le}
use borrow.Author.Rules.{rules}
use Rattle.name_spec.specs.Names.{name_limit, iv_size, sealed_of, name_length}
use Rattle.name_spec.proofs.Texts.{text_facts, text-size}
use Rattle.name_texts.proofs.Opening.{sealed_part, sealed_fits, wrong_iv, name_part, no_text, opened}
use Rattle.name_texts.proofs.texts.open_text.Goals as goal

pub overflow_sub-k : goal.overflow_sub-k
overflow_sub-k c = let t = text-size c.args.text.now c.requires.text_value.0 in omega (arith, t)

pub slice_bounds-decode-end : goal.slice_bounds-decode-end
slice_bounds-decode-end c = let t = c.args.text.now in sym (length-take-le (length t - 4) t (omega arith))

pub decode-requires : goal.decode-requires
unfolding sealed_of
decode-requires c = let f = text_facts c.args.text.now c.requires.text_value.0 in record { text_value = f.accepted; text_in_bounds = f.high }

pub slice_bounds-sealed-end : goal.slice_bounds-sealed-end
unfolding name_length
slice_bounds-sealed-end c =
    let p = c.requires.text_value in
    let f = text_facts c.args.text.now p.0 in
    let l : length c.decode.new.out ≡ name_limit + iv_size = search rules in
    omega (arith, l, f.low, f.high, p.1)

pub slice_bounds-open_under-end : goal.slice_bounds-open_under-end
slice_bounds-open_under-end c = sealed_part c.args.enc.now c.args.mac.now c.args.id.now c.args.text.now c.args.out.now c.args.n c.requires.text_value _ c.decode.ensures

pub open_under-requires : goal.open_under-requires
open_under-requires c =
    let f = sealed_fits c.args.enc.now c.args.mac.now c.args.id.now c.args.text.now c.args.out.now c.args.n c.requires.text_value _ c.decode.ensures in
    record { mac_value = c.requires.mac_value; iv_size_in_bounds = (f.0, f.1, f.1) }

pub returns-then-not-open_under : goal.returns-then-not-open_under
returns-then-not-open_under c = wrong_iv c.args.enc.now c.args.mac.now c.args.id.now c.args.text.now c.args.out.now c.args.n c.requires.text_value _ c.decode.ensures _ c.open_under.ensures.value c.if-not-open_under.true

pub slice_bounds-name-end : goal.slice_bounds-name-end
unfolding name_length
slice_bounds-name-end c =
    let f = text_facts c.args.text.now c.requires.text_value.0 in
    let l : length c.open_under.new.out ≡ name_limit = search rules in
    omega (arith, l, f.high, c.requires.text_value.1)

pub slice_bounds-proper_text-end : goal.slice_bounds-proper_text-end
slice_bounds-proper_text-end c = name_part c.args.enc.now c.args.mac.now c.args.id.now c.args.text.now c.args.out.now c.args.n c.requires.text_value _ c.decode.ensures _ c.open_under.ensures.out_after

pub returns-then-not-proper_text : goal.returns-then-not-proper_text
returns-then-not-proper_text c = no_text c.args.enc.now c.args.mac.now c.args.id.now c.args.text.now c.args.out.now c.args.n c.requires.text_value _ c.decode.ensures _ c.open_under.ensures.out_after _ _ c.open_under.ensures.value c.if-not-open_under.false c.proper_text.ensures c.if-not-proper_text.true

pub slice_bounds-name-end-2 : goal.slice_bounds-name-end-2
unfolding name_length
slice_bounds-name-end-2 c =
    let f = text_facts c.args.text.now c.requires.text_value.0 in
    let l : length c.open_under.new.out ≡ name_limit = search rules in
    omega (arith, l, f.high, c.requires.text_value.1)

pub slice_bounds-copy_at-end : goal.slice_bounds-copy_at-end
slice_bounds-copy_at-end c = name_part c.args.enc.now c.args.mac.now c.args.id.now c.args.text.now c.args.out.now c.args.n c.requires.text_value _ c.decode.ensures _ c.open_under.ensures.out_after

pub copy_at-requires : goal.copy_at-requires
copy_at-requires c = let l = name_part c.args.enc.now c.args.mac.now c.args.id.now c.args.text.now c.args.out.now c.args.n c.requires.text_value _ c.decode.ensures _ c.open_under.ensures.out_after in omega (arith, l, c.requires.text_value.2)

pub returns : goal.returns
returns c = opened c.args.enc.now c.args.mac.now c.args.id.now c.args.text.now c.args.out.now c.args.n c.requires.text_value _ c.decode.ensures _ c.open_under.ensures.out_after _ _ c.open_under.ensures.value c.if-not-open_under.false c.proper_text.ensures _ c.if-not-proper_text.false c.copy_at.ensures
