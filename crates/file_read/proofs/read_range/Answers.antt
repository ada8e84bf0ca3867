-- `read_range`: the rows in order, by sizes alone; then the range is known to lie inside, and the buffer to have room.
-- Assumes nothing.
use borrow.Author.Rules.{rules}
use Prim.Native.Nat.{ℕ, ◌+◌}
use mathlib.Core.Path.{◌≡◌, sym, ap, ◌∙◌}
use mathlib.Core.Bool.{true}
use mathlib.Core.List.{List, [], ◌∷◌}
use borrow.Author.Tests.{ltb-true, ltb-false}
use native.Mathlib.Omega.{arith}
use lib.ListN.{length}
use Rattle.octets.specs.Rows.{done, refused, answer, ended}
use Rattle.frame.specs.Frame.{Codec, range_rows, read_range, master_keys_right}
use Rattle.frame.proofs.Success.{read_ends}
use Rattle.frame.proofs.Answers.{row_4, row_6, row_7}
use Rattle.frame.specs.Rules.{KeySizes}
use Rattle.frame.proofs.KeySizes.{keys_exactly}
use Rattle.vault.specs.declared.record.Vault.{Vault}
use Rattle.vault.specs.Vault.{codec_of}
use Rattle.vault.proofs.Combos.{codec_by, codec_by_lem}
use Rattle.file_read.proofs.read_range.Goals as goal

-- the combo's codec under the record's keys
abbrev codec : Vault → Codec
codec v = codec_by v.combo v.enc v.mac

keyed : (v : Vault) → KeySizes v.enc v.mac → master_keys_right v.enc v.mac ≡ true
keyed v = (keys_exactly v.enc v.mac).1

-- a refusal, by the answer of the rows
module _ (v : Vault) (f : List ℕ) (from count : ℕ) (out : List ℕ) where
  refuses : (k : ℕ) → answer (range_rows (codec v) f from count (length out)) (done (count ∷ [])) ≡ refused k → ended (refused k) out ≡ read_range (codec_of v) f from count out
  refuses k e = sym (read_ends (codec v) f from count out (refused k) e) ∙ ap (λ (C : Codec). read_range C f from count out) (codec_by_lem v.combo v.enc v.mac)

pub returns-then-not-right_length : goal.returns-then-not-right_length
returns-then-not-right_length c =
    let x = c.args in
    refuses x.v x.file.now x.from x.count x.out.now 4 (row_4 _ _ _ _ _ _ (keyed x.v (search rules, search rules)) (sym c.if-not-right_length.ensures))

pub returns-then-outside : goal.returns-then-outside
returns-then-outside c =
    let x = c.args in
    let n = c.clear_length-n in
    let h = ltb-true n.result (x.from + x.count) (sym c.if-outside.ensures) in
    refuses x.v x.file.now x.from x.count x.out.now 6 (row_6 _ _ _ _ _ _ (keyed x.v (search rules, search rules)) (sym c.if-not-right_length.ensures) (omega (arith, n.ensures, h)))

pub returns-then-out-count : goal.returns-then-out-count
returns-then-out-count c =
    let x = c.args in
    let n = c.clear_length-n in
    let h = ltb-false n.result (x.from + x.count) (sym c.if-outside.ensures) in
    refuses x.v x.file.now x.from x.count x.out.now 7 (row_7 _ _ _ _ _ _ (keyed x.v (search rules, search rules)) (sym c.if-not-right_length.ensures) (omega (arith, n.ensures, h)) c.if-out-count.true)

pub read_inside-requires : goal.read_inside-requires
read_inside-requires c =
    let x = c.args in
    let h = ltb-false c.clear_length-n.result (x.from + x.count) (sym c.if-outside.ensures) in
    (sym c.if-not-right_length.ensures, c.clear_length-n.ensures, h, c.if-out-count.false)
