-- `mend`: the rows in order, by sizes and nonces; then the range is known to lie inside, and the nonces to be fresh.
-- Assumes nothing.
use Prim.Native.Nat.{ℕ, zero, suc, ◌+◌, ◌*◌, ◌^◌, ◌≤◌, ◌<◌}
use mathlib.Core.Path.{◌≡◌, sym, ap, ap₂, ◌∙◌}
use mathlib.Core.Bool.{Bool, true, ◌||◌}
use mathlib.Core.List.{List, [], ◌∷◌}
use native.Mathlib.Nat.{mul_comm, mul-le-mul_left}
use native.Mathlib.Omega.{arith}
use lib.ListN.{length}
use borrow.Author.Rules.{rules}
use borrow.Author.Tests.{ltb-true, ltb-false}
use Rattle.octets.specs.Rows.{done, refused, answer, ended}
use Rattle.frame.specs.Layout.{Sizes, chunks, covering, repeats, file_length, clear_length}
use Rattle.frame.specs.Frame.{Codec, master_keys_right}
use Rattle.frame.specs.Rules.{KeySizes}
use Rattle.frame.proofs.KeySizes.{keys_exactly}
use Rattle.frame.proofs.Lengths.{file-clear}
use Rattle.vault.specs.declared.record.Vault.{Vault}
use Rattle.vault.specs.Vault.{sizes_of, codec_of}
use Rattle.vault.proofs.Combos.{codec_by, codec_by_lem, small_nonce}
use Rattle.mend_spec.specs.Mend.{any_in_use, clashes, mend_rows, mend_file}
use Rattle.mend_spec.proofs.Ends.{mend_ends}
use Rattle.mend_spec.proofs.Steps.{row_1, row_4, row_6, row_8}
use Rattle.file_mend.proofs.mend.Goals as goal

-- the combo's codec under the record's keys
abbrev codec : Vault → Codec
codec v = codec_by v.combo v.enc v.mac

-- a refusal, by the answer of the rows
module _ (v : Vault) (f : List ℕ) (from : ℕ) (new nonces : List ℕ) where
  refuses : (k : ℕ) → answer (mend_rows (codec v) f from new nonces) (done (length new ∷ [])) ≡ refused k → ended (refused k) f ≡ mend_file (codec_of v) f from new nonces
  refuses k e = sym (mend_ends (codec v) f from new nonces (refused k) e) ∙ ap (λ (C : Codec). mend_file C f from new nonces) (codec_by_lem v.combo v.enc v.mac)

-- of the nonces that are asked for, and whether they clash, where the code counts in variables
keyed : (v : Vault) → KeySizes v.enc v.mac → master_keys_right v.enc v.mac ≡ true
keyed v = (keys_exactly v.enc v.mac).1

asked : (z s : Sizes) (k m : ℕ) → z ≡ s → k ≡ m → z.nonce * k ≡ s.nonce * m
asked z s k m = ap₂ (λ (y : Sizes) (j : ℕ). y.nonce * j)

told : (z : Sizes) (f nonces : List ℕ) (from count k n : ℕ) (b : Bool) → k ≡ covering from count → n ≡ clear_length z (length f) → b ≡ (repeats z.nonce k nonces || any_in_use z k nonces f (chunks n)) → clashes z f from count nonces ≡ b
unfolding clashes
told z f nonces from count k n b e h r = sym (r ∙ ap₂ (λ (m y : ℕ). repeats z.nonce m nonces || any_in_use z m nonces f (chunks y)) e h)

-- the size of all nonces fits
small_covering : (from count : ℕ) → count < 2 ^ 63 → covering from count ≤ 2 ^ 49
unfolding covering
small_covering from zero h = omega arith
small_covering from (suc c) h = omega arith

product_fits : (w k : ℕ) → w ≤ 16 → k ≤ 2 ^ 49 → w * k < 2 ^ 64
product_fits w k a b = omega (arith, mul_comm w k, mul-le-mul_left {m = w} {n = 16} k a, b)

pub overflow_mul-sizes_of : goal.overflow_mul-sizes_of
overflow_mul-sizes_of c =
    let x = c.args in
    let h : length x.new.now < 2 ^ 63 = search rules in
    omega (arith, asked _ _ _ _ c.sizes_of.ensures c.covering-k.ensures, product_fits _ _ (small_nonce x.v.combo) (small_covering x.from (length x.new.now) h))

pub returns-then-nonces-sizes_of : goal.returns-then-nonces-sizes_of
returns-then-nonces-sizes_of c =
    let x = c.args in
    refuses x.v x.file.now x.from x.new.now x.nonces.now 1 (row_1 _ _ _ _ _ _ (keyed x.v (search rules, search rules)) (λ e. c.if-nonces-sizes_of.true (e ∙ sym (asked _ _ _ _ c.sizes_of.ensures c.covering-k.ensures))))

pub returns-then-not-right_length : goal.returns-then-not-right_length
returns-then-not-right_length c =
    let x = c.args in
    refuses x.v x.file.now x.from x.new.now x.nonces.now 4 (row_4 _ _ _ _ _ _ (keyed x.v (search rules, search rules)) (c.if-nonces-sizes_of.false ∙ asked _ _ _ _ c.sizes_of.ensures c.covering-k.ensures) (sym c.if-not-right_length.ensures))

pub returns-then-outside : goal.returns-then-outside
returns-then-outside c =
    let x = c.args in
    let h = ltb-true c.clear_length-n.result (x.from + length x.new.now) (sym c.if-outside.ensures) in
    refuses x.v x.file.now x.from x.new.now x.nonces.now 6 (row_6 _ _ _ _ _ _ (keyed x.v (search rules, search rules)) (c.if-nonces-sizes_of.false ∙ asked _ _ _ _ c.sizes_of.ensures c.covering-k.ensures) (sym c.if-not-right_length.ensures) (omega (arith, c.clear_length-n.ensures, h)))

pub clash-requires : goal.clash-requires
clash-requires c =
    let x = c.args in
    let z = sizes_of x.v.combo in
    (omega (arith, c.if-nonces-sizes_of.false ∙ asked _ _ _ _ c.sizes_of.ensures c.covering-k.ensures, ap (λ (m : ℕ). z.nonce * m) c.covering-k.ensures), file-clear z (length x.file.now) (sym c.if-not-right_length.ensures) ∙ ap (file_length z) (sym c.clear_length-n.ensures))

pub returns-then-clash : goal.returns-then-clash
returns-then-clash c =
    let x = c.args in
    let h = ltb-false c.clear_length-n.result (x.from + length x.new.now) (sym c.if-outside.ensures) in
    let t = told (sizes_of x.v.combo) x.file.now x.nonces.now x.from (length x.new.now) _ _ _ c.covering-k.ensures c.clear_length-n.ensures c.if-clash.ensures in
    refuses x.v x.file.now x.from x.new.now x.nonces.now 8 (row_8 _ _ _ _ _ _ (keyed x.v (search rules, search rules)) (c.if-nonces-sizes_of.false ∙ asked _ _ _ _ c.sizes_of.ensures c.covering-k.ensures) (sym c.if-not-right_length.ensures) (omega (arith, c.clear_length-n.ensures, h)) t)

pub mend_inside-requires : goal.mend_inside-requires
mend_inside-requires c =
    let x = c.args in
    let h = ltb-false c.clear_length-n.result (x.from + length x.new.now) (sym c.if-outside.ensures) in
    let t = told (sizes_of x.v.combo) x.file.now x.nonces.now x.from (length x.new.now) _ _ _ c.covering-k.ensures c.clear_length-n.ensures c.if-clash.ensures in
    record { file_len = (sym c.if-not-right_length.ensures, c.clear_length-n.ensures, h, c.if-nonces-sizes_of.false ∙ asked _ _ _ _ c.sizes_of.ensures c.covering-k.ensures); nonces_value = t }
