-- `store_keys`: the two keys and the combo's number, one behind the other.
-- Assumes nothing.
use Prim.Native.Nat.{ℕ}
use mathlib.Core.Path.{sym, ap, ◌∙◌}
use mathlib.Core.List.{[], ◌∷◌, append_assoc}
use lib.ListN.{take, drop}
use native.Mathlib.Omega.{arith}
use Rattle.std.proofs.lemmas.List.{set_split}
use Rattle.octets.specs.Bytes.{placed}
use Rattle.frame.specs.Rules.{KeySizes}
use Rattle.reader_bytes.specs.ReaderBytes.{combo_number}
use Rattle.reader_bytes.proofs.Storing.{placed-keys}
use borrow.Author.Rules.{rules}
use Rattle.reader_bytes.proofs.stored.store_keys.Goals as goal

pub copy_at-requires : goal.copy_at-requires
copy_at-requires c =
    let sizes : KeySizes c.args.keys.content c.args.keys.mac = (search rules, search rules) in
    omega (arith, sizes, c.requires)

pub copy_at-requires-2 : goal.copy_at-requires-2
copy_at-requires-2 c =
    let sizes : KeySizes c.args.keys.content c.args.keys.mac = (search rules, search rules) in
    omega (arith, sizes, c.requires, c.out-1.given)

pub returns : goal.returns
returns c =
    let sizes : KeySizes c.args.keys.content c.args.keys.mac = (search rules, search rules) in
    let k = c.args.keys in
    let out = c.args.out.now in
    let a = c.copy_at.ensures in
    let b = c.copy_at-2.ensures in
    set_split c.copy_at-2.new.dst 64 c.number_of.result (omega (arith, c.requires, c.copy_at.auto.dst, c.copy_at-2.auto.dst))
    ∙ sym (append_assoc (take 64 c.copy_at-2.new.dst) (c.number_of.result ∷ []) (drop 65 c.copy_at-2.new.dst))
    ∙ ap (placed (c.number_of.result ∷ []) 64) (b ∙ ap (placed k.mac 32) a)
    ∙ ap (λ (n : ℕ). placed (n ∷ []) 64 (placed k.mac 32 (placed k.content 0 out))) c.number_of.ensures
    ∙ placed-keys k.content k.mac out (combo_number k.combo) (sizes) c.requires
