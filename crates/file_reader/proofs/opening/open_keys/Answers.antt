-- `open_keys`: the length, and then the header; its content key is kept.
-- Assumes nothing.
use Prim.Native.Nat.{ℕ}
use mathlib.Core.Path.{◌≡◌, sym, ap, ◌∙◌}
use mathlib.Core.List.{List, [], ◌∷◌}
use lib.ListN.{length}
use borrow.Author.Rules.{rules}
use Rattle.octets.specs.Rows.{done}
use Rattle.frame.specs.Layout.{header_at}
use Rattle.vault.specs.Vault.{sizes_of}
use Rattle.vault.proofs.Payloads.{key-part}
use Rattle.file_reader.specs.Kept.{Kept, keys_with, mac_for}
use Rattle.file_reader.proofs.Combos.{opens_4, opens_9, opens}
use Rattle.file_reader.proofs.opening.open_keys.Goals as goal

pub returns-then-not-right_length : goal.returns-then-not-right_length
returns-then-not-right_length c =
    let x = c.args in
    let e = opens_4 x.v x.file.now (search rules, search rules) (sym c.if-not-right_length.ensures) in
    (c.refuse.ensures.0 ∙ sym (ap (λ (m : Kept). m.outcome) e), c.refuse.ensures.1 ∙ sym (ap (λ (m : Kept). m.keys) e))

pub open_head-requires : goal.open_head-requires
open_head-requires c = record { enc_len = (search rules, sym c.if-not-right_length.ensures) }

pub returns-in_default : goal.returns-in_default
returns-in_default c =
    let x = c.args in
    let e = opens_9 x.v x.file.now (search rules, search rules) (sym c.if-not-right_length.ensures) c.in_default.ensures in
    (c.refuse-in_default.ensures.0 ∙ sym (ap (λ (m : Kept). m.outcome) e), c.refuse-in_default.ensures.1 ∙ sym (ap (λ (m : Kept). m.keys) e))

pub returns : goal.returns
returns c =
    let x = c.args in
    let b = header_at (sizes_of x.v.combo) x.file.now in
    let said = c.in-Some.ensures in
    let e = opens x.v x.file.now (search rules, search rules) (sym c.if-not-right_length.ensures) said.0 in
    let p = c.in-Some.payload in
    let n : length p ≡ 40 = search rules in
    let key = c.copy_from_slice.ensures.after ∙ key-part x.v.enc x.v.mac b p x.v.combo said.1 n in (
      ap (λ (c : ℕ). done (c ∷ [])) c.clear_length.ensures ∙ sym (ap (λ (m : Kept). m.outcome) e),
      c.keys_of.ensures ∙ ap (λ (k : List ℕ). keys_with k (mac_for x.v.combo x.v.mac) x.v.combo) key ∙ sym (ap (λ (m : Kept). m.keys) e),
    )
