-- `cleartext_length`: row 4, or the length.
-- Assumes nothing.
use Prim.Native.Nat.{ℕ}
use mathlib.Core.Path.{sym, ap, ◌∙◌}
use mathlib.Core.List.{[], ◌∷◌}
use Rattle.octets.specs.Rows.{done}
use Rattle.octets.proofs.Equality.{true_false}
use Rattle.frame.proofs.Rules.{length_exactly}
use Rattle.frame.proofs.Exactly.{lengths_exactly}
use Rattle.vault.specs.Vault.{sizes_of}
use Rattle.content.proofs.lengths.cleartext_length.Goals as goal

pub returns-then-not-right_length : goal.returns-then-not-right_length
returns-then-not-right_length c =
    let x = c.args in
    let z = sizes_of x.v.combo in
    let wrong = sym c.right_length.ensures ∙ c.if-not-right_length.true in
    sym (((lengths_exactly z).1 x.l).0.1 (tt, λ f. true_false (sym ((length_exactly z x.l).1 f) ∙ wrong)))

pub returns : goal.returns
returns c =
    let x = c.args in
    let z = sizes_of x.v.combo in
    let right = sym c.right_length.ensures ∙ c.if-not-right_length.false in
    ap (λ (m : ℕ). done (m ∷ [])) c.clear_length.ensures ∙ sym (((lengths_exactly z).1 x.l).1.1 (tt, (length_exactly z x.l).0 right))
