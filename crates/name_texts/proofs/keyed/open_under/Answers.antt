-- `open_under`: opening under the two expanded keys, into the front of the buffer.
-- Assumes nothing.
use Prim.Native.Nat.{ℕ, ◌-◌}
use mathlib.Core.Path.{sym, ◌∙◌, ap, ap₂}
use mathlib.Core.List.{List, [], ◌∷◌, ◌++◌}
use native.Mathlib.Omega.{arith}
use lib.ListN.{length, drop}
use lib.Seq.{length-take-le}
use Rattle.aes_spec.specs.Cipher.{aes}
use Rattle.aes.proofs.Ciphers.{under_key, length-aes}
use Rattle.siv.specs.Siv as spec
use Rattle.siv.proofs.Laws.{length-plain}
use Rattle.frame.proofs.KeySizes.{master_sizes}
use Rattle.octets.proofs.Lists.{at_front}
use borrow.Author.Rules.{rules}
use Rattle.name_texts.proofs.keyed.open_under.Goals as goal

pub expand-requires : goal.expand-requires
expand-requires c = ((master_sizes _ _ c.requires.mac_value).1, search rules)

pub expand-requires-2 : goal.expand-requires-2
expand-requires-2 c = ((master_sizes _ _ c.requires.mac_value).0, search rules)

pub slice_bounds-open_into-end-4 : goal.slice_bounds-open_into-end-4
slice_bounds-open_into-end-4 c = sym (length-take-le (length c.args.sealed.now - 16) c.args.out.now (omega (arith, c.requires.iv_size_in_bounds.2)))

pub open_into-requires-clause-sealed_len : goal.open_into-requires-clause-sealed_len
open_into-requires-clause-sealed_len c =
    let r = length-take-le (length c.args.sealed.now - 16) c.args.out.now (omega (arith, c.requires.iv_size_in_bounds.2)) in
    omega (arith, r, c.requires.iv_size_in_bounds.0)

pub returns : goal.returns
returns c =
    let x = c.args in
    let m = under_key _ _ c.expand.ensures in
    let e = under_key _ _ c.expand-2.ensures in
    let z = x.sealed.now in
    let p = spec.plain (aes 8 x.enc.now) z in record {
      value = c.open_into.ensures.value ∙ ap₂ (λ (f g : List ℕ → List ℕ). spec.good f g (x.ad.now ∷ []) z) m e;
      out_after = ap (λ (l : List ℕ). l ++ drop (length z - 16) x.out.now)
          (c.open_into.ensures.out_after ∙ ap (λ (g : List ℕ → List ℕ). spec.plain g z) e)
          ∙ at_front p x.out.now (length z - 16) (length-plain (aes 8 x.enc.now) (length-aes 8 x.enc.now) z);
    }
