-- `seal_under`: sealing under the two expanded keys, at the front of the buffer.
-- Assumes nothing.
use Prim.Native.Nat.{ℕ, ◌+◌}
use mathlib.Core.Path.{sym, ◌∙◌, ap, ap₂}
use mathlib.Core.List.{List, ◌++◌}
use lib.ListN.{length, drop}
use lib.Seq.{length-take-le}
use Rattle.aes_spec.specs.Cipher.{aes}
use Rattle.aes.proofs.Ciphers.{under_key, length-aes}
use Rattle.siv.specs.Siv as spec
use Rattle.std.proofs.Common.{option_copied}
use Rattle.siv.specs.Pieces.{pieces}
use Rattle.siv.proofs.Laws.{length-seal}
use Rattle.frame.proofs.KeySizes.{master_sizes}
use Rattle.octets.proofs.Lists.{at_front}
use borrow.Author.Rules.{rules}
use Rattle.name_texts.proofs.keyed.seal_under.Goals as goal

pub expand-requires : goal.expand-requires
expand-requires c = ((master_sizes _ _ c.requires.mac_value).1, search rules)

pub expand-requires-2 : goal.expand-requires-2
expand-requires-2 c = ((master_sizes _ _ c.requires.mac_value).0, search rules)

pub slice_bounds-seal-end-4 : goal.slice_bounds-seal-end-4
slice_bounds-seal-end-4 c = sym (length-take-le (length c.args.cleartext.now + 16) c.args.out.now c.requires.cleartext_len_bound.1)

pub seal-requires-clause-out_len : goal.seal-requires-clause-out_len
seal-requires-clause-out_len c = length-take-le (length c.args.cleartext.now + 16) c.args.out.now c.requires.cleartext_len_bound.1

pub returns : goal.returns
returns c =
    let x = c.args in
    let m = under_key _ _ c.expand.ensures in
    let e = under_key _ _ c.expand-2.ensures in
    let ads = pieces (option_copied x.ad) in
    let s = spec.seal (aes 8 x.mac.now) (aes 8 x.enc.now) ads x.cleartext.now in
    let n = length-seal (aes 8 x.mac.now) (aes 8 x.enc.now) (length-aes 8 x.mac.now) (length-aes 8 x.enc.now) ads x.cleartext.now in
    ap (λ (l : List ℕ). l ++ drop (length x.cleartext.now + 16) x.out.now)
    (c.seal.ensures ∙ ap₂ (λ (f g : List ℕ → List ℕ). spec.seal f g ads x.cleartext.now) m e)
    ∙ at_front s x.out.now (length x.cleartext.now + 16) n
