-- `open_into`: the cleartext, and the comparison of its synthetic IV with the stored one.
-- Assumes nothing.
use Prim.Native.Nat.{ℕ}
use mathlib.Core.Path.{◌≡◌, refl, ◌∙◌, ap, ap₂}
use mathlib.Core.List.{List, ◌++◌, [], ◌∷◌}
use lib.ListN.{length}
use Rattle.std.proofs.Common.{option_copied}
use Rattle.octets.specs.Bytes.{same}
use Rattle.octets.proofs.Lists.{part-rest}
use Rattle.aes_spec.specs.Cipher.{cipher}
use Rattle.siv.specs.Siv as spec
use Rattle.siv.specs.Pieces.{pieces}
use Rattle.siv.proofs.seal.open_into.Goals as goal

pub returns : goal.returns
unfolding spec.good spec.plain
returns c =
    let text : let x = c.args in
    c.crypt_under.new.out ≡ spec.plain (cipher 14 x.enc.now) x.sealed.now = let x = c.args in
    c.crypt_under.ensures
    ∙ ap₂ (spec.crypt (cipher 14 x.enc.now)) c.block_at-v.ensures (part-rest x.sealed.now (length x.sealed.now) 16 refl) in
    let x = c.args in
    let e = cipher 14 x.mac.now in record {
      value = c.equal.ensures
          ∙ ap₂ same (c.s2v.ensures ∙ ap (λ (l : List ℕ). spec.s2v e (pieces (option_copied x.ad) ++ (l ∷ []))) (text)) c.block_at-v.ensures;
      out_after = text;
    }
