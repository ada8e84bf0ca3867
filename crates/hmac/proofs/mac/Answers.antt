-- `mac`: the inner hash over the three parts, and the outer one over its digest.
-- Assumes nothing.
use Prim.Native.Nat.{ℕ}
use mathlib.Core.Path.{◌≡◌, ◌∙◌, ap}
use mathlib.Core.List.{List, ◌++◌, append_assoc}
use Rattle.octets.specs.Xors.{xors}
use Rattle.sha256.specs.Message.{sha256}
use Rattle.sha256.proofs.Laws.{runs_on, ends_in_digest}
use Rattle.hmac.specs.Hmac.{ipad, opad, hmac}
use Rattle.hmac.proofs.mac.Goals as goal

pub returns : goal.returns
unfolding hmac
returns c =
    let x = c.args in
    let s = x.a.now in
    let t = x.b.now in
    let u = x.c.now in
    let i = xors c.key_block-block.result ipad in
    let o = xors c.key_block-block.result opad in
    let h1 = runs_on _ _ i s c.keyed.ensures c.update.ensures in
    let h2 = runs_on _ _ (i ++ s) t h1 c.update-2.ensures in
    let h3 = runs_on _ _ ((i ++ s) ++ t) u h2 c.update-3.ensures in
    let inner = c.finish-inner.ensures ∙ ends_in_digest _ _ h3 in
    let e : ((i ++ s) ++ t) ++ u ≡ i ++ (s ++ (t ++ u)) = append_assoc (i ++ s) t u ∙ append_assoc i s (t ++ u) in
    let h4 = runs_on _ _ o _ c.keyed-2.ensures c.update-4.ensures in
    c.finish.ensures ∙ ends_in_digest _ _ h4
    ∙ ap (λ (d : List ℕ). sha256 (o ++ d)) (inner ∙ ap sha256 e)
    ∙ ap (λ (k : List ℕ). sha256 (xors k opad ++ sha256 (xors k ipad ++ (s ++ (t ++ u))))) c.key_block-block.ensures
