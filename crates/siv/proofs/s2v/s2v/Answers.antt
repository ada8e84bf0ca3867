-- `s2v`: the strings one after the other.
-- Assumes nothing.
use Prim.Native.Nat.{ℕ}
use mathlib.Core.Path.{◌≡◌, ◌∙◌, ap, ap₂}
use mathlib.Core.List.{List, [], ◌∷◌, ◌++◌}
use lib.ListN.{replicate}
use Rattle.octets.specs.BigEndian.{be}
use Rattle.octets.specs.Xors.{xors}
use Rattle.aes_spec.specs.Cipher.{cipher}
use Rattle.siv.specs.Cmac as mac
use Rattle.siv.specs.Siv as spec
use Rattle.siv.proofs.s2v.s2v.Goals as goal

-- D begins as the CMAC of zeros.
begun : (e : List ℕ → List ℕ) {d b z : List ℕ} → d ≡ mac.cmac e b → b ≡ z → z ≡ replicate 16 0 → d ≡ mac.cmac e (be 16 0)
unfolding be
begun e p q r = p ∙ ap (mac.cmac e) (q ∙ r)

with_string : (e : List ℕ → List ℕ) (a s : List ℕ) {d : List ℕ} → d ≡ xors (mac.dbl (mac.cmac e (be 16 0))) (mac.cmac e a)
    → spec.s2v_last e d s ≡ spec.s2v e ((a ∷ []) ++ (s ∷ []))
unfolding spec.s2v spec.s2v_from
with_string e a s p = ap (λ (l : List ℕ). spec.s2v_last e l s) p

with_none : (e : List ℕ → List ℕ) (s : List ℕ) {d : List ℕ} → d ≡ mac.cmac e (be 16 0) → spec.s2v_last e d s ≡ spec.s2v e (s ∷ [])
unfolding spec.s2v spec.s2v_from
with_none e s p = ap (λ (l : List ℕ). spec.s2v_last e l s) p

pub returns-in-Some : goal.returns-in-Some
returns-in-Some c =
    let x = c.args in
    let e = cipher 14 x.w.now in
    c.end.ensures
    ∙ with_string e c.in-Some.ad.now x.s.now
    (c.add.ensures ∙ ap₂ xors (c.double.ensures ∙ ap mac.dbl (begun e c.cmac-d.ensures c.to_bytes.ensures c.zeros.ensures)) c.cmac.ensures)
    ∙ rw c.in-Some.is

pub returns-in-None : goal.returns-in-None
returns-in-None c =
    let x = c.args in
    let e = cipher 14 x.w.now in
    c.end-in-None.ensures ∙ with_none e x.s.now (begun e c.cmac-d.ensures c.to_bytes.ensures c.zeros.ensures) ∙ rw c.in-None.is
