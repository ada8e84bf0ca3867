-- Pieces that are written one after the other.
-- Assumes nothing.
use mathlib.Core.Path.{◌≡◌, ap, ◌∙◌}
use mathlib.Core.List.{List, [], ◌∷◌, ◌++◌, append_assoc}
use Prim.Native.Nat.{ℕ, ◌+◌, ◌<◌}
use native.Mathlib.Numerals.{add-one}
use native.Mathlib.Omega.{arith}
use lib.ListN.{length, take, drop, set, length-append}
use lib.Seq.{set_split}
use Rattle.octets.specs.Bytes.{placed}
use Rattle.octets.proofs.Lists.{placed-placed}

-- one byte
pub placed-byte : (v : ℕ) (d : List ℕ) (at : ℕ) → at < length d → set d at v ≡ placed (v ∷ []) at d
placed-byte v d at h = set_split d at v h ∙ rw (append_assoc (take at d) (v ∷ []) (drop (at + 1) d), add-one)

-- two pieces from the front on: a and then b
pub two : (a b d o p : List ℕ) (x : ℕ) → x ≡ 0 + length a → o ≡ placed a 0 d → p ≡ placed b x o → (x + length b ≡ length (a ++ b)) × (p ≡ placed (a ++ b) 0 d)
two a b d o p x e f g = (
  rw length-append (omega arith),
  g ∙ ap (λ (n : ℕ). placed b n o) e ∙ ap (placed b (0 + length a)) f ∙ placed-placed a b d 0 (omega arith),
)

-- three pieces
pub three : (a b e d o p q : List ℕ) (x y : ℕ) → x ≡ 0 + length a → o ≡ placed a 0 d → y ≡ x + length b → p ≡ placed b x o → q ≡ placed e y p
    → (y + length e ≡ length (a ++ b ++ e)) × (q ≡ placed (a ++ b ++ e) 0 d)
three a b e d o p q x y l f m g h =
    let r = two a b d o p x l f g in
    two (a ++ b) e d p q y (let k = r.0 in omega arith) r.1 h

pub length_three : (a b e : List ℕ) → length (a ++ b ++ e) ≡ length a + length b + length e
length_three a b e = simp length-append

-- what was written, by another name
pub written_as : (d : List ℕ) {s t o : List ℕ} {r : ℕ} → s ≡ t → (r ≡ length s) × (o ≡ placed s 0 d) → (r ≡ length t) × (o ≡ placed t 0 d)
written_as d e w = (w.0 ∙ ap length e, w.1 ∙ ap (λ (x : List ℕ). placed x 0 d) e)
