-- Tests that are made of several: which of them hold.
-- Assumes nothing.
use mathlib.Core.Path.{◌≡◌, refl, sym}
use mathlib.Core.Bool.{Bool, true, false, ◌&&◌, ◌||◌}
use mathlib.Core.Logic.{◌⊎◌, inl, inr}
use Rattle.octets.proofs.Equality.{true_false, and_true, true_and}

-- ---- one of several

pub which2 : (a b : Bool) → (a || b) ≡ true → (a ≡ true) ⊎ (b ≡ true)
which2 true b h = inl refl
which2 false b h = inr h

pub which3 : (a b c : Bool) → (a || b || c) ≡ true → (a ≡ true) ⊎ ((b ≡ true) ⊎ (c ≡ true))
which3 true b c h = inl refl
which3 false b c h = inr (which2 b c h)

pub which4 : (a b c d : Bool) → (a || b || c || d) ≡ true → (a ≡ true) ⊎ ((b ≡ true) ⊎ ((c ≡ true) ⊎ (d ≡ true)))
which4 true b c d h = inl refl
which4 false b c d h = inr (which3 b c d h)

pub left : (a b : Bool) → a ≡ true → (a || b) ≡ true
left true b h = refl
left false b h = absurd (true_false (sym h))

pub right : (a b : Bool) → b ≡ true → (a || b) ≡ true
right true b h = refl
right false b h = h

-- The first, the second, the third or the fourth of four.
pub in1 : (a b c d : Bool) → a ≡ true → (a || b || c || d) ≡ true
in1 a b c d h = left (a || b || c) d (left (a || b) c (left a b h))

pub in2 : (a b c d : Bool) → b ≡ true → (a || b || c || d) ≡ true
in2 a b c d h = left (a || b || c) d (left (a || b) c (right a b h))

pub in3 : (a b c d : Bool) → c ≡ true → (a || b || c || d) ≡ true
in3 a b c d h = left (a || b || c) d (right (a || b) c h)

pub in4 : (a b c d : Bool) → d ≡ true → (a || b || c || d) ≡ true
in4 a b c d h = right (a || b || c) d h

-- ---- all of several

pub all3 : (a b c : Bool) → a ≡ true → b ≡ true → c ≡ true → (a && b && c) ≡ true
all3 a b c p q r = true_and (a && b) c (true_and a b p q) r

pub all4 : (a b c d : Bool) → a ≡ true → b ≡ true → c ≡ true → d ≡ true → (a && b && c && d) ≡ true
all4 a b c d p q r s = true_and (a && b && c) d (all3 a b c p q r) s

pub each3 : (a b c : Bool) → (a && b && c) ≡ true → (a ≡ true) × (b ≡ true) × (c ≡ true)
each3 a b c h = let p = and_true (a && b) c h in let q = and_true a b p.0 in (q.0, q.1, p.1)

pub each4 : (a b c d : Bool) → (a && b && c && d) ≡ true → (a ≡ true) × (b ≡ true) × (c ≡ true) × (d ≡ true)
each4 a b c d h = let p = and_true (a && b && c) d h in let q = each3 a b c p.0 in (q.0, q.1, q.2, p.1)
