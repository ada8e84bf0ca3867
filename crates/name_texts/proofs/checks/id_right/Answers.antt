-- `id_right`: the length, and each byte.
-- Assumes nothing.
use Prim.Native.Nat.{ℕ, zero, suc, ◌≤◌, ◌<◌}
use mathlib.Core.Path.{◌≡◌, refl, sym, ◌∙◌}
use mathlib.Core.Bool.{Bool, true, false, and-false}
use mathlib.Core.List.{List, [], ◌∷◌}
use native.Mathlib.Omega.{arith}
use lib.Dec.{ltb}
use lib.ListN.{get_or}
use borrow.Author.Tests.{le-leb, lt-leb, lt-ltb, le-ltb}
use Rattle.std.specs.Bool.{MatchBool}
use Rattle.std.specs.Str.{IsAscii, IsNotAscii}
use Rattle.name_spec.specs.Names.{ascii, id_right}
use Rattle.name_texts.proofs.checks.id_right.Goals as goal

each_ascii : (s : List ℕ) → ((i : ℕ) → get_or s i 0 < 128) → true ≡ ascii s
unfolding ascii
each_ascii [] h = refl
each_ascii (a ∷ s) h = rw (lt-ltb a 128 (h 0)) (each_ascii s (λ i. h (suc i)))

one_not : (s : List ℕ) (i : ℕ) → 128 ≤ get_or s i 0 → false ≡ ascii s
unfolding ascii
one_not [] i h = absurd (omega arith)
one_not (a ∷ s) zero h = rw (le-ltb a 128 h)
one_not (a ∷ s) (suc i) h = rw (← one_not s i h, and-false (ltb a 128))

by_test : (s : List ℕ) (b : Bool) → MatchBool b (IsAscii s) (IsNotAscii s) → b ≡ ascii s
by_test s true h = each_ascii s h
by_test s false h = one_not s h.0 h.1

pub returns-then-id-gt-ID_LIMIT : goal.returns-then-id-gt-ID_LIMIT
unfolding id_right
returns-then-id-gt-ID_LIMIT c = rw (lt-leb _ _ c.if-id-gt-ID_LIMIT.true)

pub returns : goal.returns
unfolding id_right
returns c = by_test _ _ c.is_ascii.ensures.cases ∙ sym (rw (le-leb _ _ c.if-id-gt-ID_LIMIT.false))
