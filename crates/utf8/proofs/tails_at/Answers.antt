-- `tails_at`: tail after tail, the tails still awaited stand here exactly when all that were awaited stand at the start.
-- Assumes nothing.
use Prim.Native.Nat.{ℕ, zero, suc, ◌+◌, ◌-◌, ◌<◌, ◌≤◌}
use mathlib.Core.Path.{◌≡◌, refl, sym, ap, ap₂, ◌∙◌}
use mathlib.Core.Bool.{false, and-false}
use mathlib.Core.List.{List, [], ◌∷◌}
use native.Mathlib.Numerals.{add-one}
use native.Mathlib.Omega.{arith}
use lib.ListN.{length, drop, get_or, length-drop}
use lib.Seq.{drop-cons}
use borrow.Author.Tests.{ne_eqb}
use Rattle.octets.proofs.Equality.{true_false}
use Rattle.utf8.specs.ProperText.{lacks}
use Rattle.utf8.specs.Continued.{tails_from, Passed}
use Rattle.utf8.proofs.Ranges.{ranged, under, over}
use Rattle.utf8.proofs.tails_at.Goals as goal
use Rattle.utf8.proofs.tails_at.Goals.{then-b-low-via-then-b-low, then-b-low-via-else-b-low+then-high-b}

-- There are fewer bytes than tails awaited.
short : (n lo hi : ℕ) (t : List ℕ) → length t < n → tails_from n lo hi t ≡ false
unfolding tails_from
short zero lo hi t h = absurd (omega arith)
short (suc n) lo hi [] h = refl
short (suc n) lo hi (b ∷ t) h = rw (short n 0x80 0xbf t (omega arith), and-false)

-- The byte at p, where n tails are awaited.
module _ (s : List ℕ) (p n lo hi : ℕ) (h : p < length s) (some : 1 ≤ n) where
  one_of : n ≡ suc (n - 1)
  one_of = omega arith

  there : tails_from n lo hi (drop p s) ≡ tails_from (suc (n - 1)) lo hi (get_or s p 0 ∷ drop (suc p) s)
  there = ap (λ (k : ℕ). tails_from k lo hi (drop p s)) one_of ∙ ap (tails_from (suc (n - 1)) lo hi) (drop-cons s p 0 h)

  too_low : get_or s p 0 < lo → tails_from n lo hi (drop p s) ≡ false
  unfolding tails_from
  too_low l = there ∙ rw (under lo hi (get_or s p 0) l)

  too_high : hi < get_or s p 0 → tails_from n lo hi (drop p s) ≡ false
  unfolding tails_from
  too_high l = there ∙ rw (over lo hi (get_or s p 0) l)

  one_on : lo ≤ get_or s p 0 → get_or s p 0 ≤ hi → tails_from n lo hi (drop p s) ≡ tails_from (n - 1) 0x80 0xbf (drop (p + 1) s)
  unfolding tails_from
  one_on l k = there ∙ rw (ranged lo hi (get_or s p 0) l k, add-one)

-- It is no byte below 80.
passed : (s : List ℕ) (p : ℕ) → p < length s → 0x80 ≤ get_or s p 0 → Passed s p (p + 1)
unfolding lacks
passed s p h k b l = rw (drop-cons s p 0 h, ne_eqb (get_or s p 0) b (λ e. omega arith), add-one)

pub returns-then-s-j : goal.returns-then-s-j
returns-then-s-j c =
    let x = c.args in
    let l = length-drop x.j x.s.now in record { value = sym (short x.w.tails x.w.low x.w.high (drop x.j x.s.now) (omega (arith, l))); tails_in_bounds = λ e. absurd (true_false (sym e)) }

pub returns-then-b-low : goal.returns-then-b-low
returns-then-b-low c =
    let x = c.args in
    let l = c.loop-k in
    let no : tails_from (x.w.tails - l.k) l.low l.high (drop (x.j + l.k) x.s.now) ≡ false =
    elim c.then-b-low.branch [
      | then-b-low-via-then-b-low w ↦ too_low x.s.now (x.j + l.k) (x.w.tails - l.k) l.low l.high (omega arith) (omega arith) (omega arith)
      | then-b-low-via-else-b-low+then-high-b w ↦ too_high x.s.now (x.j + l.k) (x.w.tails - l.k) l.low l.high (omega arith) (omega arith) (omega arith)
    ] in record { value = sym (l.invariant.2 ∙ no); tails_in_bounds = λ e. absurd (true_false (sym e)) }

pub loop-k-preserved : goal.loop-k-preserved
loop-k-preserved c =
    let x = c.args in
    let l = c.loop-k in
    let n = x.w.tails in
    let s = x.s.now in
    let h : x.j + l.k < length s = omega arith in
    let m : n - l.k - 1 ≡ n - (l.k + 1) = omega arith in
    let p : x.j + l.k + 1 ≡ x.j + (l.k + 1) = omega arith in (
      l.invariant.0,
      omega arith,
      l.invariant.2 ∙ one_on s (x.j + l.k) (n - l.k) l.low l.high h (omega arith) (omega arith) (omega arith) ∙ ap₂ (λ (m p : ℕ). tails_from m 0x80 0xbf (drop p s)) m p,
      λ b k. l.invariant.3 b k ∙ passed s (x.j + l.k) h (omega (arith, l.invariant.1)) b k ∙ ap (λ (p : ℕ). lacks b (drop p s)) p,
    )

pub returns : goal.returns
unfolding tails_from
returns c =
    let x = c.args in
    let l = c.loop-k in
    let n = x.w.tails in
    let s = x.s.now in
    let m : n - l.k ≡ 0 = omega arith in
    let p : x.j + l.k ≡ x.j + n = omega arith in record { value = sym (l.invariant.2 ∙ ap (λ (m : ℕ). tails_from m l.low l.high (drop (x.j + l.k) s)) m); tails_in_bounds = λ e. (l.invariant.0, λ b h. l.invariant.3 b h ∙ ap (λ (p : ℕ). lacks b (drop p s)) p) }
