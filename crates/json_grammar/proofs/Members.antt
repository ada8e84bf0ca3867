-- What `given` and `decimal_from` are, by laws.
-- Assumes nothing.
use Prim.Native.Nat.{ℕ, ◌+◌, ◌-◌, ◌*◌, ◌<◌}
use mathlib.Core.Path.{◌≡◌, refl, sym, ap, ap₂, ◌∙◌}
use mathlib.Core.Bool.{false}
use mathlib.Core.List.{List, [], ◌∷◌, ◌++◌}
use native.Mathlib.Omega.{arith}
use Rattle.octets.specs.Bytes.{same}
use Rattle.octets.proofs.Equality.{same_eq, same_self, same_not, true_false}
use Rattle.utf8.proofs.Ranges.{ranged}
use Rattle.json_grammar.specs.Grammar.{Digits, no_digit, digit}
use Rattle.json_grammar.specs.Members.{Value, Member, decimal_from, given}
use Rattle.json_grammar.specs.Objects.{member}
use Rattle.json_grammar.specs.Statements.{Lacks, GivenOnce, DecimalDigits}
use Rattle.json_grammar.proofs.Options.{pick}

-- ---- members of a name

one_more-value : {P : Type 0} {v : Value} {vs : List Value} → ◌≡◌ {A = List Value} (v ∷ vs) [] → P
one_more-value e = absurd (let z : ◌≡◌ {A = ℕ} 0 1 = cc in omega arith)

module _ (name : List ℕ) where
  other_name : (n : List ℕ) → same n name ≡ false → n ≡ name → ⊥
  other_name n t q = true_false (sym (ap (λ (x : List ℕ). same x name) q ∙ same_self name) ∙ t)

  given-lacks : (ms : List Member) → given name ms ≡ [] → Lacks name ms
  unfolding given
  given-lacks [] e = tt
  given-lacks (m ∷ ms) e = pick (same m.name name) _ _ [] e (λ t f. one_more-value f) (λ t f. (other_name m.name t, given-lacks ms f))

  lacks-given : (ms : List Member) → Lacks name ms → given name ms ≡ []
  unfolding given
  lacks-given [] k = refl
  lacks-given (m ∷ ms) k = rw (same_not m.name name k.0) (lacks-given ms k.1)

  abbrev Once : Value → List Member → Type 0
  Once v ms = (a : List Member) × (b : List Member) × (ms ≡ a ++ member name v ∷ b) × Lacks name a × Lacks name b

  given_once_sound : (v : Value) (ms : List Member) → given name ms ≡ v ∷ [] → Once v ms
  unfolding given
  given_once_sound v [] e = one_more-value (sym e)
  given_once_sound v (m ∷ ms) e =
      pick (same m.name name) _ _ (v ∷ []) e
      (λ t f.
      let q : m.value ≡ v = cc in
      let none : given name ms ≡ [] = cc in
      ([], ms, ap₂ (λ (n : List ℕ) (x : Value). member n x ∷ ms) (same_eq m.name name t) q, tt, given-lacks ms none))
      (λ t f.
      let o = given_once_sound v ms f in
      (m ∷ o.0, o.1, ap (λ (l : List Member). m ∷ l) o.2, (other_name m.name t, o.3), o.4))

  given_once_complete : (v : Value) (a b : List Member) → Lacks name a → Lacks name b → given name (a ++ member name v ∷ b) ≡ v ∷ []
  unfolding given
  given_once_complete v [] b k l = rw (same_self name, lacks-given b l)
  given_once_complete v (m ∷ a) b k l = rw (same_not m.name name k.0) (given_once_complete v a b k.1 l)

pub given_once : GivenOnce
given_once name v ms = (given_once_sound name v ms, λ o. ap (given name) o.2 ∙ given_once_complete name v o.0 o.1 o.3 o.4)

-- ---- digits

last_digit : (x d : ℕ) → d < 10 → decimal_from x ((0x30 + d) ∷ []) ≡ x * 10 + d
unfolding decimal_from
last_digit x d h = rw (ranged 0x30 0x39 (0x30 + d) (omega arith) (omega arith)) (omega arith)

one_digit_more : {s : List ℕ} (x d : ℕ) → Digits s → d < 10 → decimal_from x (s ++ (0x30 + d) ∷ []) ≡ decimal_from x s * 10 + d
unfolding decimal_from
one_digit_more x d no_digit h = last_digit x d h
one_digit_more x d (digit {b = b} e k) h = rw e (one_digit_more (x * 10 + (b - 0x30)) d k h)

pub decimal-digits : DecimalDigits
unfolding decimal_from
decimal-digits = (refl, λ s d k h. one_digit_more 0 d k h)
