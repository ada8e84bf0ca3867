-- What is said of JSON. `proofs/` proves each under its name.
-- Assumes nothing.
use Rattle.std.specs.Prelude.{ℕ, ◌+◌, ◌*◌, ◌<◌, ◌≡◌, ◌↔◌, List, [], ◌∷◌, ◌++◌}
use Rattle.std.proofs.Math.Option.{some}
use Rattle.json_grammar.specs.Json.{first, ws, read_value}
use Rattle.json_grammar.specs.Grammar.{Digits, JsonText}
use Rattle.json_grammar.specs.Members.{Value, Member, decimal_from, object_of, given}
use Rattle.json_grammar.specs.Objects.{member, ObjectText}

-- The functions read exactly the JSON texts of RFC 8259 in which arrays and objects nest at most d deep.
abbrev pub JsonExactly : Type 0
JsonExactly = (d : ℕ) (s : List ℕ) → ((r : List ℕ) × (read_value d (ws s) ≡ some r) × (ws r ≡ [])) ↔ JsonText d s

-- The members of an object are read exactly as the grammar has them.
abbrev pub ObjectsExactly : Type 0
ObjectsExactly = (ms : List Member) (s : List ℕ) → (object_of s ≡ some ms) ↔ ObjectText ms s

-- The texts of objects, whatever their members are, are exactly RFC 8259's JSON texts of at most nine levels that begin with '{' behind white space: the text's own
-- object is one level, and the values of its members have eight.
abbrev pub ObjectTexts : Type 0
ObjectTexts = (s : List ℕ) → ((ms : List Member) × ObjectText ms s) ↔ (JsonText 9 s × (first (ws s) ≡ 0x7b))

-- No member has this name.
abbrev pub Lacks : List ℕ → List Member → Type 0
Lacks name [] = Unit {0}
Lacks name (m ∷ ms) = (m.name ≡ name → ⊥) × Lacks name ms

-- One value is given for a name exactly where one member alone has that name, and this value.
abbrev pub GivenOnce : Type 0
GivenOnce =
    (name : List ℕ) (v : Value) (ms : List Member)
    → (given name ms ≡ v ∷ []) ↔ ((a : List Member) × (b : List Member) × (ms ≡ a ++ member name v ∷ b) × Lacks name a × Lacks name b)

-- Another digit makes a number ten times as large, and adds what it stands for.
abbrev pub DecimalDigits : Type 0
DecimalDigits =
    (decimal_from 0 [] ≡ 0)
    × ((s : List ℕ) (d : ℕ) → Digits s → d < 10 → decimal_from 0 (s ++ (0x30 + d) ∷ []) ≡ decimal_from 0 s * 10 + d)
