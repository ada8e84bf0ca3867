-- The members of an object are read exactly as the grammar has them.
-- Assumes nothing.
use Prim.Native.Nat.{ℕ, zero, suc, ◌+◌, ◌-◌, ◌*◌, ◌≤◌, ◌<◌}
use mathlib.Core.Path.{◌≡◌, refl, sym, ap, ◌∙◌, subst}
use mathlib.Core.Bool.{Bool, true, false, cond, ◌||◌}
use mathlib.Core.List.{List, [], ◌∷◌, ◌++◌, append-nil, append_assoc}
use mathlib.Core.Option.{Option, some}
use mathlib.Core.Logic.{⊎_elim}
use native.Mathlib.Omega.{arith}
use lib.Dec.{eqb}
use lib.ListN.{length, drop, length-append}
use borrow.Author.Tests.{eqb-true, le-leb, ne_eqb}
use Rattle.octets.proofs.Equality.{true_and}
use Rattle.utf8.proofs.Alternatives.{which2}
use Rattle.utf8.proofs.Ranges.{in_range}
use Rattle.json_grammar.specs.Json.{first, byte, is_space, ws, is_digit, minus, int, is_exponent, string, value, read_value}
use Rattle.json_grammar.specs.Grammar.{Ws, no_space, space, Mark, mark, Digits, no_digit, digit, Minus, no_minus, minus-sign, Int, zero_int, int-digits, Frac, no_frac, frac-digits, Exp, no_exp, exp-digits, Number, number-parts, String, quoted, Derives, a_true, a_false, a_null, a_number, a_string, empty_array, an_array, empty_object, an_object}
use Rattle.json_grammar.specs.Members.{Value, whole, other, Member, decimal_from, number_of, text_of, value_of, depth, members_from, object_from, ended, object_of}
use Rattle.json_grammar.specs.Objects.{Kind, is_text, is_whole, is_negative, is_fraction, is_true, is_false, is_null, is_nested, member, MemberList, last_one, one_more, ObjectText, no_members, with_members}
use Rattle.utf8.proofs.Options.{never, some_same}
use Rattle.json_grammar.proofs.Options.{not_both, got, pick, first_is, byte_sound}
use Rattle.json_grammar.proofs.Sound.{ws_sound, string_sound, part_sound}
use Rattle.json_grammar.proofs.Complete.{ws_none, ws-length, Stop, stop-ws, Marked, marked, int_all, frac_stops, exp_stops, minus_all, string_all, string-ws, string-first, number-first, read_complete, space_is, exponent_is, stops_comma, stops_brace}

-- ---- the kind of a value

-- Neither a string nor a number.
other-value : (s : List ℕ) → eqb (first s) 0x22 ≡ false → eqb (first s) 0x2d ≡ false → is_digit (first s) ≡ false → value_of s ≡ other
unfolding value_of number_of minus int
other-value [] a b c = refl
other-value (x ∷ s) a b c =
    let n : eqb x 0x30 ≡ false = ne_eqb x 0x30 (λ e. not_both (sym (ap is_digit e) ∙ c)) in
    rw (a, b, n, c)

-- The first byte of a structural character.
mark-first : (P : ℕ → Type 0) {c : ℕ} {m : List ℕ} → Mark c m → P 0x20 → P 0x09 → P 0x0a → P 0x0d → P c → (s : List ℕ) → P (first (m ++ s))
mark-first P (mark no_space w) p q r t z s = z
mark-first P (mark (space {b = b} e v) w) p q r t z s = space_is P b e p q r t

abbrev Apart : ℕ → Type 0
Apart b = (eqb b 0x22 ≡ false) × (eqb b 0x2d ≡ false) × (is_digit b ≡ false)

nested-value : {c : ℕ} {m : List ℕ} → Mark c m → Apart c → (t s : List ℕ) → value_of ((m ++ t) ++ s) ≡ other
nested-value {m = m} k a t s =
    rw (append_assoc m t s)
    (let f = mark-first Apart k (refl, refl, refl) (refl, refl, refl) (refl, refl, refl) (refl, refl, refl) a (t ++ s) in
    other-value (m ++ (t ++ s)) f.0 f.1 f.2)

-- The digits of a number end where it does.
decimal_stops : (x : ℕ) (s : List ℕ) → is_digit (first s) ≡ false → decimal_from x s ≡ x
unfolding decimal_from
decimal_stops x [] h = refl
decimal_stops x (b ∷ s) h = rw h

decimal-digits : {u : List ℕ} → Digits u → (x : ℕ) (s : List ℕ) → is_digit (first s) ≡ false → decimal_from x (u ++ s) ≡ decimal_from x u
unfolding decimal_from
decimal-digits no_digit x s h = decimal_stops x s h
decimal-digits (digit {b = b} e k) x s h = rw e (decimal-digits k (x * 10 + (b - 0x30)) s h)

decimal-int : {u : List ℕ} → Int u → (s : List ℕ) → is_digit (first s) ≡ false → decimal_from 0 (u ++ s) ≡ decimal_from 0 u
unfolding decimal_from
decimal-int zero_int s h = decimal_stops (0 * 10 + (0x30 - 0x30)) s h
decimal-int (int-digits {b = b} e k) s h =
    let i = in_range 0x31 0x39 b e in
    let j : is_digit b ≡ true = true_and _ _ (le-leb 0x30 b (omega arith)) (le-leb b 0x39 i.1) in
    rw j (decimal-digits k (0 * 10 + (b - 0x30)) s h)

int-first : {u : List ℕ} → Int u → (s : List ℕ) → (eqb (first (u ++ s)) 0x22 ≡ false) × (eqb (first (u ++ s)) 0x2d ≡ false)
int-first zero_int s = (refl, refl)
int-first (int-digits {b = b} e k) s = let i = in_range 0x31 0x39 b e in (ne_eqb b 0x22 (λ f. omega arith), ne_eqb b 0x2d (λ f. omega arith))

-- A number whose int is followed by s.
positive_value : {i : List ℕ} → Int i → (s : List ℕ) → is_digit (first s) ≡ false → value_of (i ++ s) ≡ cond (eqb (first s) 0x2e || is_exponent (first s)) other (whole false (decimal_from 0 i))
unfolding value_of number_of
positive_value k s h =
    let f = int-first k s in
    rw (f.0, f.1, minus_all no_minus k s, int_all k s h, decimal-int k s h)

negative-value : {i : List ℕ} → Int i → (s : List ℕ) → is_digit (first s) ≡ false → value_of (0x2d ∷ (i ++ s)) ≡ cond (eqb (first s) 0x2e || is_exponent (first s)) other (whole true (decimal_from 0 i))
unfolding value_of number_of minus
negative-value k s h = rw (int_all k s h, decimal-int k s h)

-- What follows the int, and is not nothing, begins with '.', 'e' or 'E'.
fraction_first : {f e : List ℕ} → Frac f → Exp e → (f ++ e ≡ [] → ⊥) → (s : List ℕ) → (eqb (first (f ++ (e ++ s))) 0x2e || is_exponent (first (f ++ (e ++ s)))) ≡ true
fraction_first (frac-digits d) k n s = refl
fraction_first no_frac no_exp n s = absurd (n refl)
fraction_first no_frac (exp-digits {b = b} e g d) n s = exponent_is (λ b. (eqb b 0x2e || is_exponent b) ≡ true) b e refl refl

follows : {f e : List ℕ} → Frac f → Exp e → (s : List ℕ) → Stop s → is_digit (first (f ++ (e ++ s))) ≡ false
follows {f} {e} c d s k = frac_stops c (e ++ s) (exp_stops d s k).0

-- A whole number: nothing follows.
stop-whole : (s : List ℕ) → Stop s → (eqb (first s) 0x2e || is_exponent (first s)) ≡ false
stop-whole s k = rw (k.point, k.exponent)

fraction_value : {m i f e : List ℕ} → Minus m → Int i → Frac f → Exp e → (f ++ e ≡ [] → ⊥) → (s : List ℕ) → Stop s → value_of ((m ++ (i ++ (f ++ e))) ++ s) ≡ other
fraction_value {m} {i} {f} {e} no_minus b c d n s k =
    rw (append_assoc i (f ++ e) s, append_assoc f e s, positive_value b (f ++ (e ++ s)) (follows c d s k), fraction_first c d n s)
fraction_value {m} {i} {f} {e} minus-sign b c d n s k =
    rw (append_assoc i (f ++ e) s, append_assoc f e s, negative-value b (f ++ (e ++ s)) (follows c d s k), fraction_first c d n s)

-- ---- soundness

kind_number : {u : List ℕ} → Number u → (s : List ℕ) → Stop s → Kind (value_of (u ++ s)) u
kind_number (number-parts {m = m} {i = i} a b (frac-digits {u = u} c) d) s k =
    rw (fraction_value a b (frac-digits c) d (λ e. omega (arith, ap length e)) s k) (is_fraction a b (frac-digits c) d (λ e. omega (arith, ap length e)))
kind_number (number-parts a b no_frac (exp-digits {b = x} {s = v} {u = w} e g d)) s k =
    let y : Exp (x ∷ (v ++ w)) = exp-digits e g d in
    rw (fraction_value a b no_frac y (λ q. omega (arith, ap length q)) s k) (is_fraction a b no_frac y (λ q. omega (arith, ap length q)))
kind_number (number-parts {i = i} no_minus b no_frac no_exp) s k = rw (append-nil i, positive_value b s k.digit, stop-whole s k) (is_whole b)
kind_number (number-parts {i = i} minus-sign b no_frac no_exp) s k = rw (append-nil i, negative-value b s k.digit, stop-whole s k) (is_negative b)

pub is_first : (c : ℕ) {m : List ℕ} → Marked c m → (t : List ℕ) → first (ws (m ++ t)) ≡ c
is_first c k t = ap first (k.read t)

pub kind_sound : {d : ℕ} {u : List ℕ} → Derives value d u → (Derives value d u → Derives value depth u) → (s : List ℕ) → Stop s → Kind (value_of (u ++ s)) u
unfolding value_of number_of minus int text_of
kind_sound a_true g s k = is_true
kind_sound a_false g s k = is_false
kind_sound a_null g s k = is_null
kind_sound (a_number m) g s k = kind_number m s k
kind_sound (a_string m) g s k = rw (string-first m s, string_all m s) (is_text m)
kind_sound (empty_array {b = b} m o) g s k = rw (nested-value m (refl, refl, refl) b s) (is_nested (g (empty_array m o)) (rw (is_first 0x5b (marked refl m) b)))
kind_sound (an_array {u = u} {b = b} m l o) g s k = rw (nested-value m (refl, refl, refl) (u ++ b) s) (is_nested (g (an_array m l o)) (rw (is_first 0x5b (marked refl m) (u ++ b))))
kind_sound (empty_object {b = b} m o) g s k = rw (nested-value m (refl, refl, refl) b s) (is_nested (g (empty_object m o)) (rw (is_first 0x7b (marked refl m) b)))
kind_sound (an_object {u = u} {b = b} m l o) g s k = rw (nested-value m (refl, refl, refl) (u ++ b) s) (is_nested (g (an_object m l o)) (rw (is_first 0x7b (marked refl m) (u ++ b))))

-- What is read up to the end '}'.
abbrev MembersAt : List ℕ → List Member × List ℕ → Type 0
MembersAt s p = (u b : List ℕ) × MemberList p.0 u × Mark 0x7d b × (s ≡ u ++ (b ++ p.1))

-- A value before whitespace and c has ended.
stop-before : (c : ℕ) (r : List ℕ) → Stop (ws r) → Stop r
stop-before c r h = let a = ws_sound r in subst Stop (sym a.2) (stop-ws a.1 (ws r) h)

module _ (s : List ℕ) (n : List ℕ × List ℕ) (t r : List ℕ) (a : string s ≡ some n) (b : byte 0x3a (ws n.1) ≡ some t) (v : read_value depth (ws t) ≡ some r) where
  record One : Type 0 where
    name : List ℕ
    colon : List ℕ
    bytes : List ℕ
    named : String n.0 name
    marks : Mark 0x3a colon
    kind : Stop r → Kind (value_of (ws t)) bytes
    all : s ≡ name ++ (colon ++ (bytes ++ r))

  one_member : One
  unfolding read_value
  one_member =
      let x = string_sound s n a in
      let w = ws_sound n.1 in
      let c = byte_sound 0x3a (ws n.1) t b in
      let y = ws_sound t in
      let z = part_sound (2 * length (ws t) + 1) value depth (ws t) r v in
      record {
        name = x.0;
        colon = w.0 ++ 0x3a ∷ y.0;
        bytes = z.0;
        named = x.1;
        marks = mark w.1 y.1;
        kind = λ k. subst (λ (l : List ℕ). Kind (value_of l) z.0) (sym z.2) (kind_sound z.1 (λ i. i) r k);
        all = join x.0 w.0 y.0 z.0 n.1 (ws n.1) t (ws t) x.2 w.2 c y.2 z.2;
      }
    where
      join : (x w y z s1 s2 s3 s4 : List ℕ) → s ≡ x ++ s1 → s1 ≡ w ++ s2 → s2 ≡ 0x3a ∷ s3 → s3 ≡ y ++ s4 → s4 ≡ z ++ r → s ≡ x ++ ((w ++ 0x3a ∷ y) ++ (z ++ r))
      join x w y z s1 s2 s3 s4 p1 p2 p3 p4 p5 = rw (p1, p2, p3, p4, p5) (simp append_assoc)

  one_last : (q : List ℕ) → byte 0x7d (ws r) ≡ some q → MembersAt s (member n.0 (value_of (ws t)) ∷ [], q)
  one_last q e =
      let o = one_member in
      let w = ws_sound r in
      let c = byte_sound 0x7d (ws r) q e in
      let k : Stop r = stop-before 0x7d r (rw c (stops_brace q)) in (
        o.name ++ (o.colon ++ o.bytes),
        w.0 ++ 0x7d ∷ [],
        last_one o.named o.marks (o.kind k),
        mark w.1 no_space,
        join o.name o.colon o.bytes w.0 (ws r) o.all w.2 c,
      )
    where
      join : (x c z w s1 : List ℕ) → s ≡ x ++ (c ++ (z ++ r)) → r ≡ w ++ s1 → s1 ≡ 0x7d ∷ q → s ≡ (x ++ (c ++ z)) ++ ((w ++ 0x7d ∷ []) ++ q)
      join x c z w s1 p1 p2 p3 = p1 ∙ ap (λ (l : List ℕ). x ++ (c ++ (z ++ l))) (p2 ∙ ap (λ (l : List ℕ). w ++ l) p3) ∙ simp append_assoc

  one_then : (q : List Member × List ℕ) → eqb (first (ws r)) 0x2c ≡ true → MembersAt (ws (drop 1 (ws r))) q → MembersAt s (member n.0 (value_of (ws t)) ∷ q.0, q.1)
  one_then q e m =
      let o = one_member in
      let w = ws_sound r in
      let c = first_is 0x2c (ws r) (omega arith) e in
      let y = ws_sound (drop 1 (ws r)) in
      let k : Stop r = stop-before 0x2c r (rw c (stops_comma (drop 1 (ws r)))) in (
        o.name ++ (o.colon ++ (o.bytes ++ ((w.0 ++ 0x2c ∷ y.0) ++ m.0))),
        m.1,
        one_more o.named o.marks (o.kind k) (mark w.1 y.1) m.2,
        m.3,
        join o.name o.colon o.bytes w.0 y.0 m.0 m.1 (ws r) (drop 1 (ws r)) (ws (drop 1 (ws r))) o.all w.2 c y.2 m.4,
      )
    where
      join : (x c z w y m b s1 s2 s3 : List ℕ) → s ≡ x ++ (c ++ (z ++ r)) → r ≡ w ++ s1 → s1 ≡ 0x2c ∷ s2 → s2 ≡ y ++ s3 → s3 ≡ m ++ (b ++ q.1)
          → s ≡ (x ++ (c ++ (z ++ ((w ++ 0x2c ∷ y) ++ m)))) ++ (b ++ q.1)
      join x c z w y m b s1 s2 s3 p1 p2 p3 p4 p5 =
          p1 ∙ ap (λ (l : List ℕ). x ++ (c ++ (z ++ l))) (p2 ∙ ap (λ (l : List ℕ). w ++ l) (p3 ∙ ap (λ (l : List ℕ). 0x2c ∷ l) (p4 ∙ ap (λ (l : List ℕ). y ++ l) p5))) ∙ simp append_assoc

pub members_sound : (n : ℕ) (s : List ℕ) (p : List Member × List ℕ) → members_from n s ≡ some p → MembersAt s p
unfolding members_from
members_sound zero s p e = never e
members_sound (suc n) s p e =
    let a = got (string s) _ p e in
    let b = got (byte 0x3a (ws a.0.1)) _ p a.2 in
    let v = got (read_value depth (ws b.0)) _ p b.2 in
    pick (eqb (first (ws v.0)) 0x2c) _ _ (some p) v.2
    (λ t f.
    let g = got (members_from n (ws (drop 1 (ws v.0)))) (λ q. some (member a.0.0 (value_of (ws b.0)) ∷ q.0, q.1)) p f in
    subst (λ (i : List Member × List ℕ). MembersAt s i) (some_same g.2) (one_then s a.0 b.0 v.0 a.1 b.1 v.1 g.0 t (members_sound n (ws (drop 1 (ws v.0))) g.0 g.1)))
    (λ t f.
    let g = got (byte 0x7d (ws v.0)) (λ q. some (member a.0.0 (value_of (ws b.0)) ∷ [], q)) p f in
    subst (λ (i : List Member × List ℕ). MembersAt s i) (some_same g.2) (one_last s a.0 b.0 v.0 a.1 b.1 v.1 g.0 g.1))

-- ---- completeness

int_number : {i : List ℕ} → Int i → Number i
int_number {i} k = rw append-nil at (number-parts no_minus k no_frac no_exp)

negative-number : {i : List ℕ} → Int i → Number (0x2d ∷ i)
negative-number {i} k =
    let n : Number (0x2d ∷ (i ++ [])) = number-parts minus-sign k no_frac no_exp in
    rw append-nil at n

pub kind_derives : {v : Value} {u : List ℕ} → Kind v u → Derives value depth u
kind_derives (is_text k) = a_string k
kind_derives (is_whole k) = a_number (int_number k)
kind_derives (is_negative k) = a_number (negative-number k)
kind_derives (is_fraction a b c d n) = a_number (number-parts a b c d)
kind_derives is_true = a_true
kind_derives is_false = a_false
kind_derives is_null = a_null
kind_derives (is_nested k e) = k

-- The first byte of u, after whitespace, is that of u and whatever follows.
first_there : (u s : List ℕ) (c : ℕ) → c < 256 → first (ws u) ≡ c → first (ws (u ++ s)) ≡ c
unfolding ws
first_there [] s c h e = absurd (omega arith)
first_there (b ∷ u) s c h e = go (is_space b) (first_there u s c h) e
  where
    go : (x : Bool) → (first (ws u) ≡ c → first (ws (u ++ s)) ≡ c) → first (cond x (ws u) (b ∷ u)) ≡ c → first (cond x (ws (u ++ s)) (b ∷ (u ++ s))) ≡ c
    go true k e = k e
    go false k e = e

nested-other : (s : List ℕ) (c : ℕ) → Apart c → first s ≡ c → value_of s ≡ other
nested-other s c a e = other-value s (rw e a.0) (rw e a.1) (rw e a.2)

kind_value : {v : Value} {u : List ℕ} → Kind v u → (s : List ℕ) → Stop s → value_of (ws (u ++ s)) ≡ v
unfolding value_of number_of minus int text_of ws
kind_value (is_text k) s h = rw (string-ws k s, string-first k s, string_all k s)
kind_value (is_whole {i = i} k) s h = rw (ws_none (i ++ s) (number-first (int_number k) s).spaces, positive_value k s h.digit, stop-whole s h)
kind_value (is_negative {i = i} k) s h = negative-value k s h.digit ∙ rw (stop-whole s h)
kind_value (is_fraction {m = m} {i = i} {f = f} {e = e} a b c d n) s h =
    rw (ws_none ((m ++ (i ++ (f ++ e))) ++ s) (number-first (number-parts a b c d) s).spaces) (fraction_value a b c d n s h)
kind_value is_true s h = refl
kind_value is_false s h = refl
kind_value is_null s h = refl
kind_value (is_nested {u = u} k e) s h =
    ⊎_elim
    (λ f. nested-other (ws (u ++ s)) 0x5b (refl, refl, refl) (first_there u s 0x5b (omega arith) (eqb-true (first (ws u)) 0x5b f)))
    (λ f. nested-other (ws (u ++ s)) 0x7b (refl, refl, refl) (first_there u s 0x7b (omega arith) (eqb-true (first (ws u)) 0x7b f)))
    (which2 (eqb (first (ws u)) 0x5b) (eqb (first (ws u)) 0x7b) e)

-- What is read of members, up to whitespace.
record Gives (x : Option (List Member × List ℕ)) (ms : List Member) (s : List ℕ) : Type 0 where
  left : List ℕ
  read : x ≡ some (ms, left)
  same : ws left ≡ ws s

module _ {t y c u : List ℕ} {v : Value} (q : String t y) (m : Marked 0x3a c) (k : Kind v u) (n : ℕ) where
  gives_last : (b s : List ℕ) → Marked 0x7d b → Gives (members_from (suc n) (ws (y ++ (c ++ (u ++ (b ++ s)))))) (member t v ∷ []) s
  unfolding members_from byte
  gives_last b s e =
      let st : Stop (b ++ s) = e.stop stops_brace s in
      let d = read_complete (kind_derives k) (b ++ s) st in
      record {
        left = e.after ++ s;
        read = rw (string-ws q (c ++ (u ++ (b ++ s))), string_all q (c ++ (u ++ (b ++ s))), m.read (u ++ (b ++ s)), m.skip (u ++ (b ++ s)), kind_value k (b ++ s) st, d.read, d.same, e.read s);
        same = e.skip s;
      }

  gives_more : {g : List ℕ} (w s : List ℕ) (ms : List Member) → Marked 0x2c g → Gives (members_from n (ws w)) ms s → Gives (members_from (suc n) (ws (y ++ (c ++ (u ++ (g ++ w)))))) (member t v ∷ ms) s
  unfolding members_from byte
  gives_more {g} w s ms e f =
      let st : Stop (g ++ w) = e.stop stops_comma w in
      let d = read_complete (kind_derives k) (g ++ w) st in
      record {
        left = f.left;
        read = rw (string-ws q (c ++ (u ++ (g ++ w))), string_all q (c ++ (u ++ (g ++ w))), m.read (u ++ (g ++ w)), m.skip (u ++ (g ++ w)), kind_value k (g ++ w) st, d.read, d.same, e.read w, e.skip w, f.read);
        same = f.same;
      }

abbrev Given : List Member → List ℕ → Type 0
Given ms u = (b s : List ℕ) (n : ℕ) → Marked 0x7d b → length (ws (u ++ (b ++ s))) ≤ n → Gives (members_from n (ws (u ++ (b ++ s)))) ms s

string-size : {t y : List ℕ} → String t y → (s : List ℕ) → 1 ≤ length (y ++ s)
string-size (quoted k) s = omega arith

last_all : {t y c u : List ℕ} {v : Value} → String t y → Mark 0x3a c → Kind v u → Given (member t v ∷ []) (y ++ (c ++ u))
last_all {t} {y} {c} {u} {v} q m k b s zero e h =
    absurd (let z = string-size q (c ++ (u ++ (b ++ s))) in let l = (rw (append_assoc y (c ++ u) (b ++ s), append_assoc c u (b ++ s), string-ws q (c ++ (u ++ (b ++ s)))) at h) in omega arith)
last_all {t} {y} {c} {u} {v} q m k b s (suc n) e h =
    rw (append_assoc y (c ++ u) (b ++ s), append_assoc c u (b ++ s)) (gives_last q (marked refl m) k n b s e)

more_all : {t y c u g : List ℕ} (w : List ℕ) {v : Value} {ms : List Member} → String t y → Mark 0x3a c → Kind v u → Mark 0x2c g → Given ms w → Given (member t v ∷ ms) (y ++ (c ++ (u ++ (g ++ w))))
more_all {t} {y} {c} {u} {g} w {v} {ms} q m k o f b s zero e h =
    absurd
    (let z = string-size q (c ++ (u ++ (g ++ (w ++ (b ++ s))))) in
    let l = (rw (append_assoc y (c ++ (u ++ (g ++ w))) (b ++ s), append_assoc c (u ++ (g ++ w)) (b ++ s), append_assoc u (g ++ w) (b ++ s), append_assoc g w (b ++ s), string-ws q (c ++ (u ++ (g ++ (w ++ (b ++ s)))))) at h) in omega arith)
more_all {t} {y} {c} {u} {g} w {v} {ms} q m k o f b s (suc n) e h =
    let x = marked refl o in
    let l = (rw (append_assoc y (c ++ (u ++ (g ++ w))) (b ++ s), append_assoc c (u ++ (g ++ w)) (b ++ s), append_assoc u (g ++ w) (b ++ s), append_assoc g w (b ++ s), string-ws q (c ++ (u ++ (g ++ (w ++ (b ++ s)))))) at h) in
    let i : length (ws (w ++ (b ++ s))) ≤ n =
    (let z = ws-length (w ++ (b ++ s)) in let p = x.size in
    omega (arith, length-append y (c ++ (u ++ (g ++ (w ++ (b ++ s))))), length-append c (u ++ (g ++ (w ++ (b ++ s)))), length-append u (g ++ (w ++ (b ++ s))), length-append g (w ++ (b ++ s)))) in
    rw (append_assoc y (c ++ (u ++ (g ++ w))) (b ++ s), append_assoc c (u ++ (g ++ w)) (b ++ s), append_assoc u (g ++ w) (b ++ s), append_assoc g w (b ++ s))
    (gives_more q (marked refl m) k n (w ++ (b ++ s)) s ms x (f b s n e i))

members_complete : {ms : List Member} {u : List ℕ} → MemberList ms u → Given ms u
members_complete (last_one q m k) = last_all q m k
members_complete (one_more {w = w} q m k o l) = more_all w q m k o (members_complete l)

members-first : {ms : List Member} {u : List ℕ} → MemberList ms u → (s : List ℕ) → eqb (first (ws (u ++ s))) 0x7d ≡ false
unfolding ws
members-first (last_one (quoted k) m l) s = refl
members-first (one_more (quoted k) m l o p) s = refl

-- ---- objects

ended_some : {A : Type 0} (a m : A) (s : List ℕ) → ended a s ≡ some m → (a ≡ m) × (s ≡ [])
unfolding ended
ended_some a m [] e = (some_same e, refl)
ended_some a m (b ∷ s) e = never e

pub ws_join : {a b : List ℕ} → Ws a → Ws b → Ws (a ++ b)
ws_join no_space k = k
ws_join (space e w) k = space e (ws_join w k)

pub mark_more : {c : ℕ} {m z : List ℕ} → Mark c m → Ws z → Mark c (m ++ z)
mark_more {c} {m} {z} (mark {a} {b} v w) k = rw append_assoc (mark v (ws_join w k))

-- Whitespace to the end.
pub all_space : (s : List ℕ) → ws s ≡ [] → Ws s
all_space s e =
    let a = ws_sound s in
    let f : s ≡ a.0 = a.2 ∙ ap (λ (l : List ℕ). a.0 ++ l) e ∙ append-nil a.0 in
    subst Ws (sym f) a.1

pub object_sound : (ms : List Member) (s : List ℕ) → object_of s ≡ some ms → ObjectText ms s
unfolding object_of object_from
object_sound ms s e =
    let a = got (byte 0x7b (ws s)) _ ms e in
    let q = got (object_from (ws a.0)) (λ q. ended q.0 (ws q.1)) ms a.2 in
    let w = ws_sound s in
    let c = byte_sound 0x7b (ws s) a.0 a.1 in
    let y = ws_sound a.0 in
    let z = ended_some q.0.0 ms (ws q.0.1) q.2 in
    let m : Mark 0x7b (w.0 ++ 0x7b ∷ y.0) = mark w.1 y.1 in
    let f : s ≡ (w.0 ++ 0x7b ∷ y.0) ++ ws a.0 = join w.0 y.0 (ws s) a.0 (ws a.0) w.2 c y.2 in
    pick (eqb (first (ws a.0)) 0x7d) _ _ (some q.0) q.1
    (λ t g. empty (w.0 ++ 0x7b ∷ y.0) (ws a.0) q.0 m f (first_is 0x7d (ws a.0) (omega arith) t) (some_same g) z)
    (λ t g. full (w.0 ++ 0x7b ∷ y.0) (ws a.0) q.0 m f (members_sound (length (ws a.0)) (ws a.0) q.0 g) z)
  where
    join : (w y s1 s2 s3 : List ℕ) → s ≡ w ++ s1 → s1 ≡ 0x7b ∷ s2 → s2 ≡ y ++ s3 → s ≡ (w ++ 0x7b ∷ y) ++ s3
    join w y s1 s2 s3 p1 p2 p3 = p1 ∙ ap (λ (l : List ℕ). w ++ l) (p2 ∙ ap (λ (l : List ℕ). 0x7b ∷ l) p3) ∙ sym (append_assoc w (0x7b ∷ y) s3)

    empty : (a x : List ℕ) (q : List Member × List ℕ) → Mark 0x7b a → s ≡ a ++ x → x ≡ 0x7d ∷ drop 1 x → ([], drop 1 x) ≡ q → (q.0 ≡ ms) × (ws q.1 ≡ []) → ObjectText ms s
    empty a x q m f g h z =
        let k : [] ≡ ms = ap (λ (i : List Member × List ℕ). i.0) h ∙ z.0 in
        let l : ws (drop 1 x) ≡ [] = ap (λ (i : List Member × List ℕ). ws i.1) h ∙ z.1 in
        let o : Mark 0x7d (0x7d ∷ drop 1 x) = mark no_space (all_space (drop 1 x) l) in
        let r : ObjectText [] (a ++ (0x7d ∷ drop 1 x)) = no_members m o in
        subst (λ (i : List Member). ObjectText i s) k (subst (ObjectText []) (ap (λ (l : List ℕ). a ++ l) (sym g) ∙ sym f) r)

    full : (a x : List ℕ) (q : List Member × List ℕ) → Mark 0x7b a → s ≡ a ++ x → MembersAt x q → (q.0 ≡ ms) × (ws q.1 ≡ []) → ObjectText ms s
    full a x q m f g z =
        let o : Mark 0x7d (g.1 ++ q.1) = mark_more g.3 (all_space q.1 z.1) in
        let r : ObjectText q.0 (a ++ (g.0 ++ (g.1 ++ q.1))) = with_members m g.2 o in
        subst (λ (i : List Member). ObjectText i s) z.0 (subst (ObjectText q.0) (ap (λ (l : List ℕ). a ++ l) (sym g.4) ∙ sym f) r)

pub object_complete : {ms : List Member} {s : List ℕ} → ObjectText ms s → object_of s ≡ some ms
unfolding object_of object_from ended ws byte
object_complete (no_members {a = a} {b = b} m o) =
    let x = marked refl m in
    let y = marked refl o in
    let e : ws b ≡ 0x7d ∷ (y.after ++ []) = ap ws (sym (append-nil b)) ∙ y.read [] in
    rw (x.read b, x.skip b, e, y.skip [])
object_complete (with_members {a = a} {u = u} {b = b} {ms = ms} m l o) =
    let x = marked refl m in
    let y = marked refl o in
    let e : b ++ [] ≡ b = append-nil b in
    let g : Gives (members_from (length (ws (u ++ b))) (ws (u ++ b))) ms [] = rw e at (members_complete l b [] (length (ws (u ++ (b ++ [])))) y (omega arith)) in
    rw (x.read (u ++ b), x.skip (u ++ b), members-first l b, g.read, g.same)
