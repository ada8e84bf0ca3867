-- What the grammar derives, the functions of Json.antt read.
-- Assumes nothing.
use Prim.Native.Nat.{ℕ, zero, suc, ◌+◌, ◌*◌, ◌≤◌, ◌<◌}
use mathlib.Core.Path.{◌≡◌, refl, sym, ap, ◌∙◌, subst}
use mathlib.Core.Bool.{Bool, true, false, cond, ◌||◌}
use mathlib.Core.List.{List, [], ◌∷◌, ◌++◌, append_assoc}
use mathlib.Core.Option.{Option, some}
use mathlib.Core.Logic.{⊎_elim}
use native.Mathlib.Omega.{arith}
use native.Mathlib.Nat.{not-suc-le-zero, le_of_suc-le-suc}
use lib.Dec.{eqb}
use lib.ListN.{length, length-append}
use borrow.Author.Tests.{eqb-true, le-leb, eq-eqb, ne_eqb}
use Rattle.octets.proofs.Equality.{true_and}
use Rattle.utf8.proofs.Alternatives.{which2}
use Rattle.utf8.proofs.Ranges.{in_range}
use Rattle.json_grammar.specs.Json.{◌>>=◌, first, byte, is_space, ws, word, true_name, false_name, null_name, is_digit, digits, some_digits, minus, int, frac, is_exponent, sign, exp, number, is_unescaped, unescaped, hex_digit, hex_digits, escaped, char, chars, string, Part, value, elements, members, Reader, next, opened, nested, value_by, elements_by, members_by, read_part, read_value}
use Rattle.json_grammar.specs.Grammar.{Ws, no_space, space, Mark, mark, Digits, no_digit, digit, SomeDigits, some-digits, Minus, no_minus, minus-sign, Int, zero_int, int-digits, Frac, no_frac, frac-digits, Sign, no_sign, plus, negative, Exp, no_exp, exp-digits, Number, number-parts, Escape, quotation_mark, reverse-solidus, solidus, backspace, form_feed, line_feed, carriage_return, tab, is_hex, Char, literal, escape, unicode, Chars, no_char, one_char, String, quoted, Derives, a_true, a_false, a_null, a_number, a_string, empty_array, an_array, empty_object, an_object, last_element, an_element, last_member, a_member}
use Rattle.json_grammar.proofs.Options.{not_both}
use Rattle.utf8.specs.Utf8.{encode}
use Rattle.utf8.proofs.FirstCharacter.{character_exactly, encode-first}

-- ---- whitespace

pub ws_skip : {a : List ℕ} → Ws a → (s : List ℕ) → ws (a ++ s) ≡ ws s
unfolding ws
ws_skip no_space s = refl
ws_skip (space e w) s = rw e (ws_skip w s)

pub ws_none : (s : List ℕ) → is_space (first s) ≡ false → ws s ≡ s
unfolding ws
ws_none [] e = refl
ws_none (b ∷ s) e = rw e

-- ---- tests of the first byte

-- A number does not go on with s.
pub record Stop (s : List ℕ) : Type 0 where
  pub digit : is_digit (first s) ≡ false
  pub point : eqb (first s) 0x2e ≡ false
  pub exponent : is_exponent (first s) ≡ false

-- A space, and the characters that may follow a value.
pub space_is : (P : ℕ → Type 0) (b : ℕ) → is_space b ≡ true → P 0x20 → P 0x09 → P 0x0a → P 0x0d → P b
space_is P b h p q r s =
    ⊎_elim
    (λ h1. ⊎_elim
    (λ h2. ⊎_elim (λ h3. subst P (sym (eqb-true b 0x20 h3)) p) (λ h3. subst P (sym (eqb-true b 0x09 h3)) q) (which2 (eqb b 0x20) (eqb b 0x09) h2))
    (λ h2. subst P (sym (eqb-true b 0x0a h2)) r)
    (which2 (eqb b 0x20 || eqb b 0x09) (eqb b 0x0a) h1))
    (λ h1. subst P (sym (eqb-true b 0x0d h1)) s)
    (which2 (eqb b 0x20 || eqb b 0x09 || eqb b 0x0a) (eqb b 0x0d) h)

-- A byte that stops a number, at the start of any text.
abbrev pub Stops : ℕ → Type 0
Stops b = (s : List ℕ) → Stop (b ∷ s)

stop-space : (b : ℕ) → is_space b ≡ true → Stops b
stop-space b h =
    space_is Stops b h
    (λ s. record { digit = refl; point = refl; exponent = refl })
    (λ s. record { digit = refl; point = refl; exponent = refl })
    (λ s. record { digit = refl; point = refl; exponent = refl })
    (λ s. record { digit = refl; point = refl; exponent = refl })

pub stop-nil : Stop []
stop-nil = record { digit = refl; point = refl; exponent = refl }

pub stop-ws : {a : List ℕ} → Ws a → (s : List ℕ) → Stop s → Stop (a ++ s)
stop-ws no_space s k = k
stop-ws (space {b = b} {u = u} e w) s k = stop-space b e (u ++ s)

-- ---- a structural character

-- How one is read: what stands after it is whitespace.
pub record Marked (c : ℕ) (m : List ℕ) : Type 0 where
  pub after : List ℕ
  pub read : (s : List ℕ) → ws (m ++ s) ≡ c ∷ (after ++ s)
  pub skip : (s : List ℕ) → ws (after ++ s) ≡ ws s
  pub stop : Stops c → (s : List ℕ) → Stop (m ++ s)
  pub size : 1 ≤ length m

pub marked : {c : ℕ} {m : List ℕ} → is_space c ≡ false → Mark c m → Marked c m
marked {c} h (mark {a} {b} v w) =
    record {
      after = b;
      read = λ s. rw append_assoc (ws_skip v (c ∷ (b ++ s)) ∙ ws_none (c ∷ (b ++ s)) h);
      skip = λ s. ws_skip w s;
      stop = λ k s. rw append_assoc (stop-ws v (c ∷ (b ++ s)) (k (b ++ s)));
      size = rw length-append (omega arith);
    }

-- ---- numbers

digits_all : {u : List ℕ} → Digits u → (s : List ℕ) → is_digit (first s) ≡ false → digits (u ++ s) ≡ s
unfolding digits
digits_all no_digit s h = none_more s h
  where
    none_more : (s : List ℕ) → is_digit (first s) ≡ false → digits s ≡ s
    none_more [] h = refl
    none_more (b ∷ s) h = rw h
digits_all (digit e k) s h = rw e (digits_all k s h)

some-digits_all : {u : List ℕ} → SomeDigits u → (s : List ℕ) → is_digit (first s) ≡ false → some_digits (u ++ s) ≡ some s
unfolding some_digits
some-digits_all (some-digits e k) s h = rw (e, digits_all k s h)

-- 'e' and 'E' stop the digits before them.
pub exponent_is : (P : ℕ → Type 0) (b : ℕ) → is_exponent b ≡ true → P 0x65 → P 0x45 → P b
exponent_is P b h p q = ⊎_elim (λ e. subst P (sym (eqb-true b 0x65 e)) p) (λ e. subst P (sym (eqb-true b 0x45 e)) q) (which2 (eqb b 0x65) (eqb b 0x45) h)

sign_all : {u : List ℕ} → Sign u → {v : List ℕ} → SomeDigits v → (s : List ℕ) → sign (u ++ (v ++ s)) ≡ v ++ s
unfolding sign
sign_all no_sign (some-digits {b = b} e k) s =
    let i = in_range 0x30 0x39 b e in
    rw (ne_eqb b 0x2b (λ f. omega arith), ne_eqb b 0x2d (λ f. omega arith))
sign_all plus k s = refl
sign_all negative k s = refl

exp_all : {u : List ℕ} → Exp u → (s : List ℕ) → Stop s → exp (u ++ s) ≡ some s
unfolding exp
exp_all no_exp [] k = refl
exp_all no_exp (b ∷ s) k = rw k.exponent
exp_all (exp-digits {s = v} {u = w} e g d) s k = rw (e, append_assoc v w s, sign_all g d s) (some-digits_all d s k.digit)

pub exp_stops : {u : List ℕ} → Exp u → (s : List ℕ) → Stop s → (is_digit (first (u ++ s)) ≡ false) × (eqb (first (u ++ s)) 0x2e ≡ false)
exp_stops no_exp s k = (k.digit, k.point)
exp_stops (exp-digits {b = b} e g d) s k = exponent_is (λ b. (is_digit b ≡ false) × (eqb b 0x2e ≡ false)) b e (refl, refl) (refl, refl)

frac_all : {u : List ℕ} → Frac u → (s : List ℕ) → is_digit (first s) ≡ false → eqb (first s) 0x2e ≡ false → frac (u ++ s) ≡ some s
unfolding frac
frac_all no_frac [] h k = refl
frac_all no_frac (b ∷ s) h k = rw k
frac_all (frac-digits d) s h k = some-digits_all d s h

pub frac_stops : {u : List ℕ} → Frac u → (s : List ℕ) → is_digit (first s) ≡ false → is_digit (first (u ++ s)) ≡ false
frac_stops no_frac s h = h
frac_stops (frac-digits d) s h = refl

pub int_all : {u : List ℕ} → Int u → (s : List ℕ) → is_digit (first s) ≡ false → int (u ++ s) ≡ some s
unfolding int
int_all zero_int s h = refl
int_all (int-digits {b = b} e k) s h =
    let i = in_range 0x31 0x39 b e in
    let j : is_digit b ≡ true = true_and _ _ (le-leb 0x30 b (omega arith)) (le-leb b 0x39 i.1) in
    rw (ne_eqb b 0x30 (λ f. omega arith), j, digits_all k s h)

pub minus_all : {u : List ℕ} → Minus u → {v : List ℕ} → Int v → (s : List ℕ) → minus (u ++ (v ++ s)) ≡ v ++ s
unfolding minus
minus_all no_minus zero_int s = refl
minus_all no_minus (int-digits {b = b} e k) s = let i = in_range 0x31 0x39 b e in rw (ne_eqb b 0x2d (λ f. omega arith))
minus_all minus-sign k s = refl

pub number_all : {u : List ℕ} → Number u → (s : List ℕ) → Stop s → number (u ++ s) ≡ some s
unfolding number
number_all (number-parts {m = m} {i = i} {f = f} {e = e} a b c d) s k =
    let x = exp_stops d s k in
    let y = frac_stops c (e ++ s) x.0 in
    rw (append_assoc m (i ++ (f ++ e)) s, append_assoc i (f ++ e) s, append_assoc f e s, minus_all a b (f ++ (e ++ s)), int_all b (f ++ (e ++ s)) y, frac_all c (e ++ s) x.0 x.1) (exp_all d s k)

-- ---- strings

escape_all : {b n : ℕ} → Escape b n → (s : List ℕ) → escaped (b ∷ s) ≡ some (n, s)
unfolding escaped
escape_all quotation_mark s = refl
escape_all reverse-solidus s = refl
escape_all solidus s = refl
escape_all backspace s = refl
escape_all form_feed s = refl
escape_all line_feed s = refl
escape_all carriage_return s = refl
escape_all tab s = refl

unicode_all : (a b c d : ℕ) (s : List ℕ) → is_hex a ≡ true → is_hex b ≡ true → is_hex c ≡ true → is_hex d ≡ true
    → escaped (0x75 ∷ a ∷ b ∷ c ∷ d ∷ s) ≡ some (((hex_digit a * 16 + hex_digit b) * 16 + hex_digit c) * 16 + hex_digit d, s)
unfolding escaped hex_digits
unicode_all a b c d s ha hb hc hd =
    let n : (((0 * 16 + hex_digit a) * 16 + hex_digit b) * 16 + hex_digit c) * 16 + hex_digit d ≡ ((hex_digit a * 16 + hex_digit b) * 16 + hex_digit c) * 16 + hex_digit d = omega arith in
    rw (ha, hb, hc, hd, n)

-- The first byte of a character is neither '"' nor, unless it is escaped, '\'.
literal-first : (n : ℕ) (s : List ℕ) → is_unescaped n ≡ true → (eqb (first (encode n ++ s)) 0x22 ≡ false) × (eqb (first (encode n ++ s)) 0x5c ≡ false)
literal-first n s h =
    let x : n ≡ 0x22 → ⊥ = λ e. not_both (sym h ∙ ap is_unescaped e) in
    let y : n ≡ 0x5c → ⊥ = λ e. not_both (sym h ∙ ap is_unescaped e) in
    let f = encode-first n in
    rw f.2
    (⊎_elim
    (λ (e : f.0 ≡ n). (ne_eqb f.0 0x22 (λ g. x (sym e ∙ g)), ne_eqb f.0 0x5c (λ g. y (sym e ∙ g))))
    (λ (e : 0x80 ≤ f.0). (ne_eqb f.0 0x22 (λ g. omega arith), ne_eqb f.0 0x5c (λ g. omega arith)))
    f.3)

char-first : {n : ℕ} {u : List ℕ} → Char n u → (s : List ℕ) → eqb (first (u ++ s)) 0x22 ≡ false
char-first (literal {n = n} a b) s = (literal-first n s b).0
char-first (escape e) s = refl
char-first (unicode a b c d) s = refl

char-size : {n : ℕ} {u : List ℕ} → Char n u → 1 ≤ length u
char-size (literal {n = n} a b) = let f = encode-first n in rw f.2 (omega arith)
char-size (escape e) = omega arith
char-size (unicode a b c d) = omega arith

pub char_all : {n : ℕ} {u : List ℕ} → Char n u → (s : List ℕ) → char (u ++ s) ≡ some (n, s)
unfolding char unescaped
char_all (literal {n = n} a b) s = rw ((literal-first n s b).1, (character_exactly n (encode n ++ s) s).1 (a, refl), b)
char_all (escape e) s = escape_all e s
char_all (unicode {a = a} {b = b} {c = c} {d = d} ha hb hc hd) s = unicode_all a b c d s ha hb hc hd

pub chars_all : {t u : List ℕ} → Chars t u → (n : ℕ) (s : List ℕ) → length u < n → chars n (u ++ 0x22 ∷ s) ≡ some (t, s)
unfolding chars
chars_all no_char zero s h = absurd (not-suc-le-zero h)
chars_all no_char (suc n) s h = refl
chars_all (one_char c k) zero s h = absurd (not-suc-le-zero h)
chars_all (one_char {n = m} {u = u} {v = v} c k) (suc n) s h =
    let l = char-size c in
    rw (append_assoc u v (0x22 ∷ s), char-first c (v ++ 0x22 ∷ s), char_all c (v ++ 0x22 ∷ s), chars_all k n s (omega (arith, length-append u v)))

pub string_all : {t u : List ℕ} → String t u → (s : List ℕ) → string (u ++ s) ≡ some (t, s)
unfolding string byte
string_all (quoted {u = u} k) s =
    let e : length (u ++ 0x22 ∷ []) ≡ length u + 1 = length-append u (0x22 ∷ []) in
    rw append_assoc (chars_all k _ s (omega (arith, length-append u (0x22 ∷ s))))

-- ---- how a value begins

-- The first byte of a value, after whitespace: it is not c.
pub record Begun (c : ℕ) (s : List ℕ) : Type 0 where
  pub other : eqb (first (ws s)) c ≡ false

-- The first bytes of a number.
pub record Numeric (b : ℕ) : Type 0 where
  pub spaces : is_space b ≡ false
  pub quote : eqb b 0x22 ≡ false
  pub bracket : eqb b 0x5b ≡ false
  pub brace : eqb b 0x7b ≡ false
  pub tee : eqb b 0x74 ≡ false
  pub eff : eqb b 0x66 ≡ false
  pub enn : eqb b 0x6e ≡ false
  pub close : eqb b 0x5d ≡ false

numeric_minus : Numeric 0x2d
numeric_minus = record { spaces = refl; quote = refl; bracket = refl; brace = refl; tee = refl; eff = refl; enn = refl; close = refl }

numeric_zero : Numeric 0x30
numeric_zero = record { spaces = refl; quote = refl; bracket = refl; brace = refl; tee = refl; eff = refl; enn = refl; close = refl }

numeric_digit : (b : ℕ) → 0x31 ≤ b → b ≤ 0x39 → Numeric b
numeric_digit b h k =
    record {
      spaces = rw (ne_eqb b 0x20 (λ e. omega arith), ne_eqb b 0x09 (λ e. omega arith), ne_eqb b 0x0a (λ e. omega arith), ne_eqb b 0x0d (λ e. omega arith));
      quote = ne_eqb b 0x22 (λ e. omega arith);
      bracket = ne_eqb b 0x5b (λ e. omega arith);
      brace = ne_eqb b 0x7b (λ e. omega arith);
      tee = ne_eqb b 0x74 (λ e. omega arith);
      eff = ne_eqb b 0x66 (λ e. omega arith);
      enn = ne_eqb b 0x6e (λ e. omega arith);
      close = ne_eqb b 0x5d (λ e. omega arith);
    }

pub number-first : {u : List ℕ} → Number u → (s : List ℕ) → Numeric (first (u ++ s))
number-first (number-parts no_minus zero_int c d) s = numeric_zero
number-first (number-parts no_minus (int-digits {b = b} e k) c d) s = let i = in_range 0x31 0x39 b e in numeric_digit b i.0 i.1
number-first (number-parts minus-sign b c d) s = numeric_minus

-- No value, and so no list of values, begins with ']'.
pub value_begins : {d : ℕ} {u : List ℕ} → Derives value d u → (s : List ℕ) → eqb (first (ws (u ++ s))) 0x5d ≡ false
unfolding ws
value_begins a_true s = refl
value_begins a_false s = refl
value_begins a_null s = refl
value_begins (a_number {u = u} k) s = let n = number-first k s in rw (ws_none (u ++ s) n.spaces) n.close
value_begins (a_string (quoted k)) s = refl
value_begins (empty_array {a = a} {b = b} m n) s = rw (append_assoc a b s, (marked refl m).read (b ++ s))
value_begins (an_array {a = a} {u = u} {b = b} m k n) s = rw (append_assoc a (u ++ b) s, (marked refl m).read ((u ++ b) ++ s))
value_begins (empty_object {a = a} {b = b} m n) s = rw (append_assoc a b s, (marked refl m).read (b ++ s))
value_begins (an_object {a = a} {u = u} {b = b} m k n) s = rw (append_assoc a (u ++ b) s, (marked refl m).read ((u ++ b) ++ s))

elements_begin : {d : ℕ} {u : List ℕ} → Derives elements d u → (s : List ℕ) → eqb (first (ws (u ++ s))) 0x5d ≡ false
elements_begin (last_element k) s = value_begins k s
elements_begin (an_element {u = u} {c = c} {v = v} k m l) s = rw (append_assoc u (c ++ v) s) (value_begins k ((c ++ v) ++ s))

-- A string stands where it begins.
pub string-ws : {t u : List ℕ} → String t u → (s : List ℕ) → ws (u ++ s) ≡ u ++ s
unfolding ws
string-ws (quoted k) s = refl

pub string-first : {t u : List ℕ} → String t u → (s : List ℕ) → eqb (first (u ++ s)) 0x22 ≡ true
string-first (quoted k) s = refl

members_begin : {d : ℕ} {u : List ℕ} → Derives members d u → (s : List ℕ) → eqb (first (ws (u ++ s))) 0x7d ≡ false
unfolding ws
members_begin (last_member (quoted k) m l) s = refl
members_begin (a_member (quoted k) m l o p) s = refl

-- ---- one step

-- The result r of a reading, up to the whitespace after it: s is left.
pub record Done (x : Option (List ℕ)) (s : List ℕ) : Type 0 where
  pub left : List ℕ
  pub read : x ≡ some left
  pub same : ws left ≡ ws s

-- After '[' or '{': the end.
opened-end : (more : List ℕ → Option (List ℕ)) (c : ℕ) (b s : List ℕ) → c < 256 → Marked c b → Done (opened more c (ws (b ++ s))) s
unfolding opened
opened-end more c b s h m =
    record {
      left = m.after ++ s;
      read = rw (m.read s, eq-eqb c c refl);
      same = m.skip s;
    }

opened_more : (more : List ℕ → Option (List ℕ)) (c : ℕ) (t s : List ℕ) → eqb (first t) c ≡ false → Done (more t) s → Done (opened more c t) s
unfolding opened
opened_more more c t s h k = record { left = k.left; read = rw h k.read; same = k.same }

-- After a value: the end, or ',' and more.
next-end : (more : List ℕ → Option (List ℕ)) (c : ℕ) (b s r : List ℕ) → eqb c 0x2c ≡ false → Marked c b → ws r ≡ ws (b ++ s) → Done (next more c (ws r)) s
unfolding next byte
next-end more c b s r h m e =
    record {
      left = m.after ++ s;
      read = rw (e, m.read s, h, eq-eqb c c refl);
      same = m.skip s;
    }

next_more : (more : List ℕ → Option (List ℕ)) (c : ℕ) (k t s r : List ℕ) → Marked 0x2c k → ws r ≡ ws (k ++ t) → Done (more (ws t)) s → Done (next more c (ws r)) s
unfolding next
next_more more c k t s r m e d = record { left = d.left; read = rw (e, m.read t, m.skip t) d.read; same = d.same }

-- One after the other.
then : (x : Option (List ℕ)) (f : List ℕ → Option (List ℕ)) (s v : List ℕ) → Done x s → ((r : List ℕ) → ws r ≡ ws s → Done (f r) v) → Done (x >>= f) v
then x f s v k g = rw k.read (g k.left k.same)

-- ---- values, arrays, objects

abbrev pub stops_comma : Stops 0x2c
stops_comma = λ s. record { digit = refl; point = refl; exponent = refl }

abbrev pub stops_bracket : Stops 0x5d
stops_bracket = λ s. record { digit = refl; point = refl; exponent = refl }

abbrev pub stops_brace : Stops 0x7d
stops_brace = λ s. record { digit = refl; point = refl; exponent = refl }

-- What is said of each part; b is the end of the array or the object.
abbrev pub Complete : Part → ℕ → List ℕ → Type 0
Complete value d u = (s : List ℕ) (n : ℕ) → Stop s → 2 * length (ws (u ++ s)) < n → Done (read_part n value d (ws (u ++ s))) s
Complete elements d u = (b s : List ℕ) (n : ℕ) → Marked 0x5d b → 2 * length (ws (u ++ (b ++ s))) + 1 < n → Done (read_part n elements d (ws (u ++ (b ++ s)))) s
Complete members d u = (b s : List ℕ) (n : ℕ) → Marked 0x7d b → 2 * length (ws (u ++ (b ++ s))) + 1 < n → Done (read_part n members d (ws (u ++ (b ++ s)))) s

pub ws-length : (s : List ℕ) → length (ws s) ≤ length s
unfolding ws
ws-length [] = omega arith
ws-length (b ∷ s) = go (is_space b) (ws-length s)
  where
    go : (x : Bool) → length (ws s) ≤ length s → length (cond x (ws s) (b ∷ s)) ≤ suc (length s)
    go true h = omega arith
    go false h = omega arith

-- Whitespace before a structural character is passed.
marked_length : {c : ℕ} {m : List ℕ} → Marked c m → (t s : List ℕ) → length t ≤ length (m ++ t) → length (t ++ s) < length (ws ((m ++ t) ++ s))
marked_length {c} {m} k t s h = rw (append_assoc m t s, k.read (t ++ s)) (omega (arith, length-append k.after (t ++ s)))

-- A value has a byte that is no whitespace.
pub value-length : {d : ℕ} {u : List ℕ} → Derives value d u → (s : List ℕ) → length s < length (ws (u ++ s))
unfolding ws
value-length a_true s = omega arith
value-length a_false s = omega arith
value-length a_null s = omega arith
value-length (a_number {u = u} k) s = let n = number-first k s in rw (ws_none (u ++ s) n.spaces) (number-length k s)
  where
    number-length : {u : List ℕ} → Number u → (s : List ℕ) → length s < length (u ++ s)
    number-length (number-parts no_minus zero_int c d) s = rw length-append (omega arith)
    number-length (number-parts no_minus (int-digits e k) c d) s = rw length-append (omega arith)
    number-length (number-parts minus-sign b c d) s = rw length-append (omega arith)
value-length (a_string (quoted {u = u} k)) s = omega (arith, length-append (u ++ 0x22 ∷ []) s)
value-length (empty_array {a = a} {b = b} m n) s = let h = marked_length (marked refl m) b s (omega (arith, length-append a b)) in omega (arith, length-append b s)
value-length (an_array {a = a} {u = u} {b = b} m k n) s = let h = marked_length (marked refl m) (u ++ b) s (omega (arith, length-append a (u ++ b))) in omega (arith, length-append (u ++ b) s)
value-length (empty_object {a = a} {b = b} m n) s = let h = marked_length (marked refl m) b s (omega (arith, length-append a b)) in omega (arith, length-append b s)
value-length (an_object {a = a} {u = u} {b = b} m k n) s = let h = marked_length (marked refl m) (u ++ b) s (omega (arith, length-append a (u ++ b))) in omega (arith, length-append (u ++ b) s)

-- With fuel left.
run_value : (d : ℕ) (t s : List ℕ) (n m : ℕ) → m < n → ((k : ℕ) → m ≤ k → Done (value_by (read_part k) d t) s) → Done (read_part n value d t) s
unfolding read_part
run_value d t s zero m h f = absurd (not-suc-le-zero h)
run_value d t s (suc n) m h f = f n (le_of_suc-le-suc h)

run_elements : (d : ℕ) (t s : List ℕ) (n m : ℕ) → m < n → ((k : ℕ) → m ≤ k → Done (elements_by (read_part k) d t) s) → Done (read_part n elements d t) s
unfolding read_part
run_elements d t s zero m h f = absurd (not-suc-le-zero h)
run_elements d t s (suc n) m h f = f n (le_of_suc-le-suc h)

run_members : (d : ℕ) (t s : List ℕ) (n m : ℕ) → m < n → ((k : ℕ) → m ≤ k → Done (members_by (read_part k) d t) s) → Done (read_part n members d t) s
unfolding read_part
run_members d t s zero m h f = absurd (not-suc-le-zero h)
run_members d t s (suc n) m h f = f n (le_of_suc-le-suc h)

module _ (go : Reader) (d : ℕ) where
  true_done : (s : List ℕ) → Done (value_by go d (ws (true_name ++ s))) s
  unfolding ws value_by word byte
  true_done s = record { left = s; read = refl; same = refl }

  false_done : (s : List ℕ) → Done (value_by go d (ws (false_name ++ s))) s
  unfolding ws value_by word byte
  false_done s = record { left = s; read = refl; same = refl }

  null_done : (s : List ℕ) → Done (value_by go d (ws (null_name ++ s))) s
  unfolding ws value_by word byte
  null_done s = record { left = s; read = refl; same = refl }

  number-done : {u : List ℕ} → Number u → (s : List ℕ) → Stop s → Done (value_by go d (ws (u ++ s))) s
  unfolding value_by
  number-done {u} m s k =
      let n = number-first m s in
      record { left = s; read = rw (ws_none (u ++ s) n.spaces, n.quote, n.bracket, n.brace, n.tee, n.eff, n.enn) (number_all m s k); same = refl }

  string-done : {t u : List ℕ} → String t u → (s : List ℕ) → Done (value_by go d (ws (u ++ s))) s
  unfolding value_by
  string-done m s = record { left = s; read = rw (string-ws m s, string-first m s, string_all m s); same = refl }

  empty_array_done : {a b : List ℕ} → Marked 0x5b a → Marked 0x5d b → (s : List ℕ) → Done (value_by go (suc d) (ws ((a ++ b) ++ s))) s
  unfolding value_by nested
  empty_array_done {a} {b} m o s = rw (append_assoc a b s, m.read (b ++ s), m.skip (b ++ s)) (opened-end (go elements d) 0x5d b s (omega arith) o)

  array_done : {a u : List ℕ} (b : List ℕ) → Marked 0x5b a → Derives elements d u → (s : List ℕ) → Done (go elements d (ws (u ++ (b ++ s)))) s → Done (value_by go (suc d) (ws ((a ++ (u ++ b)) ++ s))) s
  unfolding value_by nested
  array_done {a} {u} b m l s k =
      rw (append_assoc a (u ++ b) s, m.read ((u ++ b) ++ s), m.skip ((u ++ b) ++ s), append_assoc u b s)
      (opened_more (go elements d) 0x5d (ws (u ++ (b ++ s))) s (elements_begin l (b ++ s)) k)

  empty_object_done : {a b : List ℕ} → Marked 0x7b a → Marked 0x7d b → (s : List ℕ) → Done (value_by go (suc d) (ws ((a ++ b) ++ s))) s
  unfolding value_by nested
  empty_object_done {a} {b} m o s = rw (append_assoc a b s, m.read (b ++ s), m.skip (b ++ s)) (opened-end (go members d) 0x7d b s (omega arith) o)

  object_done : {a u : List ℕ} (b : List ℕ) → Marked 0x7b a → Derives members d u → (s : List ℕ) → Done (go members d (ws (u ++ (b ++ s)))) s → Done (value_by go (suc d) (ws ((a ++ (u ++ b)) ++ s))) s
  unfolding value_by nested
  object_done {a} {u} b m l s k =
      rw (append_assoc a (u ++ b) s, m.read ((u ++ b) ++ s), m.skip ((u ++ b) ++ s), append_assoc u b s)
      (opened_more (go members d) 0x7d (ws (u ++ (b ++ s))) s (members_begin l (b ++ s)) k)

  last_element_done : {b : List ℕ} (t s : List ℕ) → Marked 0x5d b → Done (go value d t) (b ++ s) → Done (elements_by go d t) s
  unfolding elements_by
  last_element_done {b} t s e k = then (go value d t) (λ r. next (go elements d) 0x5d (ws r)) (b ++ s) s k (λ r q. next-end (go elements d) 0x5d b s r refl e q)

  element_done : {c : List ℕ} (t v s : List ℕ) → Marked 0x2c c → Done (go value d t) (c ++ v) → Done (go elements d (ws v)) s → Done (elements_by go d t) s
  unfolding elements_by
  element_done {c} t v s m k l = then (go value d t) (λ r. next (go elements d) 0x5d (ws r)) (c ++ v) s k (λ r q. next_more (go elements d) 0x5d c v s r m q l)

  -- A name, ':' and then a value.
  named : {t n c : List ℕ} (s v : List ℕ) → String t n → Marked 0x3a c → Done (go value d (ws s) >>= λ r. next (go members d) 0x7d (ws r)) v → Done (members_by go d (ws (n ++ (c ++ s)))) v
  unfolding members_by byte
  named {t} {n} {c} s v q m k = rw (string-ws q (c ++ s), string_all q (c ++ s), m.read s, m.skip s) k

  last_member_done : {t n c b : List ℕ} (u s : List ℕ) → String t n → Marked 0x3a c → Marked 0x7d b → Done (go value d (ws (u ++ (b ++ s)))) (b ++ s)
      → Done (members_by go d (ws (n ++ (c ++ (u ++ (b ++ s)))))) s
  last_member_done {b = b} u s q m e k =
      named (u ++ (b ++ s)) s q m
      (then (go value d (ws (u ++ (b ++ s)))) (λ r. next (go members d) 0x7d (ws r)) (b ++ s) s k (λ r x. next-end (go members d) 0x7d b s r refl e x))

  member-done : {t n c k : List ℕ} (u v s : List ℕ) → String t n → Marked 0x3a c → Marked 0x2c k → Done (go value d (ws (u ++ (k ++ v)))) (k ++ v) → Done (go members d (ws v)) s
      → Done (members_by go d (ws (n ++ (c ++ (u ++ (k ++ v)))))) s
  member-done {k = k} u v s q m e i j =
      named (u ++ (k ++ v)) s q m
      (then (go value d (ws (u ++ (k ++ v)))) (λ r. next (go members d) 0x7d (ws r)) (k ++ v) s i (λ r x. next_more (go members d) 0x7d k v s r e x j))

-- Each rule, from what is said of its parts.
array_all : (d : ℕ) (a u b : List ℕ) → Mark 0x5b a → Derives elements d u → Mark 0x5d b → Complete elements d u → Complete value (suc d) (a ++ (u ++ b))
array_all d a u b m l o f s n k h =
    let x = marked refl m in
    let y = marked refl o in
    let e : (u ++ b) ++ s ≡ u ++ (b ++ s) = append_assoc u b s in
    let z : length (u ++ (b ++ s)) < length (ws ((a ++ (u ++ b)) ++ s)) = rw (← e) (marked_length x (u ++ b) s (omega (arith, length-append a (u ++ b)))) in
    run_value (suc d) _ s n _ h (λ i j. array_done (read_part i) d b x l s (f b s i y (let w = ws-length (u ++ (b ++ s)) in omega arith)))

object_all : (d : ℕ) (a u b : List ℕ) → Mark 0x7b a → Derives members d u → Mark 0x7d b → Complete members d u → Complete value (suc d) (a ++ (u ++ b))
object_all d a u b m l o f s n k h =
    let x = marked refl m in
    let y = marked refl o in
    let e : (u ++ b) ++ s ≡ u ++ (b ++ s) = append_assoc u b s in
    let z : length (u ++ (b ++ s)) < length (ws ((a ++ (u ++ b)) ++ s)) = rw (← e) (marked_length x (u ++ b) s (omega (arith, length-append a (u ++ b)))) in
    run_value (suc d) _ s n _ h (λ i j. object_done (read_part i) d b x l s (f b s i y (let w = ws-length (u ++ (b ++ s)) in omega arith)))

last_element_all : (d : ℕ) (u : List ℕ) → Complete value d u → Complete elements d u
last_element_all d u f b s n e h = run_elements d _ s n _ h (λ i j. last_element_done (read_part i) d _ s e (f (b ++ s) i (e.stop stops_bracket s) (omega arith)))

element_all : (d : ℕ) (u c v : List ℕ) → Derives value d u → Mark 0x2c c → Complete value d u → Complete elements d v → Complete elements d (u ++ (c ++ v))
element_all d u c v l m f g b s n e h =
    let x = marked refl m in
    rw (append_assoc u (c ++ v) (b ++ s), append_assoc c v (b ++ s))
    (run_elements d _ s n (2 * length (ws (u ++ (c ++ (v ++ (b ++ s))))) + 1) (rw (append_assoc u (c ++ v) (b ++ s), append_assoc c v (b ++ s)) at h)
    (λ i j. element_done (read_part i) d _ (v ++ (b ++ s)) s x (f (c ++ (v ++ (b ++ s))) i (x.stop stops_comma (v ++ (b ++ s))) (omega arith))
    (g b s i e (let w = ws-length (v ++ (b ++ s)) in let z = value-length l (c ++ (v ++ (b ++ s))) in omega (arith, length-append c (v ++ (b ++ s)))))))

last_member_all : (d : ℕ) {t y : List ℕ} (c u : List ℕ) → String t y → Mark 0x3a c → Complete value d u → Complete members d (y ++ (c ++ u))
last_member_all d {t} {y} c u q m f b s n e h =
    let x = marked refl m in
    rw (append_assoc y (c ++ u) (b ++ s), append_assoc c u (b ++ s))
    (run_members d _ s n (2 * length (y ++ (c ++ (u ++ (b ++ s)))) + 1) (rw (append_assoc y (c ++ u) (b ++ s), append_assoc c u (b ++ s), string-ws q (c ++ (u ++ (b ++ s)))) at h)
    (λ i j. last_member_done (read_part i) d u s q x e
    (f (b ++ s) i (e.stop stops_brace s) (let w = ws-length (u ++ (b ++ s)) in omega (arith, length-append y (c ++ (u ++ (b ++ s))), length-append c (u ++ (b ++ s)))))))

member_all : (d : ℕ) {t y : List ℕ} (c u k v : List ℕ) → String t y → Mark 0x3a c → Mark 0x2c k → Complete value d u → Complete members d v
    → Complete members d (y ++ (c ++ (u ++ (k ++ v))))
member_all d {t} {y} c u k v q m o f g b s n e h =
    let x = marked refl m in
    let w = marked refl o in
    rw (append_assoc y (c ++ (u ++ (k ++ v))) (b ++ s), append_assoc c (u ++ (k ++ v)) (b ++ s), append_assoc u (k ++ v) (b ++ s), append_assoc k v (b ++ s))
    (run_members d _ s n (2 * length (y ++ (c ++ (u ++ (k ++ (v ++ (b ++ s)))))) + 1)
    (rw (append_assoc y (c ++ (u ++ (k ++ v))) (b ++ s), append_assoc c (u ++ (k ++ v)) (b ++ s), append_assoc u (k ++ v) (b ++ s), append_assoc k v (b ++ s), string-ws q (c ++ (u ++ (k ++ (v ++ (b ++ s)))))) at h)
    (λ i j. member-done (read_part i) d u (v ++ (b ++ s)) s q x w
    (f (k ++ (v ++ (b ++ s))) i (w.stop stops_comma (v ++ (b ++ s)))
    (let z = ws-length (u ++ (k ++ (v ++ (b ++ s)))) in omega (arith, length-append y (c ++ (u ++ (k ++ (v ++ (b ++ s))))), length-append c (u ++ (k ++ (v ++ (b ++ s)))))))
    (g b s i e
    (let z = ws-length (v ++ (b ++ s)) in let p = w.size in
    omega (arith, length-append y (c ++ (u ++ (k ++ (v ++ (b ++ s))))), length-append c (u ++ (k ++ (v ++ (b ++ s)))), length-append u (k ++ (v ++ (b ++ s))), length-append k (v ++ (b ++ s)))))))

true_all : (d : ℕ) → Complete value d true_name
true_all d s n k h = run_value d _ s n _ h (λ i j. true_done (read_part i) d s)

false_all : (d : ℕ) → Complete value d false_name
false_all d s n k h = run_value d _ s n _ h (λ i j. false_done (read_part i) d s)

null_all : (d : ℕ) → Complete value d null_name
null_all d s n k h = run_value d _ s n _ h (λ i j. null_done (read_part i) d s)

a_number_all : (d : ℕ) {u : List ℕ} → Number u → Complete value d u
a_number_all d m s n k h = run_value d _ s n _ h (λ i j. number-done (read_part i) d m s k)

a_string_all : (d : ℕ) {t u : List ℕ} → String t u → Complete value d u
a_string_all d m s n k h = run_value d _ s n _ h (λ i j. string-done (read_part i) d m s)

empty_array_all : (d : ℕ) {a b : List ℕ} → Mark 0x5b a → Mark 0x5d b → Complete value (suc d) (a ++ b)
empty_array_all d m o s n k h = run_value (suc d) _ s n _ h (λ i j. empty_array_done (read_part i) d (marked refl m) (marked refl o) s)

empty_object_all : (d : ℕ) {a b : List ℕ} → Mark 0x7b a → Mark 0x7d b → Complete value (suc d) (a ++ b)
empty_object_all d m o s n k h = run_value (suc d) _ s n _ h (λ i j. empty_object_done (read_part i) d (marked refl m) (marked refl o) s)

pub complete : {part : Part} {d : ℕ} {u : List ℕ} → Derives part d u → Complete part d u
complete (a_true {d = d}) = true_all d
complete (a_false {d = d}) = false_all d
complete (a_null {d = d}) = null_all d
complete (a_number {d = d} m) = a_number_all d m
complete (a_string {d = d} m) = a_string_all d m
complete (empty_array {d = d} m o) = empty_array_all d m o
complete (an_array {d = d} {a = a} {u = u} {b = b} m l o) = array_all d a u b m l o (complete l)
complete (empty_object {d = d} m o) = empty_object_all d m o
complete (an_object {d = d} {a = a} {u = u} {b = b} m l o) = object_all d a u b m l o (complete l)
complete (last_element {d = d} {u = u} l) = last_element_all d u (complete l)
complete (an_element {d = d} {u = u} {c = c} {v = v} l m o) = element_all d u c v l m (complete l) (complete o)
complete (last_member {d = d} {c = c} {u = u} q m l) = last_member_all d c u q m (complete l)
complete (a_member {d = d} {c = c} {u = u} {k = k} {v = v} q m l o p) = member_all d c u k v q m o (complete l) (complete p)

pub read_complete : {d : ℕ} {u : List ℕ} → Derives value d u → (s : List ℕ) → Stop s → Done (read_value d (ws (u ++ s))) s
unfolding read_value
read_complete k s h = complete k s _ h (omega arith)
