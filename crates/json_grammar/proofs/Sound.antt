-- What the functions of Json.antt read, the grammar derives.
-- Assumes nothing.
use Prim.Native.Nat.{ℕ, zero, suc, ◌+◌, ◌*◌, ◌≤◌, ◌<◌}
use mathlib.Core.Path.{◌≡◌, refl, sym, ap, ◌∙◌, subst}
use mathlib.Core.Bool.{Bool, true, false, cond, ◌||◌}
use mathlib.Core.List.{List, [], ◌∷◌, ◌++◌, append_assoc}
use mathlib.Core.Option.{Option, none, some}
use mathlib.Core.Logic.{◌⊎◌, inl, inr, ⊎_elim}
use native.Mathlib.Omega.{arith}
use lib.Dec.{eqb}
use lib.ListN.{length, drop}
use borrow.Author.Tests.{eqb-true, eqb-false, le-leb}
use Rattle.octets.proofs.Equality.{true_and}
use Rattle.utf8.proofs.Alternatives.{which2}
use Rattle.utf8.proofs.Ranges.{in_range}
use Rattle.json_grammar.specs.Json.{◌>>=◌, first, byte, is_space, ws, word, true_name, false_name, null_name, is_digit, digits, some_digits, minus, int, frac, is_exponent, sign, exp, number, is_unescaped, unescaped, hex_digit, hex_digits, escaped, char, chars, string, Part, value, elements, members, Reader, next, opened, nested, value_by, elements_by, members_by, read_part}
use Rattle.json_grammar.specs.Grammar.{Ws, no_space, space, Mark, mark, Digits, no_digit, digit, SomeDigits, some-digits, Minus, no_minus, minus-sign, Int, zero_int, int-digits, Frac, no_frac, frac-digits, Sign, no_sign, plus, negative, Exp, no_exp, exp-digits, Number, number-parts, Escape, quotation_mark, reverse-solidus, solidus, backspace, form_feed, line_feed, carriage_return, tab, is_hex, Char, literal, escape, unicode, Chars, no_char, one_char, String, quoted, Derives, a_true, a_false, a_null, a_number, a_string, empty_array, an_array, empty_object, an_object, last_element, an_element, last_member, a_member}
use Rattle.utf8.proofs.Options.{never, some_same}
use Rattle.json_grammar.proofs.Options.{got, pick, first_is, byte_sound}
use Rattle.utf8.specs.Utf8.{encode}
use Rattle.utf8.specs.Character.{character}
use Rattle.utf8.proofs.FirstCharacter.{character_exactly}

-- ---- whitespace, literal names, numbers

pub ws_sound : (s : List ℕ) → (a : List ℕ) × Ws a × (s ≡ a ++ ws s)
unfolding ws
ws_sound [] = ([], no_space, refl)
ws_sound (b ∷ s) = go (is_space b) refl (ws_sound s)
  where
    go : (x : Bool) → is_space b ≡ x → (a : List ℕ) × Ws a × (s ≡ a ++ ws s) → (a : List ℕ) × Ws a × (b ∷ s ≡ a ++ cond x (ws s) (b ∷ s))
    go true e k = (b ∷ k.0, space e k.1, ap (λ (l : List ℕ). b ∷ l) k.2)
    go false e k = ([], no_space, refl)

pub word_sound : (w s r : List ℕ) → word w s ≡ some r → s ≡ w ++ r
unfolding word
word_sound [] s r e = some_same e
word_sound (c ∷ w) s r e =
    let k = got (byte c s) (λ x. word w x) r e in
    byte_sound c s k.0 k.1 ∙ ap (λ (l : List ℕ). c ∷ l) (word_sound w k.0 r k.2)

pub digits_sound : (s : List ℕ) → (a : List ℕ) × Digits a × (s ≡ a ++ digits s)
unfolding digits
digits_sound [] = ([], no_digit, refl)
digits_sound (b ∷ s) = go (is_digit b) refl (digits_sound s)
  where
    go : (x : Bool) → is_digit b ≡ x → (a : List ℕ) × Digits a × (s ≡ a ++ digits s) → (a : List ℕ) × Digits a × (b ∷ s ≡ a ++ cond x (digits s) (b ∷ s))
    go true e k = (b ∷ k.0, digit e k.1, ap (λ (l : List ℕ). b ∷ l) k.2)
    go false e k = ([], no_digit, refl)

some-digits_sound : (s r : List ℕ) → some_digits s ≡ some r → (a : List ℕ) × SomeDigits a × (s ≡ a ++ r)
unfolding some_digits
some-digits_sound [] r e = never e
some-digits_sound (b ∷ s) r e =
    pick (is_digit b) (some (digits s)) none (some r) e
    (λ t f. let k = digits_sound s in (b ∷ k.0, some-digits t k.1, ap (λ (l : List ℕ). b ∷ l) (k.2 ∙ ap (λ (l : List ℕ). k.0 ++ l) (some_same f))))
    (λ t f. never f)

minus_sound : (s : List ℕ) → (a : List ℕ) × Minus a × (s ≡ a ++ minus s)
unfolding minus
minus_sound [] = ([], no_minus, refl)
minus_sound (b ∷ s) = go (eqb b 0x2d) refl
  where
    go : (x : Bool) → eqb b 0x2d ≡ x → (a : List ℕ) × Minus a × (b ∷ s ≡ a ++ cond x s (b ∷ s))
    go true e = (0x2d ∷ [], minus-sign, ap (λ (c : ℕ). c ∷ s) (eqb-true b 0x2d e))
    go false e = ([], no_minus, refl)

sign_sound : (s : List ℕ) → (a : List ℕ) × Sign a × (s ≡ a ++ sign s)
unfolding sign
sign_sound [] = ([], no_sign, refl)
sign_sound (b ∷ s) = go (eqb b 0x2b || eqb b 0x2d) refl
  where
    go : (x : Bool) → (eqb b 0x2b || eqb b 0x2d) ≡ x → (a : List ℕ) × Sign a × (b ∷ s ≡ a ++ cond x s (b ∷ s))
    go true e =
        ⊎_elim
        (λ f. (0x2b ∷ [], plus, ap (λ (c : ℕ). c ∷ s) (eqb-true b 0x2b f)))
        (λ f. (0x2d ∷ [], negative, ap (λ (c : ℕ). c ∷ s) (eqb-true b 0x2d f)))
        (which2 (eqb b 0x2b) (eqb b 0x2d) e)
    go false e = ([], no_sign, refl)

int_sound : (s r : List ℕ) → int s ≡ some r → (a : List ℕ) × Int a × (s ≡ a ++ r)
unfolding int
int_sound [] r e = never e
int_sound (b ∷ s) r e =
    pick (eqb b 0x30) (some s) (cond (is_digit b) (some (digits s)) none) (some r) e
    (λ t f. (0x30 ∷ [], zero_int, let g = eqb-true b 0x30 t in let h : s ≡ r = some_same f in cc))
    (λ t f.
    pick (is_digit b) (some (digits s)) none (some r) f
    (λ u g.
    let k = digits_sound s in
    let i = in_range 0x30 0x39 b u in
    let ne = eqb-false b 0x30 t in
    let m : 0x31 ≤ b = omega arith in
    (b ∷ k.0, int-digits (true_and _ _ (le-leb 0x31 b m) (le-leb b 0x39 i.1)) k.1, ap (λ (l : List ℕ). b ∷ l) (k.2 ∙ ap (λ (l : List ℕ). k.0 ++ l) (some_same g))))
    (λ u g. never g))

frac_sound : (s r : List ℕ) → frac s ≡ some r → (a : List ℕ) × Frac a × (s ≡ a ++ r)
unfolding frac
frac_sound [] r e = ([], no_frac, some_same e)
frac_sound (b ∷ s) r e =
    pick (eqb b 0x2e) (some_digits s) (some (b ∷ s)) (some r) e
    (λ t f. let k = some-digits_sound s r f in let g = eqb-true b 0x2e t in (0x2e ∷ k.0, frac-digits k.1, let h : s ≡ k.0 ++ r = k.2 in cc))
    (λ t f. ([], no_frac, some_same f))

exp_sound : (s r : List ℕ) → exp s ≡ some r → (a : List ℕ) × Exp a × (s ≡ a ++ r)
unfolding exp
exp_sound [] r e = ([], no_exp, some_same e)
exp_sound (b ∷ s) r e =
    pick (is_exponent b) (some_digits (sign s)) (some (b ∷ s)) (some r) e
    (λ t f.
    let j = sign_sound s in
    let k = some-digits_sound (sign s) r f in
    (b ∷ (j.0 ++ k.0), exp-digits t j.1 k.1, ap (λ (l : List ℕ). b ∷ l) (j.2 ∙ ap (λ (l : List ℕ). j.0 ++ l) k.2 ∙ sym (append_assoc j.0 k.0 r))))
    (λ t f. ([], no_exp, some_same f))

pub number_sound : (s r : List ℕ) → number s ≡ some r → (a : List ℕ) × Number a × (s ≡ a ++ r)
unfolding number
number_sound s r e =
    let g = got (int (minus s)) (λ x. frac x >>= λ y. exp y) r e in
    let h = got (frac g.0) (λ y. exp y) r g.2 in
    let m = minus_sound s in
    let i = int_sound (minus s) g.0 g.1 in
    let f = frac_sound g.0 h.0 h.1 in
    let x = exp_sound h.0 r h.2 in (
      m.0 ++ (i.0 ++ (f.0 ++ x.0)),
      number-parts m.1 i.1 f.1 x.1,
      join m.0 i.0 f.0 x.0 s (minus s) g.0 h.0 m.2 i.2 f.2 x.2,
    )
  where
    join : (m i f x s a b c : List ℕ) → s ≡ m ++ a → a ≡ i ++ b → b ≡ f ++ c → c ≡ x ++ r → s ≡ (m ++ (i ++ (f ++ x))) ++ r
    join m i f x s a b c p q u v = rw (p, q, u, v) (simp append_assoc)

-- ---- strings

-- A character, and the characters of a string with its end, at the start of s.
abbrev pub CharAt : List ℕ → ℕ × List ℕ → Type 0
CharAt s p = (u : List ℕ) × Char p.0 u × (s ≡ u ++ p.1)

abbrev pub CharsAt : List ℕ → List ℕ × List ℕ → Type 0
CharsAt s p = (u : List ℕ) × Chars p.0 u × (s ≡ u ++ 0x22 ∷ p.1)

record Hex (n x : ℕ) (s : List ℕ) (p : ℕ × List ℕ) : Type 0 where
  at : ℕ
  rest : List ℕ
  hex : is_hex at ≡ true
  bytes : s ≡ at ∷ rest
  then : hex_digits n (x * 16 + hex_digit at) rest ≡ some p

hex_step : (n x : ℕ) (s : List ℕ) (p : ℕ × List ℕ) → hex_digits (suc n) x s ≡ some p → Hex n x s p
unfolding hex_digits
hex_step n x [] p e = never e
hex_step n x (b ∷ s) p e =
    pick (is_hex b) (hex_digits n (x * 16 + hex_digit b) s) none (some p) e
    (λ t f. record { at = b; rest = s; hex = t; bytes = refl; then = f })
    (λ t f. never f)

hex_none : (x : ℕ) (s : List ℕ) (p : ℕ × List ℕ) → hex_digits zero x s ≡ some p → (x, s) ≡ p
unfolding hex_digits
hex_none x s p e = some_same e

unicode_sound : (s : List ℕ) (p : ℕ × List ℕ) → hex_digits 4 0 s ≡ some p → CharAt (0x5c ∷ 0x75 ∷ s) p
unicode_sound s p e =
    let a = hex_step 3 0 s p e in
    let b = hex_step 2 (0 * 16 + hex_digit a.at) a.rest p a.then in
    let c = hex_step 1 ((0 * 16 + hex_digit a.at) * 16 + hex_digit b.at) b.rest p b.then in
    let d = hex_step 0 (((0 * 16 + hex_digit a.at) * 16 + hex_digit b.at) * 16 + hex_digit c.at) c.rest p c.then in
    made a.at b.at c.at d.at a.rest b.rest c.rest d.rest a.hex b.hex c.hex d.hex a.bytes b.bytes c.bytes d.bytes
    (hex_none ((((0 * 16 + hex_digit a.at) * 16 + hex_digit b.at) * 16 + hex_digit c.at) * 16 + hex_digit d.at) d.rest p d.then)
  where
    made : (a b c d : ℕ) (w x y z : List ℕ) → is_hex a ≡ true → is_hex b ≡ true → is_hex c ≡ true → is_hex d ≡ true
        → s ≡ a ∷ w → w ≡ b ∷ x → x ≡ c ∷ y → y ≡ d ∷ z
        → ((((0 * 16 + hex_digit a) * 16 + hex_digit b) * 16 + hex_digit c) * 16 + hex_digit d, z) ≡ p → CharAt (0x5c ∷ 0x75 ∷ s) p
    made a b c d w x y z ha hb hc hd p1 p2 p3 p4 q =
        let n : (((0 * 16 + hex_digit a) * 16 + hex_digit b) * 16 + hex_digit c) * 16 + hex_digit d ≡ ((hex_digit a * 16 + hex_digit b) * 16 + hex_digit c) * 16 + hex_digit d = omega arith in
        let r : CharAt (0x5c ∷ 0x75 ∷ s) (((hex_digit a * 16 + hex_digit b) * 16 + hex_digit c) * 16 + hex_digit d, z) =
        (0x5c ∷ 0x75 ∷ a ∷ b ∷ c ∷ d ∷ [], unicode ha hb hc hd, rw (p1, p2, p3, p4)) in
        subst (λ (i : ℕ × List ℕ). CharAt (0x5c ∷ 0x75 ∷ s) i) (ap (λ (i : ℕ). (i, z)) (sym n) ∙ q) r

simple_sound : (b c n : ℕ) (s : List ℕ) (p : ℕ × List ℕ) → Escape c n → b ≡ c → ◌≡◌ {A = Option (ℕ × List ℕ)} (some (n, s)) (some p) → CharAt (0x5c ∷ b ∷ s) p
simple_sound b c n s p k e f =
    let r : CharAt (0x5c ∷ b ∷ s) (n, s) = (0x5c ∷ c ∷ [], escape k, ap (λ (i : ℕ). 0x5c ∷ i ∷ s) e) in
    subst (λ (i : ℕ × List ℕ). CharAt (0x5c ∷ b ∷ s) i) (some_same f) r

escape_sound : (s : List ℕ) (p : ℕ × List ℕ) → escaped s ≡ some p → CharAt (0x5c ∷ s) p
unfolding escaped
escape_sound [] p e = never e
escape_sound (b ∷ s) p e =
    pick (eqb b 0x22 || eqb b 0x5c || eqb b 0x2f) _ _ (some p) e
    (λ t f. self t f)
    (λ t0 e0. pick (eqb b 0x62) _ _ (some p) e0 (λ t f. simple_sound b 0x62 0x08 s p backspace (eqb-true b 0x62 t) f)
    (λ t1 e1. pick (eqb b 0x66) _ _ (some p) e1 (λ t f. simple_sound b 0x66 0x0c s p form_feed (eqb-true b 0x66 t) f)
    (λ t2 e2. pick (eqb b 0x6e) _ _ (some p) e2 (λ t f. simple_sound b 0x6e 0x0a s p line_feed (eqb-true b 0x6e t) f)
    (λ t3 e3. pick (eqb b 0x72) _ _ (some p) e3 (λ t f. simple_sound b 0x72 0x0d s p carriage_return (eqb-true b 0x72 t) f)
    (λ t4 e4. pick (eqb b 0x74) _ _ (some p) e4 (λ t f. simple_sound b 0x74 0x09 s p tab (eqb-true b 0x74 t) f)
    (λ t5 e5. pick (eqb b 0x75) _ _ (some p) e5 (λ t f. rw (eqb-true b 0x75 t) (unicode_sound s p f)) (λ t6 e6. never e6)))))))
  where
    self : (eqb b 0x22 || eqb b 0x5c || eqb b 0x2f) ≡ true → ◌≡◌ {A = Option (ℕ × List ℕ)} (some (b, s)) (some p) → CharAt (0x5c ∷ b ∷ s) p
    self t f =
        ⊎_elim
        (λ g. ⊎_elim
        (λ h. let i = eqb-true b 0x22 h in simple_sound b 0x22 0x22 s p quotation_mark i (rw i at f))
        (λ h. let i = eqb-true b 0x5c h in simple_sound b 0x5c 0x5c s p reverse-solidus i (rw i at f))
        (which2 (eqb b 0x22) (eqb b 0x5c) g))
        (λ h. let i = eqb-true b 0x2f h in simple_sound b 0x2f 0x2f s p solidus i (rw i at f))
        (which2 (eqb b 0x22 || eqb b 0x5c) (eqb b 0x2f) t)

pub char_sound : (s : List ℕ) (p : ℕ × List ℕ) → char s ≡ some p → CharAt s p
unfolding char unescaped
char_sound s p e =
    pick (eqb (first s) 0x5c) (escaped (drop 1 s)) (unescaped s) (some p) e
    (λ t f. let k = escape_sound (drop 1 s) p f in (k.0, k.1, first_is 0x5c s (omega arith) t ∙ k.2))
    (λ t f.
    let g = got (character s) (λ q. cond (is_unescaped q.0) (some q) none) p f in
    let k = (character_exactly g.0.0 s g.0.1).0 g.1 in
    pick (is_unescaped g.0.0) (some g.0) none (some p) g.2
    (λ a b. let r : CharAt s g.0 = (encode g.0.0, literal k.0 a, sym k.1) in subst (λ (i : ℕ × List ℕ). CharAt s i) (some_same b) r)
    (λ a b. never b))

pub chars_sound : (n : ℕ) (s : List ℕ) (p : List ℕ × List ℕ) → chars n s ≡ some p → CharsAt s p
unfolding chars
chars_sound zero s p e = never e
chars_sound (suc n) s p e =
    pick (eqb (first s) 0x22) (some ([], drop 1 s)) _ (some p) e
    (λ t f. none_there t (some_same f))
    (λ t f.
    let g = got (char s) (λ x. chars n x.1 >>= λ q. some (x.0 ∷ q.0, q.1)) p f in
    let h = got (chars n g.0.1) (λ q. some (g.0.0 ∷ q.0, q.1)) p g.2 in
    one_there g.0 h.0 (char_sound s g.0 g.1) (chars_sound n g.0.1 h.0 h.1) (some_same h.2))
  where
    none_there : eqb (first s) 0x22 ≡ true → ([], drop 1 s) ≡ p → CharsAt s p
    none_there t c = let r : CharsAt s ([], drop 1 s) = ([], no_char, first_is 0x22 s (omega arith) t) in subst (λ (i : List ℕ × List ℕ). CharsAt s i) c r

    one_there : (x : ℕ × List ℕ) (q : List ℕ × List ℕ) → CharAt s x → CharsAt x.1 q → (x.0 ∷ q.0, q.1) ≡ p → CharsAt s p
    one_there x q a b c =
        let r : CharsAt s (x.0 ∷ q.0, q.1) =
        (a.0 ++ b.0, one_char a.1 b.1, a.2 ∙ ap (λ (l : List ℕ). a.0 ++ l) b.2 ∙ sym (append_assoc a.0 b.0 (0x22 ∷ q.1))) in
        subst (λ (i : List ℕ × List ℕ). CharsAt s i) c r

pub string_sound : (s : List ℕ) (p : List ℕ × List ℕ) → string s ≡ some p → (u : List ℕ) × String p.0 u × (s ≡ u ++ p.1)
unfolding string
string_sound s p e =
    let g = got (byte 0x22 s) (λ r. chars (length s) r) p e in
    let k = chars_sound (length s) g.0 p g.2 in
    (0x22 ∷ (k.0 ++ 0x22 ∷ []), quoted k.1, byte_sound 0x22 s g.0 g.1 ∙ ap (λ (l : List ℕ). 0x22 ∷ l) (k.2 ∙ sym (append_assoc k.0 (0x22 ∷ []) p.1)))

-- ---- values, arrays, objects

-- What is said of what a part reads from s, where r is left.
abbrev pub Reads : Part → ℕ → List ℕ → List ℕ → Type 0
Reads value d s r = (u : List ℕ) × Derives value d u × (s ≡ u ++ r)
Reads elements d s r = (u b : List ℕ) × Derives elements d u × Mark 0x5d b × (s ≡ u ++ (b ++ r))
Reads members d s r = (u b : List ℕ) × Derives members d u × Mark 0x7d b × (s ≡ u ++ (b ++ r))

-- What is said of `next`: ',' and what is read by more, or the end.
pub next_sound : (more : List ℕ → Option (List ℕ)) (c : ℕ) (s r : List ℕ) → next more c (ws s) ≡ some r
    → ((k t : List ℕ) × Mark 0x2c k × (more t ≡ some r) × (s ≡ k ++ t)) ⊎ ((b : List ℕ) × Mark c b × (s ≡ b ++ r))
unfolding next
next_sound more c s r e =
    let a = ws_sound s in
    pick (eqb (first (ws s)) 0x2c) (more (ws (drop 1 (ws s)))) (byte c (ws s)) (some r) e
    (λ t f.
    let b = ws_sound (drop 1 (ws s)) in
    let g = first_is 0x2c (ws s) (omega arith) t in
    inl (a.0 ++ 0x2c ∷ b.0, ws (drop 1 (ws s)), mark a.1 b.1, f, joined a.0 b.0 (ws s) (drop 1 (ws s)) (ws (drop 1 (ws s))) a.2 g b.2))
    (λ t f. inr (a.0 ++ c ∷ [], mark a.1 no_space, a.2 ∙ ap (λ (l : List ℕ). a.0 ++ l) (byte_sound c (ws s) r f) ∙ sym (append_assoc a.0 (c ∷ []) r)))
  where
    joined : (a b x y z : List ℕ) → s ≡ a ++ x → x ≡ 0x2c ∷ y → y ≡ b ++ z → s ≡ (a ++ 0x2c ∷ b) ++ z
    joined a b x y z p q u = rw (p, q, u) (sym (append_assoc a (0x2c ∷ b) z))

-- What is said of an array or an object with o at its start and c at its end: it is empty, or what follows is read by go, one level less.
pub record Nested (go : ℕ → List ℕ → Option (List ℕ)) (o c d : ℕ) (s r : List ℕ) : Type 0 where
  pub less : ℕ
  pub level : d ≡ suc less
  pub start : List ℕ
  pub begin : Mark o start
  pub inner : ((b : List ℕ) × Mark c b × (s ≡ start ++ (b ++ r))) ⊎ ((t : List ℕ) × (go less t ≡ some r) × (s ≡ start ++ t))

pub nested_sound : (go : ℕ → List ℕ → Option (List ℕ)) (o c d : ℕ) (s r : List ℕ) → c < 256 → s ≡ o ∷ drop 1 s → nested go c d s ≡ some r → Nested go o c d s r
unfolding nested opened
nested_sound go o c zero s r h k e = never e
nested_sound go o c (suc d) s r h k e =
    let a = ws_sound (drop 1 s) in
    record {
      less = d;
      level = refl;
      start = o ∷ a.0;
      begin = mark no_space a.1;
      inner = pick (eqb (first (ws (drop 1 s))) c) (some (drop 1 (ws (drop 1 s)))) (go d (ws (drop 1 s))) (some r) e
          (λ t f. inl (c ∷ [], mark no_space no_space, k ∙ ap (λ (l : List ℕ). o ∷ l) (a.2 ∙ ap (λ (l : List ℕ). a.0 ++ l) (first_is c (ws (drop 1 s)) h t ∙ ap (λ (l : List ℕ). c ∷ l) (some_same f)))))
          (λ t f. inr (ws (drop 1 s), f, k ∙ ap (λ (l : List ℕ). o ∷ l) a.2));
    }

array_sound : (go : ℕ → List ℕ → Option (List ℕ)) (d : ℕ) (s r : List ℕ) → ((e : ℕ) (t : List ℕ) → go e t ≡ some r → Reads elements e t r) → Nested go 0x5b 0x5d d s r → Reads value d s r
array_sound go d s r ih k =
    rw k.level
    (⊎_elim
    (λ x. (k.start ++ x.0, empty_array k.begin x.1, x.2 ∙ sym (append_assoc k.start x.0 r)))
    (λ x. let y = ih k.less x.0 x.1 in
    (k.start ++ (y.0 ++ y.1), an_array k.begin y.2 y.3, joined k.start x.0 y.0 y.1 x.2 y.4))
    k.inner)
  where
    joined : (a t u b : List ℕ) → s ≡ a ++ t → t ≡ u ++ (b ++ r) → s ≡ (a ++ (u ++ b)) ++ r
    joined a t u b p q = rw (p, q) (simp append_assoc)

object_sound : (go : ℕ → List ℕ → Option (List ℕ)) (d : ℕ) (s r : List ℕ) → ((e : ℕ) (t : List ℕ) → go e t ≡ some r → Reads members e t r) → Nested go 0x7b 0x7d d s r → Reads value d s r
object_sound go d s r ih k =
    rw k.level
    (⊎_elim
    (λ x. (k.start ++ x.0, empty_object k.begin x.1, x.2 ∙ sym (append_assoc k.start x.0 r)))
    (λ x. let y = ih k.less x.0 x.1 in
    (k.start ++ (y.0 ++ y.1), an_object k.begin y.2 y.3, joined k.start x.0 y.0 y.1 x.2 y.4))
    k.inner)
  where
    joined : (a t u b : List ℕ) → s ≡ a ++ t → t ≡ u ++ (b ++ r) → s ≡ (a ++ (u ++ b)) ++ r
    joined a t u b p q = rw (p, q) (simp append_assoc)

module _ (go : Reader) (ih : (part : Part) (d : ℕ) (s r : List ℕ) → go part d s ≡ some r → Reads part d s r) (d : ℕ) (s r : List ℕ) where
  value_sound : value_by go d s ≡ some r → Reads value d s r
  unfolding value_by
  value_sound e =
      pick (eqb (first s) 0x22) _ _ (some r) e
      (λ t f. let g = got (string s) (λ p. some p.1) r f in let k = string_sound s g.0 g.1 in (k.0, a_string k.1, k.2 ∙ ap (λ (l : List ℕ). k.0 ++ l) (some_same g.2)))
      (λ t0 e0. pick (eqb (first s) 0x5b) _ _ (some r) e0
      (λ t f. array_sound (go elements) d s r (λ e t. ih elements e t r) (nested_sound (go elements) 0x5b 0x5d d s r (omega arith) (first_is 0x5b s (omega arith) t) f))
      (λ t1 e1. pick (eqb (first s) 0x7b) _ _ (some r) e1
      (λ t f. object_sound (go members) d s r (λ e t. ih members e t r) (nested_sound (go members) 0x7b 0x7d d s r (omega arith) (first_is 0x7b s (omega arith) t) f))
      (λ t2 e2. pick (eqb (first s) 0x74) _ _ (some r) e2 (λ t f. (true_name, a_true, word_sound true_name s r f))
      (λ t3 e3. pick (eqb (first s) 0x66) _ _ (some r) e3 (λ t f. (false_name, a_false, word_sound false_name s r f))
      (λ t4 e4. pick (eqb (first s) 0x6e) _ _ (some r) e4 (λ t f. (null_name, a_null, word_sound null_name s r f))
      (λ t5 f. let k = number_sound s r f in (k.0, a_number k.1, k.2)))))))

  elements_sound : elements_by go d s ≡ some r → Reads elements d s r
  unfolding elements_by
  elements_sound e =
      let g = got (go value d s) (λ x. next (go elements d) 0x5d (ws x)) r e in
      let v = ih value d s g.0 g.1 in
      ⊎_elim
      (λ n. let m = ih elements d n.1 r n.3 in
      (v.0 ++ (n.0 ++ m.0), m.1, an_element v.1 n.2 m.2, m.3, more v.0 n.0 m.0 m.1 g.0 n.1 v.2 n.4 m.4))
      (λ n. (v.0, n.0, last_element v.1, n.1, v.2 ∙ ap (λ (l : List ℕ). v.0 ++ l) n.2))
      (next_sound (go elements d) 0x5d g.0 r g.2)
    where
      more : (u k v b x t : List ℕ) → s ≡ u ++ x → x ≡ k ++ t → t ≡ v ++ (b ++ r) → s ≡ (u ++ (k ++ v)) ++ (b ++ r)
      more u k v b x t p q w = rw (p, q, w) (simp append_assoc)

  members_sound : members_by go d s ≡ some r → Reads members d s r
  unfolding members_by
  members_sound e =
      let a = got (string s) _ r e in
      let b = got (byte 0x3a (ws a.0.1)) _ r a.2 in
      let g = got (go value d (ws b.0)) (λ x. next (go members d) 0x7d (ws x)) r b.2 in
      let n = string_sound s a.0 a.1 in
      let w = ws_sound a.0.1 in
      let c = byte_sound 0x3a (ws a.0.1) b.0 b.1 in
      let x = ws_sound b.0 in
      let v = ih value d (ws b.0) g.0 g.1 in
      let colon : Mark 0x3a (w.0 ++ 0x3a ∷ x.0) = mark w.1 x.1 in
      ⊎_elim
      (λ k. let m = ih members d k.1 r k.3 in (
        n.0 ++ ((w.0 ++ 0x3a ∷ x.0) ++ (v.0 ++ (k.0 ++ m.0))),
        m.1,
        a_member n.1 colon v.1 k.2 m.2,
        m.3,
        more n.0 w.0 x.0 v.0 k.0 m.0 m.1 a.0.1 (ws a.0.1) b.0 (ws b.0) g.0 k.1 n.2 w.2 c x.2 v.2 k.4 m.4,
      ))
      (λ k. (
        n.0 ++ ((w.0 ++ 0x3a ∷ x.0) ++ v.0),
        k.0,
        last_member n.1 colon v.1,
        k.1,
        one n.0 w.0 x.0 v.0 k.0 a.0.1 (ws a.0.1) b.0 (ws b.0) g.0 n.2 w.2 c x.2 v.2 k.2,
      ))
      (next_sound (go members d) 0x7d g.0 r g.2)
    where
      one : (n w x v k s1 s2 s3 s4 s5 : List ℕ) → s ≡ n ++ s1 → s1 ≡ w ++ s2 → s2 ≡ 0x3a ∷ s3 → s3 ≡ x ++ s4 → s4 ≡ v ++ s5 → s5 ≡ k ++ r
          → s ≡ (n ++ ((w ++ 0x3a ∷ x) ++ v)) ++ (k ++ r)
      one n w x v k s1 s2 s3 s4 s5 p1 p2 p3 p4 p5 p6 = rw (p1, p2, p3, p4, p5, p6) (simp append_assoc)

      more : (n w x v k m b s1 s2 s3 s4 s5 s6 : List ℕ) → s ≡ n ++ s1 → s1 ≡ w ++ s2 → s2 ≡ 0x3a ∷ s3 → s3 ≡ x ++ s4 → s4 ≡ v ++ s5 → s5 ≡ k ++ s6 → s6 ≡ m ++ (b ++ r)
          → s ≡ (n ++ ((w ++ 0x3a ∷ x) ++ (v ++ (k ++ m)))) ++ (b ++ r)
      more n w x v k m b s1 s2 s3 s4 s5 s6 p1 p2 p3 p4 p5 p6 p7 = rw (p1, p2, p3, p4, p5, p6, p7) (simp append_assoc)

pub part_sound : (n : ℕ) (part : Part) (d : ℕ) (s r : List ℕ) → read_part n part d s ≡ some r → Reads part d s r
unfolding read_part
part_sound zero part d s r e = never e
part_sound (suc n) value d s r e = value_sound (read_part n) (part_sound n) d s r e
part_sound (suc n) elements d s r e = elements_sound (read_part n) (part_sound n) d s r e
part_sound (suc n) members d s r e = members_sound (read_part n) (part_sound n) d s r e
