-- A byte string is well formed exactly when it is the encoding of a list of scalar values, and of one such list only.
-- Assumes nothing.
use Prim.Native.Nat.{ℕ, ◌+◌, ◌-◌, ◌*◌, ◌/◌, ◌%◌, ◌<◌, ◌≤◌}
use mathlib.Core.Path.{◌≡◌, refl, sym, ap, ap₂, ◌∙◌}
use mathlib.Core.Bool.{true, false}
use mathlib.Core.List.{List, [], ◌∷◌, ◌++◌, append-nil}
use mathlib.Core.Logic.{inl, inr, ⊎_elim}
use native.Mathlib.Nat.{div-div-eq-div-mul}
use native.Mathlib.Omega.{arith}
use lib.ListN.{length, take, drop}
use borrow.Author.Tests.{le-leb, lt-leb}
use Rattle.octets.proofs.Equality.{true_false}
use Rattle.octets.proofs.Lists.{le_or_lt}
use Rattle.utf8.specs.Utf8.{well_formed, Scalars, encode, encoded, Encoding}
use Rattle.utf8.specs.Continued.{continued}
use Rattle.utf8.specs.Character.{size, number}
use Rattle.utf8.specs.Statements.{WellFormedExactly, EncodedOnce, EncodeExactly}
use Rattle.utf8.proofs.Ranges.{over}
use Rattle.utf8.proofs.Characters.{Chars, none, one, two, three, four, chars, chars_formed}
use Rattle.utf8.proofs.FirstByte.{behind_ed, behind_none, behind_f4}
use Rattle.utf8.proofs.Encoding.{encode1, encode2, encode3, encode4, formed1, formed2, formed3, formed4, Read, read1, read2, read3, read4, Table, row1, row2, row3, row4, table}

-- ---- from scalar values to text

char : (c : ℕ) {s : List ℕ} → Table c → Chars s → Chars (encode c ++ s)
char c (row1 h) k = rw (encode1 c h) (one (formed1 c h) k)
char c (row2 l h) k = rw (encode2 c l h) (two (formed2 c l h) k)
char c (row3 l h g) k = rw (encode3 c l h) (three (formed3 c l h g) k)
char c (row4 l h) k = rw (encode4 c l) (four (formed4 c l h) k)

encoded-chars : (cs : List ℕ) → Scalars cs → Chars (encoded cs)
unfolding encoded
encoded-chars [] h = none
encoded-chars (c ∷ cs) h = char c (table c h.0) (encoded-chars cs h.1)

-- ---- from text to scalar values

cons : (r s : List ℕ) → Read r → Encoding s → Encoding (r ++ s)
unfolding encoded
cons r s (c, h, e) (cs, k, f) = (c ∷ cs, (h, k), ap₂ (λ (x y : List ℕ). x ++ y) e f)

numbers : {s : List ℕ} → Chars s → Encoding s
unfolding encoded
numbers none = ([], tt, refl)
numbers (one {a} {s} p k) = cons (a ∷ []) s (read1 a p) (numbers k)
numbers (two {a} {b} {s} p k) = cons (a ∷ b ∷ []) s (read2 a b p) (numbers k)
numbers (three {a} {b} {c} {s} p k) = cons (a ∷ b ∷ c ∷ []) s (read3 a b c p) (numbers k)
numbers (four {a} {b} {c} {d} {s} p k) = cons (a ∷ b ∷ c ∷ d ∷ []) s (read4 a b c d p) (numbers k)

pub well_formed_exactly : WellFormedExactly
well_formed_exactly s = (λ h. numbers (chars s h), λ (cs, h, e). rw e at (chars_formed (encoded-chars cs h)))

-- ---- every number

surrogate : (c : ℕ) → 0xd800 ≤ c → c < 0xe000 → well_formed (encode c) ≡ false
unfolding continued
surrogate c l h =
    let a = 0xe0 + c / 4096 in
    let b = 0x80 + c / 64 % 64 in
    let s = b ∷ (0x80 + c % 64) ∷ [] in
    ap well_formed (encode3 c (omega arith) (omega arith)) ∙ behind_ed a (omega arith) (omega arith) s (omega arith) ∙ rw (over 0x80 0x9f b (omega arith))

past : (c : ℕ) → 0x10ffff < c → well_formed (encode c) ≡ false
unfolding continued
past c l =
    let a = 0xf0 + c / 262144 in
    let b = 0x80 + c / 4096 % 64 in
    let s = b ∷ (0x80 + c / 64 % 64) ∷ (0x80 + c % 64) ∷ [] in
    ap well_formed (encode4 c (omega arith))
    ∙ ⊎_elim (λ (p : 0xf5 ≤ a). behind_none a s (omega arith)) (λ (p : a < 0xf5). behind_f4 a (omega arith) s (omega arith) ∙ rw (over 0x80 0x8f b (omega arith))) (le_or_lt 0xf5 a)

pub alone : (c : ℕ) → Scalars (c ∷ []) → well_formed (encode c) ≡ true
unfolding encoded
alone c h = (well_formed_exactly (encode c)).1 (c ∷ [], h, append-nil (encode c))

pub encode_exactly : EncodeExactly
encode_exactly c = (
  λ e.
      ⊎_elim (λ (p : 0xe000 ≤ c). ⊎_elim (λ (q : 0x110000 ≤ c). absurd (true_false (sym e ∙ past c (omega arith)))) (λ (q : c < 0x110000). inr (p, omega arith)) (le_or_lt 0x110000 c))
      (λ (p : c < 0xe000). ⊎_elim (λ (q : 0xd800 ≤ c). absurd (true_false (sym e ∙ surrogate c q p))) (λ (q : c < 0xd800). inl q) (le_or_lt 0xd800 c))
      (le_or_lt 0xe000 c),
  ⊎_elim (λ (p : c < 0xd800). alone c ((omega arith, λ l k. omega arith), tt)) (λ (p : (0xe000 ≤ c) × (c ≤ 0x10ffff)). alone c ((p.1, λ l k. omega (arith, p.0)), tt)),
)

-- ---- one list only

-- The first scalar value of a text, what stands behind it, and its octets.
pub first_is : (c : ℕ) (s : List ℕ) → Table c
    → (number (encode c ++ s) ≡ c) × (drop (size (encode c ++ s)) (encode c ++ s) ≡ s) × (take (size (encode c ++ s)) (encode c ++ s) ≡ encode c)
unfolding number size
first_is c s (row1 h) = rw (encode1 c h, le-leb c 0x7f h) (refl, refl, refl)
first_is c s (row2 l h) =
    let p : 0x7f < 0xc0 + c / 64 = omega arith in
    let q : 0xc0 + c / 64 ≤ 0xdf = omega arith in
    let e : (0xc0 + c / 64 - 0xc0) * 64 + (0x80 + c % 64 - 0x80) ≡ c = omega arith in
    rw (encode2 c l h, lt-leb (0xc0 + c / 64) 0x7f p, le-leb (0xc0 + c / 64) 0xdf q) (e, refl, refl)
first_is c s (row3 l h g) =
    let p : 0x7f < 0xe0 + c / 4096 = omega arith in
    let q : 0xdf < 0xe0 + c / 4096 = omega arith in
    let r : 0xe0 + c / 4096 ≤ 0xef = omega arith in
    let e : (0xe0 + c / 4096 - 0xe0) * 4096 + (0x80 + c / 64 % 64 - 0x80) * 64 + (0x80 + c % 64 - 0x80) ≡ c = omega (arith, div-div-eq-div-mul c 64 64) in
    rw (encode3 c l h, lt-leb (0xe0 + c / 4096) 0x7f p, lt-leb (0xe0 + c / 4096) 0xdf q, le-leb (0xe0 + c / 4096) 0xef r) (e, refl, refl)
first_is c s (row4 l h) =
    let p : 0x7f < 0xf0 + c / 262144 = omega arith in
    let q : 0xdf < 0xf0 + c / 262144 = omega arith in
    let r : 0xef < 0xf0 + c / 262144 = omega arith in
    let e : (0xf0 + c / 262144 - 0xf0) * 262144 + (0x80 + c / 4096 % 64 - 0x80) * 4096 + (0x80 + c / 64 % 64 - 0x80) * 64 + (0x80 + c % 64 - 0x80) ≡ c = omega (arith, div-div-eq-div-mul c 64 64, div-div-eq-div-mul c 4096 64) in
    rw (encode4 c l, lt-leb (0xf0 + c / 262144) 0x7f p, lt-leb (0xf0 + c / 262144) 0xdf q, lt-leb (0xf0 + c / 262144) 0xef r) (e, refl, refl)

-- A scalar value has an octet.
pub some : (c : ℕ) (s : List ℕ) → Table c → 1 ≤ length (encode c ++ s)
some c s (row1 h) = rw (encode1 c h) (omega arith)
some c s (row2 l h) = rw (encode2 c l h) (omega arith)
some c s (row3 l h g) = rw (encode3 c l h) (omega arith)
some c s (row4 l h) = rw (encode4 c l) (omega arith)

pub encoded_once : EncodedOnce
unfolding encoded
encoded_once [] [] h k e = refl
encoded_once [] (d ∷ ds) h k e = absurd (let p = some d (encoded ds) (table d k.0) in omega (arith, ap length e))
encoded_once (c ∷ cs) [] h k e = absurd (let p = some c (encoded cs) (table c h.0) in omega (arith, ap length e))
encoded_once (c ∷ cs) (d ∷ ds) h k e =
    let f = first_is c (encoded cs) (table c h.0) in
    let g = first_is d (encoded ds) (table d k.0) in
    let x : c ≡ d = sym f.0 ∙ ap number e ∙ g.0 in
    let y : encoded cs ≡ encoded ds = sym f.1 ∙ ap (λ (l : List ℕ). drop (size l) l) e ∙ g.1 in
    ap₂ (λ (n : ℕ) (l : List ℕ). n ∷ l) x (encoded_once cs ds h.1 k.1 y)
