-- Proper text: the test says what the words do; bytes, and characters.
-- Assumes nothing.
use Prim.Native.Nat.{ℕ, zero, suc, ◌/◌, ◌+◌, ◌%◌, ◌<◌}
use mathlib.Core.Path.{◌≡◌, refl, sym, ap, ◌∙◌, subst}
use mathlib.Core.Bool.{Bool, true, not, ◌&&◌}
use mathlib.Core.Logic.{◌↔◌}
use mathlib.Core.List.{List, [], ◌∷◌, ◌++◌}
use native.Mathlib.Nat.{not-suc-le-zero, le_of_suc-le-suc, zero-lt-suc}
use native.Mathlib.Omega.{arith}
use lib.Dec.{eqb, lit<}
use lib.ListN.{length}
use borrow.Author.Tests.{eqb-false, ne_eqb, not-true}
use Rattle.octets.specs.Bytes.{Below, Bytes}
use Rattle.octets.proofs.Bytes.{below_nil, below_cons}
use Rattle.octets.proofs.Equality.{and_true, true_and}
use Rattle.octets.proofs.Tests.{both_exactly}
use Rattle.utf8.specs.Utf8.{Scalars, encode, encoded}
use Rattle.utf8.specs.ProperText.{lacks, Lacks, proper_text}
use Rattle.utf8.specs.Statements.{EncodingBytes, ProperTextExactly, AsciiText, ProperCharacters}
use Rattle.utf8.proofs.Encoding.{encode1, encode2, encode3, encode4, Table, row1, row2, row3, row4, table}
use Rattle.utf8.proofs.Exactly.{well_formed_exactly}

-- ---- bytes

bytes_of : (c : ℕ) {s : List ℕ} → Table c → Bytes s → Bytes (encode c ++ s)
bytes_of c (row1 h) b = rw (encode1 c h) (below_cons (omega arith) b)
bytes_of c (row2 l h) b = rw (encode2 c l h) (below_cons (omega arith) (below_cons (omega arith) b))
bytes_of c (row3 l h g) b = rw (encode3 c l h) (below_cons (omega arith) (below_cons (omega arith) (below_cons (omega arith) b)))
bytes_of c (row4 l h) b = rw (encode4 c l) (below_cons (omega arith) (below_cons (omega arith) (below_cons (omega arith) (below_cons (omega arith) b))))

encoded-bytes : (cs : List ℕ) → Scalars cs → Bytes (encoded cs)
unfolding encoded
encoded-bytes [] h = below_nil (lit< tt)
encoded-bytes (c ∷ cs) h = bytes_of c (table c h.0) (encoded-bytes cs h.1)

pub encoding_bytes : EncodingBytes
encoding_bytes s (cs, h, e) = subst Bytes e (encoded-bytes cs h)

-- ---- a byte that does not occur

pub lacks_exactly : (b : ℕ) (s : List ℕ) → (lacks b s ≡ true) ↔ Lacks b s
unfolding lacks
lacks_exactly b [] = (λ e i h. absurd (not-suc-le-zero h), λ n. refl)
lacks_exactly b (a ∷ s) =
    let next = lacks_exactly b s in (
      λ e. let p = and_true (not (eqb a b)) (lacks b s) e in also (eqb-false a b (not-true (eqb a b) p.0)) (next.0 p.1),
      λ n. true_and (not (eqb a b)) (lacks b s) (ap not (ne_eqb a b (n 0 (zero-lt-suc (length s))))) (next.1 (λ i h. n (suc i) (omega arith))),
    )
  where
    also : (a ≡ b → ⊥) → Lacks b s → Lacks b (a ∷ s)
    also n l zero h = n
    also n l (suc i) h = l i (le_of_suc-le-suc h)

pub proper_text_exactly : ProperTextExactly
unfolding proper_text
proper_text_exactly s =
    let both = both_exactly (both_exactly (well_formed_exactly s) (lacks_exactly 0x00 s)) (lacks_exactly 0x2f s) in
    (λ e. let p = both.0 e in (p.0.0, p.0.1, p.1), λ p. both.1 ((p.0, p.1), p.2))

-- ---- ASCII

ascii-encoded : (s : List ℕ) → Below 128 s → Scalars s × (encoded s ≡ s)
unfolding encoded
ascii-encoded [] b = (tt, refl)
ascii-encoded (a ∷ s) b =
    let l : a < 128 = b.at 0 in
    let r = ascii-encoded s (record { at = λ i. b.at (suc i) }) in
    (((omega arith, λ p q. omega arith), r.0), ap (λ (x : List ℕ). x ++ encoded s) (encode1 a (omega arith)) ∙ ap (λ (x : List ℕ). a ∷ x) r.1)

pub ascii-text : AsciiText
ascii-text s b zeros slashes = let r = ascii-encoded s b in ((s, r.0, r.1), zeros, slashes)

-- ---- an ASCII character, as a byte and as a scalar value

-- A byte b below 80 occurs in the encoding of c only where c is b.
lacks-encode : (b c : ℕ) (s : List ℕ) → b < 0x80 → Table c → lacks b (encode c ++ s) ≡ (not (eqb c b) && lacks b s)
unfolding lacks
lacks-encode b c s k (row1 h) = rw (encode1 c h)
lacks-encode b c s k (row2 l h) =
    rw (encode2 c l h, ne_eqb c b (λ e. omega arith), ne_eqb (0xc0 + c / 64) b (λ e. omega arith), ne_eqb (0x80 + c % 64) b (λ e. omega arith))
lacks-encode b c s k (row3 l h g) =
    rw (
      encode3 c l h,
      ne_eqb c b (λ e. omega arith),
      ne_eqb (0xe0 + c / 4096) b (λ e. omega arith),
      ne_eqb (0x80 + c / 64 % 64) b (λ e. omega arith),
      ne_eqb (0x80 + c % 64) b (λ e. omega arith),
    )
lacks-encode b c s k (row4 l h) =
    rw (
      encode4 c l,
      ne_eqb c b (λ e. omega arith),
      ne_eqb (0xf0 + c / 262144) b (λ e. omega arith),
      ne_eqb (0x80 + c / 4096 % 64) b (λ e. omega arith),
      ne_eqb (0x80 + c / 64 % 64) b (λ e. omega arith),
      ne_eqb (0x80 + c % 64) b (λ e. omega arith),
    )

lacks-encoded : (b : ℕ) (cs : List ℕ) → b < 0x80 → Scalars cs → lacks b (encoded cs) ≡ lacks b cs
unfolding lacks encoded
lacks-encoded b [] k h = refl
lacks-encoded b (c ∷ cs) k h = lacks-encode b c (encoded cs) k (table c h.0) ∙ ap (λ (x : Bool). not (eqb c b) && x) (lacks-encoded b cs k h.1)

-- So no byte is b exactly when no scalar value is.
module _ (b : ℕ) (cs s : List ℕ) (k : b < 0x80) (h : Scalars cs) (e : encoded cs ≡ s) where
  same_test : lacks b s ≡ lacks b cs
  same_test = ap (lacks b) (sym e) ∙ lacks-encoded b cs k h

  bytes_lack : Lacks b cs → Lacks b s
  bytes_lack n = (lacks_exactly b s).0 (same_test ∙ (lacks_exactly b cs).1 n)

  scalars_lack : Lacks b s → Lacks b cs
  scalars_lack n = (lacks_exactly b cs).0 (sym same_test ∙ (lacks_exactly b s).1 n)

pub proper_characters : ProperCharacters
proper_characters s = (
  λ ((cs, h, e), zeros, slashes). (cs, h, scalars_lack 0x00 cs s (lit< tt) h e zeros, scalars_lack 0x2f cs s (lit< tt) h e slashes, e),
  λ (cs, h, zeros, slashes, e). ((cs, h, e), bytes_lack 0x00 cs s (lit< tt) h e zeros, bytes_lack 0x2f cs s (lit< tt) h e slashes),
)
