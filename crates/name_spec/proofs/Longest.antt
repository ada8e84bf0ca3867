-- The longest full name, and the room that is enough for any name.
-- Assumes nothing.
use Prim.Native.Nat.{ℕ, zero, suc, ◌≤◌}
use mathlib.Core.Path.{◌≡◌, refl, sym, ap, ◌∙◌}
use mathlib.Core.Bool.{true, ◌&&◌}
use mathlib.Core.Logic.{◌↔◌}
use mathlib.Core.List.{List, [], ◌∷◌}
use native.Mathlib.Omega.{arith}
use lib.ListN.{length, replicate, length-append, length-replicate}
use lib.Dec.{leb, lit≤, lit<}
use borrow.Author.Tests.{le-leb}
use Rattle.octets.proofs.Bytes.{below_replicate}
use Rattle.octets.proofs.Equality.{iff, and_true, true_and, true_false}
use Rattle.octets.proofs.Rows.{answer_exactly}
use Rattle.encoding.specs.Base64url as base64url
use Rattle.encoding.proofs.Laws.{encoded-length}
use Rattle.utf8.specs.ProperText.{lacks}
use Rattle.utf8.proofs.ProperText.{lacks_exactly, ascii-text}
use Rattle.name_spec.specs.Names.{full_end, full_length, name_length, text_right}
use Rattle.name_spec.specs.Calls.{written_lengths, write_name_rows, write_name, open_text_rows, open_name_rows, open_name, open_long_name_rows, open_long_name}
use Rattle.name_spec.specs.Rules.{NameSize, NameFits, TextForm}
use Rattle.name_spec.specs.Statements.{LongestNames, RoomForAny}
use Rattle.name_spec.proofs.Texts.{length-full, text_lengths, form}
use Rattle.name_spec.proofs.Rules.{write_matches, open_matches, open_long_matches}

-- ---- lengths

full-limit : (name : List ℕ) → NameSize name → full_length (length name) ≤ 1388
unfolding base64url.encoded_length
full-limit name size = omega (arith, size.1)

text-limit : (t : List ℕ) → TextForm t → length t ≤ 1388
unfolding base64url.encoded_length
text-limit t f =
    let s = f.0 in
    let l = ap length (sym f.4) ∙ length-append (base64url.encode true s) full_end in
    omega (arith, l, encoded-length true s, f.3)

-- So this many characters are no limit to texts in the text form.
pub text-within : (t : List ℕ) → (text_right t && leb (length t) 1388) ≡ text_right t
text-within t =
    iff (text_right t && leb (length t) 1388) (text_right t)
    (λ e. (and_true (text_right t) (leb (length t) 1388) e).0)
    (λ e. true_and (text_right t) (leb (length t) 1388) e (le-leb (length t) 1388 (text-limit t (form t e))))

name-limit : (t : List ℕ) → TextForm t → name_length t ≤ 1020
name-limit t f = let n = ap name_length (sym f.4) ∙ text_lengths.1 f.0 f.1 in omega (arith, n, f.3)

no_zero : (n : ℕ) → lacks 0x00 (replicate n 0x61) ≡ true
unfolding lacks
no_zero zero = refl
no_zero (suc n) = no_zero n

no_slash : (n : ℕ) → lacks 0x2f (replicate n 0x61) ≡ true
unfolding lacks
no_slash zero = refl
no_slash (suc n) = no_slash n

letters : (n : ℕ) → NameFits (replicate n 0x61) ↔ ((1 ≤ n) × (n ≤ 1020))
letters n =
    let s : List ℕ = replicate n 0x61 in
    let l = length-replicate {A = ℕ} n 0x61 in (
      λ f. (omega (arith, l, f.0.0), omega (arith, l, f.0.1)),
      λ h. (
        (omega (arith, l, h.0), omega (arith, l, h.1)),
        ascii-text s (below_replicate n (lit< tt)) ((lacks_exactly 0x00 s).0 (no_zero n)) ((lacks_exactly 0x2f s).0 (no_slash n)),
      ),
    )

pub longest_names : LongestNames
unfolding base64url.encoded_length
longest_names = (
  λ enc mac id name size. omega (arith, length-full enc mac id name, full-limit name size),
  λ enc mac id name e text. (((omega (arith, e), omega (arith, e)), text), length-full enc mac id name ∙ ap full_length e),
  letters,
  text-limit,
)

-- ---- room

module _ (threshold : ℕ) (enc mac id : List ℕ) where
  pub room_for_any : RoomForAny threshold enc mac id
  unfolding write_name_rows write_name open_text_rows open_name_rows open_name open_long_name_rows open_long_name
  room_for_any = (
    λ name stored full hs hf e.
        let m = write_matches threshold enc mac id name (length stored) (length full) in
        let f = ((answer_exactly (write_name_rows threshold enc mac id name (length stored) (length full)) refl (written_lengths threshold (full_length (length name)))).0 4 (lit≤ tt)).0 e in
        let most = (m.1.0 f.0).1 in
        let h = full-limit name (m.2.2.2.1.0 f.1.1.1.0).0 in
        true_false (sym f.1.1.1.1 ∙ m.2.2.2.2.1.1 (λ p. omega (arith, p, most, hs), λ p. (omega (arith, hs), omega (arith, h, hf)))),
    λ t out ho e.
        let m = open_matches threshold enc mac id t (length out) in
        let f = ((answer_exactly (open_name_rows threshold enc mac id t (length out)) refl (name_length t ∷ [])).0 4 (lit≤ tt)).0 e in
        let h = name-limit t (m.2.2.2.1.0 f.1.1.1.0).0 in
        true_false (sym f.1.1.1.1 ∙ m.2.2.2.2.1.1 (omega (arith, h, ho))),
    λ s t out ho e.
        let m = open_long_matches threshold enc mac id s t (length out) in
        let f = ((answer_exactly (open_long_name_rows threshold enc mac id s t (length out)) refl (name_length t ∷ [])).0 4 (lit≤ tt)).0 e in
        let h = name-limit t (m.2.2.2.1.0 f.1.1.1.0) in
        true_false (sym f.1.1.1.1 ∙ m.2.2.2.2.1.1 (omega (arith, h, ho))),
  )
