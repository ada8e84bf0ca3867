-- The making with a buffer for the reader's bytes: what it leaves, and the rules that it goes by.
-- Assumes nothing.
use Prim.Native.Nat.{ℕ, ◌+◌, ◌≤◌, ◌<◌}
use mathlib.Core.Path.{◌≡◌, refl, sym, ap, ◌∙◌}
use mathlib.Core.Logic.{◌↔◌}
use mathlib.Core.Bool.{true, false, not}
use mathlib.Core.List.{List, [], ◌∷◌, ◌++◌}
use native.Mathlib.Omega.{arith}
use borrow.Author.Tests.{lt-ltb, le-ltb}
use lib.ListN.{length, replicate, length-append}
use lib.Seq.{length-take-le}
use Rattle.octets.specs.Bytes.{placed, filled}
use Rattle.octets.specs.Rows.{Outcome, done, refused, answer, AnswersBy, End, ended}
use Rattle.octets.proofs.Lists.{at_front, front_filled, placed-placed}
use Rattle.octets.proofs.Tests.{self, not_fails, ltb_fails}
use Rattle.octets.proofs.Rows.{Matches, first_answers, answers_by}
use Rattle.frame.specs.Layout.{clear_length, right_length, header_at}
use Rattle.frame.specs.Frame.{Codec}
use Rattle.frame.specs.Rules.{KeySizes}
use Rattle.frame.proofs.Rules.{length_exactly}
use Rattle.reader_spec.specs.Reader.{making_rows, open_reader}
use Rattle.vault.specs.declared.record.Vault.{Vault}
use Rattle.vault.specs.Vault.{sizes_of, codec_of}
use Rattle.vault.proofs.Combos.{codec_by, codec_by_lem, sized_exactly}
use Rattle.file_reader.specs.Kept.{open_kept}
use Rattle.reader_bytes.specs.ReaderBytes.{no_bytes_in, keys_after, store_reader_rows, store_reader}
use Rattle.reader_bytes.specs.Statements.{NoBytesStored, ReaderNumbers, store_reader_rules, ReaderStoresExactly}

-- ---- the bytes

-- Two keys and a number, placed one behind the other, stand at the front of the buffer.
pub joined-size : (content mac : List ℕ) (n : ℕ) → KeySizes content mac → length (content ++ mac ++ n ∷ []) ≡ 65
joined-size content mac n k = omega (arith, length-append (content ++ mac) (n ∷ []), length-append content mac, k)

pub placed-keys : (content mac out : List ℕ) (n : ℕ) → KeySizes content mac → 65 ≤ length out
    → placed (n ∷ []) 64 (placed mac 32 (placed content 0 out)) ≡ filled (content ++ mac ++ n ∷ []) 65 out
placed-keys content mac out n k r =
    let e : 0 + length content ≡ 32 = omega (arith, k) in
    let m : 0 + length (content ++ mac) ≡ 64 = omega (arith, length-append content mac, k) in
    let z : 0 ≤ length out = omega arith in
    let s = content ++ mac ++ n ∷ [] in
    let l = joined-size content mac n k in
    ap (λ (i : ℕ). placed (n ∷ []) 64 (placed mac i (placed content 0 out))) (sym e)
    ∙ ap (placed (n ∷ []) 64) (placed-placed content mac out 0 z)
    ∙ ap (λ (i : ℕ). placed (n ∷ []) i (placed (content ++ mac) 0 out)) (sym m)
    ∙ placed-placed (content ++ mac) (n ∷ []) out 0 z
    ∙ sym (at_front s out 65 l)
    ∙ front_filled s out 65 s (l ∙ sym (length-take-le 65 out r)) refl

pub no_room : (out : List ℕ) → length out < 65 → no_bytes_in out ≡ out
unfolding no_bytes_in
no_room out h = rw (lt-ltb (length out) 65 h)

pub with_room : (out : List ℕ) → 65 ≤ length out → no_bytes_in out ≡ filled (replicate 65 0) 65 out
unfolding no_bytes_in
with_room out h = rw (le-ltb (length out) 65 h)

pub reader-numbers : ReaderNumbers
reader-numbers = (refl, refl)

pub no_bytes-stored : NoBytesStored
no_bytes-stored out = (no_room out, with_room out)

-- ---- the rows

module _ (v : Vault) (f out : List ℕ) where
  abbrev C : Codec
  C = codec_by v.combo v.enc v.mac

  -- the answer, by the rows
  abbrev answered : Codec → Outcome
  answered x = answer (store_reader_rows x f (length out)) (done (clear_length x.sizes (length f) ∷ []))

  abbrev end_by : Outcome → End
  end_by o = ended o (keys_after o (open_kept v f).keys out)

  ends : (o : Outcome) → answered C ≡ o → end_by o ≡ store_reader v f out
  unfolding store_reader
  ends o e = sym (ap end_by (ap answered (sym (codec_by_lem v.combo v.enc v.mac)) ∙ e))

  module _ (k : C.keys_right ≡ true) where
    pub store_4 : right_length (sizes_of v.combo) (length f) ≡ false → ended (refused 4) (no_bytes_in out) ≡ store_reader v f out
    unfolding store_reader_rows
    store_4 r = ends (refused 4) (first_answers (store_reader_rows C f (length out)) _ 1 (ap not k, ap not r))

    pub store_7 : right_length (sizes_of v.combo) (length f) ≡ true → length out < 65 → ended (refused 7) out ≡ store_reader v f out
    unfolding store_reader_rows
    store_7 r h =
        ap (ended (refused 7)) (sym (no_room out h))
        ∙ ends (refused 7) (first_answers (store_reader_rows C f (length out)) _ 2 (ap not k, (ap not r, lt-ltb (length out) 65 h)))

  -- with room it answers as the making does
  pub store_open : 65 ≤ length out → end_by (open_kept v f).outcome ≡ store_reader v f out
  unfolding store_reader store_reader_rows open_kept open_reader making_rows answer
  store_open h = rw (le-ltb (length out) 65 h)

  -- ---- the rules

  matches : Matches (store_reader_rows (codec_of v) f (length out)) (store_reader_rules v f (length out))
  unfolding store_reader_rows header_at
  matches = (
    refl,
    not_fails (sized_exactly v.combo v.enc v.mac),
    (
      refl,
      not_fails (length_exactly (codec_of v).sizes (length f)),
      (refl, ltb_fails (length out) 65, (refl, not_fails (self ((codec_of v).header_good (header_at (codec_of v).sizes f))), tt)),
    ),
  )

  pub by_rules : AnswersBy (store_reader_rules v f (length out)) (clear_length (codec_of v).sizes (length f) ∷ []) (answered (codec_of v))
  unfolding store_reader_rows
  by_rules = answers_by (store_reader_rows (codec_of v) f (length out)) (store_reader_rules v f (length out)) matches refl (clear_length (codec_of v).sizes (length f) ∷ [])

  pub gives : (row : ℕ) {A : Type 0} → (answered (codec_of v) ≡ refused row) ↔ A → (store_reader v f out ≡ ended (refused row) (no_bytes_in out)) ↔ A
  unfolding store_reader
  gives row t = (λ e. t.0 (ap (λ (x : End). x.outcome) e), λ a. ap end_by (t.1 a))

  succeeds : {A : Type 0} (l : List ℕ) → (answered (codec_of v) ≡ done l) ↔ A → (store_reader v f out ≡ end_by (done l)) ↔ A
  unfolding store_reader
  succeeds l t = (λ e. t.0 (ap (λ (x : End). x.outcome) e), λ a. ap end_by (t.1 a))

pub stores_exactly : ReaderStoresExactly
stores_exactly v f out =
    let t = by_rules v f out in
    ((gives v f out 1 t.0, (gives v f out 4 t.1.0, (gives v f out 7 t.1.1.0, (gives v f out 9 t.1.1.1.0, succeeds v f out _ t.1.1.1.1)))), refl)
