-- The rows of the making one by one; and what it left is a reader for the file, where it succeeded, and the reader of no bytes where the file was refused.
-- Assumes nothing.
use Prim.Native.Nat.{ℕ, ◌≤◌, ◌<◌}
use mathlib.Core.Path.{◌≡◌, refl, sym, ap, subst, ◌∙◌}
use mathlib.Core.Logic.{⊎_elim}
use mathlib.Core.List.{List}
use native.Mathlib.Omega.{arith}
use borrow.Author.Tests.{eq-eqb}
use lib.Dec.{lit≤}
use lib.ListN.{length, take, drop, get_or, replicate, length-drop}
use lib.Seq.{length-take-le, take_at, take_all}
use Rattle.octets.specs.Bytes.{filled}
use Rattle.octets.specs.Rows.{Outcome, done, refused, refused_at, End, ended, Succeeded}
use Rattle.octets.proofs.Lists.{le_or_lt}
use Rattle.aes_spec.specs.Cipher.{aes}
use Rattle.aes.proofs.Ciphers.{length-aes}
use Rattle.frame.specs.Layout.{Sizes, header_at}
use Rattle.frame.specs.Frame.{read_range}
use Rattle.frame.specs.Rules.{KeySizes}
use Rattle.siv_gcm.specs.SivGcm as gcm
use Rattle.siv_ctrmac.specs.SivCtrmac as ctrmac
use Rattle.reader_spec.specs.Reader.{open_reader}
use Rattle.reader_spec.proofs.Making.{passes}
use Rattle.vault.specs.declared.record.Combo.{Combo}
use Rattle.vault.specs.declared.record.Combo.TheVariants.{SivGcm, SivCtrmac}
use Rattle.vault.specs.declared.record.Vault.{Vault}
use Rattle.vault.specs.Vault.{sizes_of, codec_with, codec_of}
use Rattle.vault.proofs.Combos.{opened-size, sized_exactly, two_combos}
use Rattle.vault_bytes.specs.VaultBytes.{combo_of, lent_row, vault_in, lent_by, lent}
use Rattle.vault_bytes.specs.Statements.{KnownCombo}
use Rattle.vault_bytes.proofs.Combos.{known_exactly}
use Rattle.vault_bytes.proofs.Lending.{lent_exactly as vault-lent}
use Rattle.file_reader.specs.declared.keys.ReaderKeys.{ReaderKeys}
use Rattle.file_reader.specs.Kept.{Kept, keys_with, mac_for, open_kept, read_kept}
use Rattle.file_reader.specs.Demands.{Passes}
use Rattle.file_reader.proofs.Demands.{holds, same-header}
use Rattle.reader_bytes.specs.ReaderBytes.{combo_number, key_bytes, no_bytes_in, keys_after, store_reader, read_lent}
use Rattle.reader_bytes.specs.Statements.{StoreRowsFourToNine, StoreLentRows, MadeReads}
use Rattle.reader_bytes.proofs.Storing.{joined-size, no_room, with_room, store_open, by_rules, gives}
use Rattle.reader_bytes.proofs.Lending.{lent-joined, none_lent}

-- ---- the rows

pub store_rows : StoreRowsFourToNine
unfolding store_reader
store_rows v f out =
    let t = by_rules v f out in
    let four = gives v f out 4 t.1.0 in
    let nine = gives v f out 9 t.1.1.1.0 in (
      (λ e. let g = four.0 e in (g.0.1, g.1), λ g. four.1 ((tt, g.0), g.1)),
      (
        λ e. let g = t.1.1.0.0 (ap (λ (x : End). x.outcome) e) in ((g.0.0.1, g.0.1), short g.1),
        λ g. (gives v f out 7 t.1.1.0).1 (((tt, g.0.0), g.0.1), λ r. omega (arith, r, g.1)) ∙ ap (ended (refused 7)) (no_room out g.1),
      ),
      (λ e. let g = nine.0 e in ((g.0.0.0.1, g.0.0.1), g.0.1, g.1), λ g. nine.1 ((((tt, g.0.0), g.0.1), g.1), g.2)),
      λ r. sym (ap (λ (x : End). x.outcome) (store_open v f out r)),
    )
  where
    short : (65 ≤ length out → ⊥) → length out < 65
    short n = ⊎_elim (λ (r : 65 ≤ length out). absurd (n r)) (λ (h : length out < 65). h) (le_or_lt 65 (length out))

-- ---- the bytes that were left

-- the content key of a header has 32 bytes
key-size : (c : Combo) (enc mac b : List ℕ) → length b ≡ (sizes_of c).header → length ((codec_with c enc mac).head_of b).key ≡ 32
unfolding gcm.head_of ctrmac.head_of
key-size SivGcm enc mac b l = let e = aes 8 enc in omega (arith, length-drop 8 (gcm.opened e b), opened-size SivGcm e (length-aes 8 enc) b, l)
key-size SivCtrmac enc mac b l = let e = aes 8 enc in omega (arith, length-drop 8 (ctrmac.opened e b), opened-size SivCtrmac e (length-aes 8 enc) b, l)

mac-size : (c : Combo) (mac : List ℕ) → length mac ≡ 32 → length (mac_for c mac) ≡ 32
mac-size SivGcm mac l = refl
mac-size SivCtrmac mac l = l

number-known : (c : Combo) → (0 < combo_number c) × (combo_number c ≤ 2) × (combo_of (combo_number c) ≡ c)
unfolding combo_of
number-known SivGcm = (lit≤ tt, lit≤ tt, refl)
number-known SivCtrmac = (lit≤ tt, lit≤ tt, refl)

-- what stands at the front of a buffer
front : (s out : List ℕ) → length s ≡ 65 → take 65 (filled s 65 out) ≡ s
front s out l = take_at (take 65 s) (drop 65 out) 65 (length-take-le 65 s (omega (arith, l))) ∙ take_all 65 s (omega (arith, l))

module _ (v : Vault) (f keys : List ℕ) (r : 65 ≤ length keys) where
  answers : (store_reader v f keys).outcome ≡ (open_kept v f).outcome
  answers = (store_rows v f keys).3 r

  -- it succeeds exactly where the header passes
  passed : Succeeded (store_reader v f keys) → Passes v f
  unfolding open_kept open_reader
  passed s = passes (codec_of v) (KeySizes v.enc v.mac) (sized_exactly v.combo v.enc v.mac) f s.0 (sym answers ∙ s.1)

  succeeded : Passes v f → Succeeded (store_reader v f keys)
  succeeded o = (_, answers ∙ ap (λ (m : Kept). m.outcome) (holds v f o))

  -- the bytes of a reader that was made
  module _ (o : Passes v f) where
    abbrev k : ReaderKeys
    k = keys_with ((codec_of v).head_of (header_at (codec_of v).sizes f)).key (mac_for v.combo v.mac) v.combo

    long : length (header_at (codec_of v).sizes f) ≡ (sizes_of v.combo).header
    unfolding header_at
    long =
        let z = (codec_of v).sizes in
        length-take-le z.header f (omega (arith, o.1.2)) ∙ ap (λ (x : Sizes). x.header) (two_combos.1 v)

    sizes : KeySizes k.content k.mac
    sizes = (key-size v.combo v.enc v.mac (header_at (codec_of v).sizes f) long, mac-size v.combo v.mac o.0.1)

    bytes : key_bytes k ≡ take 65 (store_reader v f keys).buffer
    bytes =
        sym
        (ap (λ (x : End). take 65 x.buffer) (sym (store_open v f keys r))
        ∙ ap (λ (m : Kept). take 65 (keys_after m.outcome m.keys keys)) (holds v f o)
        ∙ front (key_bytes k) keys (joined-size k.content k.mac (combo_number k.combo) sizes))

    reads : (g : List ℕ) → take (codec_of v).sizes.header g ≡ take (codec_of v).sizes.header f → (from count : ℕ) (out : List ℕ)
        → read_lent g (take 65 (store_reader v f keys).buffer) from count out ≡ read_range (codec_of v) g from count out
    reads g e from count out =
        let n = number-known v.combo in
        lent-joined k.content k.mac (combo_number v.combo) sizes n.0 n.1 g (take 65 (store_reader v f keys).buffer) from count out bytes
        ∙ ap (λ (c : Combo). read_kept (keys_with k.content k.mac c) g from count out) n.2
        ∙ sym (ap (λ (m : Kept). read_kept m.keys g from count out) (holds v f o))
        ∙ same-header v f o g e from count out

  -- and of one that was not
  left : (Succeeded (store_reader v f keys) → ⊥) → (store_reader v f keys).buffer ≡ no_bytes_in keys
  unfolding store_reader
  left n = go (store_reader v f keys).outcome refl
    where
      go : (o : Outcome) → (store_reader v f keys).outcome ≡ o → keys_after o (open_kept v f).keys keys ≡ no_bytes_in keys
      go (done l) e = absurd (n (l, e))
      go (refused row) e = refl
      go (refused_at row i) e = refl

  none_reads : (Succeeded (store_reader v f keys) → ⊥) → (g : List ℕ) (from count : ℕ) (out : List ℕ) → read_lent g (take 65 (store_reader v f keys).buffer) from count out ≡ ended (refused 4) out
  none_reads n g from count out =
      ap (λ (b : List ℕ). read_lent g b from count out) (ap (take 65) (left n ∙ with_room keys r) ∙ front (replicate 65 0) keys refl)
      ∙ none_lent g (replicate 65 0) from count out refl refl

-- ---- lent the bytes of a vault

under_vault : {A : Type 0} (b : List ℕ) (call : Vault → A) (refusal : ℕ → A) → length b ≡ 66 → KnownCombo (get_or b 64 0) → lent b call refusal ≡ call (vault_in b)
unfolding lent_row lent_by
under_vault b call refusal l k = rw (eq-eqb (length b) 66 l, (known_exactly (get_or b 64 0)).1 k)

pub store_lent_rows : StoreLentRows
store_lent_rows vault f keys =
    let t = vault-lent End vault (λ u. store_reader u f keys) (λ row. ended (refused row) keys) in
    (t.0, t.1, under_vault vault (λ u. store_reader u f keys) (λ row. ended (refused row) keys))

pub made_reads : MadeReads
made_reads vault f keys l k r g from count out =
    let v = vault_in vault in
    let m = under_vault vault (λ u. store_reader u f keys) (λ row. ended (refused row) keys) l k in
    let to = ap (λ (x : End). read_lent g (take 65 x.buffer) from count out) m in (
      λ s e.
          to
          ∙ reads v f keys r (passed v f keys r (subst Succeeded m s)) g e from count out
          ∙ sym (under_vault vault (λ u. read_range (codec_of u) g from count out) (λ row. ended (refused row) out) l k),
      λ n. to ∙ none_reads v f keys r (λ s. n (subst Succeeded (sym m) s)) g from count out,
    )
