-- The ends of a mend under the MAC master key and a header's nonce and content key, and how it is the mend, in either combo.
-- Assumes nothing.
use Prim.Native.Nat.{ℕ, ◌+◌, ◌-◌, ◌*◌, ◌/◌, ◌≤◌, ◌<◌}
use mathlib.Core.Path.{◌≡◌, sym, ap₂}
use native.Mathlib.Omega.{arith}
use mathlib.Core.Bool.{true, false}
use mathlib.Core.List.{List, [], ◌∷◌}
use borrow.Author.Tests.{lt-ltb, le-ltb, eq-eqb}
use lib.Dec.{lit≤}
use lib.ListN.{length, take}
use lib.Seq.{take-take}
use Rattle.octets.specs.Rows.{done, refused, refused_at, answer, ended}
use Rattle.aes_spec.specs.Cipher.{aes, cipher}
use Rattle.frame.specs.Layout.{chunk_size, covering, lowest_bad, clear_length, right_length, header_at}
use Rattle.frame.specs.Frame.{head_in, bad_chunk}
use Rattle.siv_gcm.specs.SivGcm as gcm
use Rattle.siv_ctrmac.specs.SivCtrmac as ctrmac
use Rattle.vault.specs.declared.record.Combo.{Combo}
use Rattle.vault.specs.declared.record.Combo.TheVariants.{SivGcm, SivCtrmac}
use Rattle.vault.specs.Vault.{sizes_of, codec_with}
use Rattle.vault.specs.Under.{good_under}
use Rattle.file_parts.specs.Under.{bad_under}
use Rattle.mend_spec.specs.Mend.{clashes, mended, mend_rows, mend_file}
use Rattle.mend_spec.proofs.Ends.{mend_ends}
use Rattle.mend_spec.proofs.Steps.{row_9}
use Rattle.file_mend.specs.Under.{mended_under, mend_under}

-- the lowest bad chunk from the first covering chunk up to e, where w is the key schedule of the content key
pub lowest_under : (c : Combo) (w mac n k f : List ℕ) (from count e : ℕ) → e ≡ from / chunk_size + covering from count → cipher 14 w ≡ aes 8 k
    → lowest_bad (sizes_of c) (good_under c (cipher 14 w) mac n) f (from / chunk_size) (e - from / chunk_size) ≡ bad_under c mac n k f from count
unfolding bad_under
lowest_under c w mac n k f from count e he hw =
    let m : e - from / chunk_size ≡ covering from count = omega (arith, he) in
    ap₂ (λ (b : List ℕ → List ℕ) (j : ℕ). lowest_bad (sizes_of c) (good_under c b mac n) f (from / chunk_size) j) hw m

module _ (c : Combo) (mac n k f : List ℕ) (from : ℕ) (new nonces : List ℕ) where
  pub under_bad : bad_under c mac n k f from (length new) < from / chunk_size + covering from (length new)
      → mend_under c mac n k f from new nonces ≡ ended (refused_at 10 (bad_under c mac n k f from (length new))) f
  unfolding mend_under answer
  under_bad b = rw (lt-ltb (bad_under c mac n k f from (length new)) (from / chunk_size + covering from (length new)) b)

  pub under_good : from / chunk_size + covering from (length new) ≤ bad_under c mac n k f from (length new)
      → mend_under c mac n k f from new nonces ≡ ended (done (length new ∷ [])) (mended_under c (aes 8 k) mac n f from new nonces)
  unfolding mend_under answer
  under_good b = rw (le-ltb (bad_under c mac n k f from (length new)) (from / chunk_size + covering from (length new)) b)

-- where no row before 9 applies: row 9 itself; and where it does not apply, mending is mending under the nonce and the content key of the header, whose
-- reserved bytes do not matter
module _ (enc mac f : List ℕ) (from : ℕ) (new nonces : List ℕ) where
  pub refused_9 : (c : Combo) → (codec_with c enc mac).keys_right ≡ true → length nonces ≡ (sizes_of c).nonce * covering from (length new) → right_length (sizes_of c) (length f) ≡ true
      → from + length new ≤ clear_length (sizes_of c) (length f) → clashes (sizes_of c) f from (length new) nonces ≡ false → (codec_with c enc mac).header_good (header_at (sizes_of c) f) ≡ false
      → ended (refused 9) f ≡ mend_file (codec_with c enc mac) f from new nonces
  refused_9 SivGcm k s r w n h = sym (mend_ends (gcm.codec enc mac) f from new nonces (refused 9) (row_9 _ _ _ _ _ _ k s r w n h))
  refused_9 SivCtrmac k s r w n h = sym (mend_ends (ctrmac.codec enc mac) f from new nonces (refused 9) (row_9 _ _ _ _ _ _ k s r w n h))

  pub mend_under_lem : (c : Combo) → (codec_with c enc mac).keys_right ≡ true → length nonces ≡ (sizes_of c).nonce * covering from (length new) → right_length (sizes_of c) (length f) ≡ true
      → from + length new ≤ clear_length (sizes_of c) (length f) → clashes (sizes_of c) f from (length new) nonces ≡ false → (codec_with c enc mac).header_good (header_at (sizes_of c) f) ≡ true
      → mend_file (codec_with c enc mac) f from new nonces ≡ mend_under c mac (take (sizes_of c).nonce f) ((codec_with c enc mac).head_of (header_at (sizes_of c) f)).key f from new nonces
  unfolding mend_file mend_rows answer mended bad_chunk bad_under mend_under head_in header_at gcm.head_of ctrmac.head_of
  mend_under_lem SivGcm k s r w n g =
      rw (k, eq-eqb (length nonces) (12 * covering from (length new)) s, r, le-ltb (clear_length gcm.siv_gcm (length f)) (from + length new) w, n, g, take-take 12 68 f (lit≤ tt))
  mend_under_lem SivCtrmac k s r w n g =
      rw (k, eq-eqb (length nonces) (16 * covering from (length new)) s, r, le-ltb (clear_length ctrmac.siv_ctrmac (length f)) (from + length new) w, n, g, take-take 16 88 f (lit≤ tt))
