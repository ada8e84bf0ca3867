-- A file that is alike to that of a choice: when its mend succeeds, and what it is alike to then.
-- Assumes nothing.
use mathlib.Core.Path.{◌≡◌, refl, sym, ap, ap₂, ◌∙◌, subst}
use mathlib.Core.Bool.{true}
use mathlib.Core.List.{List, [], ◌∷◌}
use Prim.Native.Nat.{ℕ, ◌+◌, ◌-◌, ◌*◌, ◌/◌, ◌≤◌, ◌<◌}
use native.Mathlib.Nat.{mul-add, mul-le-mul_left}
use native.Mathlib.Omega.{arith}
use lib.ListN.{length}
use Rattle.octets.proofs.Placed.{placed-length, below_placed}
use Rattle.octets.proofs.Rows.{succeeds_exactly}
use Rattle.octets.proofs.Tests.{self}
use Rattle.frame.specs.Layout.{chunk_size, chunks, covering, file_length, clear_length, header_at, chunk_at, Covers, Alike}
use Rattle.frame.specs.Frame.{Head, Codec, Choice, Fits, file_of, head_in}
use Rattle.frame.specs.Laws.{Laws}
use Rattle.frame.specs.Rules.{piece}
use Rattle.frame.proofs.Pieces.{covers_end, covers_some, covers_count}
use Rattle.frame.proofs.Rules.{length_exactly}
use Rattle.frame.proofs.Success.{head_alike}
use Rattle.frame.proofs.Written as written
use Rattle.mend_spec.specs.Mend.{patched, mended_choice, mended, mend_rows, mend_file}
use Rattle.mend_spec.specs.Rules.{mend_rules}
use Rattle.mend_spec.specs.Statements.{Mending, after, MendsAlike, MendedAlike}
use Rattle.mend_spec.proofs.Ends.{Mends, mend_matches}
use Rattle.mend_spec.proofs.Patches.{patched-parts}
use Rattle.mend_spec.proofs.After.{g_length, g_header, mends_of, after_is, mended-chunks}
use Rattle.mend_spec.proofs.Files.{pieces-within}

module _ (C : Codec) (𝓛 : Laws C) where
  open C use {sizes as z, keys_right, header_of, chunk_of, header_good, good, plain}

  pub mends_alike : MendsAlike C
  unfolding mend_file mend_rows
  mends_alike f c from new nonces fits alike =
      let n = ap (clear_length z) alike.same_length ∙ written.file-clear-length C 𝓛 c fits in
      let head = head_alike C f (file_of C c) alike.same-header ∙ written.file-head C 𝓛 c fits in
      let long = alike.same_length ∙ written.file-length C 𝓛 c fits in
      let rows = mend_rows C f from new nonces in
      let rules = mend_rules C (keys_right ≡ true) f from new nonces in
      let met = succeeds_exactly rows rules (mend_matches C (keys_right ≡ true) (self keys_right) f from new nonces) refl (length new ∷ []) (mended C f from new nonces) f in (
        λ s.
            let t = met.0 s in
            let w = t.1.1.0 in
            let fresh = t.1.1.1.0 in
            (t.0.1, omega (arith, w, n), fresh.0, λ i j a b. fresh.1 i j a (omega (arith, b, n))),
        λ t.
            let w = t.1 in
            let inside : from + length new ≤ clear_length z (length f) = omega (arith, w, n) in
            let right = (length_exactly z (length f)).1 (length c.clear, fits.clear-size, long) in
            met.1 (
              (𝓛.keys-right, t.0),
              (
                (length c.clear, fits.clear-size, long),
                (
                  inside,
                  (
                    (t.2, λ i j a b. t.3 i j a (omega (arith, b, n))),
                    (
                      ap header_good (alike.same-header ∙ written.file-header C 𝓛 c fits) ∙ 𝓛.header-good c.head fits.head-fits,
                      (
                        λ i a b d.
                            ap₂ (λ (h : Head) (x : List ℕ). good h i x) head
                            (alike.same-chunks i (record { inside = record { right = right; within = inside }; some = a; low = b; high = d }))
                            ∙ written.file-good C 𝓛 c fits i (covers_some (length c.clear) from (length new) i w b (covers_count from (length new) i a b d)),
                        tt,
                      ),
                    ),
                  ),
                ),
              ),
            ),
      )

  module _ (f : List ℕ) (c : Choice) (from : ℕ) (new nonces : List ℕ) (fits : Fits z c) (m : Mending C f from new nonces) (alike : Alike z f (file_of C c) from (length new)) where
    abbrev s : ℕ
    s = from / chunk_size

    abbrev k : ℕ
    k = covering from (length new)

    abbrev d : Choice
    d = mended_choice z c from new nonces

    o : Mends C f from new nonces
    o = mends_of C 𝓛 f from new nonces m

    clear_long : clear_length z (length f) ≡ length c.clear
    clear_long = ap (clear_length z) alike.same_length ∙ written.file-clear-length C 𝓛 c fits

    within : from + length new ≤ length c.clear
    within = let w = o.inside.within in omega (arith, w, clear_long)

    -- the nonces lie among those of the choice
    nonces_fit : z.nonce * s + length nonces ≤ length c.nonces
    nonces_fit =
        let e = covers_end (length c.clear) from (length new) (s + k) refl within in
        let b : s + k ≤ chunks (length c.clear) = omega (arith, e) in
        let p = mul-add z.nonce s k in
        let q = mul-le-mul_left {m = s + k} {n = chunks (length c.clear)} z.nonce b in
        omega (arith, p, q, o.counted, fits.nonces-size)

    clear_kept : length d.clear ≡ length c.clear
    clear_kept = placed-length new c.clear from within

    pub replaced_fits : Fits z d
    replaced_fits =
        let e = clear_kept in
        record {
          head-fits = fits.head-fits;
          nonces-size = placed-length nonces c.nonces (z.nonce * s) nonces_fit ∙ fits.nonces-size ∙ ap (λ (l : ℕ). z.nonce * chunks l) (sym e);
          clear-size = let l = fits.clear-size in omega (arith, l, e);
          nonces-bytes = below_placed nonces c.nonces (z.nonce * s) m.nonces-bytes fits.nonces-bytes;
          clear-bytes = below_placed new c.clear from m.new_bytes fits.clear-bytes;
        }

    long : length (after C f from new nonces) ≡ length f
    long = ap length (after_is C 𝓛 f from new nonces m) ∙ g_length C 𝓛 f from new nonces m.file-bytes m.new_bytes m.nonces-bytes o

    headed : header_at z (after C f from new nonces) ≡ header_at z f
    headed = ap (header_at z) (after_is C 𝓛 f from new nonces m) ∙ g_header C 𝓛 f from new nonces m.file-bytes m.new_bytes m.nonces-bytes o

    head : head_in C f ≡ c.head
    head = head_alike C f (file_of C c) alike.same-header ∙ written.file-head C 𝓛 c fits

    -- the old cleartext of a covering chunk
    old : (i : ℕ) → Covers z (length f) from (length new) i → plain (head_in C f) i (chunk_at z f i) ≡ piece chunk_size c.clear i
    old i v =
        let h = covers_some (length c.clear) from (length new) i within v.low (covers_count from (length new) i v.some v.low v.high) in
        ap₂ (λ (x : Head) (y : List ℕ). plain x i y) head (alike.same-chunks i v) ∙ written.file-plain C 𝓛 c fits i h

    chunk : (i : ℕ) → Covers z (length f) from (length new) i → chunk_at z (after C f from new nonces) i ≡ chunk_at z (file_of C d) i
    chunk i v =
        let u = covers_count from (length new) i v.some v.low v.high in
        let h = covers_some (length c.clear) from (length new) i within v.low u in
        let fit = nonces_fit in
        let l : chunk_size * i < length d.clear = subst (λ (x : ℕ). chunk_size * i < x) (sym clear_kept) h in
        mended-chunks C 𝓛 f from new nonces m i v
        ∙ ap₂ (λ (x : Head) (y : List ℕ). chunk_of x i (piece z.nonce nonces (i - s)) (patched i from new y)) head (old i v)
        ∙ ap₂ (λ (x y : List ℕ). chunk_of c.head i x y) (sym (pieces-within z.nonce s k nonces c.nonces o.counted (omega (arith, fit)) i v.low u)) (patched-parts i from new c.clear within)
        ∙ sym (written.file_chunk C 𝓛 d replaced_fits i l)

  pub mended_alike : MendedAlike C
  mended_alike f c from new nonces fits m alike =
      let d = mended_choice z c from new nonces in
      let ok = replaced_fits f c from new nonces fits m alike in
      let e = long f c from new nonces fits m alike in
      record {
        same_length = e ∙ alike.same_length ∙ written.file-length C 𝓛 c fits ∙ ap (file_length z) (sym (clear_kept f c from new nonces fits m alike)) ∙ sym (written.file-length C 𝓛 d ok);
        same-header = headed f c from new nonces fits m alike ∙ alike.same-header ∙ written.file-header C 𝓛 c fits ∙ sym (written.file-header C 𝓛 d ok);
        same-chunks = λ i v. chunk f c from new nonces fits m alike i (subst (λ (l : ℕ). Covers z l from (length new) i) e v);
      }
