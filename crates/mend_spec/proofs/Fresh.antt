-- The nonces of the chunks that a mend sealed again are new, and differ; and the statements on a mend, together.
-- Assumes nothing.
use mathlib.Core.Path.{◌≡◌, sym, ap, ◌∙◌}
use mathlib.Core.Logic.{◌⊎◌, ⊎_elim}
use mathlib.Core.List.{List}
use Prim.Native.Nat.{ℕ, ◌+◌, ◌-◌, ◌/◌, ◌≤◌, ◌<◌}
use native.Mathlib.Omega.{arith}
use lib.ListN.{length, take}
use Rattle.octets.proofs.Lists.{le_or_lt}
use Rattle.frame.specs.Layout.{chunk_size, chunks, covering, clear_length}
use Rattle.frame.specs.Frame.{Codec, head_in}
use Rattle.frame.specs.Rules.{piece}
use Rattle.frame.specs.Laws.{Laws}
use Rattle.frame.proofs.Pieces.{covers_count}
use Rattle.mend_spec.specs.Mend.{nonce_in}
use Rattle.mend_spec.specs.Rules.{FreshNonces}
use Rattle.mend_spec.specs.Statements.{Mending, after, MendedFresh, MendsExactly}
use Rattle.mend_spec.proofs.Ends.{Mends}
use Rattle.mend_spec.proofs.Nonces.{due_exactly, clashes_exactly}
use Rattle.mend_spec.proofs.After.{head-fits, nonce_long, either, g_chunk, g_other, mends_of, after_is, mended-chunks, mended-rest, mend_bytes, mended_reads, mended_reads_back, mended-opens}
use Rattle.mend_spec.proofs.Files.{mended-file}
use Rattle.mend_spec.proofs.Choices.{mends_alike, mended_alike}

module _ (C : Codec) (𝓛 : Laws C) where
  open C use {sizes as z}

  module _ (f : List ℕ) (from : ℕ) (new nonces : List ℕ) (m : Mending C f from new nonces) where
    abbrev s : ℕ
    s = from / chunk_size

    abbrev k : ℕ
    k = covering from (length new)

    abbrev o : Mends C f from new nonces
    o = mends_of C 𝓛 f from new nonces m

    fresh : FreshNonces z f from (length new) nonces
    fresh = (clashes_exactly z f from (length new) nonces).0 o.fresh

    -- the nonce of a covering chunk afterwards, and of another chunk
    lent : (i : ℕ) → s ≤ i → i < s + k → nonce_in z (after C f from new nonces) i ≡ piece z.nonce nonces (i - s)
    lent i a b =
        ap (λ (x : List ℕ). nonce_in z x i) (after_is C 𝓛 f from new nonces m)
        ∙ ap (take z.nonce) (g_chunk C 𝓛 f from new nonces m.file-bytes m.new_bytes m.nonces-bytes o i a b)
        ∙ 𝓛.chunk_laws.chunk_nonce (head_in C f) i _ _ (head-fits C 𝓛 f from new nonces m.file-bytes m.new_bytes m.nonces-bytes o)
        (nonce_long C 𝓛 f from new nonces m.file-bytes m.new_bytes m.nonces-bytes o i a b)

    kept : (i : ℕ) → (i < s) ⊎ (s + k ≤ i) → nonce_in z (after C f from new nonces) i ≡ nonce_in z f i
    kept i c =
        ap (λ (x : List ℕ). nonce_in z x i) (after_is C 𝓛 f from new nonces m)
        ∙ ap (take z.nonce) (g_other C 𝓛 f from new nonces m.file-bytes m.new_bytes m.nonces-bytes o i c)

    not_old : (i j : ℕ) → s ≤ i → i < s + k → j < chunks (clear_length z (length f)) → nonce_in z (after C f from new nonces) i ≡ nonce_in z f j → ⊥
    not_old i j a b c e =
        let d : i - s < k = omega (arith, a, b) in
        fresh.1 (i - s) j ((due_exactly from (length new) (i - s)).0 d) c (sym (lent i a b) ∙ e)

    both_lent : (i j : ℕ) → s ≤ i → i < j → j < s + k → nonce_in z (after C f from new nonces) i ≡ nonce_in z (after C f from new nonces) j → ⊥
    both_lent i j a b c e =
        let d : i - s < j - s = omega (arith, a, b) in
        let g : j - s < k = omega (arith, a, b, c) in
        fresh.0 (i - s) (j - s) d ((due_exactly from (length new) (j - s)).0 g) (sym (lent i a (omega (arith, b, c))) ∙ e ∙ lent j (omega (arith, a, b)) c)

    differ : (i j : ℕ) → s ≤ i → i < s + k → j < chunks (clear_length z (length f)) → (i ≡ j → ⊥) → nonce_in z (after C f from new nonces) i ≡ nonce_in z (after C f from new nonces) j → ⊥
    differ i j a b c n e =
        ⊎_elim (λ (v : (s ≤ j) × (j < s + k)).
        ⊎_elim (λ (x : i ≤ j). ⊎_elim (λ (y : j ≤ i). n (omega (arith, x, y))) (λ (y : i < j). both_lent i j a y v.1 e) (le_or_lt j i))
        (λ (x : j < i). both_lent j i v.0 x b (sym e))
        (le_or_lt i j))
        (λ (v : (j < s) ⊎ (s + k ≤ j)). not_old i j a b c (e ∙ kept j v))
        (either C 𝓛 f from new nonces m.file-bytes m.new_bytes m.nonces-bytes o j)

  pub mended_fresh : MendedFresh C
  mended_fresh f from new nonces m i j v c =
      let b = covers_count from (length new) i v.some v.low v.high in
      (not_old f from new nonces m i j v.low b c, differ f from new nonces m i j v.low b c)

  pub mends_exactly : MendsExactly C
  mends_exactly =
      record {
        mended-chunks = mended-chunks C 𝓛;
        mended-rest = mended-rest C 𝓛;
        mend_bytes = mend_bytes C 𝓛;
        mends_alike = mends_alike C 𝓛;
        mended-file = mended-file C 𝓛;
        mended_alike = mended_alike C 𝓛;
        mended-opens = mended-opens C 𝓛;
        mended_reads = mended_reads C 𝓛;
        mended_reads_back = mended_reads_back C 𝓛;
        mended_fresh = mended_fresh;
      }
