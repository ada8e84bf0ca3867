-- What the calls on a single header and a single chunk end in, row by row, in either combo.
-- Assumes nothing.
use Prim.Native.Nat.{ℕ, ◌+◌, ◌-◌, ◌≤◌, ◌<◌}
use mathlib.Core.Path.{◌≡◌, refl, sym, ◌∙◌, ap, ap₂}
use mathlib.Core.Bool.{Bool, true, false, not, ◌&&◌}
use mathlib.Core.List.{List, [], ◌∷◌}
use borrow.Author.Tests.{eq-eqb, ne_eqb, lt-ltb, le-ltb}
use lib.Dec.{leb, eqb, lit≤}
use lib.ListN.{length}
use Rattle.octets.specs.Bytes.{filled}
use Rattle.octets.specs.Rows.{End, done, refused, refused_at, ended}
use Rattle.aes_spec.specs.Cipher.{aes}
use Rattle.frame.specs.Frame.{Codec, Head, head_right, master_keys_right}
use Rattle.frame.specs.Rules.{KeySizes}
use Rattle.frame.specs.Single.{write_header_rows, open_header_rows, write_chunk_rows, open_chunk_rows, write_header, open_header, write_chunk, open_chunk}
use Rattle.frame.proofs.KeySizes.{keys_exactly}
use Rattle.frame.proofs.Single.{single_ends}
use Rattle.vault.specs.declared.record.Combo.{Combo}
use Rattle.vault.specs.declared.record.Combo.TheVariants.{SivGcm, SivCtrmac}
use Rattle.vault.specs.Vault.{sizes_of, codec_with}
use Rattle.vault.specs.Under.{sealed_under, good_under, opened_under}
use Rattle.vault.proofs.Combos.{codec_by, codec_by_lem}

-- the codec's test of a chunk and its cleartext, in reach of a variable combo
good_is : (k : Combo) (enc mac : List ℕ) (h : Head) (i : ℕ) (b : List ℕ) → (codec_with k enc mac).good h i b ≡ good_under k (aes 8 h.key) mac h.nonce i b
good_is SivGcm enc mac h i b = refl
good_is SivCtrmac enc mac h i b = refl

plain_is : (k : Combo) (enc mac : List ℕ) (h : Head) (i : ℕ) (b : List ℕ) → (codec_with k enc mac).plain h i b ≡ opened_under k (aes 8 h.key) b
plain_is SivGcm enc mac h i b = refl
plain_is SivCtrmac enc mac h i b = refl

module _ (k : Combo) (enc mac : List ℕ) where
  -- by the codec with its sizes in reach
  by : {e : End} (call : Codec → End) → call (codec_by k enc mac) ≡ e → e ≡ call (codec_with k enc mac)
  by call q = sym q ∙ ap call (codec_by_lem k enc mac)

  module _ (sized : KeySizes enc mac) where
    keys : master_keys_right enc mac ≡ true
    keys = (keys_exactly enc mac).1 sized

    module _ (h : Head) (out : List ℕ) where
      pub write_header_1 : head_right (sizes_of k) h ≡ false → ended (refused 1) out ≡ write_header (codec_with k enc mac) h out
      unfolding write_header_rows
      write_header_1 e = by (λ C. write_header C h out) ((((single_ends (codec_by k enc mac)).0 h out).0 0 (lit≤ tt)).1 (ap₂ (λ (a b : Bool). not (a && b)) keys e))

      pub write_header_7 : head_right (sizes_of k) h ≡ true → length out < (sizes_of k).header → ended (refused 7) out ≡ write_header (codec_with k enc mac) h out
      unfolding write_header_rows
      write_header_7 e few =
          by (λ C. write_header C h out) ((((single_ends (codec_by k enc mac)).0 h out).0 1 (lit≤ tt)).1 (ap₂ (λ (a b : Bool). not (a && b)) keys e, lt-ltb _ _ few))

      pub write_header_done : head_right (sizes_of k) h ≡ true → (sizes_of k).header ≤ length out
          → ended (done ((sizes_of k).header ∷ [])) (filled ((codec_with k enc mac).header_of h) (sizes_of k).header out) ≡ write_header (codec_with k enc mac) h out
      unfolding write_header_rows
      write_header_done e room =
          by (λ C. write_header C h out) (((single_ends (codec_by k enc mac)).0 h out).1.1 (ap₂ (λ (a b : Bool). not (a && b)) keys e, (le-ltb _ _ room, tt)))

    module _ (b out : List ℕ) where
      pub open_header_4 : (length b ≡ (sizes_of k).header → ⊥) → ended (refused 4) out ≡ open_header (codec_with k enc mac) b out
      unfolding open_header_rows
      open_header_4 n = by (λ C. open_header C b out) ((((single_ends (codec_by k enc mac)).1 b out).0 1 (lit≤ tt)).1 (ap not keys, ap not (ne_eqb _ _ n)))

      pub open_header_7 : length b ≡ (sizes_of k).header → length out < 32 → ended (refused 7) out ≡ open_header (codec_with k enc mac) b out
      unfolding open_header_rows
      open_header_7 l few =
          by (λ C. open_header C b out) ((((single_ends (codec_by k enc mac)).1 b out).0 2 (lit≤ tt)).1 (ap not keys, (ap not (eq-eqb _ _ l), lt-ltb _ _ few)))

      pub open_header_9 : length b ≡ (sizes_of k).header → 32 ≤ length out → (codec_with k enc mac).header_good b ≡ false
          → ended (refused 9) out ≡ open_header (codec_with k enc mac) b out
      unfolding open_header_rows
      open_header_9 l room bad =
          by (λ C. open_header C b out) ((((single_ends (codec_by k enc mac)).1 b out).0 3 (lit≤ tt)).1 (ap not keys, (ap not (eq-eqb _ _ l), (le-ltb _ _ room, ap not bad))))

      pub open_header_done : length b ≡ (sizes_of k).header → 32 ≤ length out → (codec_with k enc mac).header_good b ≡ true →
          let h = (codec_with k enc mac).head_of b in
          ended (done (32 ∷ h.reserved)) (filled h.key 32 out) ≡ open_header (codec_with k enc mac) b out
      unfolding open_header_rows
      open_header_done l room good =
          by (λ C. open_header C b out) (((single_ends (codec_by k enc mac)).1 b out).1.1 (ap not keys, (ap not (eq-eqb _ _ l), (le-ltb _ _ room, (ap not good, tt)))))

  module _ (h : Head) (i : ℕ) (n p out : List ℕ) where
    pub write_chunk_head : head_right (sizes_of k) h ≡ false → ended (refused 1) out ≡ write_chunk (codec_with k enc mac) h i n p out
    unfolding write_chunk_rows
    write_chunk_head e =
        by (λ C. write_chunk C h i n p out)
        ((((single_ends (codec_by k enc mac)).2 h i n p out).0 0 (lit≤ tt)).1 (ap (λ (b : Bool). not (b && eqb (length n) (sizes_of k).nonce)) e))

    module _ (e : head_right (sizes_of k) h ≡ true) where
      pub write_chunk_nonce : (length n ≡ (sizes_of k).nonce → ⊥) → ended (refused 1) out ≡ write_chunk (codec_with k enc mac) h i n p out
      unfolding write_chunk_rows
      write_chunk_nonce wrong =
          by (λ C. write_chunk C h i n p out) ((((single_ends (codec_by k enc mac)).2 h i n p out).0 0 (lit≤ tt)).1 (ap₂ (λ (a b : Bool). not (a && b)) e (ne_eqb _ _ wrong)))

      module _ (l : length n ≡ (sizes_of k).nonce) where
        sized : not (head_right (sizes_of k) h && eqb (length n) (sizes_of k).nonce) ≡ false
        sized = ap₂ (λ (a b : Bool). not (a && b)) e (eq-eqb _ _ l)

        pub write_chunk_4 : (leb 1 (length p) && leb (length p) 32768) ≡ false → ended (refused 4) out ≡ write_chunk (codec_with k enc mac) h i n p out
        unfolding write_chunk_rows
        write_chunk_4 wrong = by (λ C. write_chunk C h i n p out) ((((single_ends (codec_by k enc mac)).2 h i n p out).0 1 (lit≤ tt)).1 (sized, ap not wrong))

        module _ (fits : (leb 1 (length p) && leb (length p) 32768) ≡ true) where
          pub write_chunk_7 : length out < length p + (sizes_of k).overhead → ended (refused 7) out ≡ write_chunk (codec_with k enc mac) h i n p out
          unfolding write_chunk_rows
          write_chunk_7 few =
              by (λ C. write_chunk C h i n p out)
              ((((single_ends (codec_by k enc mac)).2 h i n p out).0 2 (lit≤ tt)).1 (sized, (ap not fits, lt-ltb _ _ few)))

          pub write_chunk_done : length p + (sizes_of k).overhead ≤ length out →
              let size = length p + (sizes_of k).overhead in
              ended (done (size ∷ [])) (filled (sealed_under k (aes 8 h.key) mac h.nonce i n p) size out) ≡ write_chunk (codec_with k enc mac) h i n p out
          unfolding write_chunk_rows
          write_chunk_done room =
              by (λ C. write_chunk C h i n p out)
              (((single_ends (codec_by k enc mac)).2 h i n p out).1.1 (sized, (ap not fits, (le-ltb _ _ room, tt))))

  module _ (h : Head) (i : ℕ) (b out : List ℕ) where
    pub open_chunk_1 : head_right (sizes_of k) h ≡ false → ended (refused 1) out ≡ open_chunk (codec_with k enc mac) h i b out
    unfolding open_chunk_rows
    open_chunk_1 e = by (λ C. open_chunk C h i b out) ((((single_ends (codec_by k enc mac)).3 h i b out).0 0 (lit≤ tt)).1 (ap not e))

    module _ (e : head_right (sizes_of k) h ≡ true) where
      pub open_chunk_4 : (leb ((sizes_of k).overhead + 1) (length b) && leb (length b) (32768 + (sizes_of k).overhead)) ≡ false
          → ended (refused 4) out ≡ open_chunk (codec_with k enc mac) h i b out
      unfolding open_chunk_rows
      open_chunk_4 wrong = by (λ C. open_chunk C h i b out) ((((single_ends (codec_by k enc mac)).3 h i b out).0 1 (lit≤ tt)).1 (ap not e, ap not wrong))

      module _ (fits : (leb ((sizes_of k).overhead + 1) (length b) && leb (length b) (32768 + (sizes_of k).overhead)) ≡ true) where
        pub open_chunk_7 : length out < length b - (sizes_of k).overhead → ended (refused 7) out ≡ open_chunk (codec_with k enc mac) h i b out
        unfolding open_chunk_rows
        open_chunk_7 few =
            by (λ C. open_chunk C h i b out)
            ((((single_ends (codec_by k enc mac)).3 h i b out).0 2 (lit≤ tt)).1 (ap not e, (ap not fits, lt-ltb _ _ few)))

        module _ (room : length b - (sizes_of k).overhead ≤ length out) where
          pub open_chunk_10 : good_under k (aes 8 h.key) mac h.nonce i b ≡ false → ended (refused_at 10 i) out ≡ open_chunk (codec_with k enc mac) h i b out
          unfolding open_chunk_rows
          open_chunk_10 bad =
              by (λ C. open_chunk C h i b out)
              ((((single_ends (codec_by k enc mac)).3 h i b out).0 3 (lit≤ tt)).1
              (ap not e, (ap not fits, (le-ltb _ _ room, ap not (good_is k enc mac h i b ∙ bad)))))

          pub open_chunk_done : good_under k (aes 8 h.key) mac h.nonce i b ≡ true →
              let size = length b - (sizes_of k).overhead in
              ended (done (size ∷ [])) (filled (opened_under k (aes 8 h.key) b) size out) ≡ open_chunk (codec_with k enc mac) h i b out
          unfolding open_chunk_rows
          open_chunk_done good =
              let size = length b - (sizes_of k).overhead in
              ap (λ (p : List ℕ). ended (done (size ∷ [])) (filled p size out)) (sym (plain_is k enc mac h i b))
              ∙ by (λ C. open_chunk C h i b out)
              (((single_ends (codec_by k enc mac)).3 h i b out).1.1 (ap not e, (ap not fits, (le-ltb _ _ room, (ap not (good_is k enc mac h i b ∙ good), tt)))))
