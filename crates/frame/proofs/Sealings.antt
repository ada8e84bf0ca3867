-- A combo that seals headers and chunks in one way keeps the laws of a combo, whatever the sealing, if what was sealed opens, and what opens
-- was sealed.
-- Assumes nothing.
use Prim.Native.Nat.{ℕ, ◌+◌, ◌-◌, ◌≤◌}
use mathlib.Core.Path.{◌≡◌, sym, ap, ◌∙◌}
use mathlib.Core.Bool.{Bool, true}
use mathlib.Core.List.{List, []}
use native.Mathlib.Omega.{arith}
use lib.ListN.{length, take, drop, length-append, length-drop, take-append-drop}
use lib.Seq.{length-take-le, take_at, drop_at}
use Rattle.octets.specs.Bytes.{Bytes}
use Rattle.octets.proofs.Bytes.{below_append, below_take, below_drop}
use Rattle.frame.specs.Layout.{Sizes}
use Rattle.frame.specs.Frame.{Head, Codec, reserved_size, payload_size, payload_of, HeadFits}
use Rattle.frame.specs.Laws.{PlainSize, ChunkLaws, Laws}

-- What a sealing does under its key: `sealed a n p` is the cleartext p sealed with the nonce n and the data a, `opens a b` tells whether b was
-- sealed with a, and `opened b` is its cleartext.
pub record Sealing : Type 0 where
  pub sealed : List ℕ → List ℕ → List ℕ → List ℕ
  pub opens : List ℕ → List ℕ → Bool
  pub opened : List ℕ → List ℕ

-- Its laws, where a nonce has n bytes and a sealed text k bytes more than its cleartext.
pub record SealingLaws (n k : ℕ) (s : Sealing) : Type 0 where
  pub sealed-size : (a i p : List ℕ) → length i ≡ n → length (s.sealed a i p) ≡ length p + k
  pub sealed-bytes : (a i p : List ℕ) → Bytes i → Bytes p → Bytes (s.sealed a i p)
  pub sealed-nonce : (a i p : List ℕ) → length i ≡ n → take n (s.sealed a i p) ≡ i
  pub sealed-opens : (a i p : List ℕ) → length i ≡ n → s.opens a (s.sealed a i p) ≡ true
  pub sealed-opened : (a i p : List ℕ) → length i ≡ n → s.opened (s.sealed a i p) ≡ p
  pub was_sealed : (a b : List ℕ) → k ≤ length b → s.opens a b ≡ true → b ≡ s.sealed a (take n b) (s.opened b)
  pub opened-size : (b : List ℕ) → length (s.opened b) ≡ length b - k
  pub opened-bytes : (b : List ℕ) → Bytes b → Bytes (s.opened b)

-- A header is its payload sealed without data; chunk i is sealed under the content key with the data that the header's nonce and i give.
module _ (n k : ℕ) (right : Bool) (header : Sealing) (chunk : List ℕ → Sealing) (chunk_data : List ℕ → ℕ → List ℕ) where
  abbrev sizes : Sizes
  sizes = record { header = payload_size + k; nonce = n; overhead = k }

  abbrev head_of : List ℕ → Head
  head_of b =
      let payload = header.opened b in
      record { nonce = take n b; reserved = take reserved_size payload; key = drop reserved_size payload }

  abbrev pub sealing_codec : Codec
  sealing_codec =
      record {
        sizes = sizes;
        keys_right = right;
        header_of = λ h. header.sealed [] h.nonce (payload_of h);
        chunk_of = λ h i m p. (chunk h.key).sealed (chunk_data h.nonce i) m p;
        head_of = head_of;
        header_good = λ b. header.opens [] b;
        good = λ h i c. (chunk h.key).opens (chunk_data h.nonce i) c;
        plain = λ h i c. (chunk h.key).opened c;
      }

  module _ (nonce-size : n ≤ k) (plain_size : PlainSize sealing_codec) (chunks : (key : List ℕ) → Bytes key → SealingLaws n k (chunk key)) where
    pub sealing_chunk_laws : ChunkLaws sealing_codec
    sealing_chunk_laws =
        record {
          nonce-size = nonce-size;
          chunk_size_lem = λ h i m p ok e. (chunks h.key ok.key-bytes).sealed-size (chunk_data h.nonce i) m p e;
          chunk_bytes = λ h i m p ok bn bp. (chunks h.key ok.key-bytes).sealed-bytes (chunk_data h.nonce i) m p bn bp;
          chunk_nonce = λ h i m p ok e. (chunks h.key ok.key-bytes).sealed-nonce (chunk_data h.nonce i) m p e;
          chunk_good = λ h i m p ok e bn bp. (chunks h.key ok.key-bytes).sealed-opens (chunk_data h.nonce i) m p e;
          chunk_plain = λ h i m p ok e bn bp. (chunks h.key ok.key-bytes).sealed-opened (chunk_data h.nonce i) m p e;
          good_chunk = λ h i c ok bytes long e. (chunks h.key ok.key-bytes).was_sealed (chunk_data h.nonce i) c long e;
          plain_size = plain_size;
          plain-bytes = λ h i c ok bytes. (chunks h.key ok.key-bytes).opened-bytes c bytes;
        }

    module _ (keys-right : right ≡ true) (s : SealingLaws n k header) where
      says : (h : Head) → HeadFits sizes h → head_of (header.sealed [] h.nonce (payload_of h)) ≡ h
      says h ok =
          let p = payload_of h in
          let m = s.sealed-nonce [] h.nonce p ok.nonce-size in
          let o = s.sealed-opened [] h.nonce p ok.nonce-size in
          let r = ap (take reserved_size) o ∙ take_at h.reserved h.key reserved_size ok.reserved-fits.0 in
          let q = ap (drop reserved_size) o ∙ drop_at h.reserved h.key reserved_size ok.reserved-fits.0 in
          λ i. record { nonce = m i; reserved = r i; key = q i }

      good-written : (b : List ℕ) → length b ≡ payload_size + k → header.opens [] b ≡ true → b ≡ header.sealed [] (take n b) (payload_of (head_of b))
      good-written b l e = s.was_sealed [] b (omega arith) e ∙ ap (header.sealed [] (take n b)) (sym (take-append-drop reserved_size (header.opened b)))

      good-fits : (b : List ℕ) → Bytes b → length b ≡ payload_size + k → HeadFits sizes (head_of b)
      good-fits b bytes l =
          let p = header.opened b in
          let o = s.opened-size b in
          let bp = s.opened-bytes b bytes in
          record {
            nonce-size = length-take-le n b (omega arith);
            key-size = length-drop reserved_size p ∙ omega arith;
            nonce-bytes = below_take n bytes;
            key-bytes = below_drop reserved_size bp;
            reserved-fits = (length-take-le reserved_size p (omega arith), below_take reserved_size bp);
          }

      header-length : (h : Head) → HeadFits sizes h → length (header.sealed [] h.nonce (payload_of h)) ≡ payload_size + k
      header-length h ok = s.sealed-size [] h.nonce (payload_of h) ok.nonce-size ∙ omega (arith, ok.key-size, ok.reserved-fits.0, length-append h.reserved h.key)

      pub sealing_laws : Laws sealing_codec
      sealing_laws =
          record {
            keys-right = keys-right;
            header-size = header-length;
            header-bytes = λ h ok. s.sealed-bytes [] h.nonce (payload_of h) ok.nonce-bytes (below_append ok.reserved-fits.1 ok.key-bytes);
            header-good = λ h ok. s.sealed-opens [] h.nonce (payload_of h) ok.nonce-size;
            header_says = says;
            good-header = λ b bb l e. good-written b l e;
            good-head = λ b bb l e. good-fits b bb l;
            chunk_laws = sealing_chunk_laws;
          }
