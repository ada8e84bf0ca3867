-- The lengths of the texts, and the text form: full names have it, and what has it and opens is a full name.
-- Assumes nothing.
use Prim.Native.Nat.{ℕ, ◌+◌, ◌-◌, ◌≤◌}
use mathlib.Core.Path.{◌≡◌, sym, ap, ap₂, ◌∙◌}
use mathlib.Core.Bool.{true, ◌&&◌}
use mathlib.Core.List.{List, [], ◌∷◌, ◌++◌}
use native.Mathlib.Omega.{arith}
use lib.ListN.{length, take, drop, length-append, length-take, length-drop, take-append-drop}
use lib.Seq.{take_at, drop_at}
use lib.Dec.{leb}
use borrow.Author.Tests.{le-leb, leb-true}
use Rattle.octets.specs.Bytes.{Bytes, same}
use Rattle.octets.proofs.Equality.{and_true, same_self, same_eq}
use Rattle.aes_spec.specs.Cipher.{aes}
use Rattle.aes_spec.proofs.ByteStrings.{aes-bytes}
use Rattle.aes.proofs.Ciphers.{length-aes}
use Rattle.siv.specs.Siv as siv
use Rattle.siv.proofs.Laws.{length-s2v, length-seal, length-plain, sealed-opens, opened_was_sealed, keeps_bytes}
use Rattle.sha1_hash.specs.Message.{sha1}
use Rattle.sha1_hash.proofs.Laws.{twenty_bytes}
use Rattle.encoding.specs.Base64url as base64url
use Rattle.encoding.proofs.Laws.{encoded_decodes, decoded_was_encoded, encoded-length}
use Rattle.encoding.proofs.Quintets.{base32_length}
use Rattle.name_spec.specs.Names.{name_limit, iv_size, full_end, hash_end, sealed_id, id_hash, path, sealed_name, full_name, full_length, hash_name, stem, sealed_of, name_length, text_right, name_of, name_good}
use Rattle.name_spec.specs.Calls.{path_length, hash_length}
use Rattle.name_spec.specs.Rules.{NameSize, TextForm}
use Rattle.name_spec.specs.Statements.{TextLengths}

-- ---- lengths

pub length-name : (enc t : List ℕ) → length (name_of enc t) ≡ name_length t
unfolding name_of name_length
length-name enc t = length-plain (aes 8 enc) (length-aes 8 enc) (sealed_of t)

pub length_hash : (full : List ℕ) → length (hash_name full) ≡ hash_length
unfolding hash_name base64url.encoded_length
length_hash full =
    length-append (base64url.encode true (sha1 full)) hash_end
    ∙ ap (λ (n : ℕ). n + 4) (encoded-length true (sha1 full) ∙ ap (base64url.encoded_length true) (twenty_bytes full).0)

module _ (enc mac id : List ℕ) where
  pub length-id_hash : length (id_hash enc mac id) ≡ 32
  unfolding id_hash
  length-id_hash = let s = sealed_id enc mac id in omega (arith, base32_length (sha1 s), (twenty_bytes s).0)

  pub length-path : length (path enc mac id) ≡ path_length
  unfolding path
  length-path = simp (length-append, length-take, length-drop) (omega (arith, length-id_hash))

  module _ (name : List ℕ) where
    pub length-sealed : length (sealed_name enc mac id name) ≡ length name + iv_size
    unfolding sealed_name
    length-sealed = length-seal (aes 8 mac) (aes 8 enc) (length-aes 8 mac) (length-aes 8 enc) (id ∷ []) name

    pub length-full : length (full_name enc mac id name) ≡ full_length (length name)
    unfolding full_name
    length-full =
        let s = sealed_name enc mac id name in
        length-append (base64url.encode true s) full_end
        ∙ ap (λ (n : ℕ). n + length full_end) (encoded-length true s ∙ ap (base64url.encoded_length true) length-sealed)

-- ---- the text form of a full name

-- A text that ends in ".c9r", taken apart.
module _ (x : List ℕ) where
  at-end : length x ≡ length (x ++ full_end) - length full_end
  at-end = omega (arith, length-append x full_end)

  pub stem_of : stem (x ++ full_end) ≡ x
  stem_of = take_at x full_end (length (x ++ full_end) - length full_end) at-end

  pub end_of : drop (length (x ++ full_end) - length full_end) (x ++ full_end) ≡ full_end
  end_of = drop_at x full_end (length (x ++ full_end) - length full_end) at-end

-- What the text form says.
pub record TextFacts (t : List ℕ) : Type 0 where
  pub ends : drop (length t - length full_end) t ≡ full_end
  pub accepted : base64url.accepted true (stem t) ≡ true
  pub low : 1 + iv_size ≤ length (sealed_of t)
  pub high : length (sealed_of t) ≤ name_limit + iv_size

pub text_facts : (t : List ℕ) → text_right t ≡ true → TextFacts t
unfolding text_right
text_facts t e =
    let ends = same (drop (length t - length full_end) t) full_end in
    let ok = base64url.accepted true (stem t) in
    let a = and_true (ends && ok && leb (1 + iv_size) (length (sealed_of t))) (leb (length (sealed_of t)) (name_limit + iv_size)) e in
    let b = and_true (ends && ok) (leb (1 + iv_size) (length (sealed_of t))) a.0 in
    let d = and_true ends ok b.0 in
    record {
      ends = same_eq _ _ d.0;
      accepted = d.1;
      low = leb-true _ _ b.1;
      high = leb-true _ _ a.1;
    }

pub text-size : (t : List ℕ) → text_right t ≡ true → 4 ≤ length t
text-size t e = omega (arith, ap length (text_facts t e).ends, length-drop (length t - length full_end) t)

pub text-right : (t : List ℕ) → TextFacts t → text_right t ≡ true
unfolding text_right
text-right t f =
    rw (f.ends, same_self full_end, f.accepted, le-leb (1 + iv_size) (length (sealed_of t)) f.low, le-leb (length (sealed_of t)) (name_limit + iv_size) f.high)

-- The text of a byte string has the text form exactly where the string has one of the sizes.
module _ (s : List ℕ) (bytes : Bytes s) where
  pub sealed_of-text : sealed_of (base64url.encode true s ++ full_end) ≡ s
  unfolding sealed_of
  sealed_of-text = ap (base64url.decoded true) (stem_of (base64url.encode true s)) ∙ (encoded_decodes true s bytes).1

  pub text_of : 1 + iv_size ≤ length s → length s ≤ name_limit + iv_size → text_right (base64url.encode true s ++ full_end) ≡ true
  text_of low high =
      let l = ap length sealed_of-text in
      text-right (base64url.encode true s ++ full_end)
      (record {
        ends = end_of (base64url.encode true s);
        accepted = ap (base64url.accepted true) (stem_of (base64url.encode true s)) ∙ (encoded_decodes true s bytes).0;
        low = omega (arith, l, low);
        high = omega (arith, l, high);
      })

  text-length : name_length (base64url.encode true s ++ full_end) ≡ length s - 16
  unfolding name_length
  text-length = ap (λ (x : List ℕ). length x - 16) sealed_of-text

pub text_lengths : TextLengths
text_lengths = (λ enc mac id name full. (length-path enc mac id, length_hash full, length-full enc mac id name), text-length)

module _ (enc mac id name : List ℕ) (be : Bytes enc) (bm : Bytes mac) (bytes : Bytes name) where
  sealed-bytes : Bytes (sealed_name enc mac id name)
  unfolding sealed_name
  sealed-bytes = (keeps_bytes (aes 8 mac) (aes 8 enc) (aes-bytes 8 bm) (aes-bytes 8 be) (id ∷ [])).0 name bytes

  pub sealed_of-full : sealed_of (full_name enc mac id name) ≡ sealed_name enc mac id name
  unfolding full_name
  sealed_of-full = sealed_of-text (sealed_name enc mac id name) sealed-bytes

  pub full-length : name_length (full_name enc mac id name) ≡ length name
  unfolding full_name
  full-length = omega (arith, text-length (sealed_name enc mac id name) sealed-bytes, length-sealed enc mac id name)

  pub full-right : NameSize name → text_right (full_name enc mac id name) ≡ true
  unfolding full_name
  full-right size =
      let l = length-sealed enc mac id name in
      text_of (sealed_name enc mac id name) sealed-bytes (omega (arith, l, size.0)) (omega (arith, l, size.1))

  pub full-name : name_of enc (full_name enc mac id name) ≡ name
  unfolding name_of sealed_name
  full-name =
      ap (siv.plain (aes 8 enc)) sealed_of-full
      ∙ (sealed-opens (aes 8 mac) (aes 8 enc) (length-aes 8 mac) (length-aes 8 enc) (id ∷ []) name).1

  full_iv : take 16 (sealed_of (full_name enc mac id name)) ≡ siv.s2v (aes 8 mac) (id ∷ name ∷ [])
  unfolding sealed_name siv.seal
  full_iv =
      let v = siv.s2v (aes 8 mac) (id ∷ name ∷ []) in
      ap (take 16) sealed_of-full ∙ take_at v (siv.crypt (aes 8 enc) v name) 16 (length-s2v (aes 8 mac) (length-aes 8 mac) (id ∷ name ∷ []))

  -- Whether the synthetic IV matches in a directory `here`.
  pub full-good : (here : List ℕ)
      → name_good enc mac here (full_name enc mac id name) ≡ same (siv.s2v (aes 8 mac) (here ∷ name ∷ [])) (siv.s2v (aes 8 mac) (id ∷ name ∷ []))
  unfolding name_good name_of siv.good
  full-good here = ap₂ (λ (p v : List ℕ). same (siv.s2v (aes 8 mac) (here ∷ p ∷ [])) v) full-name full_iv

-- ---- a text in that form whose synthetic IV matches

module _ (t : List ℕ) (right : text_right t ≡ true) where
  facts : TextFacts t
  facts = text_facts t right

  sealed-bytes_of : Bytes (sealed_of t)
  unfolding sealed_of
  sealed-bytes_of = (decoded_was_encoded true (stem t) facts.accepted).1

  encoded : base64url.encode true (sealed_of t) ≡ stem t
  unfolding sealed_of
  encoded = sym (decoded_was_encoded true (stem t) facts.accepted).0

  -- It is the text of the bytes that it stands for.
  text_again : base64url.encode true (sealed_of t) ++ full_end ≡ t
  text_again = ap₂ (λ (x y : List ℕ). x ++ y) encoded (sym facts.ends) ∙ take-append-drop (length t - length full_end) t

  pub form : TextForm t
  form = (sealed_of t, sealed-bytes_of, facts.low, facts.high, text_again)

-- And where its synthetic IV matches, it is the full name of the bytes that it stands for.
module _ (enc mac id t : List ℕ) (be : Bytes enc) (right : text_right t ≡ true) where
  pub name-size : NameSize (name_of enc t)
  unfolding name_length
  name-size = let l = length-name enc t in (omega (arith, l, (text_facts t right).low), omega (arith, l, (text_facts t right).high))

  pub name-bytes : Bytes (name_of enc t)
  unfolding name_of
  name-bytes = (keeps_bytes (aes 8 enc) (aes 8 enc) (aes-bytes 8 be) (aes-bytes 8 be) []).1 (sealed_of t) (sealed-bytes_of t right)

  pub was_full : name_good enc mac id t ≡ true → full_name enc mac id (name_of enc t) ≡ t
  unfolding name_good name_of full_name sealed_name
  was_full g =
      let back = opened_was_sealed (aes 8 mac) (aes 8 enc) (length-aes 8 mac) (length-aes 8 enc) (id ∷ []) (sealed_of t) g in
      ap (λ (z : List ℕ). base64url.encode true z ++ full_end) (sym back) ∙ text_again t right
