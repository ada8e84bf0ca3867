-- SIV_CTRMAC keeps the laws of a cipher combo: its chunks under any keys, and its headers under every two master keys of 32 bytes.
-- Assumes nothing.
use Prim.Native.Nat.{ℕ}
use mathlib.Core.Path.{◌≡◌}
use mathlib.Core.List.{List}
use lib.ListN.{length}
use lib.Dec.{lit≤}
use Rattle.octets.specs.Bytes.{Bytes}
use Rattle.aes_spec.specs.Cipher.{aes}
use Rattle.aes_spec.proofs.ByteStrings.{aes-bytes}
use Rattle.aes.proofs.Ciphers.{length-aes}
use Rattle.hmac.specs.Hmac.{hmac_sha256}
use Rattle.hmac.proofs.Laws.{mac-bytes}
use Rattle.frame.specs.Frame.{key_size, master_keys_right}
use Rattle.frame.specs.Laws.{ChunkLaws, Laws}
use Rattle.frame.proofs.KeySizes.{keys_exactly}
use Rattle.frame.proofs.Sealings.{Sealing, SealingLaws, sealing_chunk_laws, sealing_laws}
use Rattle.siv_ctrmac.specs.SivCtrmac.{sealed, opens, opened, chunk_data, header_of, head_of, header_good, codec}
use Rattle.siv_ctrmac.proofs.Sealed.{was_sealed, length-sealed, nonce-sealed, opens-sealed, opened-sealed, bytes-sealed, length-opened, bytes-opened}

module _ (enc mac : List ℕ) where
  abbrev sealing : List ℕ → Sealing
  sealing key = record { sealed = sealed (aes 8 key) (hmac_sha256 mac); opens = opens (hmac_sha256 mac); opened = opened (aes 8 key) }

  keeps : (key : List ℕ) → Bytes key → SealingLaws 16 48 (sealing key)
  keeps key bytes =
      let e = aes 8 key in
      let le = length-aes 8 key in
      let m = hmac_sha256 mac in
      let lm : (s : List ℕ) → length (m s) ≡ 32 = λ s. (mac-bytes mac s).0 in
      record {
        sealed-size = λ a n p. length-sealed e le m lm a n p;
        sealed-bytes = λ a n p. bytes-sealed e (aes-bytes 8 bytes) m (λ s. (mac-bytes mac s).1) a n p;
        sealed-nonce = λ a n p. nonce-sealed e le m lm a n p;
        sealed-opens = λ a n p. opens-sealed e le m lm a n p;
        sealed-opened = λ a n p. opened-sealed e le m lm a n p;
        was_sealed = λ a b. was_sealed e le m lm a b;
        opened-size = λ b. length-opened e le b;
        opened-bytes = λ b. bytes-opened e (aes-bytes 8 bytes) b;
      }

  pub chunk_laws : ChunkLaws (codec enc mac)
  unfolding header_of head_of header_good
  chunk_laws =
      sealing_chunk_laws 16 48 (master_keys_right enc mac) (sealing enc) sealing chunk_data (lit≤ tt) (λ h i c. length-opened (aes 8 h.key) (length-aes 8 h.key) c) keeps

  pub laws : length enc ≡ key_size → length mac ≡ key_size → Bytes enc → Laws (codec enc mac)
  unfolding header_of head_of header_good
  laws size size' bytes =
      sealing_laws 16 48 (master_keys_right enc mac) (sealing enc) sealing chunk_data (lit≤ tt) (λ h i c. length-opened (aes 8 h.key) (length-aes 8 h.key) c) keeps
      ((keys_exactly enc mac).1 (size, size')) (keeps enc bytes)
