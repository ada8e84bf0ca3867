-- SIV_GCM keeps the laws of a cipher combo: its chunks under any keys, and its headers under every two master keys of 32 bytes.
-- Assumes nothing.
use Prim.Native.Nat.{ℕ}
use mathlib.Core.Path.{◌≡◌}
use mathlib.Core.List.{List}
use lib.ListN.{length}
use lib.Dec.{lit≤}
use Rattle.octets.specs.Bytes.{Bytes}
use Rattle.aes_spec.specs.Cipher.{aes}
use Rattle.frame.specs.Frame.{key_size, master_keys_right}
use Rattle.frame.specs.Laws.{ChunkLaws, Laws}
use Rattle.frame.proofs.KeySizes.{keys_exactly}
use Rattle.frame.proofs.Sealings.{Sealing, SealingLaws, sealing_chunk_laws, sealing_laws}
use Rattle.siv_gcm.specs.SivGcm.{sealed, opens, opened, chunk_data, header_of, head_of, header_good, codec}
use Rattle.siv_gcm.proofs.Sealed.{was_sealed, length-sealed, nonce-sealed, opens-sealed, opened-sealed, bytes-sealed, length-opened, bytes-opened}

abbrev sealing : List ℕ → Sealing
sealing key = record { sealed = sealed (aes 8 key); opens = opens (aes 8 key); opened = opened (aes 8 key) }

keeps : (key : List ℕ) → Bytes key → SealingLaws 12 28 (sealing key)
keeps key bytes =
    record {
      sealed-size = λ a n p. length-sealed key a n p;
      sealed-bytes = λ a n p. bytes-sealed key a n p bytes;
      sealed-nonce = λ a n p. nonce-sealed key a n p;
      sealed-opens = λ a n p. opens-sealed key a n p;
      sealed-opened = λ a n p. opened-sealed key a n p;
      was_sealed = λ a b long. was_sealed key a b;
      opened-size = λ b. length-opened key b;
      opened-bytes = λ b. bytes-opened key b bytes;
    }

pub chunk_laws : (enc mac : List ℕ) → ChunkLaws (codec enc mac)
unfolding header_of head_of header_good
chunk_laws enc mac = sealing_chunk_laws 12 28 (master_keys_right enc mac) (sealing enc) sealing chunk_data (lit≤ tt) (λ h i c. length-opened h.key c) keeps

pub laws : (enc mac : List ℕ) → length enc ≡ key_size → length mac ≡ key_size → Bytes enc → Laws (codec enc mac)
unfolding header_of head_of header_good
laws enc mac size size' bytes =
    sealing_laws 12 28 (master_keys_right enc mac) (sealing enc) sealing chunk_data (lit≤ tt) (λ h i c. length-opened h.key c) keeps
    ((keys_exactly enc mac).1 (size, size')) (keeps enc bytes)
