-- What holds of either combo.
-- Assumes nothing.
use Prim.Native.Nat.{ℕ, ◌-◌, ◌≤◌}
use mathlib.Core.Path.{◌≡◌, refl, sym, ap, subst}
use mathlib.Core.Bool.{true}
use mathlib.Core.List.{List}
use mathlib.Core.Logic.{◌↔◌}
use lib.Dec.{lit≤}
use lib.ListN.{length}
use Rattle.octets.specs.Bytes.{Bytes}
use Rattle.aes_spec.specs.Cipher.{aes}
use Rattle.frame.specs.Frame.{Codec, Head, key_size, master_keys_right}
use Rattle.frame.specs.Laws.{ChunkLaws, Laws}
use Rattle.frame.specs.Rules.{KeySizes}
use Rattle.frame.specs.Single.{write_chunk_rows, write_chunk, open_chunk_rows, open_chunk}
use Rattle.frame.specs.SingleStatements.{ChunksIgnoreReserved}
use Rattle.frame.proofs.KeySizes.{keys_exactly}
use Rattle.siv_gcm.specs.SivGcm as gcm-spec
use Rattle.siv_ctrmac.specs.SivCtrmac as ctrmac-spec
use Rattle.siv_gcm.proofs.Sealed as gcm-sealed
use Rattle.siv_gcm.proofs.Instance as gcm
use Rattle.siv_ctrmac.proofs.Sealed as ctrmac-sealed
use Rattle.siv_ctrmac.proofs.Instance as ctrmac
use Rattle.vault.specs.declared.record.Combo.{Combo}
use Rattle.vault.specs.declared.record.Combo.TheVariants.{SivGcm, SivCtrmac}
use Rattle.vault.specs.Vault.{sizes_of, codec_with}
use Rattle.vault.specs.Under.{sealed_under, opened_under, Tagged}
use Rattle.vault.specs.Combos.{TwoCombos, ChunkKeys}

pub small_overhead : (k : Combo) → (sizes_of k).overhead ≤ 48
small_overhead SivGcm = lit≤ tt
small_overhead SivCtrmac = lit≤ tt

pub small_header : (k : Combo) → (sizes_of k).header ≤ 88
small_header SivGcm = lit≤ tt
small_header SivCtrmac = lit≤ tt

pub small_nonce : (k : Combo) → (sizes_of k).nonce ≤ 16
small_nonce SivGcm = lit≤ tt
small_nonce SivCtrmac = lit≤ tt

pub nonce-within : (k : Combo) → (sizes_of k).nonce ≤ (sizes_of k).header
nonce-within SivGcm = lit≤ tt
nonce-within SivCtrmac = lit≤ tt

pub nonce_in_chunk : (k : Combo) → (sizes_of k).nonce ≤ (sizes_of k).overhead
nonce_in_chunk SivGcm = lit≤ tt
nonce_in_chunk SivCtrmac = lit≤ tt

pub opened-size : (k : Combo) (e : List ℕ → List ℕ) → ((s : List ℕ) → length (e s) ≡ 16) → (b : List ℕ) → length (opened_under k e b) ≡ length b - (sizes_of k).overhead
opened-size SivGcm e le b = gcm-sealed.opened-length e le b
opened-size SivCtrmac e le b = ctrmac-sealed.length-opened e le b

-- A good chunk of the combo at hand, as the combo itself says it.
pub tagged_gcm : {k : Combo} (e : List ℕ → List ℕ) (c : List ℕ) → k ≡ SivGcm → Tagged k e c → gcm-spec.Tagged e c
tagged_gcm e c h g = let t : Tagged SivGcm e c = subst (λ (x : Combo). Tagged x e c) h g in (gcm-spec.chunk_data t.1 t.2, t.3)

pub tagged_ctrmac : {k : Combo} (e : List ℕ → List ℕ) (c : List ℕ) → k ≡ SivCtrmac → Tagged k e c → ctrmac-spec.Tagged c
tagged_ctrmac e c h g = let t : Tagged SivCtrmac e c = subst (λ (x : Combo). Tagged x e c) h g in (t.0, ctrmac-spec.chunk_data t.1 t.2, t.3)

-- The codec with its sizes, its test of the keys and its chunks by the combo, in reach of a variable combo.
abbrev pub codec_by : Combo → List ℕ → List ℕ → Codec
codec_by k enc mac =
    let c = codec_with k enc mac in
    record {
      sizes = sizes_of k;
      keys_right = master_keys_right enc mac;
      header_of = c.header_of;
      chunk_of = λ h. sealed_under k (aes 8 h.key) mac h.nonce;
      head_of = c.head_of;
      header_good = c.header_good;
      good = c.good;
      plain = c.plain;
    }

pub codec_by_lem : (k : Combo) (enc mac : List ℕ) → codec_by k enc mac ≡ codec_with k enc mac
codec_by_lem SivGcm enc mac = refl
codec_by_lem SivCtrmac enc mac = refl

-- The master keys have their sizes.
pub sized_exactly : (k : Combo) (enc mac : List ℕ) → ((codec_with k enc mac).keys_right ≡ true) ↔ KeySizes enc mac
sized_exactly SivGcm enc mac = keys_exactly enc mac
sized_exactly SivCtrmac enc mac = keys_exactly enc mac

-- ---- the laws

pub chunk_laws : (k : Combo) (enc mac : List ℕ) → ChunkLaws (codec_with k enc mac)
chunk_laws SivGcm enc mac = gcm.chunk_laws enc mac
chunk_laws SivCtrmac enc mac = ctrmac.chunk_laws enc mac

pub laws : (k : Combo) (enc mac : List ℕ) → length enc ≡ key_size → length mac ≡ key_size → Bytes enc → Laws (codec_with k enc mac)
laws SivGcm enc mac = gcm.laws enc mac
laws SivCtrmac enc mac = ctrmac.laws enc mac

pub ignores_reserved : (k : Combo) (enc mac : List ℕ) → ChunksIgnoreReserved (codec_with k enc mac)
unfolding write_chunk_rows write_chunk open_chunk_rows open_chunk
ignores_reserved SivGcm enc mac = λ n r r' key i out. (λ m p. refl, λ c. refl)
ignores_reserved SivCtrmac enc mac = λ n r r' key i out. (λ m p. refl, λ c. refl)

chunk_keys_by : (k : Combo) (h : Head) (i : ℕ) (n p c out enc enc' mac : List ℕ)
    → (write_chunk (codec_with k enc mac) h i n p out ≡ write_chunk (codec_with k enc' mac) h i n p out)
    × (open_chunk (codec_with k enc mac) h i c out ≡ open_chunk (codec_with k enc' mac) h i c out)
unfolding write_chunk_rows write_chunk open_chunk_rows open_chunk
chunk_keys_by SivGcm h i n p c out enc enc' mac = (refl, refl)
chunk_keys_by SivCtrmac h i n p c out enc enc' mac = (refl, refl)

pub chunk_keys : ChunkKeys
unfolding write_chunk_rows write_chunk open_chunk_rows open_chunk
chunk_keys h i n p c out enc enc' mac mac' = (λ k. chunk_keys_by k h i n p c out enc enc' mac, refl, refl)

pub two_combos : TwoCombos
two_combos = (λ enc mac threshold. (refl, refl), λ v. sym (ap (λ (C : Codec). C.sizes) (codec_by_lem v.combo v.enc v.mac)), refl, refl)
