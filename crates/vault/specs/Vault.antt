-- The vault's record, and the cipher combo that it stands for.
-- Assumes nothing.
use Rattle.std.specs.Prelude.{ℕ, ◌≡◌, List, length}
use Rattle.octets.specs.Bytes.{Bytes}
use Rattle.frame.specs.Layout.{Sizes}
use Rattle.frame.specs.Frame.{Codec, key_size}
use Rattle.siv_gcm.specs.SivGcm as gcm
use Rattle.siv_ctrmac.specs.SivCtrmac as ctrmac
use Rattle.vault.specs.declared.record.Combo.{Combo}
use Rattle.vault.specs.declared.record.Combo.TheVariants.{SivGcm, SivCtrmac}
use Rattle.vault.specs.declared.record.Vault.{Vault}

abbrev pub sizes_of : Combo → Sizes
sizes_of SivGcm = gcm.siv_gcm
sizes_of SivCtrmac = ctrmac.siv_ctrmac

-- A combo under the encryption and the MAC master key.
abbrev pub codec_with : Combo → List ℕ → List ℕ → Codec
codec_with SivGcm enc mac = gcm.codec enc mac
codec_with SivCtrmac enc mac = ctrmac.codec enc mac

-- The record of two keys, a combo and a threshold.
abbrev pub vault_with : List ℕ → List ℕ → Combo → ℕ → Vault
vault_with enc mac combo threshold = record { enc = enc; mac = mac; combo = combo; threshold = threshold }

abbrev pub codec_of : Vault → Codec
codec_of v = codec_with v.combo v.enc v.mac

-- The keys of a record are 32 bytes each. That is so of every record of the code, by its type.
pub record Keys (v : Vault) : Type 0 where
  pub enc-size : length v.enc ≡ key_size
  pub mac-size : length v.mac ≡ key_size
  pub enc-bytes : Bytes v.enc
  pub mac-bytes : Bytes v.mac
