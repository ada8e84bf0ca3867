-- What the record's combo decides, and what chunks do not depend on.
-- Assumes nothing.
use Rattle.std.specs.Prelude.{ℕ, ◌≡◌, List}
use Rattle.frame.specs.Frame.{Head}
use Rattle.frame.specs.Single.{write_chunk, open_chunk}
use Rattle.siv_gcm.specs.SivGcm as gcm
use Rattle.siv_ctrmac.specs.SivCtrmac as ctrmac
use Rattle.vault.specs.declared.record.Combo.{Combo}
use Rattle.vault.specs.declared.record.Combo.TheVariants.{SivGcm, SivCtrmac}
use Rattle.vault.specs.declared.record.Vault.{Vault}
use Rattle.vault.specs.Vault.{sizes_of, codec_with, vault_with, codec_of}

-- The record's combo decides how headers and chunks are stored, under the record's own keys, and their sizes: a header, a nonce and the overhead of a
-- chunk have 68, 12 and 28 bytes in SIV_GCM, and 88, 16 and 48 in SIV_CTRMAC. The threshold has no part in it.
abbrev pub TwoCombos : Type 0
TwoCombos =
    ((enc mac : List ℕ) (threshold : ℕ)
    → (codec_of (vault_with enc mac SivGcm threshold) ≡ gcm.codec enc mac) × (codec_of (vault_with enc mac SivCtrmac threshold) ≡ ctrmac.codec enc mac))
    × ((v : Vault) → (codec_of v).sizes ≡ sizes_of v.combo)
    × (sizes_of SivGcm ≡ record { header = 68; nonce = 12; overhead = 28 })
    × (sizes_of SivCtrmac ≡ record { header = 88; nonce = 16; overhead = 48 })

-- The calls on a chunk do not depend on the encryption master key, and in SIV_GCM not on the MAC master key.
abbrev pub ChunkKeys : Type 0
ChunkKeys =
    (h : Head) (i : ℕ) (n p c out enc enc' mac mac' : List ℕ)
    → ((k : Combo)
    → (write_chunk (codec_with k enc mac) h i n p out ≡ write_chunk (codec_with k enc' mac) h i n p out)
    × (open_chunk (codec_with k enc mac) h i c out ≡ open_chunk (codec_with k enc' mac) h i c out))
    × (write_chunk (gcm.codec enc mac) h i n p out ≡ write_chunk (gcm.codec enc mac') h i n p out)
    × (open_chunk (gcm.codec enc mac) h i c out ≡ open_chunk (gcm.codec enc mac') h i c out)
