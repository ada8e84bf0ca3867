-- Chunks by the combo, under the block cipher e of the content key, the MAC master key and the header's nonce n; what the building blocks cite.
-- Assumes nothing.
use Rattle.std.specs.Prelude.{ℕ, ◌-◌, ◌≡◌, Bool, true, List, length, take, drop}
use Rattle.hmac.specs.Hmac.{hmac_sha256}
use Rattle.frame.specs.Layout.{Sizes}
use Rattle.siv_gcm.specs.SivGcm as gcm
use Rattle.siv_ctrmac.specs.SivCtrmac as ctrmac
use Rattle.vault.specs.declared.record.Combo.{Combo}
use Rattle.vault.specs.declared.record.Combo.TheVariants.{SivGcm, SivCtrmac}
use Rattle.vault.specs.declared.sizes.ComboSizes.{ComboSizes}

-- Chunk i of the nonce m and the cleartext p.
abbrev pub sealed_under : Combo → (List ℕ → List ℕ) → List ℕ → List ℕ → ℕ → List ℕ → List ℕ → List ℕ
sealed_under SivGcm e mac n i m p = gcm.sealed e (gcm.chunk_data n i) m p
sealed_under SivCtrmac e mac n i m p = ctrmac.sealed e (hmac_sha256 mac) (ctrmac.chunk_data n i) m p

-- Whether chunk i is good, and its cleartext.
abbrev pub good_under : Combo → (List ℕ → List ℕ) → List ℕ → List ℕ → ℕ → List ℕ → Bool
good_under SivGcm e mac n i c = gcm.opens e (gcm.chunk_data n i) c
good_under SivCtrmac e mac n i c = ctrmac.opens (hmac_sha256 mac) (ctrmac.chunk_data n i) c

abbrev pub opened_under : Combo → (List ℕ → List ℕ) → List ℕ → List ℕ
opened_under SivGcm e c = gcm.opened e c
opened_under SivCtrmac e c = ctrmac.opened e c

-- Where the cleartext of a chunk stands while it is worked on in place: behind the room of the nonce, before that of the tag or MAC.
abbrev pub clear_in : Sizes → List ℕ → List ℕ
clear_in z c = take (length c - z.overhead) (drop z.nonce c)

-- The chunk c is good, under some MAC key, header nonce and number.
abbrev pub Tagged : Combo → (List ℕ → List ℕ) → List ℕ → Type 0
Tagged k e c = (mac : List ℕ) × (n : List ℕ) × (i : ℕ) × (good_under k e mac n i c ≡ true)

-- The sizes that the code's numbers say.
abbrev pub sizes_in : ComboSizes → Sizes
sizes_in z = record { header = z.header; nonce = z.nonce; overhead = z.overhead }
