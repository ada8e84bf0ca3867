-- Mending under the MAC master key and the nonce and the content key of a good header: the part of a mend that is left once no row before 10
-- applies. Only the building blocks of this crate cite it.
-- Assumes nothing.
use Rattle.std.specs.Prelude.{List, [], ◌∷◌, ℕ, ◌+◌, ◌/◌, length, ltb}
use Rattle.octets.specs.Rows.{done, refused_at, answer, End, ending}
use Rattle.aes_spec.specs.Cipher.{aes}
use Rattle.frame.specs.Layout.{chunk_size, covering}
use Rattle.vault.specs.declared.record.Combo.{Combo}
use Rattle.vault.specs.Vault.{sizes_of}
use Rattle.vault.specs.Under.{sealed_under}
use Rattle.file_parts.specs.Under.{plain_under, bad_under}
use Rattle.mend_spec.specs.Mend.{resealed, mended_from}

-- The file with the covering chunks sealed again, in the combo c, under the block cipher e of the content key, the MAC master key and the header's nonce n.
abbrev pub mended_under : Combo → (List ℕ → List ℕ) → List ℕ → List ℕ → List ℕ → ℕ → List ℕ → List ℕ → List ℕ
mended_under c e mac n f from new nonces =
    mended_from (sizes_of c) (resealed (sealed_under c e mac n) (plain_under c e) from new) (from / chunk_size) (covering from (length new)) nonces f

-- What the mend ends in, under the content key k.
unfoldable pub mend_under : Combo → List ℕ → List ℕ → List ℕ → List ℕ → ℕ → List ℕ → List ℕ → End
mend_under c mac n k f from new nonces =
    ending
    (answer
    ((ltb (bad_under c mac n k f from (length new)) (from / chunk_size + covering from (length new)), refused_at 10 (bad_under c mac n k f from (length new))) ∷ [])
    (done (length new ∷ [])))
    (mended_under c (aes 8 k) mac n f from new nonces) f
