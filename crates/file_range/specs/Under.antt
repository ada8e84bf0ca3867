-- Reading under the MAC master key and the nonce and the content key of a good header: the part of a range read that is left once no row before
-- 10 applies. Only the building blocks of the range read and of the kept reader cite it.
-- Assumes nothing.
use Rattle.std.specs.Prelude.{List, [], ◌∷◌, ℕ, ◌+◌, ◌/◌, drop, ltb}
use Rattle.octets.specs.Bytes.{filled}
use Rattle.octets.specs.Rows.{done, refused_at, answer, End, ending}
use Rattle.aes_spec.specs.Cipher.{aes}
use Rattle.frame.specs.Layout.{chunk_size, covering, all_parts}
use Rattle.vault.specs.declared.record.Combo.{Combo}
use Rattle.vault.specs.Vault.{sizes_of}
use Rattle.file_parts.specs.Under.{plain_under, bad_under}

-- What the read ends in, in the combo c, under the MAC master key, the header's nonce n and the content key k.
unfoldable pub read_under : Combo → List ℕ → List ℕ → List ℕ → List ℕ → ℕ → ℕ → List ℕ → End
read_under c mac n k f from count out =
    ending (answer ((ltb (bad_under c mac n k f from count) (from / chunk_size + covering from count), refused_at 10 (bad_under c mac n k f from count)) ∷ []) (done (count ∷ [])))
    (filled (drop from (all_parts (sizes_of c) (plain_under c (aes 8 k)) f)) count out) out
