-- Chunks under the MAC master key and the nonce and the content key of a good header. Only the building blocks of the calls on files cite it.
-- Assumes nothing.
use Rattle.std.specs.Prelude.{List, ℕ, ◌/◌}
use Rattle.aes_spec.specs.Cipher.{aes}
use Rattle.frame.specs.Layout.{chunk_size, covering, lowest_bad}
use Rattle.vault.specs.declared.record.Combo.{Combo}
use Rattle.vault.specs.Vault.{sizes_of}
use Rattle.vault.specs.Under.{good_under, opened_under}

-- The cleartext of a chunk, whatever its number.
abbrev pub plain_under : Combo → (List ℕ → List ℕ) → ℕ → List ℕ → List ℕ
plain_under c e i b = opened_under c e b

-- In the combo c, under the MAC master key, the header's nonce n and the content key k: the lowest of the range's covering chunks whose tag or MAC
-- is wrong; the number after the last one where none is.
unfoldable pub bad_under : Combo → List ℕ → List ℕ → List ℕ → List ℕ → ℕ → ℕ → ℕ
bad_under c mac n k f from count = lowest_bad (sizes_of c) (good_under c (aes 8 k) mac n) f (from / chunk_size) (covering from count)
