-- The inverse cipher under an expanded key.
-- Assumes nothing.
use Prim.Native.Nat.{ℕ}
use mathlib.Core.Path.{◌≡◌, ◌∙◌, ap}
use mathlib.Core.List.{List, [], ◌++◌, append-nil}
use Rattle.aes_spec.specs.KeyExpansion.{key_expansion}
use Rattle.aes_inverse.specs.InverseCipher.{inv_cipher, inverse_aes}

-- The inverse cipher under a schedule that `expand` has filled.
pub inverse_under_key : (key w : List ℕ) → w ≡ key_expansion 8 key ++ [] → inv_cipher 14 w ≡ inverse_aes 8 key
unfolding inverse_aes
inverse_under_key key w e = ap (inv_cipher 14) (e ∙ append-nil (key_expansion 8 key))
