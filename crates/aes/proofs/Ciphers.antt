-- The key of a round, word by word; the cipher under an expanded key; and its length.
-- Assumes nothing.
use Prim.Native.Nat.{ℕ, ◌+◌, ◌*◌}
use mathlib.Core.Path.{◌≡◌, refl, ◌∙◌, ap}
use mathlib.Core.List.{List, [], ◌∷◌, ◌++◌, append-nil}
use lib.ListN.{length, get_or}
use Rattle.octets.specs.Words.{word_bytes}
use Rattle.octets.specs.Xors.{xors}
use Rattle.aes_spec.specs.KeyExpansion.{key_expansion}
use Rattle.aes_spec.specs.Cipher.{add_round_key, shift_rows, cipher, aes}

pub add_round_key_lem : (w : List ℕ) (n : ℕ) (s : List ℕ) {a b c d : ℕ}
    → (a ≡ get_or w (4 * n) 0) × (b ≡ get_or w (4 * n + 1) 0) × (c ≡ get_or w (4 * n + 2) 0) × (d ≡ get_or w (4 * n + 3) 0)
    → xors s (word_bytes (a ∷ b ∷ c ∷ d ∷ [])) ≡ add_round_key w n s
unfolding add_round_key
add_round_key_lem w n s e = rw (e.0, e.1, e.2, e.3)

-- The cipher under a schedule that `expand` has filled.
pub under_key : (key w : List ℕ) → w ≡ key_expansion 8 key ++ [] → cipher 14 w ≡ aes 8 key
unfolding aes
under_key key w e = ap (cipher 14) (e ∙ append-nil (key_expansion 8 key))

pub length-cipher : (nr : ℕ) (w s : List ℕ) → length (cipher nr w s) ≡ 16
unfolding xors word_bytes shift_rows add_round_key cipher
length-cipher nr w s = refl

pub length-aes : (nk : ℕ) (key s : List ℕ) → length (aes nk key s) ≡ 16
unfolding aes
length-aes nk key s = length-cipher _ _ s
