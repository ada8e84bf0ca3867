-- The inverse S-box undoes the S-box, and the S-box it: both by one test over all 256 bytes.
-- Assumes nothing.
use Prim.Native.Nat.{ℕ, ◌≤◌, ◌<◌}
use mathlib.Core.Bool.{Bool, ◌&&◌}
use mathlib.Core.Logic.{⊎_elim}
use lib.Dec.{T, eqb, ltb, eqb→eq, ltb→lt, lit<}
use lib.ListN.{get_or, get_or-eq_default}
use Rattle.octets.proofs.Tables.{all, all_at, and_left, and_right}
use Rattle.octets.proofs.Lists.{le_or_lt}
use Rattle.aes_spec.specs.SBox.{sbox}
use Rattle.aes_inverse.specs.InverseSBox.{inverse_sbox, inverse_sbox_table}
use Rattle.aes_inverse.specs.Statements.{SBoxUndone}

abbrev undoes : ℕ → Bool
undoes b = eqb (inverse_sbox (sbox b)) b && eqb (sbox (inverse_sbox b)) b

all_undo : T (all undoes 256)
unfolding sbox inverse_sbox
all_undo = tt

pub sbox-undone : SBoxUndone
sbox-undone b h =
    let t = all_at undoes 256 all_undo b h in
    let back = eqb (inverse_sbox (sbox b)) b in
    let forth = eqb (sbox (inverse_sbox b)) b in
    (eqb→eq (inverse_sbox (sbox b)) b (and_left back forth t), eqb→eq (sbox (inverse_sbox b)) b (and_right back forth t))

-- The table holds bytes; past its end it gives 0.
abbrev small : ℕ → Bool
small x = ltb (get_or inverse_sbox_table x 0) 256

pub inverse-byte : (x : ℕ) → inverse_sbox x < 256
unfolding inverse_sbox
inverse-byte x =
    ⊎_elim (λ (h : 256 ≤ x). rw (get_or-eq_default inverse_sbox_table 0 {n = x} h) (lit< tt))
    (λ (h : x < 256). ltb→lt (get_or inverse_sbox_table x 0) 256 (all_at small 256 tt x h))
    (le_or_lt 256 x)
