-- `round`: four columns, each with its word of the unmixed key.
-- Assumes nothing.
use Prim.Native.Nat.{ℕ, ◌+◌, ◌*◌, ◌≤◌, ◌<◌}
use mathlib.Core.Path.{◌≡◌, sym, subst}
use mathlib.Core.List.{List}
use native.Mathlib.Omega.{arith}
use lib.ListN.{get_or}
use Rattle.octets.specs.Words.{word_bytes, b0, b1, b2, b3}
use Rattle.octets.specs.Xors.{xors}
use Rattle.octets.proofs.Words.{bytes_are}
use Rattle.aes_spec.specs.Cipher.{add_round_key}
use Rattle.aes_inverse.specs.InverseSBox.{inverse_sbox}
use Rattle.aes_inverse.specs.InverseCipher.{inv_shift_rows, inv_sub_bytes, inv_mix_columns}
use Rattle.aes_inverse.specs.RoundKeys.{Unmixed, UnmixedKeys}
use Rattle.aes_inverse.proofs.RoundColumns.{keyed_first}
use Rattle.aes_inverse.proofs.block.round.Goals as goal

-- the unmixed word, by the name that the round key has for it
unmixed : {w v : List ℕ} {x : ℕ} (i : ℕ) → UnmixedKeys w v 56 → x ≡ get_or v i 0 → 4 ≤ i → i < 56 → Unmixed x (get_or w i 0)
unmixed {w} i u e a b = subst (λ (z : ℕ). Unmixed z (get_or w i 0)) (sym e) (u.at i a b)

pub returns : goal.returns
unfolding word_bytes xors inv_shift_rows inv_sub_bytes inv_mix_columns add_round_key
returns c w u =
    let x = c.args in
    let y = x.x in
    let p = c.requires.le_n in
    let g = c.round_key-k.ensures in
    let s = inverse_sbox in
    bytes_are
    (keyed_first (s (b0 y.a)) (s (b1 y.d)) (s (b2 y.c)) (s (b3 y.b)) _ c.column.ensures (unmixed (4 * x.n) u g.0 (omega arith) (omega arith)))
    (keyed_first (s (b0 y.b)) (s (b1 y.a)) (s (b2 y.d)) (s (b3 y.c)) _ c.column-2.ensures (unmixed (4 * x.n + 1) u g.1 (omega arith) (omega arith)))
    (keyed_first (s (b0 y.c)) (s (b1 y.b)) (s (b2 y.a)) (s (b3 y.d)) _ c.column-3.ensures (unmixed (4 * x.n + 2) u g.2 (omega arith) (omega arith)))
    (keyed_first (s (b0 y.d)) (s (b1 y.c)) (s (b2 y.b)) (s (b3 y.a)) _ c.column-4.ensures (unmixed (4 * x.n + 3) u g.3 (omega arith) (omega arith)))
