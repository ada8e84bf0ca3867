-- The test points: each is computed, or follows from what is computed.
-- Assumes nothing.
use Prim.Native.Nat.{ℕ, ◌≤◌}
use mathlib.Core.Path.{◌≡◌, refl, sym, ap, ◌∙◌}
use mathlib.Core.Bool.{false}
use mathlib.Core.Logic.{◌↔◌}
use native.Mathlib.Omega.{arith}
use lib.Dec.{lit≤}
use lib.ListN.{length}
use Rattle.octets.specs.Rows.{answer}
use Rattle.octets.proofs.Equality.{true_false}
use Rattle.encoding.specs.Base64url.{encoded_length}
use Rattle.frame.specs.Layout.{clear_length, right_length}
use Rattle.frame.specs.Single.{file_length_of}
use Rattle.frame.specs.Rules.{KeySizes, FileLength}
use Rattle.frame.proofs.Rules.{length_exactly}
use Rattle.frame.proofs.Exactly.{lengths_exactly, rows_exactly}
use Rattle.siv_gcm.specs.SivGcm.{siv_gcm, codec}
use Rattle.frame.proofs.KeySizes.{keys_exactly}
use Rattle.name_spec.specs.Names.{full_length, stored_name}
use Rattle.name_spec.proofs.Texts.{length-full}
use Rattle.points.specs.Points.{NoFileLength, CoversOfTwo, TestPoints}

-- A length that is not right is refused by each call that is lent a file.
no_file : (l : ℕ) → right_length siv_gcm l ≡ false → NoFileLength l
no_file l e = (
  ((lengths_exactly siv_gcm).1 l).0.1 (tt, none l e),
  λ enc mac f out k q.
      let exact = rows_exactly (codec enc mac) (KeySizes enc mac) (keys_exactly enc mac) in
      let no = none (length f) (ap (right_length siv_gcm) q ∙ e) in
      ((exact.1 f out).1.0.1 ((tt, k), no), λ from count. (exact.0 f from count out).1.0.1 ((tt, k), no)),
)
  where
    none : (n : ℕ) → right_length siv_gcm n ≡ false → FileLength siv_gcm n → ⊥
    none n d t = true_false (sym ((length_exactly siv_gcm n).1 t) ∙ d)

both : (i : ℕ) → CoversOfTwo 32767 2 i ↔ (i ≤ 1)
unfolding clear_length right_length
both i = (
  λ c. let h = c.high in omega arith,
  λ h. record { inside = record { right = refl; within = lit≤ tt }; some = lit≤ tt; low = omega arith; high = omega arith },
)

second : (i : ℕ) → CoversOfTwo 32768 1 i ↔ (i ≡ 1)
unfolding clear_length right_length
second i = (
  λ c. let h = c.high in let l = c.low in omega arith,
  λ h. record { inside = record { right = refl; within = lit≤ tt }; some = lit≤ tt; low = omega arith; high = omega arith },
)

pub test_points : TestPoints
unfolding answer file_length_of clear_length right_length encoded_length stored_name
test_points = (
  refl,
  refl,
  refl,
  refl,
  refl,
  no_file 67 refl,
  no_file 96 refl,
  no_file 32892 refl,
  both,
  second,
  λ enc mac id name h. let n = length-full enc mac id name ∙ ap full_length h in (n, rw n, rw n),
  λ enc mac id name h. let n = length-full enc mac id name ∙ ap full_length h in (n, rw n, rw n),
)
