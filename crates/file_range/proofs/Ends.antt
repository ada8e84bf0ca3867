-- The ends of a read under the MAC master key and a header's nonce and content key.
-- Assumes nothing.
use Prim.Native.Nat.{ℕ, ◌+◌, ◌-◌, ◌/◌, ◌≤◌, ◌<◌}
use mathlib.Core.Path.{◌≡◌, ap, ap₂, ◌∙◌}
use native.Mathlib.Omega.{arith}
use mathlib.Core.List.{List, [], ◌∷◌}
use borrow.Author.Tests.{lt-ltb, le-ltb}
use lib.ListN.{take, drop}
use Rattle.octets.specs.Bytes.{filled}
use Rattle.octets.specs.Rows.{done, refused_at, answer, ended}
use Rattle.aes_spec.specs.Cipher.{aes, cipher}
use Rattle.frame.specs.Layout.{chunk_size, covering, lowest_bad, all_parts}
use Rattle.vault.specs.declared.record.Combo.{Combo}
use Rattle.vault.specs.Vault.{sizes_of}
use Rattle.vault.specs.Under.{good_under}
use Rattle.file_parts.specs.Under.{plain_under, bad_under}
use Rattle.file_range.specs.Under.{read_under}

-- The lowest bad chunk from the first covering chunk up to e, where the code's s is a nonce's size, and its w the key schedule of the content key.
pub lowest_under : (c : Combo) (w mac k f : List ℕ) (s from count e : ℕ) → s ≡ (sizes_of c).nonce → e ≡ from / chunk_size + covering from count → cipher 14 w ≡ aes 8 k
    → lowest_bad (sizes_of c) (good_under c (cipher 14 w) mac (take s f)) f (from / chunk_size) (e - from / chunk_size) ≡ bad_under c mac (take (sizes_of c).nonce f) k f from count
unfolding bad_under
lowest_under c w mac k f s from count e hs he hw =
    let m : e - from / chunk_size ≡ covering from count = omega (arith, he) in
    ap₂ (λ (b : List ℕ → List ℕ) (j : ℕ). lowest_bad (sizes_of c) (good_under c b mac (take s f)) f (from / chunk_size) j) hw m
    ∙ ap (λ (j : ℕ). bad_under c mac (take j f) k f from count) hs

module _ (c : Combo) (mac n k f : List ℕ) (from count : ℕ) (out : List ℕ) where
  pub under_bad : bad_under c mac n k f from count < from / chunk_size + covering from count
      → read_under c mac n k f from count out ≡ ended (refused_at 10 (bad_under c mac n k f from count)) out
  unfolding read_under answer
  under_bad b = rw (lt-ltb (bad_under c mac n k f from count) (from / chunk_size + covering from count) b)

  pub under_good : from / chunk_size + covering from count ≤ bad_under c mac n k f from count
      → read_under c mac n k f from count out ≡ ended (done (count ∷ [])) (filled (drop from (all_parts (sizes_of c) (plain_under c (aes 8 k)) f)) count out)
  unfolding read_under answer
  under_good b = rw (le-ltb (bad_under c mac n k f from count) (from / chunk_size + covering from count) b)
