-- Where the new bytes go that a covering chunk takes.
-- Assumes nothing.
use Prim.Native.Nat.{ℕ, ◌+◌, ◌-◌, ◌*◌, ◌/◌, ◌≤◌, ◌<◌}
use mathlib.Core.Path.{◌≡◌}
use mathlib.Core.Logic.{◌⊎◌}
use Rattle.frame.specs.Layout.{chunk_size, covering}
use Rattle.mend_spec.proofs.Turns.{covering-place, places}

-- of `count` bytes from `from` on in a cleartext of n, d stand before chunk i, and the others begin at its place lo
pub record Spot (n from count i lo d : ℕ) : Type 0 where
  pub covers : i < from / chunk_size + covering from count
  pub inside : chunk_size * i < n
  pub low : lo < chunk_size
  pub some : d < count
  pub at : from + d ≡ chunk_size * i + lo
  pub edge : (d ≡ 0) ⊎ (lo ≡ 0)

pub spot : (n from count e i lo d : ℕ) → from + count ≤ n → e ≡ from / chunk_size + covering from count → from / chunk_size ≤ i → i < e → lo ≡ from - chunk_size * i → d ≡ chunk_size * i - from
    → Spot n from count i lo d
spot n from count e i lo d h q a b l g =
    let c : i < from / chunk_size + covering from count = rw q at b in
    let p = covering-place n from count i h a c in
    let t = places from count i lo d p.3 p.1 p.2 l g in
    record { covers = c; inside = p.0; low = t.0; some = t.1; at = t.2; edge = t.3 }

-- chunk i is inside, whatever part of it is wanted
pub spot_inside : (n from count e i : ℕ) → from + count ≤ n → e ≡ from / chunk_size + covering from count → from / chunk_size ≤ i → i < e → chunk_size * i < n
spot_inside n from count e i h q a b = let c : i < from / chunk_size + covering from count = rw q at b in (covering-place n from count i h a c).0
