-- The code's working variables, and what it asks of a run of 20 steps.
-- Assumes nothing.
use Rattle.std.specs.Prelude.{◌≡◌, ℕ, ◌+◌, ◌<◌}
use Rattle.sha1_hash.specs.Compression.{step_function, step_constant, Variables, vars}
use Rattle.sha1_hash.specs.declared.block.Working.{Working}

abbrev pub variables : Working → Variables
variables x = vars x.a x.b x.c x.d x.e

-- The 20 steps from t on have the constant k, and the function of which `value b c d r` says that r is its value at b, c and d.
pub record Uses (t : ℕ) (value : ℕ → ℕ → ℕ → ℕ → Type 0) (k : ℕ) : Type 0 where
  pub function : (n : ℕ) → n < 20 → (b c d r : ℕ) → value b c d r → step_function (t + n) b c d ≡ r
  pub constant : (n : ℕ) → n < 20 → step_constant (t + n) ≡ k
