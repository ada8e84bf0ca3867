-- RFC 3394, section 2.2: key wrap, over any block cipher. Key data are n registers of 8 bytes, n at least 2; here the registers stand one behind the
-- other in a byte string, A first: A | R[1] | .. | R[n]. Other byte strings are given a value too, on which nothing rests.
-- Assumes nothing.
use Rattle.std.specs.Prelude.{ℕ, zero, suc, ◌-◌, ◌*◌, ◌/◌, Bool, List, ◌++◌, length, take, drop}
use Rattle.octets.specs.Bytes.{same}
use Rattle.octets.specs.BigEndian.{be}
use Rattle.octets.specs.Xors.{xors}

-- 2.2.3.1: the default initial value.
unfoldable pub initial_value : List ℕ
initial_value = be 8 0xa6a6a6a6a6a6a6a6

-- 2.2.1: the number of steps, s = 6 n, for key data p.
abbrev pub steps : List ℕ → ℕ
steps p = 6 * (length p / 8)

-- 2.2.1, 2: step t, with the cipher e. B is e(A | R[1]); A becomes the first 8 bytes of B plus t, each R[i] takes the value of R[i + 1], and R[n] the
-- last 8 bytes of B. To add is exclusive or, and t is a number of 8 bytes, the highest first.
unfoldable pub wrap_step : (List ℕ → List ℕ) → ℕ → List ℕ → List ℕ
wrap_step e t x =
    let b = e (take 16 x) in
    xors (take 8 b) (be 8 t) ++ (drop 16 x ++ drop 8 b)

-- The steps 1 to t.
unfoldable pub wrap_steps : (List ℕ → List ℕ) → ℕ → List ℕ → List ℕ
wrap_steps e zero x = x
wrap_steps e (suc t) x = wrap_step e (suc t) (wrap_steps e t x)

-- 2.2.1: the key data p wrapped, C[0] | C[1] | .. | C[n].
unfoldable pub wrap : (List ℕ → List ℕ) → List ℕ → List ℕ
wrap e p = wrap_steps e (steps p) (initial_value ++ p)

-- 2.2.2, 2: step t back, with the inverse cipher d. B is d((A plus t) | R[n]); A becomes the first 8 bytes of B, R[1] the last 8, and each
-- R[i + 1] takes the value of R[i].
unfoldable pub unwrap_step : (List ℕ → List ℕ) → ℕ → List ℕ → List ℕ
unwrap_step d t x =
    let b = d (xors (take 8 x) (be 8 t) ++ drop (length x - 8) x) in
    b ++ take (length x - 16) (drop 8 x)

-- The steps t down to 1.
unfoldable pub unwrap_steps : (List ℕ → List ℕ) → ℕ → List ℕ → List ℕ
unwrap_steps d zero x = x
unwrap_steps d (suc t) x = unwrap_steps d t (unwrap_step d (suc t) x)

-- 2.2.2, 1 and 2: the registers after all steps back from c.
unfoldable pub unwrapped : (List ℕ → List ℕ) → List ℕ → List ℕ
unwrapped d c = unwrap_steps d (steps (drop 8 c)) c

-- 2.2.2, 3: the check value, A, is the initial value.
unfoldable pub good : (List ℕ → List ℕ) → List ℕ → Bool
good d c = same (take 8 (unwrapped d c)) initial_value

-- 2.2.2, 3: the key data, which count only where the check value is right.
unfoldable pub plain : (List ℕ → List ℕ) → List ℕ → List ℕ
plain d c = drop 8 (unwrapped d c)
