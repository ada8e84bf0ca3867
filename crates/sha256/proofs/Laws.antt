-- The laws that `specs/Statements.antt` states.
-- Assumes nothing.
use Rattle.std.proofs.Common.{ℕ, ◌^◌, ◌<◌, List, [], ◌∷◌, refl, arith, pow_pos}
use Rattle.octets.proofs.Bytes.{below_nil, below_cons}
use Rattle.hashing.specs.Statements.{HashValue}
use Rattle.hashing.proofs.Laws.{plus_lt, digest-bytes}
use Rattle.hashing.proofs.Laws as hashing
use Rattle.sha256.specs.Compression.{Variables, vars, added, compress}
use Rattle.sha256.specs.Message.{initial, sha256}
use Rattle.sha256.specs.Running.{state_of}
use Rattle.sha256.specs.Statements.{ThirtyTwoBytes, RunsOn, EndsInDigest}

eight : {a b c d e f g h : ℕ} → a < 2 ^ 32 → b < 2 ^ 32 → c < 2 ^ 32 → d < 2 ^ 32 → e < 2 ^ 32 → f < 2 ^ 32 → g < 2 ^ 32 → h < 2 ^ 32
    → HashValue 8 (a ∷ b ∷ c ∷ d ∷ e ∷ f ∷ g ∷ h ∷ [])
eight a b c d e f g h =
    (refl, below_cons a (below_cons b (below_cons c (below_cons d (below_cons e (below_cons f (below_cons g (below_cons h (below_nil (pow_pos 32))))))))))

eight_added : (v : List ℕ) (x : Variables) → HashValue 8 (added v x)
unfolding added
eight_added v (vars a b c d e f g h) = eight (plus_lt a _) (plus_lt b _) (plus_lt c _) (plus_lt d _) (plus_lt e _) (plus_lt f _) (plus_lt g _) (plus_lt h _)

eight_compress : (v m : List ℕ) → HashValue 8 (compress v m)
unfolding compress
eight_compress v m = eight_added v _

eight_initial : HashValue 8 initial
unfolding initial
eight_initial = eight (omega arith) (omega arith) (omega arith) (omega arith) (omega arith) (omega arith) (omega arith) (omega arith)

pub thirty_two_bytes : ThirtyTwoBytes
unfolding sha256
thirty_two_bytes m = digest-bytes compress 8 eight_compress initial m eight_initial

pub runs_on : RunsOn
runs_on t r m s = hashing.runs_on compress initial (state_of t) (state_of r) m s

pub ends_in_digest : EndsInDigest
unfolding sha256
ends_in_digest t m = hashing.ends_in_digest compress initial (state_of t) m
