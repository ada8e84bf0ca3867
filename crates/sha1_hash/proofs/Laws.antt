-- The laws that `specs/Statements.antt` states.
-- Assumes nothing.
use Rattle.std.proofs.Common.{ℕ, ◌^◌, ◌<◌, List, [], ◌∷◌, refl, arith, pow_pos}
use Rattle.octets.proofs.Bytes.{below_nil, below_cons}
use Rattle.hashing.specs.Statements.{HashValue}
use Rattle.hashing.proofs.Laws.{plus_lt, digest-bytes}
use Rattle.hashing.proofs.Laws as hashing
use Rattle.sha1_hash.specs.Compression.{Variables, vars, added, compress}
use Rattle.sha1_hash.specs.Message.{initial, sha1}
use Rattle.sha1_hash.specs.Running.{state_of}
use Rattle.sha1_hash.specs.Statements.{TwentyBytes, RunsOn, EndsInDigest}

five : {a b c d e : ℕ} → a < 2 ^ 32 → b < 2 ^ 32 → c < 2 ^ 32 → d < 2 ^ 32 → e < 2 ^ 32 → HashValue 5 (a ∷ b ∷ c ∷ d ∷ e ∷ [])
five a b c d e = (refl, below_cons a (below_cons b (below_cons c (below_cons d (below_cons e (below_nil (pow_pos 32)))))))

five_added : (h : List ℕ) (x : Variables) → HashValue 5 (added h x)
unfolding added
five_added h (vars a b c d e) = five (plus_lt a _) (plus_lt b _) (plus_lt c _) (plus_lt d _) (plus_lt e _)

five_compress : (h m : List ℕ) → HashValue 5 (compress h m)
unfolding compress
five_compress h m = five_added h _

five_initial : HashValue 5 initial
unfolding initial
five_initial = five (omega arith) (omega arith) (omega arith) (omega arith) (omega arith)

pub twenty_bytes : TwentyBytes
unfolding sha1
twenty_bytes m = digest-bytes compress 5 five_compress initial m five_initial

pub runs_on : RunsOn
runs_on t r m s = hashing.runs_on compress initial (state_of t) (state_of r) m s

pub ends_in_digest : EndsInDigest
unfolding sha1
ends_in_digest t m = hashing.ends_in_digest compress initial (state_of t) m
