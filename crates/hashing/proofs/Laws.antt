-- The laws that `specs/Statements.antt` states.
-- Assumes nothing.
use Prim.Native.Nat.{ℕ, zero, suc, ◌+◌, ◌-◌, ◌*◌, ◌/◌, ◌^◌, ◌<◌}
use mathlib.Core.Path.{◌≡◌, sym, ◌∙◌, ap}
use mathlib.Core.List.{List, ◌∷◌, ◌++◌, append_assoc}
use native.Mathlib.Omega.{arith}
use native.Mathlib.Nat.{mod-lt}
use lib.Pow.{pow_pos}
use lib.ListN.{length, drop, replicate, length-append, length-replicate}
use lib.Seq.{drop_at}
use Rattle.octets.specs.BigEndian.{int, be}
use Rattle.octets.specs.Words.{word_bytes}
use Rattle.octets.proofs.BigEndian.{length-be, int-be}
use Rattle.octets.proofs.Bytes.{bytes-word_bytes}
use Rattle.octets.proofs.Words.{length-word_bytes}
use Rattle.hashing.specs.Operations.{plus}
use Rattle.hashing.specs.Message.{zeros, padding, padded, hash_from, digest}
use Rattle.hashing.specs.Running.{finished}
use Rattle.hashing.specs.Statements.{LeastPadding, WholeBlocks, LengthAtTheEnd, HashValue, DigestBytes, RunsOn, EndsInDigest}
use Rattle.hashing.proofs.Messages.{hashed_on, after_more}
use Rattle.hashing.proofs.PaddingBytes.{padding_mod}

pub least_padding : LeastPadding
least_padding n = (omega arith, omega arith)

pub whole-blocks : WholeBlocks
unfolding padding padded
whole-blocks m = simp (length-append, length-replicate, length-be) (omega arith)

pub length-at_the_end : LengthAtTheEnd
unfolding int padding padded
length-at_the_end m =
    let n = length m in
    let front = m ++ (0x80 ∷ replicate (zeros n) 0) in
    let e : m ++ (0x80 ∷ (replicate (zeros n) 0 ++ be 8 (8 * n))) ≡ front ++ be 8 (8 * n) = sym (append_assoc m (0x80 ∷ replicate (zeros n) 0) (be 8 (8 * n))) in
    let l : length (front ++ be 8 (8 * n)) - 8 ≡ length front = omega (arith, length-append front (be 8 (8 * n)), length-be 8 (8 * n)) in
    ap (λ (s : List ℕ). int (drop (length s - 8) s)) e ∙ ap int (drop_at front (be 8 (8 * n)) (length (front ++ be 8 (8 * n)) - 8) (sym l)) ∙ int-be 8 0 (8 * n) ∙ omega arith

-- A sum is a word.
pub plus_lt : (x y : ℕ) → plus x y < 2 ^ 32
plus_lt x y = mod-lt (x + y) (pow_pos 32)

module _ (compress : List ℕ → List ℕ → List ℕ) where
  pub digest-bytes : DigestBytes compress
  unfolding hash_from digest
  digest-bytes k law h m first =
      let f = value (length (padded m) / 64) in
      (length-word_bytes (hash_from compress h (padded m) (length (padded m) / 64)) ∙ ap (λ (x : ℕ). 4 * x) f.0, bytes-word_bytes f.1)
    where
      value : (n : ℕ) → HashValue k (hash_from compress h (padded m) n)
      value zero = first
      value (suc n) = law _ _

  pub runs_on : RunsOn compress
  runs_on h t r m s a b = rw length-append (after_more compress a s b)

  pub ends_in_digest : EndsInDigest compress
  unfolding padded digest finished
  ends_in_digest h t m a =
      let p : padding t.length ≡ padding (length m) = rw a.count (padding_mod (length m)) in
      rw p (ap word_bytes (hashed_on compress a (padding (length m))))
