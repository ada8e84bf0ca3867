-- The laws that `specs/Statements.antt` states.
-- Assumes nothing.
use Prim.Native.Nat.{ℕ, ◌-◌, ◌≤◌, ◌<◌}
use mathlib.Core.Path.{◌≡◌, sym, ◌∙◌, ap}
use mathlib.Core.Bool.{Bool, cond}
use mathlib.Core.List.{List, ◌++◌, append-nil}
use native.Mathlib.Omega.{arith}
use borrow.Author.Tests.{le-leb, lt-leb}
use lib.ListN.{length, replicate, length-append, length-replicate}
use Rattle.octets.specs.Xors.{xors}
use Rattle.sha256.specs.Message.{sha256}
use Rattle.sha256.proofs.Laws.{thirty_two_bytes}
use Rattle.hmac.specs.Hmac.{ipad, opad, to_block, key_block, hmac, hmac_sha256}
use Rattle.hmac.specs.Statements.{MacBytes, KeysOfAnyLength}

pub mac-bytes : MacBytes
unfolding hmac
mac-bytes k text = thirty_two_bytes _

pub short-key : (k : List ℕ) → length k ≤ 64 → key_block sha256 k ≡ to_block k
unfolding key_block
short-key k h = ap (λ (b : Bool). to_block (cond b k (sha256 k))) (le-leb (length k) 64 h)

pub long_key : (k : List ℕ) → 64 < length k → key_block sha256 k ≡ to_block (sha256 k)
unfolding key_block
long_key k h = ap (λ (b : Bool). to_block (cond b k (sha256 k))) (lt-leb (length k) 64 h)

-- A block is filled up already.
block_long : (k : List ℕ) → length k ≤ 64 → length (to_block k) ≡ 64
unfolding to_block
block_long k h = length-append k (replicate (64 - length k) 0) ∙ omega (arith, length-replicate {A = ℕ} (64 - length k) 0)

block_same : (k : List ℕ) → length k ≡ 64 → to_block k ≡ k
unfolding to_block
block_same k h = let z : 64 - length k ≡ 0 = omega arith in ap (λ (n : ℕ). k ++ replicate n 0) z ∙ append-nil k

-- The key goes in by its block alone.
by_block : (k l text : List ℕ) → key_block sha256 k ≡ key_block sha256 l → hmac_sha256 k text ≡ hmac_sha256 l text
unfolding hmac
by_block k l text e = ap (λ (b : List ℕ). sha256 (xors b opad ++ sha256 (xors b ipad ++ text))) e

pub keys_of_any_length : KeysOfAnyLength
keys_of_any_length k text = (
  λ h.
      let n = block_long k h in
      by_block k (to_block k) text (short-key k h ∙ sym (short-key (to_block k) (omega arith) ∙ block_same (to_block k) n)),
  λ h. by_block k (sha256 k) text (long_key k h ∙ sym (short-key (sha256 k) (omega (arith, (thirty_two_bytes k).0)))),
)
