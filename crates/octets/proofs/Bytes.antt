-- Parts and joins of byte strings are byte strings.
-- Assumes nothing.
use Prim.Native.Nat.{ℕ, zero, suc, ◌+◌, ◌-◌, ◌/◌, ◌^◌, ◌<◌, ◌≤◌}
use mathlib.Core.Path.{◌≡◌, sym, subst}
use mathlib.Core.List.{List, [], ◌∷◌, ◌++◌}
use mathlib.Core.Logic.{⊎_elim}
use native.Mathlib.Omega.{arith}
use native.Mathlib.Nat.{mod-lt, zero-lt-suc}
use lib.ListN.{length, take, drop, get_or, replicate, length-take, get_or-append, get_or-eq_default}
use lib.Seq.{get_or-append-add, get_or-take, get_or-drop}
use lib.Bits.{xor_lt}
use Rattle.octets.specs.Bytes.{Below, Bytes}
use Rattle.octets.specs.Xors.{xors}
use Rattle.octets.specs.BigEndian.{be}
use Rattle.octets.specs.Words.{word_bytes}
use Rattle.octets.proofs.Lists.{le_or_lt}

module _ {m : ℕ} where
  pub below_nil : 0 < m → Below m []
  below_nil pos = record { at = λ i. pos }

  pub below_cons : {x : ℕ} {s : List ℕ} → x < m → Below m s → Below m (x ∷ s)
  below_cons {x} {s} h k = record { at = go }
    where
      go : (i : ℕ) → get_or (x ∷ s) i 0 < m
      go zero = h
      go (suc i) = k.at i

  pub below_replicate : (n : ℕ) {x : ℕ} → x < m → Below m (replicate n x)
  below_replicate zero h = below_nil (omega (arith, h))
  below_replicate (suc n) h = below_cons h (below_replicate n h)

  pub below_append : {a b : List ℕ} → Below m a → Below m b → Below m (a ++ b)
  below_append {a} {b} h k = record {
    at = λ i.
        ⊎_elim (λ (q : length a ≤ i).
        let e : i ≡ length a + (i - length a) = omega arith in
        subst (λ (x : ℕ). get_or (a ++ b) x 0 < m) (sym e) (rw (get_or-append-add a b (i - length a) 0) (k.at (i - length a))))
        (λ (q : i < length a). rw (get_or-append a b 0 i q) (h.at i))
        (le_or_lt (length a) i);
  }

  pub below_drop : (n : ℕ) {l : List ℕ} → Below m l → Below m (drop n l)
  below_drop n {l} h = record { at = λ i. rw (get_or-drop n l i 0) (h.at (n + i)) }

  pub below_take : (n : ℕ) {l : List ℕ} → Below m l → Below m (take n l)
  below_take n {l} h = record {
    at = λ i.
        ⊎_elim (λ (k : n ≤ i).
        let t = length-take n l in
        let pos : 0 < m = omega (arith, h.at 0) in
        rw (get_or-eq_default (take n l) 0 {n = i} (omega arith)) pos)
        (λ (k : i < n). rw (get_or-take n l i 0 k) (h.at i))
        (le_or_lt n i);
  }

pub bytes-xors : {a b : List ℕ} → Bytes a → Bytes b → Bytes (xors a b)
unfolding xors
bytes-xors {a} {b} h k = record { at = go a b h.at k.at }
  where
    go : (a b : List ℕ) → ((i : ℕ) → get_or a i 0 < 256) → ((i : ℕ) → get_or b i 0 < 256) → (i : ℕ) → get_or (xors a b) i 0 < 256
    go [] b h k i = h i
    go (x ∷ a) [] h k i = k i
    go (x ∷ a) (y ∷ b) h k zero = xor_lt 8 x y (h 0) (k 0)
    go (x ∷ a) (y ∷ b) h k (suc i) = go a b (λ j. h (suc j)) (λ j. k (suc j)) i

pub bytes-be : (n x : ℕ) → Bytes (be n x)
unfolding be
bytes-be zero x = below_nil (zero-lt-suc 255)
bytes-be (suc n) x = below_append (bytes-be n (x / 256)) (below_cons (mod-lt x (zero-lt-suc 255)) (below_nil (zero-lt-suc 255)))

pub bytes-word_bytes : {ws : List ℕ} → Below (2 ^ 32) ws → Bytes (word_bytes ws)
unfolding word_bytes
bytes-word_bytes {ws} h = go ws h
  where
    go : (ws : List ℕ) → Below (2 ^ 32) ws → Bytes (word_bytes ws)
    go [] h = below_nil (zero-lt-suc 255)
    go (w ∷ ws) h =
        let k : w < 2 ^ 32 = h.at 0 in
        let t : Below (2 ^ 32) ws = record { at = λ i. h.at (suc i) } in
        below_cons (omega arith) (below_cons (omega arith) (below_cons (omega arith) (below_cons (omega arith) (go ws t))))
