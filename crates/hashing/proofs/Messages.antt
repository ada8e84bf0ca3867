-- A message that grows, and its blocks, over any compression function.
-- Assumes nothing.
use Prim.Native.Nat.{ℕ, zero, suc, ◌+◌, ◌*◌, ◌/◌, ◌%◌, ◌^◌, ◌<◌, ◌≤◌}
use mathlib.Core.Path.{◌≡◌, refl, sym, ◌∙◌, ap}
use mathlib.Core.List.{List, ◌++◌, append_assoc}
use native.Mathlib.Omega.{arith}
use native.Mathlib.Nat.{add_assoc, add-suc, add-zero}
use lib.ListN.{length, take, drop, length-append, length-take, length-drop}
use lib.Seq.{take_all, take-append-le, drop-append-le, drop-drop}
use Rattle.octets.specs.Bytes.{placed}
use Rattle.octets.specs.Words.{word_bytes}
use Rattle.octets.proofs.Lists.{drop_all, take-placed}
use Rattle.hashing.specs.Message.{padding, hash_from}
use Rattle.hashing.specs.Running.{State, unhashed, After, Updated, finished}

module _ (compress : List ℕ → List ℕ → List ℕ) where
  -- Whole blocks are the same, whatever comes after them.
  hash_front : (h m s : List ℕ) (n : ℕ) → 64 * n ≤ length m → hash_from compress h (m ++ s) n ≡ hash_from compress h m n
  unfolding hash_from
  hash_front h m s zero k = refl
  hash_front h m s (suc n) k =
      let a : 64 * n ≤ length m = omega arith in
      let b : 64 ≤ length (drop (64 * n) m) = simp length-drop (omega arith) in
      rw (hash_front h m s n a, drop-append-le (64 * n) m s a, take-append-le 64 (drop (64 * n) m) s b)

  -- n blocks, and k more.
  hash_more : (h t : List ℕ) (n k : ℕ) → hash_from compress (hash_from compress h t n) (drop (64 * n) t) k ≡ hash_from compress h t (n + k)
  unfolding hash_from
  hash_more h t n zero = rw add-zero
  hash_more h t n (suc k) =
      let e : 64 * n + 64 * k ≡ 64 * (n + k) = omega arith in
      rw (add-suc, hash_more h t n k, drop-drop (64 * k) (64 * n) t, e)

  -- The state t after the bytes m, from the hash value h on, and then the bytes s.
  module _ {h m : List ℕ} {n : ℕ} {t : State} (a : After compress h m n t) (s : List ℕ) where
    -- The bytes after the whole blocks of m.
    open_part : unhashed t ++ s ≡ drop (64 * (length m / 64)) (m ++ s)
    open_part = ap (λ (l : List ℕ). l ++ s) a.rest ∙ sym (drop-append-le (64 * (length m / 64)) m s (omega arith))

    blocks : length m / 64 + length (unhashed t ++ s) / 64 ≡ length (m ++ s) / 64
    blocks = rw open_part (simp (length-drop, length-append) (omega arith))

    pub hashed_on : hash_from compress t.words (unhashed t ++ s) (length (unhashed t ++ s) / 64) ≡ hash_from compress h (m ++ s) (length (m ++ s) / 64)
    hashed_on =
        let before : t.words ≡ hash_from compress h (m ++ s) (length m / 64) = a.hashed ∙ sym (hash_front h m s (length m / 64) (omega arith)) in
        rw (before, ← blocks, open_part) (hash_more h (m ++ s) (length m / 64) _)

    pub after_more : {r : State} → Updated compress t s r → After compress h (m ++ s) (n + length s) r
    after_more b =
        let e : 64 * (length m / 64) + 64 * (length (unhashed t ++ s) / 64) ≡ 64 * (length (m ++ s) / 64) = omega (arith, blocks) in
        record { hashed = b.hashed ∙ hashed_on; rest = b.rest ∙ rw (← e, open_part, drop-drop); count = omega (arith, a.count, b.count) }

  -- Bytes in two parts.
  pub updated_twice : (t q r : State) (s u : List ℕ) → Updated compress t s q → Updated compress q u r → Updated compress t (s ++ u) r
  updated_twice t q r s u a b = rw (length-append, ← append_assoc, ← add_assoc) (after_more a u b)

  -- The hash value r after t and its padding p.
  pub padded_last : (t : State) (r p : List ℕ) → p ≡ padding t.length → r ≡ hash_from compress t.words (unhashed t ++ p) (length (unhashed t ++ p) / 64)
      → word_bytes r ≡ finished compress t
  unfolding finished
  padded_last t r p e h = rw h (rw e refl)

  -- The state r after t and s, in each of the three ways of the code.
  module _ (t r : State) (s : List ℕ) (long : length t.waiting ≡ 64) (more : r.length ≡ (t.length + length s) % 2 ^ 64) where
    size : length (unhashed t ++ s) ≡ t.length % 64 + length s
    size = simp (length-append, length-take) (omega arith)

    joined : take (t.length % 64 + length s) (placed s (t.length % 64) t.waiting) ≡ unhashed t ++ s
    joined = take-placed s t.waiting (t.length % 64) (omega arith)

    -- s does not complete a block, and joins the bytes that wait.
    pub waited : t.length % 64 + length s < 64 → r.words ≡ t.words → r.waiting ≡ placed s (t.length % 64) t.waiting → Updated compress t s r
    unfolding hash_from
    waited few w v =
        let e : length (unhashed t ++ s) / 64 ≡ 0 = omega (arith, size) in
        let f : r.length % 64 ≡ t.length % 64 + length s = omega arith in
        record { hashed = rw e w; rest = rw (f, e, v) joined; count = more }

    -- s completes a block, which is hashed.
    pub completed : t.length % 64 + length s ≡ 64 → r.words ≡ compress t.words (take 64 (placed s (t.length % 64) t.waiting)) → Updated compress t s r
    unfolding hash_from
    completed full w =
        let e : length (unhashed t ++ s) / 64 ≡ 1 = omega (arith, size) in
        let f : r.length % 64 ≡ 0 = omega arith in
        let p : take 64 (placed s (t.length % 64) t.waiting) ≡ unhashed t ++ s =
        ap (λ (i : ℕ). take i (placed s (t.length % 64) t.waiting)) (sym full) ∙ joined in
        record {
          hashed = w ∙ rw (e, p, take_all 64 (unhashed t ++ s) (omega (arith, size)));
          rest = rw (e, f) (sym (drop_all 64 (unhashed t ++ s) (omega (arith, size))));
          count = more;
        }

    -- No bytes wait. The whole blocks of s are hashed, and the bytes after them wait.
    pub absorbed : t.length % 64 ≡ 0 → r.words ≡ hash_from compress t.words s (length s / 64)
        → r.waiting ≡ placed (drop (64 * (length s / 64)) s) 0 t.waiting → Updated compress t s r
    absorbed none w v =
        let i = 64 * (length s / 64) in
        let e : r.length % 64 ≡ 0 + length (drop i s) = rw length-drop (omega arith) in
        record { hashed = rw none w; rest = rw (none, e, v) (take-placed (drop i s) t.waiting 0 (omega arith)); count = more }
