-- RFC 3394: unwrapping undoes wrapping, and wrapping unwrapping, step by step.
-- Assumes nothing.
use Prim.Native.Nat.{ℕ, zero, suc, ◌+◌, ◌-◌, ◌*◌, ◌/◌, ◌≤◌}
use mathlib.Core.Path.{◌≡◌, refl, sym, ap, ap₂, ◌∙◌}
use mathlib.Core.Bool.{true}
use mathlib.Core.List.{List, ◌++◌}
use native.Mathlib.Omega.{arith}
use lib.ListN.{length, take, drop, length-append, length-take, length-drop, take-append-drop}
use lib.Seq.{take_at, drop_at, drop-drop, length-take-le}
use Rattle.octets.specs.Bytes.{Bytes, same}
use Rattle.octets.specs.BigEndian.{be}
use Rattle.octets.specs.Xors.{xors}
use Rattle.octets.proofs.BigEndian.{length-be}
use Rattle.octets.proofs.Bytes.{below_append, below_take, below_drop, bytes-be, bytes-xors}
use Rattle.octets.proofs.Equality.{same_self, same_eq}
use Rattle.octets.proofs.Xors.{length-xors, xors_twice}
use Rattle.aes_inverse.specs.Statements.{Block, Inverses}
use Rattle.key_wrap.specs.KeyWrap.{initial_value, steps, wrap_step, wrap_steps, wrap, unwrap_step, unwrap_steps, unwrapped, good, plain}
use Rattle.key_wrap.specs.Statements.{Semiblocks, WrapUndone}

iv_size_lem : length initial_value ≡ 8
unfolding initial_value
iv_size_lem = length-be 8 0xa6a6a6a6a6a6a6a6

iv_bytes : Bytes initial_value
unfolding initial_value
iv_bytes = bytes-be 8 0xa6a6a6a6a6a6a6a6

same-steps : (p q : List ℕ) → length p ≡ length q → steps p ≡ steps q
same-steps p q h = ap (λ (k : ℕ). 6 * (k / 8)) h

-- The sum of a register and a number.
module _ (a : List ℕ) (t : ℕ) (l : length a ≡ 8) where
  sum_length : length (xors a (be 8 t)) ≡ 8
  sum_length = let k = length-be 8 t in length-xors a (be 8 t) (omega arith) ∙ l

  sum_twice : xors (xors a (be 8 t)) (be 8 t) ≡ a
  sum_twice = let k = length-be 8 t in xors_twice a (be 8 t) (omega arith)

module _ (e d : List ℕ → List ℕ) (𝓘 : Inverses e d) where
  -- A state: two registers at least.
  record State (l : ℕ) (x : List ℕ) : Type 0 where
    long : length x ≡ l
    some : 16 ≤ l
    bytes : Bytes x

  module _ (t l : ℕ) (x : List ℕ) (s : State l x) where
    -- ---- forwards
    front : Block (take 16 x)
    front = let k = s.some in let m = s.long in record { size = length-take-le 16 x (omega arith); bytes = below_take 16 s.bytes }

    b : List ℕ
    b = e (take 16 x)

    block : Block b
    unfolding b
    block = 𝓘.forward front

    high : length (take 8 b) ≡ 8
    high = let k = block.size in length-take-le 8 b (omega arith)

    sum : List ℕ
    sum = xors (take 8 b) (be 8 t)

    sum_size : length sum ≡ 8
    unfolding sum
    sum_size = sum_length (take 8 b) t high

    forwards : State l (wrap_step e t x)
    unfolding wrap_step b sum
    forwards =
        let k = s.long in
        let m = s.some in
        let n = block.size in
        let p = sum_size in
        let q : length (sum ++ (drop 16 x ++ drop 8 b)) ≡ l = simp (length-append, length-drop) (omega arith) in
        record {
          long = q;
          some = m;
          bytes = below_append (bytes-xors (below_take 8 block.bytes) (bytes-be 8 t)) (below_append (below_drop 16 s.bytes) (below_drop 8 block.bytes));
        }

    back : unwrap_step d t (wrap_step e t x) ≡ x
    unfolding wrap_step unwrap_step b sum
    back =
        let k = s.long in
        let m = s.some in
        let n = block.size in
        let p = sum_size in
        let w = sum ++ (drop 16 x ++ drop 8 b) in
        let lw : length w ≡ l = forwards.long in
        let u : length w - 8 ≡ 8 + (l - 16) = omega arith in
        let v : length w - 16 ≡ l - 16 = omega arith in
        let lx : length (drop 16 x) ≡ l - 16 = rw length-drop (omega arith) in
        let f : take 8 w ≡ sum = take_at sum (drop 16 x ++ drop 8 b) 8 p in
        let g : drop 8 w ≡ drop 16 x ++ drop 8 b = drop_at sum (drop 16 x ++ drop 8 b) 8 p in
        let h : drop (length w - 8) w ≡ drop 8 b =
        ap (λ (n : ℕ). drop n w) u ∙ sym (drop-drop (l - 16) 8 w) ∙ ap (drop (l - 16)) g ∙ drop_at (drop 16 x) (drop 8 b) (l - 16) lx in
        let i : take (length w - 16) (drop 8 w) ≡ drop 16 x =
        ap₂ take v g ∙ take_at (drop 16 x) (drop 8 b) (l - 16) lx in
        let j : xors (take 8 w) (be 8 t) ++ drop (length w - 8) w ≡ b =
        ap₂ (λ (u v : List ℕ). u ++ v) (ap (λ (u : List ℕ). xors u (be 8 t)) f ∙ sum_twice (take 8 b) t high) h ∙ take-append-drop 8 b in
        ap₂ (λ (u v : List ℕ). u ++ v) (ap d j ∙ 𝓘.undone front) i ∙ take-append-drop 16 x

    -- ---- backwards
    low : length (take 8 x) ≡ 8
    low = let k = s.some in let m = s.long in length-take-le 8 x (omega arith)

    q : List ℕ
    q = xors (take 8 x) (be 8 t) ++ drop (length x - 8) x

    q_block : Block q
    unfolding q
    q_block =
        let k = s.long in
        let m = s.some in
        let n = sum_length (take 8 x) t low in
        record {
          size = simp (length-append, length-drop) (omega arith);
          bytes = below_append (bytes-xors (below_take 8 s.bytes) (bytes-be 8 t)) (below_drop (length x - 8) s.bytes);
        }

    backwards : State l (unwrap_step d t x)
    unfolding unwrap_step q
    backwards =
        let k = s.long in
        let m = s.some in
        let g = 𝓘.backward q_block in
        let n = g.size in
        record {
          long = simp (length-append, length-take, length-drop) (omega arith);
          some = m;
          bytes = below_append g.bytes (below_take (length x - 16) (below_drop 8 s.bytes));
        }

    forth : wrap_step e t (unwrap_step d t x) ≡ x
    unfolding wrap_step unwrap_step q
    forth =
        let k = s.long in
        let m = s.some in
        let n = (𝓘.backward q_block).size in
        let r = take (length x - 16) (drop 8 x) in
        let z = d q ++ r in
        let f : e (take 16 z) ≡ q = ap e (take_at (d q) r 16 n) ∙ 𝓘.redone q_block in
        let g : drop 16 z ≡ r = drop_at (d q) r 16 n in
        let h : take 8 q ≡ xors (take 8 x) (be 8 t) = take_at (xors (take 8 x) (be 8 t)) (drop (length x - 8) x) 8 (sum_length (take 8 x) t low) in
        let i : drop 8 q ≡ drop (length x - 8) x = drop_at (xors (take 8 x) (be 8 t)) (drop (length x - 8) x) 8 (sum_length (take 8 x) t low) in
        let j : xors (take 8 (e (take 16 z))) (be 8 t) ≡ take 8 x =
        ap (λ (u : List ℕ). xors (take 8 u) (be 8 t)) f ∙ ap (λ (u : List ℕ). xors u (be 8 t)) h ∙ sum_twice (take 8 x) t low in
        let u : length x - 8 ≡ 8 + (length x - 16) = omega arith in
        let o : drop (length x - 8) x ≡ drop (length x - 16) (drop 8 x) = ap (λ (n : ℕ). drop n x) u ∙ sym (drop-drop (length x - 16) 8 x) in
        let p : drop 8 (e (take 16 z)) ≡ drop (length x - 16) (drop 8 x) = ap (drop 8) f ∙ i ∙ o in
        ap₂ (λ (u v : List ℕ). u ++ v) j (ap₂ (λ (u v : List ℕ). u ++ v) g p ∙ take-append-drop (length x - 16) (drop 8 x)) ∙ take-append-drop 8 x

  -- ---- all steps

  module _ {l : ℕ} where
    wrap-state : (t : ℕ) {x : List ℕ} → State l x → State l (wrap_steps e t x)
    unfolding wrap_steps
    wrap-state zero s = s
    wrap-state (suc t) {x} s = forwards (suc t) l (wrap_steps e t x) (wrap-state t s)

    unwrap_state : (t : ℕ) {x : List ℕ} → State l x → State l (unwrap_steps d t x)
    unfolding unwrap_steps
    unwrap_state zero s = s
    unwrap_state (suc t) {x} s = unwrap_state t (backwards (suc t) l x s)

    steps_back : (t : ℕ) {x : List ℕ} → State l x → unwrap_steps d t (wrap_steps e t x) ≡ x
    unfolding wrap_steps unwrap_steps
    steps_back zero s = refl
    steps_back (suc t) {x} s = ap (unwrap_steps d t) (back (suc t) l (wrap_steps e t x) (wrap-state t s)) ∙ steps_back t s

    steps_forth : (t : ℕ) {x : List ℕ} → State l x → wrap_steps e t (unwrap_steps d t x) ≡ x
    unfolding wrap_steps unwrap_steps
    steps_forth zero s = refl
    steps_forth (suc t) {x} s = ap (wrap_step e (suc t)) (steps_forth t (backwards (suc t) l x s)) ∙ forth (suc t) l x s

  -- ---- key data

  module _ (n : ℕ) (pos : 1 ≤ n) where
    wraps : (p : List ℕ) → Semiblocks n p → Semiblocks (n + 1) (wrap e p) × (good d (wrap e p) ≡ true) × (plain d (wrap e p) ≡ p)
    unfolding wrap good plain unwrapped
    wraps p r =
        let x = initial_value ++ p in
        let a = iv_size_lem in
        let z = r.size in
        let s : State (8 * (n + 1)) x = record {
          long = rw length-append (omega arith);
          some = omega arith;
          bytes = below_append iv_bytes r.bytes;
        } in
        let w = wrap-state (steps p) s in
        let c = wrap_steps e (steps p) x in
        let m : length (drop 8 c) ≡ length p = let k = w.long in rw length-drop (omega arith) in
        let g : unwrap_steps d (steps (drop 8 c)) c ≡ x = ap (λ (t : ℕ). unwrap_steps d t c) (same-steps (drop 8 c) p m) ∙ steps_back (steps p) s in (
          record { size = w.long; bytes = w.bytes },
          ap (λ (u : List ℕ). same (take 8 u) initial_value) g ∙ ap (λ (u : List ℕ). same u initial_value) (take_at initial_value p 8 a) ∙ same_self initial_value,
          ap (drop 8) g ∙ drop_at initial_value p 8 a,
        )

    unwraps : (c : List ℕ) → Semiblocks (n + 1) c → Semiblocks n (plain d c) × (good d c ≡ true → wrap e (plain d c) ≡ c)
    unfolding wrap good plain unwrapped
    unwraps c r =
        let z = r.size in
        let s : State (8 * (n + 1)) c = record { long = z; some = omega arith; bytes = r.bytes } in
        let t = steps (drop 8 c) in
        let w = unwrap_state t s in
        let k = w.long in
        let x = unwrap_steps d t c in
        let m : length (drop 8 x) ≡ 8 * n = rw length-drop (omega arith) in
        let o : length (drop 8 c) ≡ 8 * n = rw length-drop (omega arith) in (
          record { size = m; bytes = below_drop 8 w.bytes },
          λ h.
              let f : initial_value ++ drop 8 x ≡ x = ap (λ (u : List ℕ). u ++ drop 8 x) (sym (same_eq (take 8 x) initial_value h)) ∙ take-append-drop 8 x in
              ap₂ (wrap_steps e) (same-steps (drop 8 x) (drop 8 c) (m ∙ sym o)) f ∙ steps_forth t s,
        )

pub wrap-undone : WrapUndone
wrap-undone e d 𝓘 n pos = (wraps e d 𝓘 n pos, unwraps e d 𝓘 n pos)
