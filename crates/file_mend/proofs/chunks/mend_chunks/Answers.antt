-- `mend_chunks`: what the whole range asks for is what remains from chunk i on, in the file as it is.
-- Assumes nothing.
use Prim.Native.Nat.{ℕ, ◌+◌, ◌-◌, ◌*◌, ◌/◌, ◌≤◌, ◌<◌, min}
use mathlib.Core.Path.{◌≡◌, refl, sym, ap, ap₂, ◌∙◌}
use mathlib.Core.List.{List}
use native.Mathlib.Nat.{mul-zero}
use native.Mathlib.Omega.{arith}
use lib.ListN.{length, take, drop}
use borrow.Author.Rules.{rules}
use Rattle.octets.specs.Bytes.{placed}
use Rattle.aes_spec.specs.Cipher.{cipher}
use Rattle.aes.proofs.Ciphers.{length-cipher}
use Rattle.frame.specs.Layout.{Sizes, covering, chunk_at}
use Rattle.frame.specs.Rules.{piece}
use Rattle.frame.proofs.Pieces.{chunk_length}
use Rattle.frame.proofs.Filling.{length_part}
use Rattle.frame.proofs.Steps.{ends_within}
use Rattle.vault.specs.Vault.{sizes_of}
use Rattle.vault.specs.Under.{sealed_under, good_under}
use Rattle.vault.proofs.Combos.{opened-size}
use Rattle.file_parts.specs.Under.{plain_under}
use Rattle.mend_spec.specs.Mend.{chunk_start, resealed, mended_from}
use Rattle.mend_spec.proofs.Steps.{mended-end}
use Rattle.mend_spec.proofs.Turns.{part_in, turn}
use Rattle.file_mend.proofs.Spots.{spot, spot_inside}
use Rattle.file_mend.proofs.chunks.mend_chunks.Goals as goal
use Rattle.file_mend.proofs.chunks.mend_chunks.Invariants.{reseal}

-- sums, with few facts in reach
same : (d w : ℕ) → d + w - d ≡ w
same d w = omega arith

up : (s i : ℕ) → s ≤ i → s ≤ i + 1
up s i h = omega arith

next : (i j : ℕ) → i < j → i + 1 ≤ j
next i j h = omega arith

later : (i j : ℕ) → i + 1 ≤ j → i < j
later i j h = omega arith

down : (i j : ℕ) → i < j → i ≤ j
down i j h = omega arith

count : (e s k : ℕ) → e ≡ s + k → e - s ≡ k
count e s k h = omega arith

back : (m o : ℕ) → m + o - o ≡ m
back m o = omega arith

pub loop-i-init : goal.loop-i-init
loop-i-init c =
    let x = c.args in
    let k = x.keys.now in
    let first = x.from / 32768 in
    let z = sizes_of k.combo in
    let none : first - first ≡ 0 = omega arith in
    let e : 0 ≡ z.nonce * (first - first) = sym (ap (λ (y : ℕ). z.nonce * y) none ∙ mul-zero z.nonce) in (
      search rules,
      omega (arith, c.end_chunk-e.ensures),
      refl,
      λ j a b. c.requires.by_index j a (omega (arith, b, c.end_chunk-e.ensures)),
      ap (λ (y : ℕ). mended_from z (reseal k.combo k.content.w.now k.mac.now k.header_nonce.now x.from x.new.now) first (c.end_chunk-e.result - first) (drop y x.nonces.now) x.file.now) e,
    )

pub overflow_mul-i : goal.overflow_mul-i
overflow_mul-i c =
    let x = c.args in
    omega (arith, spot_inside x.n x.from (length x.new.now) c.end_chunk-e.result c.loop-i.i c.requires.file_len.1 c.end_chunk-e.ensures c.loop-i.invariant.0 (search rules))

pub overflow_mul-i-in-loop-i : goal.overflow_mul-i-in-loop-i
overflow_mul-i-in-loop-i c =
    let x = c.args in
    omega (arith, spot_inside x.n x.from (length x.new.now) c.end_chunk-e.result c.loop-i.i c.requires.file_len.1 c.end_chunk-e.ensures c.loop-i.invariant.0 (search rules))

pub overflow_sub-new : goal.overflow_sub-new
overflow_sub-new c =
    let x = c.args in
    let p = spot x.n x.from (length x.new.now) c.end_chunk-e.result c.loop-i.i c.saturating_sub-lo.result c.saturating_sub-d.result c.requires.file_len.1 c.end_chunk-e.ensures c.loop-i.invariant.0 (search rules) c.saturating_sub-lo.ensures c.saturating_sub-d.ensures in
    omega (arith, p.some)

pub part_len-requires : goal.part_len-requires
part_len-requires c =
    let x = c.args in
    let p = spot x.n x.from (length x.new.now) c.end_chunk-e.result c.loop-i.i c.saturating_sub-lo.result c.saturating_sub-d.result c.requires.file_len.1 c.end_chunk-e.ensures c.loop-i.invariant.0 (search rules) c.saturating_sub-lo.ensures c.saturating_sub-d.ensures in
    (p.low, omega (arith, p.some))

pub overflow_add-q : goal.overflow_add-q
overflow_add-q c =
    let x = c.args in
    let p = spot x.n x.from (length x.new.now) c.end_chunk-e.result c.loop-i.i c.saturating_sub-lo.result c.saturating_sub-d.result c.requires.file_len.1 c.end_chunk-e.ensures c.loop-i.invariant.0 (search rules) c.saturating_sub-lo.ensures c.saturating_sub-d.ensures in
    omega (arith, c.part_len.ensures.3, p.some)

pub nonce-requires : goal.nonce-requires
nonce-requires c =
    let x = c.args in
    let p = spot x.n x.from (length x.new.now) c.end_chunk-e.result c.loop-i.i c.saturating_sub-lo.result c.saturating_sub-d.result c.requires.file_len.1 c.end_chunk-e.ensures c.loop-i.invariant.0 (search rules) c.saturating_sub-lo.ensures c.saturating_sub-d.ensures in
    let w = c.sizes_of-s.result.nonce in
    let k = covering x.from (length x.new.now) in
    let f : w * k ≤ length x.nonces.now = omega (arith, ap (λ (z : Sizes). z.nonce * k) c.sizes_of-s.ensures, c.requires.nonces_len) in
    ends_within w k _ (length x.nonces.now) (omega (arith, c.loop-i.invariant.0, p.covers)) f

pub slice_bounds-mend_chunk-end : goal.slice_bounds-mend_chunk-end
slice_bounds-mend_chunk-end c =
    let x = c.args in
    let p = spot x.n x.from (length x.new.now) c.end_chunk-e.result c.loop-i.i c.saturating_sub-lo.result c.saturating_sub-d.result c.requires.file_len.1 c.end_chunk-e.ensures c.loop-i.invariant.0 (search rules) c.saturating_sub-lo.ensures c.saturating_sub-d.ensures in
    omega (arith, c.part_len.ensures.3, p.some)

pub mend_chunk-requires : goal.mend_chunk-requires
mend_chunk-requires c =
    let x = c.args in
    let p = spot x.n x.from (length x.new.now) c.end_chunk-e.result c.loop-i.i c.saturating_sub-lo.result c.saturating_sub-d.result c.requires.file_len.1 c.end_chunk-e.ensures c.loop-i.invariant.0 (search rules) c.saturating_sub-lo.ensures c.saturating_sub-d.ensures in
    let d = c.saturating_sub-d.result in
    let w = c.part_len.result in
    let lo = c.saturating_sub-lo.result in
    let e = length_part x.new.now d w (omega (arith, c.part_len.ensures.3, p.some)) in
    let f = part_in x.n x.from (length x.new.now) c.loop-i.i lo d w c.requires.file_len.1 p.at c.part_len.ensures.2 c.part_len.ensures.3 p.some in
    record { nonce_len = c.nonce.ensures.1 ∙ ap (λ (z : Sizes). z.nonce) c.sizes_of-s.ensures; file_len = (c.loop-i.invariant.2 ∙ c.requires.file_len.0, p.inside, omega (arith, e, f)); i_value = c.loop-i.invariant.3 c.loop-i.i (search rules) (search rules) }

pub loop-i-preserved : goal.loop-i-preserved
loop-i-preserved c =
    let x = c.args in
    let p = spot x.n x.from (length x.new.now) c.end_chunk-e.result c.loop-i.i c.saturating_sub-lo.result c.saturating_sub-d.result c.requires.file_len.1 c.end_chunk-e.ensures c.loop-i.invariant.0 (search rules) c.saturating_sub-lo.ensures c.saturating_sub-d.ensures in
    let on : c.loop-i.i < c.end_chunk-e.result = search rules in
    let k = x.keys.now in
    let z = sizes_of k.combo in
    let b = cipher 14 k.content.w.now in
    let seal = sealed_under k.combo b k.mac.now k.header_nonce.now in
    let f = c.loop-i.file in
    let at = c.loop-i.i in
    let old = chunk_at z f at in
    let e = c.end_chunk-e.result in
    let first = x.from / 32768 in
    let d = c.saturating_sub-d.result in
    let w = c.part_len.result in
    let lo = c.saturating_sub-lo.result in
    let lent = c.nonce.ensures.0 ∙ ap (λ (y : Sizes). take y.nonce (drop (y.nonce * (at - first)) x.nonces.now)) c.sizes_of-s.ensures in
    let m = c.mend_chunk in
    let shaped = c.loop-i.invariant.2 ∙ c.requires.file_len.0 in
    let new = seal at (piece z.nonce x.nonces.now (at - first)) (placed (take w (drop d x.new.now)) lo (plain_under k.combo b at old)) in
    let sealed = ap₂ (λ (u v : List ℕ). seal at u (placed v lo (plain_under k.combo b at old))) lent (ap (λ (y : ℕ). take y (drop d x.new.now)) (same d w)) in
    let g = m.ensures.file_after ∙ ap (λ (y : List ℕ). placed y (chunk_start z at) f) sealed in
    let size = sym (ap length sealed) ∙ m.ensures.i_len in
    let long = opened-size k.combo b (length-cipher 14 k.content.w.now) old ∙ ap (λ (y : ℕ). y - z.overhead) (chunk_length z f x.n at shaped p.inside) ∙ back (min 32768 (x.n - 32768 * at)) z.overhead in
    let r = turn z seal (plain_under k.combo b) x.from x.new.now x.nonces.now f new x.n first at e d lo w shaped p.inside c.loop-i.invariant.0 on p.at p.edge c.requires.file_len.1 p.low p.some c.part_len.ensures.0 long refl size in (
      up first at c.loop-i.invariant.0,
      next at e on,
      ap length g ∙ r.0 ∙ c.loop-i.invariant.2,
      λ j a u.
          ap (λ (y : List ℕ). good_under k.combo b k.mac.now k.header_nonce.now j (chunk_at z y j)) g
          ∙ ap (good_under k.combo b k.mac.now k.header_nonce.now j) (r.1 j (later at j a))
          ∙ c.loop-i.invariant.3 j (down at j (later at j a)) u,
      c.loop-i.invariant.4 ∙ r.2 ∙ ap (mended_from z (resealed seal (plain_under k.combo b) x.from x.new.now) (at + 1) (e - (at + 1)) (drop (z.nonce * (at + 1 - first)) x.nonces.now)) (sym g),
    )

pub returns : goal.returns
returns c =
    let x = c.args in
    let k = x.keys.now in
    let z = sizes_of k.combo in
    let e = c.end_chunk-e.result in
    let first = x.from / 32768 in
    let r = reseal k.combo k.content.w.now k.mac.now k.header_nonce.now x.from x.new.now in
    let n : e - first ≡ covering x.from (length x.new.now) = count e first (covering x.from (length x.new.now)) c.end_chunk-e.ensures in
    let u : e ≤ c.loop-i.i = search rules in
    sym (mended-end z r x.nonces.now c.loop-i.file (drop (z.nonce * (c.loop-i.i - first)) x.nonces.now) c.loop-i.i e u)
    ∙ sym c.loop-i.invariant.4
    ∙ ap (λ (y : ℕ). mended_from z r first y x.nonces.now x.file.now) n
