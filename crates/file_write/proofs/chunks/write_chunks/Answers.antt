-- `write_chunks`: what is written, and the chunks from i on behind it, are the whole.
-- Assumes nothing.
use Prim.Native.Nat.{ℕ, ◌+◌, ◌-◌, ◌*◌, ◌≤◌, min}
use mathlib.Core.Path.{◌≡◌, refl, sym, ap, ap₂, ◌∙◌}
use mathlib.Core.List.{append-nil}
use native.Mathlib.Omega.{arith}
use native.Mathlib.Nat.{mul-zero, add-mul}
use lib.ListN.{length}
use lib.Seq.{take_all}
use Rattle.aes_spec.specs.Cipher.{cipher}
use Rattle.frame.specs.Layout.{Sizes, chunks_from}
use Rattle.vault.specs.Vault.{sizes_of}
use Rattle.vault.specs.Under.{sealed_under, sizes_in}
use Rattle.frame.proofs.Steps.{piece}
use Rattle.file_write.proofs.Steps.{chunks_all, chunks_none, chunk_end, nonce_end, turn}
use Rattle.file_write.proofs.chunks.write_chunks.Goals as goal

pub loop-i-init : goal.loop-i-init
loop-i-init c =
    let x = c.args in
    let k = x.keys.now in
    let z = c.sizes_of-z.result in
    let n = length x.cleartext.now in
    let a : min 0 n + z.overhead * 0 ≡ 0 = omega (arith, mul-zero z.overhead) in
    let all = chunks_all (sizes_in z) (sealed_under k.combo (cipher 14 k.content.w.now) k.mac.now k.header_nonce.now) c.chunks-k.result x.nonces.now x.cleartext.now in
    (omega arith, refl, rw a all)

pub overflow_add-a : goal.overflow_add-a
overflow_add-a c =
    let b = chunk_end c.sizes_of-z.result (sizes_of c.args.keys.now.combo) (length c.args.cleartext.now) c.chunks-k.result c.loop-i.i (length c.args.out.now) c.sizes_of-z.ensures c.chunks-k.ensures (omega arith) (length c.clear-p.result.now) c.clear-p.ensures.1 c.requires.1 in
    omega (arith, b)

pub overflow_mul-a : goal.overflow_mul-a
overflow_mul-a c =
    let b = chunk_end c.sizes_of-z.result (sizes_of c.args.keys.now.combo) (length c.args.cleartext.now) c.chunks-k.result c.loop-i.i (length c.args.out.now) c.sizes_of-z.ensures c.chunks-k.ensures (omega arith) (length c.clear-p.result.now) c.clear-p.ensures.1 c.requires.1 in
    omega (arith, b)

pub overflow_add-e : goal.overflow_add-e
overflow_add-e c =
    let b = chunk_end c.sizes_of-z.result (sizes_of c.args.keys.now.combo) (length c.args.cleartext.now) c.chunks-k.result c.loop-i.i (length c.args.out.now) c.sizes_of-z.ensures c.chunks-k.ensures (omega arith) (length c.clear-p.result.now) c.clear-p.ensures.1 c.requires.1 in
    omega (arith, b)

pub overflow_add-e-in-loop-i : goal.overflow_add-e-in-loop-i
overflow_add-e-in-loop-i c =
    let b = chunk_end c.sizes_of-z.result (sizes_of c.args.keys.now.combo) (length c.args.cleartext.now) c.chunks-k.result c.loop-i.i (length c.args.out.now) c.sizes_of-z.ensures c.chunks-k.ensures (omega arith) (length c.clear-p.result.now) c.clear-p.ensures.1 c.requires.1 in
    omega (arith, b)

pub nonce-requires : goal.nonce-requires
nonce-requires c =
    let x = c.args in
    let e = nonce_end c.sizes_of-z.result (sizes_of x.keys.now.combo) (length x.cleartext.now) c.chunks-k.result c.loop-i.i (length x.nonces.now) c.sizes_of-z.ensures c.chunks-k.ensures (omega arith) c.requires.0 in
    omega (arith, e)

pub slice_bounds-seal-count : goal.slice_bounds-seal-count
slice_bounds-seal-count c =
    let b = chunk_end c.sizes_of-z.result (sizes_of c.args.keys.now.combo) (length c.args.cleartext.now) c.chunks-k.result c.loop-i.i (length c.args.out.now) c.sizes_of-z.ensures c.chunks-k.ensures (omega arith) (length c.clear-p.result.now) c.clear-p.ensures.1 c.requires.1 in
    omega (arith, b, c.loop-i.invariant.1)

pub slice_bounds-seal-start : goal.slice_bounds-seal-start
slice_bounds-seal-start c =
    let b = chunk_end c.sizes_of-z.result (sizes_of c.args.keys.now.combo) (length c.args.cleartext.now) c.chunks-k.result c.loop-i.i (length c.args.out.now) c.sizes_of-z.ensures c.chunks-k.ensures (omega arith) (length c.clear-p.result.now) c.clear-p.ensures.1 c.requires.1 in
    omega (arith, b, c.loop-i.invariant.1)

pub slice_bounds-seal-end : goal.slice_bounds-seal-end
slice_bounds-seal-end c =
    let b = chunk_end c.sizes_of-z.result (sizes_of c.args.keys.now.combo) (length c.args.cleartext.now) c.chunks-k.result c.loop-i.i (length c.args.out.now) c.sizes_of-z.ensures c.chunks-k.ensures (omega arith) (length c.clear-p.result.now) c.clear-p.ensures.1 c.requires.1 in
    omega (arith, b, c.loop-i.invariant.1)

pub seal-requires : goal.seal-requires
seal-requires c =
    let b = chunk_end c.sizes_of-z.result (sizes_of c.args.keys.now.combo) (length c.args.cleartext.now) c.chunks-k.result c.loop-i.i (length c.args.out.now) c.sizes_of-z.ensures c.chunks-k.ensures (omega arith) (length c.clear-p.result.now) c.clear-p.ensures.1 c.requires.1 in
    let z = c.sizes_of-z in
    let a = (32768 + z.result.overhead) * c.loop-i.i in
    let e = a + length c.clear-p.result.now + z.result.overhead in
    let t : e ≤ length c.loop-i.out = omega (arith, b, c.loop-i.invariant.1) in
    let n = (piece (e - a) a e c.loop-i.out (omega (arith, t)) (omega (arith, t))).1 in
    (c.nonce.ensures.1 ∙ ap (λ (s : Sizes). s.nonce) z.ensures, omega (arith, c.clear-p.ensures.1), n ∙ omega (arith, ap (λ (s : Sizes). s.overhead) z.ensures))

pub loop-i-preserved : goal.loop-i-preserved
loop-i-preserved c =
    let b = chunk_end c.sizes_of-z.result (sizes_of c.args.keys.now.combo) (length c.args.cleartext.now) c.chunks-k.result c.loop-i.i (length c.args.out.now) c.sizes_of-z.ensures c.chunks-k.ensures (omega arith) (length c.clear-p.result.now) c.clear-p.ensures.1 c.requires.1 in
    let x = c.args in
    let keys = x.keys.now in
    let i = c.loop-i.i in
    let z = c.sizes_of-z.result in
    let n = length x.cleartext.now in
    let a = (32768 + z.overhead) * i in
    let e = a + length c.clear-p.result.now + z.overhead in
    let t : e ≤ length c.loop-i.out = omega (arith, b, c.loop-i.invariant.1) in
    let k = c.chunks-k.ensures in
    let lp = c.clear-p.ensures.1 in
    let whole = c.out-1.given.1 in
    let seal = sealed_under keys.combo (cipher 14 keys.content.w.now) keys.mac.now keys.header_nonce.now in
    let d = add-mul 32768 z.overhead i in
    let start : min (32768 * i) n + z.overhead * i ≡ a = omega arith in
    let end : min (32768 * (i + 1)) n + z.overhead * (i + 1) ≡ e = omega arith in
    let last = c.seal.new.out in
    let q = c.seal.ensures ∙ ap₂ (seal i) c.nonce.ensures.0 c.clear-p.ensures.0 in
    let w = rw start at c.loop-i.invariant.2 in (
      omega arith,
      whole ∙ c.loop-i.invariant.1,
      rw end (turn (sizes_in z) seal c.chunks-k.result i x.nonces.now x.cleartext.now _ c.loop-i.out last a e (omega arith) (omega arith) t whole q w),
    )

pub returns : goal.returns
returns c =
    let x = c.args in
    let keys = x.keys.now in
    let i = c.loop-i.i in
    let z = c.sizes_of-z in
    let n = length x.cleartext.now in
    let k = c.chunks-k.result in
    let seal = sealed_under keys.combo (cipher 14 keys.content.w.now) keys.mac.now keys.header_nonce.now in
    let m : i ≡ k = omega arith in
    let long : length x.out.now ≡ n + z.result.overhead * k = c.requires.1 ∙ ap₂ (λ (s : Sizes) (j : ℕ). n + s.overhead * j) (sym z.ensures) (sym c.chunks-k.ensures) in
    let b = take_all (min (32768 * i) n + z.result.overhead * i) c.loop-i.out (omega (arith, long, ap (λ (j : ℕ). z.result.overhead * j) m, c.loop-i.invariant.1)) in
    let r = chunks_none (sizes_in z.result) seal k i x.nonces.now x.cleartext.now (omega arith) in
    sym (sym (ap₂ (λ (s : Sizes) (j : ℕ). chunks_from s seal 0 j x.nonces.now x.cleartext.now) z.ensures c.chunks-k.ensures) ∙ c.loop-i.invariant.2 ∙ rw (b, r) (append-nil c.loop-i.out))
