-- `read_under`: every covering tag or MAC is tested under the expanded content key, and then the cleartext is written.
-- Assumes nothing.
use Prim.Native.Nat.{ℕ, ◌+◌, ◌-◌, ◌/◌, ◌≤◌, ◌<◌}
use mathlib.Core.Path.{◌≡◌, sym, ap, ◌∙◌}
use mathlib.Core.Bool.{true}
use mathlib.Core.List.{List, [], ◌∷◌}
use native.Mathlib.Omega.{arith}
use lib.ListN.{length, take, drop}
use lib.Seq.{length-take-le}
use Rattle.octets.specs.Bytes.{filled}
use Rattle.octets.specs.Rows.{done, refused_at, ended}
use Rattle.aes_spec.specs.Cipher.{cipher}
use Rattle.frame.specs.Layout.{Sizes, covering, file_length, chunk_at, all_parts}
use Rattle.frame.proofs.Pieces.{covers_end, below_good}
use Rattle.vault.specs.declared.record.Combo.{Combo}
use Rattle.vault.specs.Vault.{sizes_of}
use Rattle.vault.specs.Under.{good_under}
use Rattle.vault.proofs.Combos.{nonce-within}
use Rattle.file_parts.specs.Under.{plain_under}
use borrow.Author.Rules.{rules}
use Rattle.file_range.proofs.Ends.{lowest_under, under_bad, under_good}
use Rattle.file_range.proofs.under.read_under.Goals as goal

-- the file holds a nonce
held : (k : Combo) (l n : ℕ) → l ≡ file_length (sizes_of k) n → (sizes_of k).nonce ≤ l
held k l n h = omega (arith, nonce-within k, h)

-- of its nonce's size
nonce_long : (k : Combo) (s n : ℕ) (f : List ℕ) → s ≡ (sizes_of k).nonce → length f ≡ file_length (sizes_of k) n → (s ≤ length f) × (length (take s f) ≡ s)
nonce_long k s n f e h =
    let l : s ≤ length f = omega (arith, e, held k (length f) n h) in
    (l, length-take-le s f l)

pub invariant_of-content : goal.invariant_of-content
invariant_of-content c = record { keyed = c.key_tables.ensures.0 }

pub invariant_of-keys : goal.invariant_of-keys
invariant_of-keys c =
    let x = c.args in
    let e = ap (λ (z : Sizes). z.nonce) c.sizes_of-s.ensures in
    record { nonce_size = (nonce_long x.combo c.sizes_of-s.result.nonce x.n x.file.now e c.requires.key_len.1).1 ∙ e }

pub lowest_bad-requires : goal.lowest_bad-requires
lowest_bad-requires c =
    let e = c.end_chunk-e in
    let x = c.args in
    (c.requires.key_len.1, covers_end x.n x.from x.count e.result e.ensures c.requires.key_len.2, omega (arith, e.ensures))

pub returns-in-Some : goal.returns-in-Some
returns-in-Some c =
    let x = c.args in
    let e = c.end_chunk-e in
    let i = c.in-Some.ensures in
    let f = lowest_under x.combo c.key_tables.result.0 x.mac.now x.key.now x.file.now c.sizes_of-s.result.nonce x.from x.count e.result (ap (λ (z : Sizes). z.nonce) c.sizes_of-s.ensures) e.ensures c.key_tables.ensures.1 in
    ap (λ (j : ℕ). ended (refused_at 10 j) x.out.now) (sym i.0 ∙ f)
    ∙ sym (under_bad x.combo x.mac.now _ x.key.now x.file.now x.from x.count x.out.now (omega (arith, f, e.ensures, i)))

pub write_range-requires : goal.write_range-requires
write_range-requires c =
    let e = c.end_chunk-e in
    let x = c.args in
    let z = sizes_of x.combo in
    let p = c.key_tables.result.0 in
    let s = c.sizes_of-s.result.nonce in
    let tagged : (j : ℕ) → x.from / 32768 ≤ j → j < x.from / 32768 + covering x.from x.count → good_under x.combo (cipher 14 p) x.mac.now (take z.nonce x.file.now) j (chunk_at z x.file.now j) ≡ true =
    λ j l u.
    ap (λ (y : Sizes). good_under x.combo (cipher 14 p) x.mac.now (take y.nonce x.file.now) j (chunk_at z x.file.now j)) (sym c.sizes_of-s.ensures)
    ∙ below_good z (good_under x.combo (cipher 14 p) x.mac.now (take s x.file.now)) x.file.now (x.from / 32768) (e.result - x.from / 32768) j l
    (omega (arith, e.ensures, c.in_default.ensures, u)) in record { in_bounds = search rules; file_len = (c.requires.key_len.1, c.requires.key_len.2, c.requires.key_len.3); by_index = tagged }

pub returns : goal.returns
returns c =
    let x = c.args in
    let e = c.end_chunk-e in
    let f = lowest_under x.combo c.key_tables.result.0 x.mac.now x.key.now x.file.now c.sizes_of-s.result.nonce x.from x.count e.result (ap (λ (z : Sizes). z.nonce) c.sizes_of-s.ensures) e.ensures c.key_tables.ensures.1 in
    ap (ended (done (x.count ∷ []))) (c.write_range.ensures
    ∙ ap (λ (p : List ℕ → List ℕ). filled (drop x.from (all_parts (sizes_of x.combo) (plain_under x.combo p) x.file.now)) x.count x.out.now) c.key_tables.ensures.1)
    ∙ sym (under_good x.combo x.mac.now _ x.key.now x.file.now x.from x.count x.out.now (omega (arith, f, e.ensures, c.in_default.ensures)))
