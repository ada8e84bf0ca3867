-- `mend_under`: every covering tag or MAC is tested under the expanded content key, and then the chunks are sealed again.
-- Assumes nothing.
use Prim.Native.Nat.{ℕ, ◌+◌, ◌-◌, ◌/◌, ◌≤◌, ◌<◌}
use mathlib.Core.Path.{◌≡◌, sym, ap, ◌∙◌}
use mathlib.Core.Bool.{true}
use mathlib.Core.List.{List, [], ◌∷◌}
use native.Mathlib.Omega.{arith}
use lib.ListN.{length}
use Rattle.octets.specs.Rows.{done, refused_at, ended}
use Rattle.aes_spec.specs.Cipher.{cipher}
use Rattle.frame.specs.Layout.{covering, chunk_at}
use Rattle.frame.proofs.Pieces.{covers_end, below_good}
use Rattle.vault.specs.Vault.{sizes_of}
use Rattle.vault.specs.Under.{good_under}
use Rattle.file_mend.specs.Under.{mended_under}
use Rattle.file_mend.proofs.Under.{lowest_under, under_bad, under_good}
use Rattle.file_mend.proofs.inside.mend_under.Goals as goal

pub lowest_bad-requires : goal.lowest_bad-requires
lowest_bad-requires c =
    let e = c.end_chunk-e in
    let x = c.args in
    (c.requires.0, covers_end x.n x.from (length x.new.now) e.result e.ensures c.requires.1, omega (arith, e.ensures))

pub returns-in-Some : goal.returns-in-Some
returns-in-Some c k w =
    let x = c.args in
    let y = x.keys.now in
    let e = c.end_chunk-e.ensures in
    let i = c.in-Some.ensures in
    let f = lowest_under y.combo y.content.w.now y.mac.now y.header_nonce.now k x.file.now x.from (length x.new.now) c.end_chunk-e.result e w in
    ap (λ (j : ℕ). ended (refused_at 10 j) x.file.now) (sym i.0 ∙ f)
    ∙ sym (under_bad y.combo y.mac.now y.header_nonce.now k x.file.now x.from x.new.now x.nonces.now (omega (arith, f, e, i)))

pub mend_chunks-requires : goal.mend_chunks-requires
mend_chunks-requires c =
    let e = c.end_chunk-e in
    let x = c.args in
    let y = x.keys.now in
    let z = sizes_of y.combo in
    let g = good_under y.combo (cipher 14 y.content.w.now) y.mac.now y.header_nonce.now in
    let tagged : (j : ℕ) → x.from / 32768 ≤ j → j < x.from / 32768 + covering x.from (length x.new.now) → g j (chunk_at z x.file.now j) ≡ true =
    λ j l u. below_good z g x.file.now (x.from / 32768) (e.result - x.from / 32768) j l (omega (arith, e.ensures, c.in_default.ensures, u)) in
    record { nonces_len = c.requires.2; file_len = (c.requires.0, c.requires.1); by_index = tagged }

pub returns : goal.returns
returns c k w =
    let x = c.args in
    let y = x.keys.now in
    let e = c.end_chunk-e.ensures in
    let f = lowest_under y.combo y.content.w.now y.mac.now y.header_nonce.now k x.file.now x.from (length x.new.now) c.end_chunk-e.result e w in
    ap (ended (done (length x.new.now ∷ [])))
    (c.mend_chunks.ensures ∙ ap (λ (p : List ℕ → List ℕ). mended_under y.combo p y.mac.now y.header_nonce.now x.file.now x.from x.new.now x.nonces.now) w)
    ∙ sym (under_good y.combo y.mac.now y.header_nonce.now k x.file.now x.from x.new.now x.nonces.now (omega (arith, f, e, c.in_default.ensures)))
