-- A range read that shares no byte with a mended range ends as before the mend.
-- Assumes nothing.
use mathlib.Core.Path.{◌≡◌, refl, sym, ap, ◌∙◌}
use mathlib.Core.Logic.{⊎_elim}
use mathlib.Core.List.{List, [], ◌∷◌, ◌++◌}
use Prim.Native.Nat.{ℕ, ◌+◌, ◌≤◌, ◌<◌}
use native.Mathlib.Omega.{arith}
use lib.ListN.{length, take, drop, get_or, length-drop}
use lib.Seq.{length-take-le, get_or-take, get_or-drop, ext_get_or}
use Rattle.octets.specs.Bytes.{filled, placed}
use Rattle.octets.specs.Rows.{Outcome, done, refused, refused_at, answer, ending}
use Rattle.octets.proofs.Lists.{le_or_lt}
use Rattle.octets.proofs.Placed.{placed-length, get_d_ahead, get_d_behind}
use Rattle.frame.specs.Frame.{Codec, clear_of, range_rows, read_range}
use Rattle.frame.specs.Laws.{Laws}
use Rattle.frame.proofs.Success.{reads}
use Rattle.mend_spec.proofs.After.{within, clear_long, mends_of, mended_reads}
use Rattle.neighbours.specs.Neighbours.{NoneShared}
use Rattle.neighbours.specs.Statements.{RangesStay}

-- a part that shares no place with the replaced part stays
part_stays : (new clear : List ℕ) (at from count : ℕ) → at + length new ≤ length clear → from + count ≤ length clear → NoneShared from count at (length new)
    → take count (drop from (placed new at clear)) ≡ take count (drop from clear)
part_stays new clear at from count w v none = ext_get_or 0 p q (length-take-le count (drop from (placed new at clear)) lp ∙ sym lq) (λ k l. go k (rw (length-take-le count (drop from (placed new at clear)) lp) at l))
  where
    p : List ℕ
    p = take count (drop from (placed new at clear))

    q : List ℕ
    q = take count (drop from clear)

    lp : count ≤ length (drop from (placed new at clear))
    lp = rw (length-drop, placed-length new clear at w) (omega arith)

    lq : length q ≡ count
    lq = length-take-le count (drop from clear) (rw length-drop (omega arith))

    byte : (l : List ℕ) (k : ℕ) → k < count → get_or (take count (drop from l)) k 0 ≡ get_or l (from + k) 0
    byte l k u = get_or-take count (drop from l) k 0 u ∙ get_or-drop from l k 0

    stays : (k : ℕ) → k < count → get_or (placed new at clear) (from + k) 0 ≡ get_or clear (from + k) 0
    stays k u =
        ⊎_elim (λ (x : at ≤ from + k).
        ⊎_elim (λ (y : at + length new ≤ from + k). get_d_behind new clear at (omega arith) (from + k) y)
        (λ (y : from + k < at + length new). absurd (none (from + k) (omega arith) (omega arith) (omega (arith, x)) (omega (arith, y))))
        (le_or_lt (at + length new) (from + k)))
        (λ (x : from + k < at). get_d_ahead new clear at (from + k) x (omega arith))
        (le_or_lt at (from + k))

    go : (k : ℕ) → k < count → get_or p k 0 ≡ get_or q k 0
    go k u = byte (placed new at clear) k u ∙ stays k u ∙ sym (byte clear k u)

pub ranges_stay : (C : Codec) → Laws C → RangesStay C
unfolding read_range
ranges_stay C 𝓛 f at new nonces m from count out none =
    mended_reads C 𝓛 f at new nonces m from count out ∙ go (answer (range_rows C f from count (length out)) (done (count ∷ []))) refl
  where
    go : (o : Outcome) → answer (range_rows C f from count (length out)) (done (count ∷ [])) ≡ o
        → ending o (filled (drop from (placed new at (clear_of C f))) count out) out ≡ ending o (filled (drop from (clear_of C f)) count out) out
    go (done l) e =
        let o = mends_of C 𝓛 f at new nonces m in
        let a = within C 𝓛 f at new nonces m.file-bytes m.new_bytes m.nonces-bytes o in
        let b = clear_long C 𝓛 f at new nonces m.file-bytes m.new_bytes m.nonces-bytes o in
        let c = (reads C f from count (length out) l e).inside.within in
        let d : from + count ≤ length (clear_of C f) = omega (arith, b, c) in
        ap (λ (x : List ℕ). ending (done l) (x ++ drop count out) out) (part_stays new (clear_of C f) at from count a d none)
    go (refused row) e = refl
    go (refused_at row i) e = refl
