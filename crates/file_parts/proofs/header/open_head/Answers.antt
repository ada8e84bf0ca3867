-- `open_head`: the first bytes of the file, as many as a header of the combo has.
-- Assumes nothing.
use Prim.Native.Nat.{ℕ}
use mathlib.Core.Path.{◌≡◌, refl, sym, ap, ◌∙◌}
use mathlib.Core.Bool.{Bool, true, false, cond}
use native.Mathlib.Omega.{arith}
use mathlib.Core.List.{List}
use lib.ListN.{length, take}
use Rattle.std.specs.Prelude.{Option, Some, None, MatchOption}
use lib.Seq.{length-take-le}
use Rattle.frame.specs.Layout.{Sizes, right_length, header_at}
use Rattle.frame.specs.Frame.{payload_of}
use Rattle.frame.proofs.Lengths.{file-clear}
use Rattle.vault.specs.declared.record.Combo.{Combo}
use Rattle.vault.specs.Vault.{sizes_of, codec_with}
use Rattle.file_parts.proofs.header.open_head.Goals as goal

-- the file holds a header, of the size that the code has in z
front : (k : Combo) (z : Sizes) (f : List ℕ) → z ≡ sizes_of k → right_length (sizes_of k) (length f) ≡ true → (length (take z.header f) ≡ z.header) × (z.header ≡ (sizes_of k).header)
front k z f e r =
    let s = ap (λ (y : Sizes). y.header) e in
    (length-take-le z.header f (omega (arith, s, file-clear (sizes_of k) (length f) r)), s)

pub slice_bounds-open_header-end : goal.slice_bounds-open_header-end
slice_bounds-open_header-end c = let x = c.args in sym (front x.combo _ x.file.now c.sizes_of-h.ensures c.requires.enc_len.1).0

pub open_header-requires : goal.open_header-requires
open_header-requires c =
    let x = c.args in
    let l = front x.combo _ x.file.now c.sizes_of-h.ensures c.requires.enc_len.1 in
    record { enc_len = (c.requires.enc_len.0, l.0 ∙ l.1) }

-- what a payload given for a good header says
told : (b : Bool) (p : List ℕ) (r : Option (List ℕ)) → r ≡ cond b (Some p) None → MatchOption r (b ≡ false) (λ q. (b ≡ true) × (q ≡ p))
told true p r e = rw e (refl, refl)
told false p r e = rw e refl

pub returns : goal.returns
unfolding header_at
returns c =
    let x = c.args in
    let C = codec_with x.combo x.enc.now x.mac.now in
    told _ _ _ (c.open_header.ensures ∙ ap (λ (z : Sizes). cond (C.header_good (take z.header x.file.now)) (Some (payload_of (C.head_of (take z.header x.file.now)))) None) c.sizes_of-h.ensures)
