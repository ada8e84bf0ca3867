-- `xor_end`: the string is copied, and the block added to the part that is its end.
-- Assumes nothing.
use Prim.Native.Nat.{ℕ, ◌-◌}
use mathlib.Core.Path.{◌≡◌, refl, ◌∙◌, ap, ap₂}
use mathlib.Core.List.{List, ◌++◌, append-nil}
use native.Mathlib.Omega.{arith}
use lib.ListN.{length, take, drop, length-drop}
use Rattle.octets.specs.Words.{word_bytes}
use Rattle.octets.specs.Xors.{xors}
use Rattle.octets.proofs.Lists.{part-rest, placed_all, drop_all}
use Rattle.aes.specs.Blocks.{state}
use Rattle.siv.specs.Siv as spec
use Rattle.siv.proofs.s2v.xor_end.Goals as goal

ended : (s d xs : List ℕ) {part b : List ℕ} → xs ≡ s → b ≡ d → length d ≡ 16 → part ≡ xors (take (length xs - (length s - 16)) (drop (length s - 16) xs)) b
    → take (length s - 16) xs ++ (part ++ drop (length xs - (length s - 16)) (drop (length s - 16) xs)) ≡ spec.xorend s d
unfolding spec.xorend
ended s d xs {part} {b} e f l p =
    let lo = length s - 16 in
    let k : lo ≡ length s - length d = omega arith in
    let r : drop (length s - lo) (drop lo s) ≡ _ = drop_all (length s - lo) (drop lo s) (rw length-drop (omega arith)) in
    ap₂ (λ (x y : List ℕ). take lo x ++ (y ++ drop (length x - lo) (drop lo x))) e
    (p ∙ ap₂ (λ (x y : List ℕ). xors (take (length x - lo) (drop lo x)) y) e f ∙ ap (λ (x : List ℕ). xors x d) (part-rest s (length s) lo refl))
    ∙ ap (λ (x : List ℕ). take lo s ++ (xors (drop lo s) d ++ x)) r ∙ ap (λ (x : List ℕ). take lo s ++ x) (append-nil (xors (drop lo s) d))
    ∙ ap (λ (n : ℕ). take n s ++ xors (drop n s) d) k

pub returns : goal.returns
unfolding word_bytes
returns c =
    let x = c.args in
    ended x.s.now (state x.d) c.copy_at.new.dst (c.copy_at.ensures ∙ placed_all x.s.now x.out.now (omega arith))
    c.to_bytes.ensures refl c.xor_into.ensures
