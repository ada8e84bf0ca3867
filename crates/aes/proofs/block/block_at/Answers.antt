-- `block_at`: sixteen bytes, written out.
-- Assumes nothing.
use Prim.Native.Nat.{ℕ, ◌+◌, ◌≤◌}
use mathlib.Core.Path.{◌≡◌, ◌∙◌, sym}
use mathlib.Core.List.{List, [], ◌∷◌}
use native.Mathlib.Nat.{add-zero, add_assoc}
use native.Mathlib.Omega.{arith}
use lib.ListN.{length, take, drop, get_or, length-drop}
use lib.Seq.{get_or-drop}
use Rattle.octets.proofs.Lists.{take-tab}
use Rattle.octets.proofs.Words.{bytes_are}
use Rattle.aes.proofs.block.block_at.Goals as goal

window : (s : List ℕ) (at : ℕ) → at + 16 ≤ length s → take 16 (drop at s)
    ≡ get_or s at 0 ∷ get_or s (at + 1) 0 ∷ get_or s (at + 2) 0 ∷ get_or s (at + 3) 0
    ∷ get_or s (at + 4) 0 ∷ get_or s (at + 4 + 1) 0 ∷ get_or s (at + 4 + 2) 0 ∷ get_or s (at + 4 + 3) 0
    ∷ get_or s (at + 8) 0 ∷ get_or s (at + 8 + 1) 0 ∷ get_or s (at + 8 + 2) 0 ∷ get_or s (at + 8 + 3) 0
    ∷ get_or s (at + 12) 0 ∷ get_or s (at + 12 + 1) 0 ∷ get_or s (at + 12 + 2) 0 ∷ get_or s (at + 12 + 3) 0 ∷ []
window s at h = take-tab 16 (drop at s) (simp length-drop (omega arith)) ∙ simp (get_or-drop, add-zero, add_assoc)

pub returns : goal.returns
returns c =
    bytes_are c.word_at.ensures.has_bytes c.word_at-2.ensures.has_bytes c.word_at-3.ensures.has_bytes c.word_at-4.ensures.has_bytes
    ∙ sym (window c.args.s.now c.args.at c.requires)
