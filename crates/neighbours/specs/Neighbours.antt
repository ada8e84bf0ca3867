-- Neighbouring reads, and reads before and after a range was replaced: what is said of any way to read.
-- Assumes nothing.
use Rattle.std.specs.Prelude.{◌≡◌, ◌↔◌, List, ◌++◌, ℕ, ◌+◌, ◌-◌, ◌≤◌, ◌<◌, length, take, drop}
use Rattle.octets.specs.Rows.{End, Succeeded}

-- A way to read: `read from count out` is what reading count bytes from `from` on into the buffer `out` ends in.
abbrev pub Read : Type 0
Read = ℕ → ℕ → List ℕ → End

-- ---- neighbours

-- What is said of the read from a to b, the read from b to c and the read from a to c, each into a buffer of its own that has room.
abbrev pub OfThree : (End → End → End → Type 0) → Read → ℕ → ℕ → ℕ → Type 0
OfThree Says read a b c =
    (out₁ out₂ out₃ : List ℕ) → b - a ≤ length out₁ → c - b ≤ length out₂ → c - a ≤ length out₃
    → Says (read a (b - a) out₁) (read b (c - b) out₂) (read a (c - a) out₃)

-- Two neighbouring reads both succeed exactly when the read of both ranges does; and then their bytes, joined, are its bytes.
abbrev pub AddUp : Read → ℕ → ℕ → ℕ → Type 0
AddUp read a b c =
    OfThree
    (λ first second whole.
    ((Succeeded first × Succeeded second) ↔ Succeeded whole)
    × (Succeeded whole → take (b - a) first.buffer ++ take (c - b) second.buffer ≡ take (c - a) whole.buffer))
    read a b c

-- The read of both ranges is refused by the same row, with the same chunk number, as the first read; or, where that succeeds, as the second.
abbrev pub RefusedAlike : Read → ℕ → ℕ → ℕ → Type 0
RefusedAlike read a b c =
    OfThree
    (λ first second whole.
    ((Succeeded first → ⊥) → whole.outcome ≡ first.outcome)
    × (Succeeded first → (Succeeded second → ⊥) → whole.outcome ≡ second.outcome))
    read a b c

-- In one buffer: the second read is lent what stands behind the bytes of the first. Where the read from a to c succeeds, the two together leave the buffer that it leaves.
abbrev pub FillUp : Read → ℕ → ℕ → ℕ → Type 0
FillUp read a b c =
    (out : List ℕ) → Succeeded (read a (c - a) out) →
    let begun = (read a (b - a) out).buffer in
    take (b - a) begun ++ (read b (c - b) (drop (b - a) begun)).buffer ≡ (read a (c - a) out).buffer

-- Neighbouring reads add up, inside or not, also in one buffer; and where the range of both is inside, as `Inside from count` says, they are refused alike. (Where only c is
-- outside, row 6 hides row 9 or 10 of the first.)
abbrev pub NeighboursAddUp : Read → (ℕ → ℕ → Type 0) → Type 0
NeighboursAddUp read Inside =
    (a b c : ℕ) → a ≤ b → b ≤ c → AddUp read a b c × FillUp read a b c × (Inside a (c - a) → RefusedAlike read a b c)

-- ---- beside a range

-- No byte is among the count bytes from `from` on and also among the `number` bytes from `at` on.
abbrev pub NoneShared : ℕ → ℕ → ℕ → ℕ → Type 0
NoneShared from count at number = (p : ℕ) → from ≤ p → p < from + count → at ≤ p → p < at + number → ⊥

-- Two ways to read: from an equal buffer, every read that shares no byte with the `number` bytes from `at` on ends the same in both, answer (row and chunk number too) and buffer.
-- Any range, inside or not, and any room.
abbrev pub Stay : Read → Read → ℕ → ℕ → Type 0
Stay one other at number = (from count : ℕ) (out : List ℕ) → NoneShared from count at number → other from count out ≡ one from count out
