-- A refusal is no success: what goes by an outcome goes by a row, with a number or without.
-- Assumes nothing.
use Prim.Native.Nat.{ℕ}
use mathlib.Core.Path.{◌≡◌, refl}
use mathlib.Core.Logic.{◌⊎◌, inl, inr}
use Rattle.octets.specs.Rows.{refused, refused_at, number}
use Rattle.answer.specs.Meaning.{row}
use Rattle.answer.specs.declared.Refusal.{Refusal}
use Rattle.answer.specs.declared.Refusal.TheVariants.{KeyOrNonceSize, DirectoryId, Name, Length, Text, Range, Room, RepeatedNonce, Header, Chunk, HashName, SyntheticIv, Label, Segment, Alg, Signature, Format, Combo, Threshold, CheckValue}

pub refusal : (x : Refusal) → (row x ≡ refused (number (row x))) ⊎ ((i : ℕ) × (row x ≡ refused_at (number (row x)) i))
refusal KeyOrNonceSize = inl refl
refusal DirectoryId = inl refl
refusal Name = inl refl
refusal Length = inl refl
refusal (Text i) = inr (i, refl)
refusal Range = inl refl
refusal Room = inl refl
refusal RepeatedNonce = inl refl
refusal Header = inl refl
refusal (Chunk i) = inr (i, refl)
refusal HashName = inl refl
refusal SyntheticIv = inl refl
refusal Label = inl refl
refusal (Segment i) = inr (i, refl)
refusal Alg = inl refl
refusal Signature = inl refl
refusal Format = inl refl
refusal Combo = inl refl
refusal Threshold = inl refl
refusal CheckValue = inl refl
