-- `row_number`: the number of each refusal is that of its row.
-- Assumes nothing.
use mathlib.Core.Path.{◌≡◌, sym, ap}
use Rattle.octets.specs.Rows.{number}
use Rattle.answer.specs.declared.Refusal.{Refusal}
use Rattle.answer.specs.Meaning.{row}
use Rattle.answer.proofs.row_number.Goals as goal

-- The refusal is of this variant.
of_variant : {r variant : Refusal} → r ≡ variant → number (row variant) ≡ number (row r)
of_variant e = sym (ap (λ (x : Refusal). number (row x)) e)

pub returns-in-KeyOrNonceSize : goal.returns-in-KeyOrNonceSize
returns-in-KeyOrNonceSize c = of_variant c.in-KeyOrNonceSize.is

pub returns-in-DirectoryId : goal.returns-in-DirectoryId
returns-in-DirectoryId c = of_variant c.in-DirectoryId.is

pub returns-in-Name : goal.returns-in-Name
returns-in-Name c = of_variant c.in-Name.is

pub returns-in-Length : goal.returns-in-Length
returns-in-Length c = of_variant c.in-Length.is

pub returns-in-Text : goal.returns-in-Text
returns-in-Text c = of_variant c.in-Text.is

pub returns-in-Range : goal.returns-in-Range
returns-in-Range c = of_variant c.in-Range.is

pub returns-in-Room : goal.returns-in-Room
returns-in-Room c = of_variant c.in-Room.is

pub returns-in-RepeatedNonce : goal.returns-in-RepeatedNonce
returns-in-RepeatedNonce c = of_variant c.in-RepeatedNonce.is

pub returns-in-Header : goal.returns-in-Header
returns-in-Header c = of_variant c.in-Header.is

pub returns-in-Chunk : goal.returns-in-Chunk
returns-in-Chunk c = of_variant c.in-Chunk.is

pub returns-in-HashName : goal.returns-in-HashName
returns-in-HashName c = of_variant c.in-HashName.is

pub returns-in-SyntheticIv : goal.returns-in-SyntheticIv
returns-in-SyntheticIv c = of_variant c.in-SyntheticIv.is

pub returns-in-Label : goal.returns-in-Label
returns-in-Label c = of_variant c.in-Label.is

pub returns-in-Segment : goal.returns-in-Segment
returns-in-Segment c = of_variant c.in-Segment.is

pub returns-in-Alg : goal.returns-in-Alg
returns-in-Alg c = of_variant c.in-Alg.is

pub returns-in-Signature : goal.returns-in-Signature
returns-in-Signature c = of_variant c.in-Signature.is

pub returns-in-Format : goal.returns-in-Format
returns-in-Format c = of_variant c.in-Format.is

pub returns-in-Combo : goal.returns-in-Combo
returns-in-Combo c = of_variant c.in-Combo.is

pub returns-in-Threshold : goal.returns-in-Threshold
returns-in-Threshold c = of_variant c.in-Threshold.is

pub returns-in-CheckValue : goal.returns-in-CheckValue
returns-in-CheckValue c = of_variant c.in-CheckValue.is
