-- What an answer of the code means: each refusal has its row.
-- Assumes nothing.
use Rattle.std.specs.Prelude.{ℕ, List, [], ◌∷◌, Result, Ok, Err}
use Rattle.octets.specs.Rows.{Outcome, done, refused, refused_at}
use Rattle.answer.specs.declared.Refusal.{Refusal}
use Rattle.answer.specs.declared.Refusal.TheVariants.{KeyOrNonceSize, DirectoryId, Name, Length, Text, Range, Room, RepeatedNonce, Header, Chunk, HashName, SyntheticIv, Label, Segment, Alg, Signature, Format, Combo, Threshold, CheckValue}
use Rattle.answer.specs.declared.StoredName.{StoredName}
use Rattle.answer.specs.declared.StoredName.TheVariants.{Plain, Shortened}

abbrev pub row : Refusal → Outcome
row KeyOrNonceSize = refused 1
row DirectoryId = refused 2
row Name = refused 3
row Length = refused 4
row (Text i) = refused_at 5 i
row Range = refused 6
row Room = refused 7
row RepeatedNonce = refused 8
row Header = refused 9
row (Chunk i) = refused_at 10 i
row HashName = refused 11
row SyntheticIv = refused 12
row Label = refused 13
row (Segment i) = refused_at 13 i
row Alg = refused 14
row Signature = refused 15
row Format = refused 16
row Combo = refused 17
row Threshold = refused 18
row CheckValue = refused 20

-- Of a call that answers a length.
abbrev pub meaning : Result ℕ Refusal → Outcome
meaning (Ok n) = done (n ∷ [])
meaning (Err r) = row r

-- Of the header opener, which answers the reserved bytes: on success the length of the content key, and behind it those bytes.
abbrev pub header_meaning : Result (List ℕ) Refusal → Outcome
header_meaning (Ok bytes) = done (32 ∷ bytes)
header_meaning (Err r) = row r

-- One length: the full name is stored; two: its hash name is.
abbrev pub name_meaning : Result StoredName Refusal → Outcome
name_meaning (Ok (Plain n)) = done (n ∷ [])
name_meaning (Ok (Shortened stored full)) = done (stored ∷ full ∷ [])
name_meaning (Err r) = row r
