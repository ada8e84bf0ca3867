-- What is stated of neighbouring reads, over any cipher combo that meets `frame/Laws.PlainSize`, and of reads beside a mended range, over one that meets `frame/Laws`.
-- Assumes nothing.
use Rattle.std.specs.Prelude.{List, ℕ, length}
use Rattle.frame.specs.Layout.{Inside}
use Rattle.frame.specs.Frame.{Codec, read_range}
use Rattle.mend_spec.specs.Statements.{Mending, after}
use Rattle.reader_spec.specs.Reader.{Reader, read_through}
use Rattle.neighbours.specs.Neighbours.{NeighboursAddUp, Stay}

module _ (C : Codec) where
  open C use {sizes as z}

  -- Neighbouring range reads of any byte string add up.
  abbrev pub RangesAddUp : Type 0
  RangesAddUp = (f : List ℕ) → NeighboursAddUp (read_range C f) (Inside z (length f))

  -- And so do neighbouring reads through any reader.
  abbrev pub ThroughAddUp : Type 0
  ThroughAddUp = (r : Reader) → NeighboursAddUp (read_through C r) (Inside z (length r.file))

  -- After a mend that succeeded, every range read that shares no byte with the mended range ends as before.
  abbrev pub RangesStay : Type 0
  RangesStay =
      (f : List ℕ) (from : ℕ) (new nonces : List ℕ) → Mending C f from new nonces
      → Stay (read_range C f) (read_range C (after C f from new nonces)) from (length new)
