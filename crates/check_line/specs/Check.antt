-- The check of a vault file: its input, the line that it gives, and what the buffers hold afterwards.
-- Assumes nothing.
use Rattle.std.specs.Prelude.{cond, List, ℕ, ltb, length, take, drop, replicate}
use Rattle.octets.specs.Bytes.{placed}
use Rattle.octets.specs.Rows.{refused, End, ended}
use Rattle.frame.specs.Frame.{open_file}
use Rattle.siv_gcm.specs.SivGcm.{codec}
use Rattle.check_line.specs.Line.{line_of}

-- The input is the encryption master key, the MAC master key, and the file. What checking it ends in, with `room` for the cleartext:
-- fewer bytes than the keys have is row 1, more than 65,536 in all row 4; else it ends as opening the file does.
unfoldable pub check_vault : List ℕ → List ℕ → End
check_vault input room =
    cond (ltb (length input) 64) (ended (refused 1) room)
    (cond (ltb 65536 (length input)) (ended (refused 4) room)
    (open_file (codec (take 32 input) (take 32 (drop 32 input))) (drop 64 input) room))

-- The line for an input, with as much room as the input has bytes.
unfoldable pub check_line : List ℕ → List ℕ
check_line input = line_of (check_vault input (replicate (length input) 0)).outcome

-- No line is longer.
abbrev pub longest : ℕ
longest = 25

-- What a call leaves: how many bytes of the line it wrote, and what the buffers hold.
pub record Checked : Type 0 where
  pub written : ℕ
  pub room : List ℕ
  pub line : List ℕ

abbrev pub checked : ℕ → List ℕ → List ℕ → Checked
checked n r l = record { written = n; room = r; line = l }

-- What checking the input leaves, where `room` is no shorter than the input, and `line` no shorter than the longest line: the line at the
-- front of `line`, and in `room` the cleartext, if the file opens.
unfoldable pub check : List ℕ → List ℕ → List ℕ → Checked
check input room line =
    checked (length (check_line input)) (check_vault input room).buffer (placed (check_line input) 0 line)
