-- What the theorems say of the line.
-- Assumes nothing.
use Rattle.std.specs.Prelude.{◌≡◌, ◌↔◌, List, [], ◌∷◌, ◌++◌, ℕ, ◌+◌, ◌-◌, ◌*◌, ◌≤◌, ◌<◌, length, get_or, replicate}
use Rattle.octets.specs.Bytes.{Bytes}
use Rattle.octets.specs.Rows.{done, refused, refused_at}
use Rattle.frame.specs.Layout.{chunks}
use Rattle.frame.specs.Frame.{Choice, Fits, file_of, open_file}
use Rattle.siv_gcm.specs.SivGcm.{siv_gcm, codec}
use Rattle.vault.specs.declared.record.Combo.TheVariants.{SivGcm}
use Rattle.vault.specs.Vault.{vault_with, Keys}
use Rattle.check_line.specs.Line.{decimal, opened_line, line_of}
use Rattle.check_line.specs.Check.{check_vault, check_line, longest}

-- The number that digits stand for, after those that stand for n.
abbrev pub value : ℕ → List ℕ → ℕ
value n [] = n
value n (d ∷ s) = value (10 * n + (d - 48)) s

-- The decimal digits of n stand for n, there is at least one, each is '0' to '9', and the first is '0' for the number 0 only.
abbrev pub DecimalReads : Type 0
DecimalReads =
    (n : ℕ)
    → (value 0 (decimal n) ≡ n) × (1 ≤ length (decimal n))
    × ((i : ℕ) → i < length (decimal n) → (48 ≤ get_or (decimal n) i 0) × (get_or (decimal n) i 0 ≤ 57))
    × (get_or (decimal n) 0 0 ≡ 48 → n ≡ 0)

-- Worked examples: "opened 0 in 0 chunks", "opened 32769 in 2 chunks", "refused 4", "refused 10 at 1"; and the line for keys of zeros and
-- nothing more, "refused 4".
abbrev pub Lines : Type 0
Lines =
    (line_of (done (0 ∷ [])) ≡ 111 ∷ 112 ∷ 101 ∷ 110 ∷ 101 ∷ 100 ∷ 32 ∷ 48 ∷ 32 ∷ 105 ∷ 110 ∷ 32 ∷ 48 ∷ 32 ∷ 99 ∷ 104 ∷ 117 ∷ 110 ∷ 107 ∷ 115 ∷ 10 ∷ [])
    × (line_of (done (32769 ∷ []))
    ≡ 111 ∷ 112 ∷ 101 ∷ 110 ∷ 101 ∷ 100 ∷ 32 ∷ 51 ∷ 50 ∷ 55 ∷ 54 ∷ 57 ∷ 32 ∷ 105 ∷ 110 ∷ 32 ∷ 50 ∷ 32 ∷ 99 ∷ 104 ∷ 117 ∷ 110 ∷ 107 ∷ 115 ∷ 10 ∷ [])
    × (line_of (refused 4) ≡ 114 ∷ 101 ∷ 102 ∷ 117 ∷ 115 ∷ 101 ∷ 100 ∷ 32 ∷ 52 ∷ 10 ∷ [])
    × (line_of (refused_at 10 1) ≡ 114 ∷ 101 ∷ 102 ∷ 117 ∷ 115 ∷ 101 ∷ 100 ∷ 32 ∷ 49 ∷ 48 ∷ 32 ∷ 97 ∷ 116 ∷ 32 ∷ 49 ∷ 10 ∷ [])
    × (check_line (replicate 64 0) ≡ 114 ∷ 101 ∷ 102 ∷ 117 ∷ 115 ∷ 101 ∷ 100 ∷ 32 ∷ 52 ∷ 10 ∷ [])

-- With as much room as the input has bytes row 7 is never given, and how much more room there is doesn't change the line.
abbrev pub NeverRoom : Type 0
NeverRoom =
    (input room : List ℕ) → length input ≤ length room
    → ((check_vault input room).outcome ≡ refused 7 → ⊥) × (check_line input ≡ line_of (check_vault input room).outcome)

-- No line is longer than the longest.
abbrev pub LineFits : Type 0
LineFits = (input : List ℕ) → length (check_line input) ≤ longest

-- Given the keys and a file, 65,536 bytes at most, the line tells what opening the file ends in, into any buffer at least as long as the file.
abbrev pub TellsOpening : Type 0
TellsOpening =
    (enc mac file out : List ℕ) → length enc ≡ 32 → length mac ≡ 32 → 64 + length file ≤ 65536 → length file ≤ length out
    → check_line (enc ++ mac ++ file) ≡ line_of (open_file (codec enc mac) file out).outcome

-- The line begins with 'o' exactly when the file is that of some choice; and then it gives the length and the chunks of that choice's cleartext.
abbrev pub OpenedExactly : Type 0
OpenedExactly =
    (enc mac file : List ℕ) → Keys (vault_with enc mac SivGcm 220) → Bytes file → 64 + length file ≤ 65536
    → ((get_or (check_line (enc ++ mac ++ file)) 0 0 ≡ 111) ↔ ((c : Choice) × Fits siv_gcm c × (file_of (codec enc mac) c ≡ file)))
    × ((c : Choice) → Fits siv_gcm c → file_of (codec enc mac) c ≡ file → check_line (enc ++ mac ++ file) ≡ opened_line (length c.clear) (chunks (length c.clear)))
