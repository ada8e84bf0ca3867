-- The test points of the definitions, twelve rows in one table.
-- Assumes nothing.
use Rattle.std.specs.Prelude.{ℕ, ◌≤◌, ◌≡◌, ◌↔◌, List, [], ◌∷◌, length}
use Rattle.octets.specs.Rows.{done, refused, ended}
use Rattle.frame.specs.Layout.{Covers}
use Rattle.frame.specs.Frame.{open_file, read_range}
use Rattle.frame.specs.Single.{file_length_of, clear_length_of}
use Rattle.frame.specs.Rules.{KeySizes}
use Rattle.siv_gcm.specs.SivGcm.{siv_gcm, codec}
use Rattle.name_spec.specs.Names.{full_name, hash_name, stored_name}
use Rattle.name_spec.specs.Calls.{written_lengths}

-- The length call gives l for a cleartext of n bytes.
abbrev pub HasFileLength : ℕ → ℕ → Type 0
HasFileLength n l = file_length_of siv_gcm n ≡ done (l ∷ [])

-- No file has l bytes: the length call, and under any keys of 32 bytes the file opener and every range read, give row 4.
abbrev pub NoFileLength : ℕ → Type 0
NoFileLength l =
    (clear_length_of siv_gcm l ≡ refused 4)
    × ((enc mac f out : List ℕ) → KeySizes enc mac → length f ≡ l
    → (open_file (codec enc mac) f out ≡ ended (refused 4) out)
    × ((from count : ℕ) → read_range (codec enc mac) f from count out ≡ ended (refused 4) out))

-- In a file of two chunks, of 32,769 bytes of cleartext, chunk i covers a range.
abbrev pub CoversOfTwo : ℕ → ℕ → ℕ → Type 0
CoversOfTwo from count i = Covers siv_gcm 32893 from count i

-- A name of n bytes has a full name of l characters, for which `stored` is stored at the threshold 220; a success returns these lengths.
abbrev pub Stores : ℕ → ℕ → (List ℕ → List ℕ) → List ℕ → Type 0
Stores n l stored lengths =
    (enc mac id name : List ℕ) → length name ≡ n →
    let f = full_name enc mac id name in
    (length f ≡ l) × (stored_name 220 f ≡ stored f) × (written_lengths 220 (length f) ≡ lengths)

-- Five lengths of files, three that no file has, the chunks that cover two ranges, and two names.
abbrev pub TestPoints : Type 0
TestPoints =
    HasFileLength 0 68
    × HasFileLength 1 97
    × HasFileLength 32768 32864
    × HasFileLength 32769 32893
    × HasFileLength 16777216 16791620
    × NoFileLength 67
    × NoFileLength 96
    × NoFileLength 32892
    × ((i : ℕ) → CoversOfTwo 32767 2 i ↔ (i ≤ 1))
    × ((i : ℕ) → CoversOfTwo 32768 1 i ↔ (i ≡ 1))
    × Stores 146 220 (λ f. f) (220 ∷ [])
    × Stores 147 224 hash_name (32 ∷ 224 ∷ [])
