-- The line of text that tells an outcome, in ASCII.
-- Assumes nothing.
use Rattle.std.specs.Prelude.{cond, List, [], ◌∷◌, ◌++◌, ℕ, zero, suc, ◌+◌, ◌/◌, ◌%◌, ltb, get_or}
use Rattle.octets.specs.Rows.{Outcome, done, refused, refused_at}
use Rattle.frame.specs.Layout.{chunks}

-- The last digits of n in decimal, at most so many, the highest first: those of n / 10, where n has more than one digit, and then the last.
unfoldable pub digits : ℕ → ℕ → List ℕ
digits zero n = []
digits (suc most) n = cond (ltb n 10) [] (digits most (n / 10)) ++ ((48 + n % 10) ∷ [])

-- n in decimal. It has no more than n + 1 digits.
unfoldable pub decimal : ℕ → List ℕ
decimal n = digits (suc n) n

-- "opened "
abbrev pub opened_text : List ℕ
opened_text = 111 ∷ 112 ∷ 101 ∷ 110 ∷ 101 ∷ 100 ∷ 32 ∷ []

-- " in "
abbrev pub in_text : List ℕ
in_text = 32 ∷ 105 ∷ 110 ∷ 32 ∷ []

-- " chunks", and the end of the line
abbrev pub chunks_text : List ℕ
chunks_text = 32 ∷ 99 ∷ 104 ∷ 117 ∷ 110 ∷ 107 ∷ 115 ∷ 10 ∷ []

-- "refused "
abbrev pub refused_text : List ℕ
refused_text = 114 ∷ 101 ∷ 102 ∷ 117 ∷ 115 ∷ 101 ∷ 100 ∷ 32 ∷ []

-- " at "
abbrev pub at_text : List ℕ
at_text = 32 ∷ 97 ∷ 116 ∷ 32 ∷ []

abbrev pub line_end : List ℕ
line_end = 10 ∷ []

-- "opened n in k chunks"
unfoldable pub opened_line : ℕ → ℕ → List ℕ
opened_line n k =
    (opened_text ++ decimal n) ++ (in_text ++ decimal k) ++ chunks_text

-- "refused row"
unfoldable pub refused_line : ℕ → List ℕ
refused_line row = (refused_text ++ decimal row) ++ line_end

-- "refused row at i"
unfoldable pub refused_at_line : ℕ → ℕ → List ℕ
refused_at_line row i = (refused_text ++ decimal row) ++ (at_text ++ decimal i) ++ line_end

-- The line of an outcome. A file that opens has one length, that of its cleartext.
abbrev pub line_of : Outcome → List ℕ
line_of (done lengths) = opened_line (get_or lengths 0 0) (chunks (get_or lengths 0 0))
line_of (refused row) = refused_line row
line_of (refused_at row i) = refused_at_line row i
