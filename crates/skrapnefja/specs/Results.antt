-- What an exported function leaves, by what its call ends in: the number that it returns, 0 for done and else the row; its buffers; and the
-- numbers that it is lent to write to.
-- Assumes nothing.
use Rattle.std.specs.Prelude.{ℕ, List, [], ◌∷◌}
use Rattle.octets.specs.BigEndian.{int}
use Rattle.octets.specs.Rows.{Outcome, done, refused, refused_at, number, End}
use Rattle.name_spec.specs.Calls.{NameEnd, name_ended}
use Rattle.vault.specs.declared.record.Vault.{Vault}
use Rattle.vault_bytes.specs.VaultBytes.{lent_name, lent_end}
use Rattle.names.specs.ByRecord.{dir_path}

-- ---- the numbers, by what they were before

-- `written`: the length written on success; a refusal leaves it.
abbrev pub written_after : Outcome → ℕ → ℕ
written_after (done []) before = before
written_after (done (n ∷ lengths)) before = n
written_after (refused row) before = before
written_after (refused_at row i) before = before

-- `full_length`: the length of a shortened name's full name, 0 for a name that is stored as it is; a refusal leaves it.
abbrev pub full_length_after : Outcome → ℕ → ℕ
full_length_after (done []) before = 0
full_length_after (done (n ∷ [])) before = 0
full_length_after (done (n ∷ full ∷ lengths)) before = full
full_length_after (refused row) before = before
full_length_after (refused_at row i) before = before

-- `reserved`: the reserved bytes of a header, which stand behind the length, as a number, the first byte the highest; a refusal leaves it.
abbrev pub reserved_after : Outcome → ℕ → ℕ
reserved_after (done []) before = before
reserved_after (done (n ∷ bytes)) before = int bytes
reserved_after (refused row) before = before
reserved_after (refused_at row i) before = before

-- `at`: the number that a row returns, as row 10 does that of a chunk, row 5 the place in a text and row 13 that of a broken segment; any other outcome leaves it.
abbrev pub at_after : Outcome → ℕ → ℕ
at_after (done lengths) before = before
at_after (refused row) before = before
at_after (refused_at row i) before = i

-- `combo`: the number of a label's combo; a refusal leaves it.
abbrev pub combo_after : Outcome → ℕ → ℕ
combo_after (done []) before = before
combo_after (done (n ∷ rest)) before = n
combo_after (refused row) before = before
combo_after (refused_at row i) before = before

-- `threshold`: a label's threshold, which stands behind its combo; a refusal leaves it.
abbrev pub threshold_after : Outcome → ℕ → ℕ
threshold_after (done []) before = before
threshold_after (done (n ∷ [])) before = before
threshold_after (done (n ∷ t ∷ rest)) before = t
threshold_after (refused row) before = before
threshold_after (refused_at row i) before = before

-- ---- a call with one buffer

pub record Result : Type 0 where
  pub returned : ℕ
  pub buffer : List ℕ
  pub written : ℕ

abbrev pub plain_result : ℕ → List ℕ → ℕ → Result
plain_result r b l = record { returned = r; buffer = b; written = l }

unfoldable pub result_of : End → ℕ → Result
result_of e l = plain_result (number e.outcome) e.buffer (written_after e.outcome l)

-- The path of a directory, which takes any last byte of a lent vault.
abbrev pub path_end : List ℕ → List ℕ → List ℕ → End
path_end b id out = lent_end b (λ v. dir_path v id out) out

-- ---- the header opener

pub record HeaderResult : Type 0 where
  pub returned : ℕ
  pub buffer : List ℕ
  pub written : ℕ
  pub reserved : ℕ

abbrev pub header_result : ℕ → List ℕ → ℕ → ℕ → HeaderResult
header_result r b l v = record { returned = r; buffer = b; written = l; reserved = v }

unfoldable pub header_result_of : End → ℕ → ℕ → HeaderResult
header_result_of e l v = header_result (number e.outcome) e.buffer (written_after e.outcome l) (reserved_after e.outcome v)

-- ---- a call with one buffer, whose rows may return a number: that of a chunk, or a place in a text

pub record PlacedResult : Type 0 where
  pub returned : ℕ
  pub buffer : List ℕ
  pub written : ℕ
  pub at : ℕ

abbrev pub placed_result : ℕ → List ℕ → ℕ → ℕ → PlacedResult
placed_result r b l a = record { returned = r; buffer = b; written = l; at = a }

unfoldable pub placed_result_of : End → ℕ → ℕ → PlacedResult
placed_result_of e l a = placed_result (number e.outcome) e.buffer (written_after e.outcome l) (at_after e.outcome a)

-- ---- the name writer

-- The row of the bytes lent as a vault leaves both buffers as they were.
abbrev pub lent_writer_end : List ℕ → (Vault → NameEnd) → List ℕ → List ℕ → NameEnd
lent_writer_end b call stored full = lent_name b call (λ row. name_ended (refused row) stored full)

pub record NameResult : Type 0 where
  pub returned : ℕ
  pub stored : List ℕ
  pub full : List ℕ
  pub written : ℕ
  pub full-length : ℕ

abbrev pub name_result : ℕ → List ℕ → List ℕ → ℕ → ℕ → NameResult
name_result r s f l m = record { returned = r; stored = s; full = f; written = l; full-length = m }

unfoldable pub name_result_of : NameEnd → ℕ → ℕ → NameResult
name_result_of e l m =
    name_result (number e.outcome) e.stored e.full (written_after e.outcome l) (full_length_after e.outcome m)

-- ---- the label opener

pub record LabelResult : Type 0 where
  pub returned : ℕ
  pub combo : ℕ
  pub threshold : ℕ
  pub at : ℕ

abbrev pub label_result : ℕ → ℕ → ℕ → ℕ → LabelResult
label_result r c t a = record { returned = r; combo = c; threshold = t; at = a }

unfoldable pub label_result_of : Outcome → ℕ → ℕ → ℕ → LabelResult
label_result_of o c t a = label_result (number o) (combo_after o c) (threshold_after o t) (at_after o a)
