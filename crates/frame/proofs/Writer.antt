-- What the file writer writes is a byte string and opens to what went in.
-- Assumes nothing.
use mathlib.Core.Path.{refl, sym, ap, ◌∙◌}
use mathlib.Core.List.{List, [], ◌∷◌}
use Prim.Native.Nat.{ℕ, zero, suc}
use native.Mathlib.Nat.{zero-lt-suc}
use native.Mathlib.Omega.{arith}
use lib.ListN.{length, drop}
use Rattle.octets.specs.Bytes.{Bytes, filled}
use Rattle.octets.specs.Rows.{done, ended}
use Rattle.frame.specs.Layout.{chunk_size, chunks, file_length, header_at, chunk_at, chunks_from}
use Rattle.frame.specs.Frame.{Head, HeadFits, Codec, file_of, write_rows, write_file}
use Rattle.frame.specs.Rules.{write_file_rules}
use Rattle.frame.specs.Laws.{Laws}
use Rattle.frame.specs.Statements.{FilePieces, FileBytes, WrittenOpens}
use Rattle.octets.proofs.Rows.{Met, met_exactly, none_ends}
use Rattle.octets.proofs.Bytes.{below_nil, below_take, below_drop, below_append}
use Rattle.frame.proofs.Rules.{write_file_matches}
use Rattle.frame.proofs.Written as written
use Rattle.frame.proofs.Files.{choice_opens}

module _ (C : Codec) (𝓛 : Laws C) where
  open C use {sizes as z, keys_right, header_of, chunk_of, head_of, header_good, good, plain}

  -- the bytes of a file
  chunks-bytes : (h : Head) → HeadFits z h → (i k : ℕ) (nonces clear : List ℕ) → Bytes nonces → Bytes clear → Bytes (chunks_from z (chunk_of h) i k nonces clear)
  unfolding chunks_from
  chunks-bytes h ok i zero nonces clear bn bc = below_nil (zero-lt-suc 255)
  chunks-bytes h ok i (suc k) nonces clear bn bc =
      below_append (𝓛.chunk_laws.chunk_bytes h i _ _ ok (below_take z.nonce bn) (below_take chunk_size bc))
      (chunks-bytes h ok (suc i) k (drop z.nonce nonces) (drop chunk_size clear) (below_drop z.nonce bn) (below_drop chunk_size bc))

  pub file-bytes : FileBytes C
  unfolding file_of
  file-bytes c fits =
      below_append (𝓛.header-bytes c.head fits.head-fits)
      (chunks-bytes c.head fits.head-fits 0 (chunks (length c.clear)) c.nonces c.clear fits.nonces-bytes fits.clear-bytes)

  pub file-pieces : FilePieces C
  unfolding header_at chunk_at
  file-pieces c fits = (written.file-length C 𝓛 c fits, written.file-header C 𝓛 c fits, written.file_chunk C 𝓛 c fits)

  pub written-opens : WrittenOpens C
  unfolding write_file write_rows
  written-opens c out into fits room differ roomy =
      let n = length c.clear in
      let size = file_length z n in
      let met : Met (write_file_rules C (Unit {0}) c (length out)) = ((tt, (fits.head-fits.nonce-size, fits.head-fits.key-size), fits.nonces-size), (fits.clear-size, (room, (differ, tt)))) in
      let none = (met_exactly (write_rows C c (length out)) (write_file_rules C (Unit {0}) c (length out)) (write_file_matches C (Unit {0}) (λ e. tt, λ u. 𝓛.keys-right) c (length out))).1 met in
      let k = written.file-clear-length C 𝓛 c fits in (
        none_ends (write_rows C c (length out)) (size ∷ []) (filled (file_of C c) size out) out none
            ∙ ap (λ (x : ℕ). ended (done (x ∷ [])) (filled (file_of C c) x out)) (sym (written.file-length C 𝓛 c fits)),
        choice_opens C 𝓛 (file_of C c) into (λ e. omega arith) c fits refl,
      )
