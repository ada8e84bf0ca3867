-- `store_reader`: the rows in order; with room the header is opened, and what that gave is written.
-- Assumes nothing.
use Prim.Native.Nat.{ℕ}
use mathlib.Core.Path.{◌≡◌, sym, ap, ap₂, ◌∙◌}
use mathlib.Core.Bool.{true}
use mathlib.Core.List.{List}
use borrow.Author.Rules.{rules}
use Rattle.octets.specs.Rows.{Outcome, refused, ended}
use Rattle.std.specs.Prelude.{Result}
use Rattle.answer.specs.declared.Refusal.{Refusal}
use Rattle.vault.specs.declared.record.Vault.{Vault}
use Rattle.frame.specs.Rules.{KeySizes}
use Rattle.answer.specs.Meaning.{meaning}
use Rattle.frame.specs.Frame.{master_keys_right}
use Rattle.frame.proofs.KeySizes.{keys_exactly}
use Rattle.file_reader.specs.declared.keys.ReaderKeys.{ReaderKeys}
use Rattle.reader_bytes.specs.ReaderBytes.{keys_after}
use Rattle.reader_bytes.proofs.Storing.{store_4, store_7, store_open}
use Rattle.reader_bytes.proofs.stored.store_reader.Goals as goal

keyed : (v : Vault) → KeySizes v.enc v.mac → master_keys_right v.enc v.mac ≡ true
keyed v = (keys_exactly v.enc v.mac).1

pub returns-then-not-right_length : goal.returns-then-not-right_length
returns-then-not-right_length c =
    let x = c.args in
    ap (ended (refused 4)) c.store_none.ensures ∙ store_4 x.v x.file.now x.out.now (keyed x.v (search rules, search rules)) (sym c.if-not-right_length.ensures)

pub returns-then-out-lt-READER_SIZE : goal.returns-then-out-lt-READER_SIZE
returns-then-out-lt-READER_SIZE c =
    let x = c.args in
    store_7 x.v x.file.now x.out.now (keyed x.v (search rules, search rules)) (sym c.if-not-right_length.ensures) c.if-out-lt-READER_SIZE.true

pub returns : goal.returns
returns c =
    let s = c.store_opening.ensures in
    let x = c.args in
    let e = c.open_keys.ensures in
    ap₂ (λ (a : Result ℕ Refusal) (b : List ℕ). ended (meaning a) b) s.0 s.1
    ∙ ap₂ (λ (y : Outcome) (k : ReaderKeys). ended y (keys_after y k x.out.now)) e.0 e.1
    ∙ store_open x.v x.file.now x.out.now c.if-out-lt-READER_SIZE.false
