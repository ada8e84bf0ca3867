-- The digits stand for their number, and the line tells what opening the file ends in.
-- Assumes nothing.
use mathlib.Core.Path.{◌≡◌, refl, sym, ap, ◌∙◌}
use mathlib.Core.List.{List, [], ◌∷◌, ◌++◌, append_assoc}
use mathlib.Core.Logic.{◌↔◌, ⊎_elim}
use Prim.Native.Nat.{ℕ, zero, suc, ◌+◌, ◌-◌, ◌*◌, ◌/◌, ◌%◌, ◌≤◌, ◌<◌}
use native.Mathlib.Nat.{not-suc-le-zero}
use native.Mathlib.Omega.{arith}
use borrow.Author.Tests.{le-ltb}
use lib.ListN.{length, take, drop, get_or, length-append, get_or-append}
use lib.Seq.{take_at, drop_at, get_or-append_seam}
use Rattle.octets.specs.Rows.{Outcome, done, refused, refused_at, answer, End}
use Rattle.octets.proofs.Lists.{le_or_lt}
use Rattle.frame.specs.Layout.{right_length}
use Rattle.frame.specs.Frame.{open_rows, open_file, master_keys_right}
use Rattle.frame.specs.Statements.{Room}
use Rattle.siv_gcm.specs.SivGcm.{siv_gcm, codec}
use Rattle.vault.specs.declared.record.Combo.TheVariants.{SivGcm}
use Rattle.vault.specs.Vault.{vault_with}
use Rattle.vault.proofs.Demands.{demand_three}
use Rattle.check_line.specs.Line.{digits, decimal, opened_line, refused_line, refused_at_line, line_of}
use Rattle.check_line.specs.Check.{check_vault, check_line}
use Rattle.check_line.specs.Statements.{value, DecimalReads, Lines, TellsOpening, OpenedExactly}
use Rattle.check_line.proofs.Decimals.{decimal_one, decimal_more}
use Rattle.check_line.proofs.Checks.{clear-short, any_room, zeros, zeros_long}

-- ---- decimals

value-append : (n : ℕ) (s : List ℕ) (d : ℕ) → value n (s ++ (d ∷ [])) ≡ 10 * value n s + (d - 48)
value-append n [] d = refl
value-append n (x ∷ s) d = value-append (10 * n + (x - 48)) s d

-- what is said of a number and its digits
record Read (n : ℕ) (s : List ℕ) : Type 0 where
  number : value 0 s ≡ n
  some : 1 ≤ length s
  each : (i : ℕ) → i < length s → (48 ≤ get_or s i 0) × (get_or s i 0 ≤ 57)
  first : get_or s 0 0 ≡ 48 → n ≡ 0

one : (n : ℕ) → n < 10 → Read n ((48 + n) ∷ [])
one n h =
    record {
      number = omega arith;
      some = omega arith;
      each = λ i k. let e : i ≡ 0 = omega arith in rw e (omega arith, omega arith);
      first = λ e. omega arith;
    }

more : (n : ℕ) (s : List ℕ) → 10 ≤ n → Read (n / 10) s → Read n (s ++ ((48 + n % 10) ∷ []))
more n s h r =
    let d = 48 + n % 10 in
    let l : length (s ++ (d ∷ [])) ≡ length s + 1 = length-append s (d ∷ []) in
    let m = r.some in
    record {
      number = value-append 0 s d ∙ (let e = r.number in omega arith);
      some = omega arith;
      each = λ i k. ⊎_elim (λ (g : length s ≤ i). let e : i ≡ length s = omega arith in rw (e, get_or-append_seam) (omega arith, omega arith))
          (λ (g : i < length s). rw (get_or-append s (d ∷ []) 0 i g) (r.each i g))
          (le_or_lt (length s) i);
      first = λ e. let z = r.first (sym (get_or-append s (d ∷ []) 0 0 m) ∙ e) in omega arith;
    }

read : (k n : ℕ) → n < k → Read n (decimal n)
read zero n h = absurd (not-suc-le-zero h)
read (suc k) n h =
    ⊎_elim (λ (g : 10 ≤ n). rw (decimal_more n g) (more n (decimal (n / 10)) g (read k (n / 10) (omega arith)))) (λ (g : n < 10). rw (decimal_one n g) (one n g)) (le_or_lt 10 n)

pub decimal_reads : DecimalReads
decimal_reads n =
    let r = read (suc n) n (omega arith) in
    (r.number, r.some, r.each, r.first)

pub lines : Lines
unfolding digits decimal opened_line refused_line refused_at_line check_line check_vault open_file open_rows answer master_keys_right right_length
lines = (refl, refl, refl, refl, refl)

-- ---- opening

pub tells_opening : TellsOpening
unfolding check_line check_vault
tells_opening enc mac file out e m n room =
    let input = enc ++ mac ++ file in
    let l : length input ≡ 64 + length file = length-append (enc ++ mac) file ∙ rw length-append (omega arith) in
    let t : take 32 input ≡ enc = ap (take 32) (append_assoc enc mac file) ∙ take_at enc (mac ++ file) 32 e in
    let u : take 32 (drop 32 input) ≡ mac = ap (λ (s : List ℕ). take 32 (drop 32 s)) (append_assoc enc mac file) ∙ ap (take 32) (drop_at enc (mac ++ file) 32 e) ∙ take_at mac file 32 m in
    let f : drop 64 input ≡ file = drop_at (enc ++ mac) file 64 (length-append enc mac ∙ (omega arith)) in
    let z = zeros_long input in
    rw (le-ltb (length input) 64 (omega arith), le-ltb 65536 (length input) (omega arith), t, u, f)
    (ap line_of (any_room enc mac file (zeros input) out (omega arith) room))

-- the line begins with 'o' where the outcome is a success
told : (o : Outcome) → (get_or (line_of o) 0 0 ≡ 111) ↔ ((l : List ℕ) × (o ≡ done l))
unfolding opened_line refused_line refused_at_line
told (done l) = (λ e. (l, refl), λ s. refl)
told (refused row) = (λ e. absurd (omega arith), λ s. absurd (let z : ◌≡◌ {A = ℕ} 0 1 = cc s.1 in omega arith))
told (refused_at row i) = (λ e. absurd (omega arith), λ s. absurd (let z : ◌≡◌ {A = ℕ} 0 1 = cc s.1 in omega arith))

pub opened_exactly : OpenedExactly
opened_exactly enc mac file k bytes size =
    let out = zeros file in
    let l = zeros_long file in
    let room : Room siv_gcm file out = λ r. let s = clear-short (length file) in omega arith in
    let line = tells_opening enc mac file out k.enc-size k.mac-size size l in
    let opens = ((demand_three (vault_with enc mac SivGcm 220)).1 k).opens_exactly file out bytes room in
    let t = told (open_file (codec enc mac) file out).outcome in (
      (λ e. opens.0.0 (t.0 (ap (λ (s : List ℕ). get_or s 0 0) (sym line) ∙ e)), λ c. ap (λ (s : List ℕ). get_or s 0 0) line ∙ t.1 (opens.0.1 c)),
      λ c fits e. line ∙ ap (λ (x : End). line_of x.outcome) (opens.1 c fits e),
    )
