-- `write_path`: the four parts of the path, each behind the one before.
-- Assumes nothing.
use Prim.Native.Nat.{ℕ, ◌-◌}
use mathlib.Core.Path.{◌≡◌, refl, ap, ap₂, ◌∙◌}
use mathlib.Core.List.{List, ◌++◌}
use native.Mathlib.Omega.{arith}
use lib.ListN.{length, take, drop, length-append}
use lib.Seq.{length-take-le}
use Rattle.octets.specs.Bytes.{placed}
use Rattle.octets.proofs.Lists.{part-rest}
use Rattle.name_spec.specs.Names.{data_folder, slash, id_hash, path}
use Rattle.name_spec.proofs.Texts.{length-id_hash}
use Rattle.name_texts.proofs.Placing.{placed-after}
use Rattle.name_texts.proofs.path.write_path.Goals as goal

-- The four parts, one after the other.
joined : (t d : List ℕ) → length t ≡ 32 → {o p q r : List ℕ} → o ≡ placed data_folder 0 d → p ≡ placed (take 2 t) 3 o → q ≡ placed slash 5 p
    → r ≡ placed (take (32 - 2) (drop 2 t)) 6 q → r ≡ placed (data_folder ++ take 2 t ++ slash ++ drop 2 t) 0 d
joined t d n e f g h =
    let l : length (take 2 t) ≡ 2 = length-take-le 2 t (omega arith) in
    let a = f ∙ ap (placed (take 2 t) 3) e ∙ placed-after data_folder (take 2 t) d 3 refl in
    let b = g ∙ ap (placed slash 5) a ∙ placed-after (data_folder ++ take 2 t) slash d 5 (omega (arith, length-append data_folder (take 2 t))) in
    h ∙ ap₂ (λ (s o : List ℕ). placed s 6 o) (part-rest t 32 2 n) b
    ∙ placed-after (data_folder ++ take 2 t ++ slash) (drop 2 t) d 6 (omega (arith, length-append (data_folder ++ take 2 t) slash, length-append data_folder (take 2 t)))

pub copy_at-requires-2 : goal.copy_at-requires-2
copy_at-requires-2 c =
    let text-length : length c.id_hash-text.result ≡ 32 = let x = c.args in ap length c.id_hash-text.ensures ∙ length-id_hash x.enc.now x.mac.now x.id.now in
    let t = length-take-le 2 c.id_hash-text.result (omega (arith, text-length)) in
    let p = c.requires.id_len_bound.1 in
    omega (arith, t, c.out-1.given, p)

pub returns : goal.returns
unfolding path
returns c =
    let text-length : length c.id_hash-text.result ≡ 32 = let x = c.args in ap length c.id_hash-text.ensures ∙ length-id_hash x.enc.now x.mac.now x.id.now in
    let x = c.args in
    let t = c.id_hash-text.result in
    let h = id_hash x.enc.now x.mac.now x.id.now in
    joined t x.out.now (text-length) c.copy_at.ensures c.copy_at-2.ensures c.copy_at-3.ensures c.copy_at-4.ensures
    ∙ ap (λ (l : List ℕ). placed (data_folder ++ take 2 l ++ slash ++ drop 2 l) 0 x.out.now) c.id_hash-text.ensures
