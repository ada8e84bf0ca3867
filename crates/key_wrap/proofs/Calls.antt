-- The calls on wrapped keys: their rows, and that a value unwraps exactly where it was wrapped.
-- Assumes nothing.
use mathlib.Core.Path.{◌≡◌, refl, sym, ap, ◌∙◌}
use mathlib.Core.Bool.{true}
use mathlib.Core.Logic.{⊎_elim}
use mathlib.Core.List.{List, [], ◌∷◌}
use Prim.Native.Nat.{ℕ, ◌≤◌, ◌<◌}
use native.Mathlib.Omega.{arith}
use lib.Dec.{lit≤}
use lib.ListN.{length}
use Rattle.octets.specs.Bytes.{Bytes, filled}
use Rattle.octets.specs.Rows.{done, End, ended}
use Rattle.octets.proofs.Lists.{le_or_lt}
use Rattle.octets.proofs.Rows.{Matches, ends_by, succeeds_exactly}
use Rattle.octets.proofs.Tests.{self, eqb_exactly, ltb_fails, both_exactly, not_fails}
use Rattle.aes_spec.specs.Cipher.{aes}
use Rattle.aes_inverse.specs.InverseCipher.{inverse_aes}
use Rattle.aes_inverse.proofs.Undone.{aes-undone}
use Rattle.key_wrap.specs.KeyWrap.{wrap, good, plain}
use Rattle.key_wrap.specs.Calls.{key_size, wrapped_size, wrap_key_rows, wrap_key, unwrap_key_rows, unwrap_key}
use Rattle.key_wrap.specs.Rules.{wrap_key_rules, unwrap_key_rules}
use Rattle.key_wrap.specs.Statements.{Semiblocks, Key, Wrapping, KeyRowsExactly, KeyRowsAscend, SizesExactly, WrapsExactly, WrappedUnwraps, UnwrapsExactly, CheckValueExactly, OneKey, WrappedKeys}
use Rattle.key_wrap.proofs.Undone.{wrap-undone}

-- ---- rows and rules

wrap_matches : (kek key : List ℕ) (room : ℕ) → Matches (wrap_key_rows kek key room) (wrap_key_rules kek key room)
unfolding wrap_key_rows
wrap_matches kek key room = (
  refl,
  not_fails (both_exactly (eqb_exactly (length kek) key_size) (eqb_exactly (length key) key_size)),
  (refl, ltb_fails room wrapped_size, tt),
)

unwrap_matches : (kek c : List ℕ) (room : ℕ) → Matches (unwrap_key_rows kek c room) (unwrap_key_rules kek c room)
unfolding unwrap_key_rows
unwrap_matches kek c room = (
  refl,
  not_fails (eqb_exactly (length kek) key_size),
  (
    refl,
    not_fails (eqb_exactly (length c) wrapped_size),
    (refl, ltb_fails room key_size, (refl, not_fails (self (good (inverse_aes 8 kek) c)), tt)),
  ),
)

pub key_rows_exactly : KeyRowsExactly
unfolding wrap_key_rows wrap_key unwrap_key_rows unwrap_key
key_rows_exactly = (
  λ kek key out. ends_by (wrap_key_rows kek key (length out)) (wrap_key_rules kek key (length out)) (wrap_matches kek key (length out)) refl (wrapped_size ∷ []) _ out,
  λ kek c out. ends_by (unwrap_key_rows kek c (length out)) (unwrap_key_rules kek c (length out)) (unwrap_matches kek c (length out)) refl (key_size ∷ []) _ out,
)

pub key_rows_ascend : KeyRowsAscend
key_rows_ascend = (λ kek key room. refl, λ kek c room. refl)

pub sizes_exactly : SizesExactly
sizes_exactly = (
  λ kek key out.
      let r = key_rows_exactly.0 kek key out in (
        (λ e. (r.0.0 e).1, λ n. r.0.1 (tt, n)),
        (
          λ e. let m = r.1.0.0 e in (m.0.1.0, m.0.1.1, above m.1),
          λ t. r.1.0.1 ((tt, (t.0, t.1)), below t.2),
        ),
      ),
  λ kek c out.
      let r = key_rows_exactly.1 kek c out in (
        (λ e. (r.0.0 e).1, λ n. r.0.1 (tt, n)),
        (λ e. let m = r.1.0.0 e in (m.0.1, m.1), λ t. r.1.0.1 ((tt, t.0), t.1)),
        (
          λ e. let m = r.1.1.0.0 e in (m.0.0.1, m.0.1, above m.1),
          λ t. r.1.1.0.1 (((tt, t.0), t.1), below t.2),
        ),
      ),
)
  where
    above : {m n : ℕ} → (m ≤ n → ⊥) → n < m
    above {m} {n} h = ⊎_elim (λ (k : m ≤ n). absurd (h k)) (λ (k : n < m). k) (le_or_lt m n)

    below : {m n : ℕ} → n < m → m ≤ n → ⊥
    below h k = omega arith

pub wraps_exactly : WrapsExactly
unfolding wrap_key_rows wrap_key
wraps_exactly kek key out =
    let s = succeeds_exactly (wrap_key_rows kek key (length out)) (wrap_key_rules kek key (length out)) (wrap_matches kek key (length out)) refl (wrapped_size ∷ []) (filled (wrap (aes 8 kek) key) wrapped_size out) out in
    (λ e. let m = s.0 e in (m.0.0, m.0.1, m.1.0), λ t. s.1 ((t.0, t.1), (t.2, tt)))

-- ---- under one key-encryption key

module _ (kek : List ℕ) (b : Bytes kek) where
  laws : ((p : List ℕ) → Semiblocks 4 p → Semiblocks 5 (wrap (aes 8 kek) p) × (good (inverse_aes 8 kek) (wrap (aes 8 kek) p) ≡ true) × (plain (inverse_aes 8 kek) (wrap (aes 8 kek) p) ≡ p))
      × ((c : List ℕ) → Semiblocks 5 c → Semiblocks 4 (plain (inverse_aes 8 kek) c) × (good (inverse_aes 8 kek) c ≡ true → wrap (aes 8 kek) (plain (inverse_aes 8 kek) c) ≡ c))
  laws = wrap-undone (aes 8 kek) (inverse_aes 8 kek) (aes-undone 8 kek b) 4 (lit≤ tt)

  -- What is wrapped has 40 bytes, a right check value, and the key.
  wrapped : {key : List ℕ} → Key key →
      let c = wrap (aes 8 kek) key in
      Semiblocks 5 c × (good (inverse_aes 8 kek) c ≡ true) × (plain (inverse_aes 8 kek) c ≡ key)
  wrapped {key} k = laws.0 key (record { size = k.size; bytes = k.bytes })

  -- A value of 40 bytes whose check value is right was wrapped.
  was_wrapped : (c : List ℕ) → Bytes c → length c ≡ wrapped_size → good (inverse_aes 8 kek) c ≡ true → Wrapping kek (plain (inverse_aes 8 kek) c) c
  was_wrapped c bytes size g =
      let u = laws.1 c (record { size = size; bytes = bytes }) in
      (record { size = u.0.size; bytes = u.0.bytes }, u.1 g)

  -- And whatever was wrapped has both.
  wrapping_good : (key c : List ℕ) → Wrapping kek key c → (length c ≡ wrapped_size) × (good (inverse_aes 8 kek) c ≡ true) × (plain (inverse_aes 8 kek) c ≡ key)
  wrapping_good key c w =
      let k = wrapped w.0 in
      let d = inverse_aes 8 kek in
      (ap length (sym w.1) ∙ k.0.size, ap (good d) (sym w.1) ∙ k.1, ap (plain d) (sym w.1) ∙ k.2)

  unwraps : (key c out : List ℕ) → length kek ≡ key_size → key_size ≤ length out → Wrapping kek key c → unwrap_key kek c out ≡ ended (done (key_size ∷ [])) (filled key key_size out)
  unwraps key c out l room w =
      let g = wrapping_good key c w in
      (key_rows_exactly.1 kek c out).1.1.1.1.1 ((((tt, l), g.0), room), g.1)
      ∙ ap (λ (x : List ℕ). ended (done (key_size ∷ [])) (filled x key_size out)) g.2

pub wrapped_unwraps : WrappedUnwraps
wrapped_unwraps kek key out into kk k room roomy =
    let c = wrap (aes 8 kek) key in
    let w = wrapped kek kk.bytes k in (
      w.0.size,
      w.0.bytes,
      (key_rows_exactly.0 kek key out).1.1.1 ((tt, (kk.size, k.size)), room),
      unwraps kek kk.bytes key c into kk.size roomy (k, refl),
    )

pub unwraps_exactly : UnwrapsExactly
unfolding unwrap_key_rows unwrap_key
unwraps_exactly kek c out bk bytes =
    let s = succeeds_exactly (unwrap_key_rows kek c (length out)) (unwrap_key_rules kek c (length out)) (unwrap_matches kek c (length out)) refl (key_size ∷ []) (filled (plain (inverse_aes 8 kek) c) key_size out) out in (
      (
        λ e. let m = s.0 e in (m.0, m.1.1.0, (plain (inverse_aes 8 kek) c, was_wrapped kek bk c bytes m.1.0 m.1.1.1.0)),
        λ t. (key_size ∷ [], ap (λ (e : End). e.outcome) (unwraps kek bk t.2.0 c out t.0 t.1 t.2.1)),
      ),
      λ key l room w. unwraps kek bk key c out l room w,
    )

pub check-value_exactly : CheckValueExactly
check-value_exactly kek c out bk bytes =
    let r = (key_rows_exactly.1 kek c out).1.1.1.0 in (
      λ e. let m = r.0 e in (m.0.0.0.1, m.0.0.1, m.0.1, λ key w. m.1 (wrapping_good kek bk key c w).1),
      λ t. r.1 ((((tt, t.0), t.1), t.2), λ g. t.3 (plain (inverse_aes 8 kek) c) (was_wrapped kek bk c bytes t.1 g)),
    )

pub one_key : OneKey
one_key kek c a b bk v w = sym (wrapping_good kek bk a c v).2 ∙ (wrapping_good kek bk b c w).2

pub wrapped_keys : WrappedKeys
wrapped_keys = (aes-undone, wrap-undone, key_rows_exactly, key_rows_ascend, sizes_exactly, wraps_exactly, wrapped_unwraps, unwraps_exactly, check-value_exactly, one_key)
