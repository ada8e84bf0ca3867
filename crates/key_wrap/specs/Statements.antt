-- What the theorems say of wrapped keys. `proofs/` proves each under its name.
-- Assumes nothing.
use Rattle.std.specs.Prelude.{◌≡◌, true, ◌↔◌, List, [], ◌∷◌, ℕ, ◌+◌, ◌*◌, ◌≤◌, ◌<◌, length}
use Rattle.octets.specs.Bytes.{Bytes, filled}
use Rattle.octets.specs.Rows.{done, refused, EndsBy, numbers, ended, Succeeded}
use Rattle.aes_spec.specs.Cipher.{aes}
use Rattle.aes_inverse.specs.InverseCipher.{inverse_aes}
use Rattle.aes_inverse.specs.Statements.{Inverses, AesUndone}
use Rattle.key_wrap.specs.KeyWrap.{wrap, good, plain}
use Rattle.key_wrap.specs.Calls.{wrap_key, unwrap_key}
use Rattle.key_wrap.specs.Rules.{wrap_key_rules, unwrap_key_rules}

-- ---- RFC 3394, over any block cipher

-- A byte string of n registers of 8 bytes, which SP 800-38F calls semiblocks.
pub record Semiblocks (n : ℕ) (x : List ℕ) : Type 0 where
  pub size : length x ≡ 8 * n
  pub bytes : Bytes x

-- Over any block cipher e with its inverse d, and for any n from 1 on: n registers of key data are wrapped to n + 1, whose check value is right and
-- which unwrap to the key data; and any n + 1 registers unwrap to n, and are the wrapping of these where their check value is right.
abbrev pub WrapUndone : Type 0
WrapUndone =
    (e d : List ℕ → List ℕ) → Inverses e d → (n : ℕ) → 1 ≤ n
    → ((p : List ℕ) → Semiblocks n p → Semiblocks (n + 1) (wrap e p) × (good d (wrap e p) ≡ true) × (plain d (wrap e p) ≡ p))
    × ((c : List ℕ) → Semiblocks (n + 1) c → Semiblocks n (plain d c) × (good d c ≡ true → wrap e (plain d c) ≡ c))

-- ---- the calls

-- A key: 32 bytes.
pub record Key (k : List ℕ) : Type 0 where
  pub size : length k ≡ 32
  pub bytes : Bytes k

-- c is what the key k is wrapped to under the key-encryption key kek.
abbrev pub Wrapping : List ℕ → List ℕ → List ℕ → Type 0
Wrapping kek k c = Key k × (wrap (aes 8 kek) k ≡ c)

-- The calls go by their rules, exactly; a success leaves the wrapped key, or the key, at the front of the buffer. Any lists.
abbrev pub KeyRowsExactly : Type 0
KeyRowsExactly =
    ((kek key out : List ℕ) → EndsBy (wrap_key_rules kek key (length out)) (40 ∷ []) (filled (wrap (aes 8 kek) key) 40 out) out (wrap_key kek key out))
    × ((kek c out : List ℕ) → EndsBy (unwrap_key_rules kek c (length out)) (32 ∷ []) (filled (plain (inverse_aes 8 kek) c) 32 out) out (unwrap_key kek c out))

-- The numbers of the rules, in the order in which they are tried. They ascend, so that with `KeyRowsExactly` the lowest of the rows that apply is given.
abbrev pub KeyRowsAscend : Type 0
KeyRowsAscend =
    ((kek key : List ℕ) (room : ℕ) → numbers (wrap_key_rules kek key room) ≡ 1 ∷ 7 ∷ [])
    × ((kek c : List ℕ) (room : ℕ) → numbers (unwrap_key_rules kek c room) ≡ 1 ∷ 4 ∷ 7 ∷ 20 ∷ [])

-- The rows that speak of sizes, with their numbers: each is given, and nothing is written, exactly when the sizes before it are right and its own is not.
abbrev pub SizesExactly : Type 0
SizesExactly =
    ((kek key out : List ℕ) →
    let e = wrap_key kek key out in
    ((e ≡ ended (refused 1) out) ↔ ((length kek ≡ 32) × (length key ≡ 32) → ⊥))
    × ((e ≡ ended (refused 7) out) ↔ ((length kek ≡ 32) × (length key ≡ 32) × (length out < 40))))
    × ((kek c out : List ℕ) →
    let e = unwrap_key kek c out in
    ((e ≡ ended (refused 1) out) ↔ (length kek ≡ 32 → ⊥))
    × ((e ≡ ended (refused 4) out) ↔ ((length kek ≡ 32) × (length c ≡ 40 → ⊥)))
    × ((e ≡ ended (refused 7) out) ↔ ((length kek ≡ 32) × (length c ≡ 40) × (length out < 32))))

-- A key is wrapped exactly when it and the key-encryption key have 32 bytes and there is room for 40.
abbrev pub WrapsExactly : Type 0
WrapsExactly = (kek key out : List ℕ) → Succeeded (wrap_key kek key out) ↔ ((length kek ≡ 32) × (length key ≡ 32) × (40 ≤ length out))

-- And then, lent byte strings, what is written has 40 bytes and, given room for 32, unwraps under the same key-encryption key to the key that went in.
abbrev pub WrappedUnwraps : Type 0
WrappedUnwraps =
    (kek key out into : List ℕ) → Key kek → Key key → 40 ≤ length out → 32 ≤ length into →
    let c = wrap (aes 8 kek) key in
    (length c ≡ 40) × Bytes c
    × (wrap_key kek key out ≡ ended (done (40 ∷ [])) (filled c 40 out))
    × (unwrap_key kek c into ≡ ended (done (32 ∷ [])) (filled key 32 into))

-- Lent byte strings: a value unwraps exactly when the key-encryption key has 32 bytes, there is room for 32, and the value is the wrapping of some key
-- (and so has 40 bytes); and then to that key, with the buffer behind it as it was.
abbrev pub UnwrapsExactly : Type 0
UnwrapsExactly =
    (kek c out : List ℕ) → Bytes kek → Bytes c
    → (Succeeded (unwrap_key kek c out) ↔ ((length kek ≡ 32) × (32 ≤ length out) × ((key : List ℕ) × Wrapping kek key c)))
    × ((key : List ℕ) → length kek ≡ 32 → 32 ≤ length out → Wrapping kek key c → unwrap_key kek c out ≡ ended (done (32 ∷ [])) (filled key 32 out))

-- Lent byte strings: row 20 is given, and nothing is written, exactly when the sizes are right, there is room, and the value is the wrapping of no key.
abbrev pub CheckValueExactly : Type 0
CheckValueExactly =
    (kek c out : List ℕ) → Bytes kek → Bytes c
    → (unwrap_key kek c out ≡ ended (refused 20) out)
    ↔ ((length kek ≡ 32) × (length c ≡ 40) × (32 ≤ length out) × ((key : List ℕ) → Wrapping kek key c → ⊥))

-- Under one key-encryption key, a byte string of any size here, no value is the wrapping of two keys.
abbrev pub OneKey : Type 0
OneKey = (kek c a b : List ℕ) → Bytes kek → Wrapping kek a c → Wrapping kek b c → a ≡ b

-- All of it: the inverse cipher undoes the cipher, RFC 3394 over any block cipher, the two calls by their rows, and what unwraps.
abbrev pub WrappedKeys : Type 0
WrappedKeys =
    AesUndone × WrapUndone
    × KeyRowsExactly × KeyRowsAscend × SizesExactly
    × WrapsExactly × WrappedUnwraps × UnwrapsExactly × CheckValueExactly × OneKey
