-- What a running state says of the bytes that went in, and what any state, however it was made, gives; over any compression function.
-- Assumes nothing.
use Rattle.std.specs.Prelude.{ℕ, ◌+◌, ◌*◌, ◌/◌, ◌%◌, ◌^◌, ◌≡◌, List, ◌++◌, length, take, drop}
use Rattle.octets.specs.Words.{word_bytes}
use Rattle.hashing.specs.Message.{padding, hash_from}

-- A state: the words of a hash value, places for bytes that wait, and the number of bytes so far. In the code there are 64 places, and the
-- number is counted modulo 2^64.
pub record State : Type 0 where
  pub words : List ℕ
  pub waiting : List ℕ
  pub length : ℕ

-- The bytes of a state that are not hashed yet, fewer than a block. The other places of `waiting` are free.
abbrev pub unhashed : State → List ℕ
unhashed t = take (t.length % 64) t.waiting

module _ (compress : List ℕ → List ℕ → List ℕ) where
  -- The state t after the bytes s, from the hash value h on: the hash value after the whole blocks of s, the bytes behind them,
  -- and n, the number of bytes in all, modulo 2^64.
  pub record After (h s : List ℕ) (n : ℕ) (t : State) : Type 0 where
    pub hashed : t.words ≡ hash_from compress h s (length s / 64)
    pub rest : unhashed t ≡ drop (64 * (length s / 64)) s
    pub count : t.length ≡ n % 2 ^ 64

  -- A state after the message m, from the initial hash value h on.
  abbrev pub Running : List ℕ → State → List ℕ → Type 0
  Running h t m = After h m (length m) t

  -- The state r after any state t and the bytes s: these come behind the bytes of t that are not hashed, and its hash value goes on.
  abbrev pub Updated : State → List ℕ → State → Type 0
  Updated t s r = After t.words (unhashed t ++ s) (t.length + length s) r

  -- What any state gives at the end: the bytes of its hash value after the bytes that are not hashed and the padding for its number of bytes.
  unfoldable pub finished : State → List ℕ
  finished t = let s = unhashed t ++ padding t.length in word_bytes (hash_from compress t.words s (length s / 64))
