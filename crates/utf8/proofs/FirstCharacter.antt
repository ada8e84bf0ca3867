-- The first character of a text is read exactly from its octets; and by its first byte and the tails behind it.
-- Assumes nothing.
use Prim.Native.Nat.{ℕ, zero, suc, ◌+◌, ◌/◌, ◌%◌, ◌≤◌, ◌<◌}
use mathlib.Core.Path.{◌≡◌, refl, sym, ap, ◌∙◌}
use mathlib.Core.Bool.{Bool, true, false, cond, ◌&&◌}
use mathlib.Core.List.{List, [], ◌∷◌, ◌++◌, append-nil, append_assoc}
use mathlib.Core.Option.{Option, none, some}
use mathlib.Core.Logic.{◌⊎◌, inl, inr, ⊎_elim}
use native.Mathlib.Omega.{arith}
use lib.Dec.{leb}
use lib.ListN.{length, take, drop, take-append-drop, length-append}
use lib.Seq.{length-take-le}
use Rattle.octets.proofs.Equality.{true_false, and_true, true_and}
use Rattle.octets.proofs.Lists.{drop_all, le_or_lt}
use Rattle.utf8.specs.Utf8.{within, well_formed, Scalar, encode, encoded, Encoding}
use Rattle.utf8.specs.Character.{lead, size, number, character}
use Rattle.utf8.specs.Continued.{continued, tails_from}
use Rattle.utf8.specs.Statements.{CharacterExactly}
use Rattle.utf8.proofs.Options.{never, some_same}
use Rattle.utf8.proofs.Encoding.{encode1, table}
use Rattle.utf8.proofs.Exactly as exactly

-- ---- exactly

size-some : (s : List ℕ) → 1 ≤ size s
unfolding size
size-some s = go (leb (lead s) 0x7f) (leb (lead s) 0xdf) (leb (lead s) 0xef)
  where
    go : (a b c : Bool) → 1 ≤ cond a 1 (cond b 2 (cond c 3 4))
    go true b c = omega arith
    go false true c = omega arith
    go false false true = omega arith
    go false false false = omega arith

take-some : (k a : ℕ) (s : List ℕ) → 1 ≤ k → [] ≡ take k (a ∷ s) → ⊥
take-some zero a s h e = omega arith
take-some (suc k) a s h e = let l = ap length e in omega arith

-- A text whose first octets are well formed.
begun : (a : ℕ) (s : List ℕ) → Encoding (take (size (a ∷ s)) (a ∷ s)) → Scalar (number (a ∷ s)) × (encode (number (a ∷ s)) ++ drop (size (a ∷ s)) (a ∷ s) ≡ a ∷ s)
unfolding encoded
begun a s ([], h, e) = absurd (take-some (size (a ∷ s)) a s (size-some (a ∷ s)) e)
begun a s (c ∷ cs, h, e) =
    let t = a ∷ s in
    let r = encoded cs ++ drop (size t) t in
    let w : encode c ++ r ≡ t = sym (append_assoc (encode c) (encoded cs) (drop (size t) t)) ∙ ap (λ (l : List ℕ). l ++ drop (size t) t) e ∙ take-append-drop (size t) t in
    let f = exactly.first_is c r (table c h.0) in
    let n : number t ≡ c = ap number (sym w) ∙ f.0 in
    let d : drop (size t) t ≡ r = ap (λ (l : List ℕ). drop (size l) l) (sym w) ∙ f.1 in
    rw n (h.0, ap (λ (l : List ℕ). encode c ++ l) d ∙ w)

read : (c : ℕ) (s r : List ℕ) → character s ≡ some (c, r) → Scalar c × (encode c ++ r ≡ s)
unfolding character
read c [] r e = never e
read c (a ∷ s) r e = go (well_formed (take (size (a ∷ s)) (a ∷ s))) refl e
  where
    go : (x : Bool) → well_formed (take (size (a ∷ s)) (a ∷ s)) ≡ x → cond {A = Option (ℕ × List ℕ)} x (some (number (a ∷ s), drop (size (a ∷ s)) (a ∷ s))) none ≡ some (c, r) → Scalar c × (encode c ++ r ≡ a ∷ s)
    go true w e =
        let k = begun a s ((exactly.well_formed_exactly (take (size (a ∷ s)) (a ∷ s))).0 w) in
        let p = some_same e in
        let x : number (a ∷ s) ≡ c = ap (λ (q : ℕ × List ℕ). q.0) p in
        let y : drop (size (a ∷ s)) (a ∷ s) ≡ r = ap (λ (q : ℕ × List ℕ). q.1) p in
        rw (sym x, sym y) k
    go false w e = never e

reads : (c : ℕ) (s r : List ℕ) → Scalar c → encode c ++ r ≡ s → character s ≡ some (c, r)
unfolding character
reads c [] r h e = absurd (let k = exactly.some c r (table c h) in omega (arith, ap length e))
reads c (a ∷ s) r h e =
    let f = exactly.first_is c r (table c h) in
    let n : number (a ∷ s) ≡ c = ap number (sym e) ∙ f.0 in
    let d : drop (size (a ∷ s)) (a ∷ s) ≡ r = ap (λ (l : List ℕ). drop (size l) l) (sym e) ∙ f.1 in
    let u : take (size (a ∷ s)) (a ∷ s) ≡ encode c = ap (λ (l : List ℕ). take (size l) l) (sym e) ∙ f.2 in
    let w : well_formed (take (size (a ∷ s)) (a ∷ s)) ≡ true = ap well_formed u ∙ exactly.alone c (h, tt) in
    rw (w, n, d)

pub character_exactly : CharacterExactly
character_exactly c s r = (read c s r, λ k. reads c s r k.0 k.1)

-- ---- tails

and_more : (a b c : Bool) → (a && (b && c)) ≡ (a && b && c)
and_more true b c = refl
and_more false b c = refl

-- To go on well is to begin with the tails, and to be well formed behind them.
pub continued_tails : (n lo hi : ℕ) (s : List ℕ) → continued n lo hi s ≡ (tails_from n lo hi s && well_formed (drop n s))
unfolding continued tails_from
continued_tails zero lo hi s = refl
continued_tails (suc n) lo hi [] = refl
continued_tails (suc n) lo hi (b ∷ s) = rw (continued_tails n 0x80 0xbf s) (and_more (within lo hi b) (tails_from n 0x80 0xbf s) (well_formed (drop n s)))

pub tails_length : (n lo hi : ℕ) (s : List ℕ) → tails_from n lo hi s ≡ true → n ≤ length s
unfolding tails_from
tails_length zero lo hi s e = omega arith
tails_length (suc n) lo hi [] e = absurd (true_false (sym e))
tails_length (suc n) lo hi (b ∷ s) e = let k = tails_length n 0x80 0xbf s (and_true (within lo hi b) (tails_from n 0x80 0xbf s) e).1 in omega arith

tails_more : (n lo hi : ℕ) (s r : List ℕ) → tails_from n lo hi s ≡ true → tails_from n lo hi (s ++ r) ≡ true
unfolding tails_from
tails_more zero lo hi s r e = refl
tails_more (suc n) lo hi [] r e = absurd (true_false (sym e))
tails_more (suc n) lo hi (b ∷ s) r e =
    let k = and_true (within lo hi b) (tails_from n 0x80 0xbf s) e in
    true_and (within lo hi b) (tails_from n 0x80 0xbf (s ++ r)) k.0 (tails_more n 0x80 0xbf s r k.1)

tails_take : (n lo hi : ℕ) (s : List ℕ) → tails_from n lo hi s ≡ true → tails_from n lo hi (take n s) ≡ true
unfolding tails_from
tails_take zero lo hi s e = refl
tails_take (suc n) lo hi [] e = e
tails_take (suc n) lo hi (b ∷ s) e =
    let k = and_true (within lo hi b) (tails_from n 0x80 0xbf s) e in
    true_and (within lo hi b) (tails_from n 0x80 0xbf (take n s)) k.0 (tails_take n 0x80 0xbf s k.1)

-- ---- by the first byte

-- The octets of a character at the start of a text, whose first byte is b.
front : (e r s : List ℕ) (b : ℕ) → 1 ≤ length e → e ++ r ≡ b ∷ s → (u : List ℕ) × (e ≡ b ∷ u) × (u ++ r ≡ s)
front [] r s b h e = absurd (omega arith)
front (x ∷ u) r s b h e = (u, let z : x ≡ b = cc in ap (λ (y : ℕ). y ∷ u) z, cc)

-- An ASCII character.
pub ascii : (b : ℕ) (s : List ℕ) → b < 0x80 → character (b ∷ s) ≡ some (b, s)
ascii b s h = reads b (b ∷ s) s (omega arith, λ l k. omega arith) (ap (λ (e : List ℕ). e ++ s) (encode1 b (omega arith)))

octets : (c : ℕ) → Scalar c → 1 ≤ length (encode c)
octets c h = let k = exactly.some c [] (table c h) in let e = ap length (append-nil (encode c)) in omega arith

-- Where no text that begins with a byte is well formed, no character begins with it.
pub unread : (b : ℕ) (s : List ℕ) → ((t : List ℕ) → well_formed (b ∷ t) ≡ false) → character (b ∷ s) ≡ none
unread b s f = go (character (b ∷ s)) refl
  where
    go : (o : Option (ℕ × List ℕ)) → character (b ∷ s) ≡ o → o ≡ none
    go none k = refl
    go (some (c, r)) k =
        let p = read c (b ∷ s) r k in
        let (u, q, v) = front (encode c) r s b (octets c p.0) p.1 in
        let w : well_formed (b ∷ u) ≡ true = ap well_formed (sym q) ∙ exactly.alone c (p.0, tt) in
        absurd (true_false (sym w ∙ f u))

-- Behind the byte b n tails are awaited, the first of them from lo to hi.
module _ (b n lo hi : ℕ) (s : List ℕ) (f : (t : List ℕ) → well_formed (b ∷ t) ≡ continued n lo hi t) where
  -- The octets of a character that begins with b are tails.
  tails_of : (c : ℕ) (u : List ℕ) → Scalar c → encode c ≡ b ∷ u → tails_from n lo hi u ≡ true
  tails_of c u h e =
      let w : well_formed (b ∷ u) ≡ true = ap well_formed (sym e) ∙ exactly.alone c (h, tt) in
      (and_true (tails_from n lo hi u) (well_formed (drop n u)) (sym (continued_tails n lo hi u) ∙ sym (f u) ∙ w)).0

  one_only : (c : ℕ) (r : List ℕ) → Scalar c → n ≤ length s → encode c ++ r ≡ b ∷ take n s → encode c ++ drop n s ≡ b ∷ s
  one_only c r h l e =
      let (u, p, q) = front (encode c) r (take n s) b (octets c h) e in
      let m = tails_length n lo hi u (tails_of c u h p) in
      let z : length r ≡ 0 = (let k = ap length q in let i = length-append u r in let j = length-take-le n s l in omega arith) in
      let x : r ≡ [] = sym (append-nil r) ∙ nothing r z in
      let y : u ≡ take n s = sym (append-nil u) ∙ ap (λ (v : List ℕ). u ++ v) (sym x) ∙ q in
      ap (λ (v : List ℕ). v ++ drop n s) (p ∙ ap (λ (v : List ℕ). b ∷ v) y) ∙ ap (λ (v : List ℕ). b ∷ v) (take-append-drop n s)
    where
      nothing : (r : List ℕ) → length r ≡ 0 → r ++ [] ≡ []
      nothing [] z = refl
      nothing (a ∷ r) z = absurd (omega arith)

  found : Encoding (b ∷ take n s) → n ≤ length s → (c : ℕ) × (character (b ∷ s) ≡ some (c, drop n s))
  unfolding encoded
  found ([], h, e) l = absurd (let k = ap length e in omega arith)
  found (c ∷ cs, h, e) l = (c, reads c (b ∷ s) (drop n s) h.0 (one_only c (encoded cs) h.0 l e))

  pub there : tails_from n lo hi s ≡ true → (c : ℕ) × (character (b ∷ s) ≡ some (c, drop n s))
  unfolding well_formed
  there e =
      let l = tails_length n lo hi s e in
      let t = take n s in
      let d : drop n t ≡ [] = drop_all n t (let k = length-take-le n s l in omega arith) in
      let w : well_formed (b ∷ t) ≡ true = f t ∙ continued_tails n lo hi t ∙ true_and (tails_from n lo hi t) (well_formed (drop n t)) (tails_take n lo hi s e) (ap well_formed d) in
      found ((exactly.well_formed_exactly (b ∷ t)).0 w) l

  pub nowhere : tails_from n lo hi s ≡ false → character (b ∷ s) ≡ none
  nowhere e = go (character (b ∷ s)) refl
    where
      go : (o : Option (ℕ × List ℕ)) → character (b ∷ s) ≡ o → o ≡ none
      go none k = refl
      go (some (c, r)) k =
          let p = read c (b ∷ s) r k in
          let (u, q, v) = front (encode c) r s b (octets c p.0) p.1 in
          absurd (true_false (sym (tails_more n lo hi u r (tails_of c u p.0 q)) ∙ ap (tails_from n lo hi) v ∙ e))

-- The first octet of a character is its number, or 80 at least.
pub encode-first : (c : ℕ) → (a : ℕ) × (s : List ℕ) × (encode c ≡ a ∷ s) × ((a ≡ c) ⊎ (0x80 ≤ a))
unfolding encode
encode-first c = go (leb c 0x7f) (leb c 0x7ff) (leb c 0xffff)
  where
    go : (x y z : Bool)
        → (a : ℕ) × (s : List ℕ)
        × (cond x (c ∷ []) (cond y ((0xc0 + c / 64) ∷ (0x80 + c % 64) ∷ []) (cond z ((0xe0 + c / 4096) ∷ (0x80 + c / 64 % 64) ∷ (0x80 + c % 64) ∷ []) ((0xf0 + c / 262144) ∷ (0x80 + c / 4096 % 64) ∷ (0x80 + c / 64 % 64) ∷ (0x80 + c % 64) ∷ []))) ≡ a ∷ s)
        × ((a ≡ c) ⊎ (0x80 ≤ a))
    go true y z = (_, _, refl, inl refl)
    go false true z = (_, _, refl, inr (omega arith))
    go false false true = (_, _, refl, inr (omega arith))
    go false false false = (_, _, refl, inr (omega arith))

-- A character whose first byte is no ASCII is none.
pub beyond_ascii : (b c : ℕ) (s r : List ℕ) → 0x80 ≤ b → character (b ∷ s) ≡ some (c, r) → 0x80 ≤ c
beyond_ascii b c s r h e =
    let k = read c (b ∷ s) r e in
    ⊎_elim (λ (p : 0x80 ≤ c). p) (λ (p : c < 0x80). absurd (let z = ap (λ (l : List ℕ). lead l) (sym (ap (λ (v : List ℕ). v ++ r) (encode1 c (omega arith))) ∙ k.1) in omega arith)) (le_or_lt 0x80 c)
