-- The texts of objects are the grammar's JSON texts that begin with '{'.
-- Assumes nothing.
use Prim.Native.Nat.{ℕ, suc}
use mathlib.Core.Path.{◌≡◌, refl, sym, ap, ◌∙◌, subst}
use mathlib.Core.List.{List, [], ◌∷◌, ◌++◌, append-nil, append_assoc}
use native.Mathlib.Omega.{arith}
use borrow.Author.Tests.{eqb-false}
use Rattle.json_grammar.specs.Json.{first, ws, value, members}
use Rattle.json_grammar.specs.Grammar.{Ws, no_space, Mark, mark, quoted, Derives, a_true, a_false, a_null, a_number, a_string, empty_array, an_array, empty_object, an_object, last_member, a_member, JsonText, json_text}
use Rattle.json_grammar.specs.Members.{Value, Member, depth, value_of}
use Rattle.json_grammar.specs.Objects.{Kind, member, MemberList, last_one, one_more, ObjectText, no_members, with_members}
use Rattle.json_grammar.specs.Statements.{ObjectTexts}
use Rattle.json_grammar.proofs.Complete.{ws_skip, ws_none, stop-nil, marked, number-first}
use Rattle.json_grammar.proofs.Objects.{is_first, kind_sound, kind_derives, ws_join, mark_more}

-- ---- members

list_derives : {ms : List Member} {u : List ℕ} → MemberList ms u → Derives members depth u
list_derives (last_one q m k) = last_member q m (kind_derives k)
list_derives (one_more q m k o l) = a_member q m (kind_derives k) o (list_derives l)

has_kind : {d : ℕ} {u : List ℕ} → Derives value d u → d ≡ depth → (v : Value) × Kind v u
has_kind {d} {u} k e = (value_of (u ++ []), kind_sound k (subst (λ (i : ℕ). Derives value i u) e) [] stop-nil)

derives_list : {d : ℕ} {u : List ℕ} → Derives members d u → d ≡ depth → (ms : List Member) × MemberList ms u
derives_list (last_member {t = t} q m k) e =
    let x = has_kind k e in
    (member t x.0 ∷ [], last_one q m x.1)
derives_list (a_member {t = t} q m k o l) e =
    let x = has_kind k e in
    let y = derives_list l e in
    (member t x.0 ∷ y.0, one_more q m x.1 o y.1)

-- ---- a text that is an object is one of the grammar

alone : {d : ℕ} {u : List ℕ} → Derives value d u → JsonText d u
alone {d} {u} k = subst (JsonText d) (append-nil u) (json_text no_space k no_space)

object_derives : {ms : List Member} {s : List ℕ} → ObjectText ms s → Derives value (suc depth) s
object_derives (no_members m o) = empty_object m o
object_derives (with_members m l o) = an_object m (list_derives l) o

object_begins : {ms : List Member} {s : List ℕ} → ObjectText ms s → first (ws s) ≡ 0x7b
object_begins (no_members {b = b} m o) = is_first 0x7b (marked refl m) b
object_begins (with_members {u = u} {b = b} m l o) = is_first 0x7b (marked refl m) (u ++ b)

-- ---- and back

mark_later : {c : ℕ} {z m : List ℕ} → Ws z → Mark c m → Mark c (z ++ m)
mark_later {c} {z} k (mark {a} {b} v w) = subst (Mark c) (append_assoc z a (c ∷ b)) (mark (ws_join k v) w)

-- An array begins with '['.
no_array : {m : List ℕ} {P : Type 0} → Mark 0x5b m → (t s : List ℕ) → first (ws ((m ++ t) ++ s)) ≡ 0x7b → P
no_array {m} k t s e = absurd (let f = is_first 0x5b (marked refl k) (t ++ s) in let g = (rw (append_assoc m t s) at e) in omega arith)

-- A value that begins with '{', and white space around it.
object_of : {d : ℕ} {u a b : List ℕ} → Derives value d u → d ≡ suc depth → Ws a → Ws b → first (ws (u ++ b)) ≡ 0x7b → (ms : List Member) × ObjectText ms (a ++ (u ++ b))
unfolding ws
object_of a_true e v w f = absurd (omega arith)
object_of a_false e v w f = absurd (omega arith)
object_of a_null e v w f = absurd (omega arith)
object_of {b = b} (a_number {u = u} k) e v w f =
    let n = number-first k b in
    absurd (eqb-false (first (u ++ b)) 0x7b n.brace (ap first (sym (ws_none (u ++ b) n.spaces)) ∙ f))
object_of (a_string (quoted k)) e v w f = absurd (omega arith)
object_of {b = b} (empty_array {b = y} m o) e v w f = no_array m y b f
object_of {b = b} (an_array {u = u} {b = y} m l o) e v w f = no_array m (u ++ y) b f
object_of {a = a} {b = b} (empty_object {a = x} {b = y} m o) e v w f =
    let k : ObjectText [] ((a ++ x) ++ (y ++ b)) = no_members (mark_later v m) (mark_more o w) in
    ([], subst (ObjectText []) (simp append_assoc) k)
object_of {a = a} {b = b} (an_object {a = x} {u = u} {b = y} m l o) e v w f =
    let z = derives_list l (omega arith) in
    let k : ObjectText z.0 ((a ++ x) ++ (u ++ (y ++ b))) = with_members (mark_later v m) z.1 (mark_more o w) in
    (z.0, subst (ObjectText z.0) (simp append_assoc) k)

text_object : {s : List ℕ} → JsonText 9 s → first (ws s) ≡ 0x7b → (ms : List Member) × ObjectText ms s
text_object (json_text {u = u} {b = b} v k w) f = object_of k refl v w (sym (ap first (ws_skip v (u ++ b))) ∙ f)

pub object_texts : ObjectTexts
object_texts s = (λ k. (alone (object_derives k.1), object_begins k.1), λ k. text_object k.0 k.1)
