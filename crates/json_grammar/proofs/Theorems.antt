-- JSON texts and their objects are read exactly.
-- Assumes nothing.
use Prim.Native.Nat.{ℕ, ◌+◌, ◌*◌}
use mathlib.Core.Path.{◌≡◌, sym, ap, ◌∙◌, subst}
use mathlib.Core.List.{List, [], ◌++◌, append-nil}
use mathlib.Core.Option.{some}
use lib.ListN.{length}
use Rattle.json_grammar.specs.Json.{ws, value, read_value}
use Rattle.json_grammar.specs.Grammar.{Ws, JsonText, json_text}
use Rattle.json_grammar.specs.Statements.{JsonExactly, ObjectsExactly}
use Rattle.json_grammar.proofs.Sound.{ws_sound, part_sound}
use Rattle.json_grammar.proofs.Complete.{ws_skip, Stop, stop-ws, stop-nil, read_complete}
use Rattle.json_grammar.proofs.Objects.{all_space, object_sound, object_complete}

space_stops : {b : List ℕ} → Ws b → Stop b
space_stops {b} w = rw append-nil at (stop-ws w [] stop-nil)

space_ends : {b : List ℕ} → Ws b → ws b ≡ []
unfolding ws
space_ends {b} w = ap ws (sym (append-nil b)) ∙ ws_skip w []

text_read : {d : ℕ} {s : List ℕ} → JsonText d s → (r : List ℕ) × (read_value d (ws s) ≡ some r) × (ws r ≡ [])
text_read {d} (json_text {a = a} {u = u} {b = b} v k w) =
    let x = read_complete k b (space_stops w) in
    (x.left, ap (read_value d) (ws_skip v (u ++ b)) ∙ x.read, x.same ∙ space_ends w)

read_text : (d : ℕ) (s r : List ℕ) → read_value d (ws s) ≡ some r → ws r ≡ [] → JsonText d s
unfolding read_value
read_text d s r e f =
    let a = ws_sound s in
    let z = part_sound (2 * length (ws s) + 1) value d (ws s) r e in
    let t : JsonText d (a.0 ++ (z.0 ++ r)) = json_text a.1 z.1 (all_space r f) in
    subst (JsonText d) (ap (λ (l : List ℕ). a.0 ++ l) (sym z.2) ∙ sym a.2) t

pub json_exactly : JsonExactly
json_exactly d s = (λ k. read_text d s k.0 k.1 k.2, text_read)

pub objects_exactly : ObjectsExactly
objects_exactly ms s = (object_sound ms s, object_complete)
