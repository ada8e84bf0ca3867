-- How the call on paths ends, by what its code finds.
-- Assumes nothing.
use Prim.Native.Nat.{ℕ, ◌≤◌, ◌<◌}
use mathlib.Core.Path.{◌≡◌, sym, ap, ◌∙◌}
use mathlib.Core.Bool.{true, false, not}
use mathlib.Core.List.{List, [], ◌∷◌}
use native.Mathlib.Omega.{arith}
use lib.ListN.{length}
use borrow.Author.Tests.{lt-ltb, le-ltb}
use Rattle.octets.specs.Bytes.{placed}
use Rattle.octets.specs.Rows.{done, refused, ended}
use Rattle.frame.specs.Frame.{master_keys_right}
use Rattle.name_spec.specs.Names.{id_right, path}
use Rattle.name_spec.specs.Calls.{path_length, dir_path_rows, dir_path}
use Rattle.name_spec.proofs.Texts.{length-path}
use Rattle.name_spec.proofs.Ends.{path_ends}
use Rattle.name_texts.proofs.Placing.{placed-filled}

module _ (enc mac id out : List ℕ) (keys : master_keys_right enc mac ≡ true) where
  pub no_id : id_right id ≡ false → ended (refused 2) out ≡ dir_path enc mac id out
  unfolding dir_path_rows
  no_id e = sym (((path_ends enc mac id out).0 1 (omega arith)).1 (ap not keys, ap not e))

  module _ (right : id_right id ≡ true) where
    pub no_room : length out < path_length → ended (refused 7) out ≡ dir_path enc mac id out
    unfolding dir_path_rows
    no_room h = sym (((path_ends enc mac id out).0 2 (omega arith)).1 (ap not keys, (ap not right, lt-ltb (length out) path_length h)))

    pub path_written : (new : List ℕ) → path_length ≤ length out → new ≡ placed (path enc mac id) 0 out → ended (done (path_length ∷ [])) new ≡ dir_path enc mac id out
    unfolding dir_path_rows
    path_written new h e =
        ap (ended (done (path_length ∷ []))) (e ∙ placed-filled (path enc mac id) out path_length (length-path enc mac id))
        ∙ sym ((path_ends enc mac id out).1.1 (ap not keys, (ap not right, (le-ltb (length out) path_length h, tt))))
