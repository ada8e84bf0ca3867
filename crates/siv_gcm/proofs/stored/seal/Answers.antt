-- `seal`: the nonce goes to the front of out, and the sealed cleartext after it.
-- Assumes nothing.
use borrow.Author.Rules.{rules}
use Prim.Native.Nat.{ℕ}
use mathlib.Core.Path.{◌∙◌, ap}
use mathlib.Core.List.{List, ◌++◌}
use Rattle.octets.proofs.Lists.{placed-rest}
use Rattle.siv_gcm.specs.SivGcm.{sealed}
use Rattle.siv_gcm.proofs.stored.seal.Goals as goal

pub seal-requires : goal.seal-requires
seal-requires c = record { nonce_len = (c.requires.nonce_len.0, c.requires.nonce_len.1, c.requires.nonce_len.2); out_len = search rules }

pub returns : goal.returns
unfolding sealed
returns c =
    placed-rest c.args.nonce.now c.seal.new.out c.args.out.now c.copy_at.new.dst 12 c.copy_at.ensures c.requires.nonce_len.0
    ∙ ap (λ (s : List ℕ). c.args.nonce.now ++ s) c.seal.ensures
