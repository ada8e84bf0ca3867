-- The test for the sizes of a header nonce and a content key.
-- Assumes nothing.
use mathlib.Core.Path.{◌≡◌}
use mathlib.Core.Bool.{true}
use lib.ListN.{length}
use lib.Dec.{eqb}
use borrow.Author.Tests.{eq-eqb}
use Rattle.octets.proofs.Equality.{true_and}
use Rattle.frame.specs.Layout.{Sizes}
use Rattle.frame.specs.Frame.{Head, HeadFits, key_size, head_right}

module _ (z : Sizes) (h : Head) where
  pub fits-right : HeadFits z h → head_right z h ≡ true
  fits-right ok =
      true_and (eqb (length h.nonce) z.nonce) (eqb (length h.key) key_size) (eq-eqb (length h.nonce) z.nonce ok.nonce-size) (eq-eqb (length h.key) key_size ok.key-size)
