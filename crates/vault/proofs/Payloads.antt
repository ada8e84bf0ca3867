-- The parts of a header's payload, in either combo.
-- Assumes nothing.
use mathlib.Core.Path.{◌≡◌, ap, ◌∙◌}
use mathlib.Core.List.{List}
use Prim.Native.Nat.{ℕ, ◌-◌}
use lib.ListN.{length, take, drop, take-append-drop}
use Rattle.octets.proofs.Lists.{part-rest}
use Rattle.aes_spec.specs.Cipher.{aes}
use Rattle.frame.specs.Frame.{reserved_size, payload_size, payload_of}
use Rattle.siv_gcm.specs.SivGcm as gcm
use Rattle.siv_ctrmac.specs.SivCtrmac as ctrmac
use Rattle.vault.specs.declared.record.Combo.{Combo}
use Rattle.vault.specs.declared.record.Combo.TheVariants.{SivGcm, SivCtrmac}
use Rattle.vault.specs.Vault.{codec_with}

module _ (enc mac b p : List ℕ) where
  pub reserved-part : (k : Combo) → p ≡ payload_of ((codec_with k enc mac).head_of b) → take reserved_size p ≡ ((codec_with k enc mac).head_of b).reserved
  unfolding gcm.head_of ctrmac.head_of
  reserved-part SivGcm said = ap (take reserved_size) (said ∙ take-append-drop reserved_size (gcm.opened (aes 8 enc) b))
  reserved-part SivCtrmac said = ap (take reserved_size) (said ∙ take-append-drop reserved_size (ctrmac.opened (aes 8 enc) b))

  pub key-part : (k : Combo) → p ≡ payload_of ((codec_with k enc mac).head_of b) → length p ≡ payload_size
      → take (payload_size - reserved_size) (drop reserved_size p) ≡ ((codec_with k enc mac).head_of b).key
  unfolding gcm.head_of ctrmac.head_of
  key-part SivGcm said l = part-rest p payload_size reserved_size l ∙ ap (drop reserved_size) (said ∙ take-append-drop reserved_size (gcm.opened (aes 8 enc) b))
  key-part SivCtrmac said l = part-rest p payload_size reserved_size l ∙ ap (drop reserved_size) (said ∙ take-append-drop reserved_size (ctrmac.opened (aes 8 enc) b))
