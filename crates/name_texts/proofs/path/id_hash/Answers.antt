-- `id_hash`: the ID sealed with no associated data, its digest, and the characters of that.
-- Assumes nothing.
use Prim.Native.Nat.{ℕ, ◌+◌}
use mathlib.Core.Path.{◌≡◌, sym, ap, ◌∙◌}
use mathlib.Core.List.{List, []}
use lib.ListN.{length, take, replicate}
use Rattle.octets.specs.Bytes.{placed}
use Rattle.octets.proofs.Lists.{placed_all}
use Rattle.aes_spec.specs.Cipher.{aes}
use Rattle.aes.proofs.Ciphers.{length-aes}
use Rattle.siv.specs.Siv as siv
use Rattle.siv.proofs.Laws.{length-seal}
use Rattle.sha1_hash.specs.Message.{sha1}
use Rattle.encoding.specs.Base32 as base32
use Rattle.name_spec.specs.Names.{sealed_id, id_hash}
use Rattle.name_spec.proofs.Texts.{length-id_hash}
use Rattle.name_texts.proofs.Placing.{front}
use Rattle.name_texts.proofs.path.id_hash.Goals as goal

sealed-length : (enc mac id : List ℕ) → length (sealed_id enc mac id) ≡ length id + 16
unfolding sealed_id
sealed-length enc mac id = length-seal (aes 8 mac) (aes 8 enc) (length-aes 8 mac) (length-aes 8 enc) [] id

-- What is sealed, at the front of a buffer z.
sealed : (enc mac id z : List ℕ) → z ≡ placed (siv.seal (aes 8 mac) (aes 8 enc) [] id) 0 (replicate 52 0) → take (length id + 16) z ≡ sealed_id enc mac id
unfolding sealed_id
sealed enc mac id z e = ap (take (length id + 16)) e ∙ front (sealed_id enc mac id) (replicate 52 0) (length id + 16) (sealed-length enc mac id)

pub slice_bounds-digest-end : goal.slice_bounds-digest-end
slice_bounds-digest-end c =
    let x = c.args in
    sym (ap length (sealed x.enc.now x.mac.now x.id.now _ c.seal_under.ensures) ∙ sealed-length x.enc.now x.mac.now x.id.now)

pub returns : goal.returns
unfolding id_hash
returns c =
    let x = c.args in
    c.encode.ensures
    ∙ ap (λ (l : List ℕ). placed (base32.encode l) 0 (replicate 32 0)) (c.digest.ensures ∙ ap sha1 (sealed x.enc.now x.mac.now x.id.now _ c.seal_under.ensures))
    ∙ placed_all (id_hash x.enc.now x.mac.now x.id.now) (replicate 32 0) (sym (length-id_hash x.enc.now x.mac.now x.id.now))
