-- `tag`: the hash, with the first block of the key stream added.
-- Assumes nothing.
use mathlib.Core.Path.{◌∙◌, ap, ap₂}
use Rattle.octets.specs.BigEndian.{be}
use Rattle.octets.specs.Xors.{xors}
use Rattle.aes_spec.specs.Cipher.{cipher}
use Rattle.gcm.specs.Gcm as spec
use Rattle.gcm.proofs.Counters.{tag_is}
use Rattle.gcm.proofs.aead.tag.Goals as goal

pub returns : goal.returns
returns c =
    let x = c.args in
    let e = cipher 14 x.k.now.w.now in
    c.add.ensures
    ∙ ap₂ xors
    (c.from.ensures ∙ ap (be 16) (c.hashed.ensures (spec.subkey e) c.args.k.now.keyed.2))
    (c.encrypt.ensures ∙ ap e c.counter.ensures)
    ∙ tag_is x.nonce.now c.requires.nonce_len.0 e x.aad.now x.ciphertext.now
