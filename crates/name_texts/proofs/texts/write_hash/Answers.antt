-- `write_hash`: the characters of the digest, and the end.
-- Assumes nothing.
use Prim.Native.Nat.{ℕ}
use mathlib.Core.Path.{◌≡◌, ap, ◌∙◌}
use mathlib.Core.Bool.{true}
use mathlib.Core.List.{List}
use native.Mathlib.Omega.{arith}
use lib.ListN.{length}
use Rattle.octets.specs.Bytes.{placed}
use Rattle.sha1_hash.specs.Message.{sha1}
use Rattle.sha1_hash.proofs.Laws.{twenty_bytes}
use Rattle.encoding.specs.Base64url as base64url
use Rattle.encoding.proofs.Laws.{encoded-length}
use Rattle.name_spec.specs.Names.{hash_end, hash_name}
use Rattle.name_texts.proofs.Placing.{placed-after}
use Rattle.name_texts.proofs.texts.write_hash.Goals as goal

pub encode-requires : goal.encode-requires
unfolding base64url.encoded_length
encode-requires c =
    let digest-length : length c.digest.result ≡ 20 = ap length c.digest.ensures ∙ (twenty_bytes c.args.full.now).0 in
    let n = digest-length in omega (arith, n, c.requires)

pub returns : goal.returns
unfolding hash_name base64url.encoded_length
returns c =
    let x = c.args in
    let h = sha1 x.full.now in
    c.copy_at.ensures
    ∙ ap (placed hash_end 28) (c.encode.ensures ∙ ap (λ (l : List ℕ). placed (base64url.encode true l) 0 x.out.now) c.digest.ensures)
    ∙ placed-after (base64url.encode true h) hash_end x.out.now 28 (encoded-length true h ∙ ap (base64url.encoded_length true) (twenty_bytes x.full.now).0)
