-- `write_full`: the name sealed with the ID as the one string of associated data, its characters, and the end.
-- Assumes nothing.
use Prim.Native.Nat.{ℕ, ◌+◌}
use mathlib.Core.Path.{◌≡◌, sym, ap, ap₂, ◌∙◌}
use mathlib.Core.Bool.{true}
use mathlib.Core.List.{List, [], ◌∷◌}
use native.Mathlib.Omega.{arith}
use lib.ListN.{length, take, replicate}
use Rattle.octets.specs.Bytes.{placed}
use Rattle.aes_spec.specs.Cipher.{aes}
use Rattle.siv.specs.Siv as siv
use Rattle.encoding.specs.Base64url as base64url
use Rattle.encoding.proofs.Laws.{encoded-length}
use Rattle.name_spec.specs.Names.{name_limit, iv_size, full_end, sealed_name, full_name}
use Rattle.name_spec.proofs.Texts.{length-sealed}
use Rattle.name_texts.proofs.Placing.{front, placed-after}
use Rattle.name_texts.proofs.texts.write_full.Goals as goal

-- What is sealed, at the front of a buffer z.
module _ (enc mac id name z : List ℕ) (e : z ≡ placed (siv.seal (aes 8 mac) (aes 8 enc) (id ∷ []) name) 0 (replicate (name_limit + iv_size) 0)) where
  sealed : take (length name + 16) z ≡ sealed_name enc mac id name
  unfolding sealed_name
  sealed = ap (take (length name + 16)) e ∙ front (sealed_name enc mac id name) (replicate (name_limit + iv_size) 0) (length name + 16) (length-sealed enc mac id name)

  sealed_size : length (take (length name + 16) z) ≡ length name + 16
  sealed_size = ap length sealed ∙ length-sealed enc mac id name

pub slice_bounds-encode-end : goal.slice_bounds-encode-end
slice_bounds-encode-end c = sym (sealed_size c.args.enc.now c.args.mac.now c.args.id.now c.args.name.now _ c.seal_under.ensures)

pub encode-requires : goal.encode-requires
encode-requires c =
    let e = sealed_size c.args.enc.now c.args.mac.now c.args.id.now c.args.name.now _ c.seal_under.ensures in
    let p = c.requires.name_len_bound.1 in
    omega (arith, ap (base64url.encoded_length true) e, p)

pub returns : goal.returns
unfolding full_name
returns c =
    let x = c.args in
    let s = sealed_name x.enc.now x.mac.now x.id.now x.name.now in
    let n = base64url.encoded_length true (length x.name.now + 16) in
    c.copy_at.ensures
    ∙ ap₂ (placed full_end) c.encoded_length.ensures
    (c.encode.ensures ∙ ap (λ (l : List ℕ). placed (base64url.encode true l) 0 x.out.now) (sealed x.enc.now x.mac.now x.id.now x.name.now _ c.seal_under.ensures))
    ∙ placed-after (base64url.encode true s) full_end x.out.now n
    (encoded-length true s ∙ ap (base64url.encoded_length true) (length-sealed x.enc.now x.mac.now x.id.now x.name.now))
