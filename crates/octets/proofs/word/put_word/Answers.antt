-- `put_word`: its bytes are copied.
-- Assumes nothing.
use Rattle.std.proofs.Common.{ℕ, List, ap, ◌∙◌, arith}
use Rattle.octets.specs.Bytes.{placed}
use Rattle.octets.proofs.Words.{word_bytes_one}
use Rattle.octets.proofs.word.put_word.Goals as goal

pub returns : goal.returns
returns c =
    let x = c.args in
    c.copy_at.ensures ∙ ap (λ (s : List ℕ). placed s x.at x.out.now) (c.to_be_bytes.ensures ∙ word_bytes_one x.w (omega arith))
