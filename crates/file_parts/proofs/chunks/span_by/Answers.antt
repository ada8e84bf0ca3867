-- `span_by`: the start of the chunk lies in the file.
-- Assumes nothing.
use mathlib.Core.Path.{refl}
use native.Mathlib.Omega.{arith}
use Rattle.vault.specs.Under.{sizes_in}
use Rattle.file_parts.proofs.Starts.{start-within}
use Rattle.file_parts.proofs.chunks.span_by.Goals as goal

pub overflow_mul-a : goal.overflow_mul-a
overflow_mul-a c = let x = c.args in omega (arith, start-within (sizes_in x.z) x.l x.n x.i c.requires.1 c.requires.3)

pub overflow_add-a : goal.overflow_add-a
overflow_add-a c = let x = c.args in omega (arith, start-within (sizes_in x.z) x.l x.n x.i c.requires.1 c.requires.3)

pub end_of-requires : goal.end_of-requires
end_of-requires c = let x = c.args in omega (arith, start-within (sizes_in x.z) x.l x.n x.i c.requires.1 c.requires.3)

pub returns : goal.returns
returns c = let x = c.args in (refl, c.end_of.ensures, start-within (sizes_in x.z) x.l x.n x.i c.requires.1 c.requires.3)
