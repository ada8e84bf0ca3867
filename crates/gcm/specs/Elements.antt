-- The structs of the code, as numbers.
-- Assumes nothing.
use Rattle.std.specs.Prelude.{ℕ, ◌+◌, ◌*◌, ◌^◌}
use Rattle.gcm.specs.declared.field.Element.{Element}
use Rattle.gcm.specs.declared.wide.Wide.{Wide}

-- A block in two halves.
abbrev pub value : Element → ℕ
value x = x.hi * 2 ^ 64 + x.lo

-- 256 bits in four words, the highest first.
abbrev pub wide : Wide → ℕ
wide z = ((z.a * 2 ^ 64 + z.b) * 2 ^ 64 + z.c) * 2 ^ 64 + z.d
