-- The code's working variables.
-- Assumes nothing.
use Rattle.sha256.specs.Compression.{Variables, vars}
use Rattle.sha256.specs.declared.block.Working.{Working}

abbrev pub variables : Working → Variables
variables x = vars x.a x.b x.c x.d x.e x.f x.g x.h
