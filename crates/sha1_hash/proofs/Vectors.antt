-- The hash of the empty message, and the examples "abc" (one block) and "abcdbcdecdef..nopq" (two blocks) that NIST publishes
-- with FIPS 180-4, worked out from the definitions.
-- Assumes nothing.
use Rattle.std.proofs.Common.{◌≡◌, [], refl}
use Rattle.octets.specs.BigEndian.{be}
use Rattle.octets.specs.Words.{words, word_bytes}
use Rattle.hashing.specs.Operations.{ch, maj}
use Rattle.hashing.specs.Schedule.{extended}
use Rattle.hashing.specs.Message.{padding, padded, hash_from, digest}
use Rattle.sha1_hash.specs.Operations.{rotl, parity}
use Rattle.sha1_hash.specs.Compression.{step_function, step_constant, schedule, step, steps, added, compress}
use Rattle.sha1_hash.specs.Message.{initial, sha1}

empty : sha1 [] ≡ be 20 0xda39a3ee5e6b4b0d3255bfef95601890afd80709
unfolding be words word_bytes rotl ch parity maj step_function step_constant extended schedule step steps added compress padding padded initial hash_from digest sha1
empty = refl

one_block : sha1 (be 3 0x616263) ≡ be 20 0xa9993e364706816aba3e25717850c26c9cd0d89d
unfolding be words word_bytes rotl ch parity maj step_function step_constant extended schedule step steps added compress padding padded initial hash_from digest sha1
one_block = refl

two_blocks : sha1 (be 56 0x6162636462636465636465666465666765666768666768696768696a68696a6b696a6b6c6a6b6c6d6b6c6d6e6c6d6e6f6d6e6f706e6f7071)
    ≡ be 20 0x84983e441c3bd26ebaae4aa1f95129e5e54670f1
unfolding be words word_bytes rotl ch parity maj step_function step_constant extended schedule step steps added compress padding padded initial hash_from digest sha1
two_blocks = refl
