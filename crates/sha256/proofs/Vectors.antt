-- The hash of the empty message, and the examples "abc" (one block) and "abcdbcdecdef..nopq" (two blocks) that NIST publishes
-- with FIPS 180-4, worked out from the definitions.
-- Assumes nothing.
use Rattle.std.proofs.Common.{◌≡◌, [], refl}
use Rattle.octets.specs.BigEndian.{be}
use Rattle.octets.specs.Words.{words, word_bytes}
use Rattle.hashing.specs.Operations.{ch, maj}
use Rattle.hashing.specs.Schedule.{extended}
use Rattle.hashing.specs.Message.{padding, padded, hash_from, digest}
use Rattle.sha256.specs.Operations.{rotr, Σ0, Σ1, σ0, σ1}
use Rattle.sha256.specs.Constants.{constants}
use Rattle.sha256.specs.Compression.{schedule, step, steps, added, compress}
use Rattle.sha256.specs.Message.{initial, sha256}

empty : sha256 [] ≡ be 32 0xe3b0c44298fc1c149afbf4c8996fb92427ae41e4649b934ca495991b7852b855
unfolding be words word_bytes rotr ch maj padding padded hash_from digest Σ0 Σ1 σ0 σ1 constants initial extended schedule step steps added compress sha256
empty = refl

one_block : sha256 (be 3 0x616263) ≡ be 32 0xba7816bf8f01cfea414140de5dae2223b00361a396177a9cb410ff61f20015ad
unfolding be words word_bytes rotr ch maj padding padded hash_from digest Σ0 Σ1 σ0 σ1 constants initial extended schedule step steps added compress sha256
one_block = refl

two_blocks : sha256 (be 56 0x6162636462636465636465666465666765666768666768696768696a68696a6b696a6b6c6a6b6c6d6b6c6d6e6c6d6e6f6d6e6f706e6f7071)
    ≡ be 32 0x248d6a61d20638b8e5c026930c3e6039a33ce45964ff2167f6ecedd419db06c1
unfolding be words word_bytes rotr ch maj padding padded hash_from digest Σ0 Σ1 σ0 σ1 constants initial extended schedule step steps added compress sha256
two_blocks = refl
