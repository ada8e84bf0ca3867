-- RFC 4231: HMAC-SHA-256, a key shorter than the digest (4.2), one much shorter (4.3), and one longer than a block (4.7), worked out from the
-- definitions.
-- Assumes nothing.
use mathlib.Core.Path.{◌≡◌, refl}
use lib.ListN.{replicate}
use Rattle.octets.specs.BigEndian.{be}
use Rattle.octets.specs.Words.{words, word_bytes}
use Rattle.octets.specs.Xors.{xors}
use Rattle.hashing.specs.Operations.{ch, maj}
use Rattle.hashing.specs.Schedule.{extended}
use Rattle.hashing.specs.Message.{padding, padded, hash_from, digest}
use Rattle.sha256.specs.Operations.{rotr, Σ0, Σ1, σ0, σ1}
use Rattle.sha256.specs.Constants.{constants}
use Rattle.sha256.specs.Compression.{schedule, step, steps, added, compress}
use Rattle.sha256.specs.Message.{initial, sha256}
use Rattle.hmac.specs.Hmac.{to_block, key_block, hmac, hmac_sha256}

-- "Hi There"
case_1 : hmac_sha256 (replicate 20 0x0b) (be 8 0x4869205468657265)
    ≡ be 32 0xb0344c61d8db38535ca8afceaf0bf12b881dc200c9833da726e9376c2e32cff7
unfolding be words word_bytes xors rotr ch maj padding padded hash_from digest Σ0 Σ1 σ0 σ1 constants initial extended schedule step steps added compress sha256 to_block key_block hmac
case_1 = refl

-- "what do ya want for nothing?" under the key "Jefe"
case_2 : hmac_sha256 (be 4 0x4a656665) (be 28 0x7768617420646f2079612077616e7420666f72206e6f7468696e673f)
    ≡ be 32 0x5bdcc146bf60754e6a042426089575c75a003f089d2739839dec58b964ec3843
unfolding be words word_bytes xors rotr ch maj padding padded hash_from digest Σ0 Σ1 σ0 σ1 constants initial extended schedule step steps added compress sha256 to_block key_block hmac
case_2 = refl

-- "Test Using Larger Than Block-Size Key - Hash Key First"
case_6 : hmac_sha256 (replicate 131 0xaa) (be 54 0x54657374205573696e67204c6172676572205468616e20426c6f636b2d53697a65204b6579202d2048617368204b6579204669727374)
    ≡ be 32 0x60e431591ee0b67f0d8a26aacbf5b77f8e0bc6213728c5140546040f0ee37f54
unfolding be words word_bytes xors rotr ch maj padding padded hash_from digest Σ0 Σ1 σ0 σ1 constants initial extended schedule step steps added compress sha256 to_block key_block hmac
case_6 = refl
