-- Wrapped keys as they are to come out of the definitions: vectors of RFC 3394, section 4, the master key of the stock program's published tests,
-- and a value of our own, worked out with OpenSSL.
-- Assumes nothing.
use Rattle.std.specs.Prelude.{ℕ, List, [], ◌∷◌, ◌≡◌, take, replicate}
use Rattle.octets.specs.BigEndian.{be}
use Rattle.octets.specs.Rows.{done, ended}
use Rattle.aes_spec.specs.Cipher.{aes}
use Rattle.aes_inverse.specs.InverseCipher.{inverse_aes}
use Rattle.key_wrap.specs.KeyWrap.{wrap, unwrapped}
use Rattle.key_wrap.specs.Calls.{unwrap_key}

-- Section 4: the key-encryption keys are the first bytes of 00, 01, .. 1f, and the key data those of 00, 11, .. ff, 00, 01, .. 0f.
abbrev pub kek : List ℕ
kek = be 32 0x000102030405060708090a0b0c0d0e0f101112131415161718191a1b1c1d1e1f

abbrev pub key_data : List ℕ
key_data = be 32 0x00112233445566778899aabbccddeeff000102030405060708090a0b0c0d0e0f

-- 4.1: 128 bits of key data under a key of 128 bits; and back, with the initial value before the key data.
abbrev pub wrapped128 : List ℕ
wrapped128 = be 24 0x1fa68b0a8112b447aef34bd8fb5a7b829d3e862371d2cfe5

abbrev pub Wrapped128 : Type 0
Wrapped128 = wrap (aes 4 (take 16 kek)) (take 16 key_data) ≡ wrapped128

abbrev pub Unwrapped128 : Type 0
Unwrapped128 = unwrapped (inverse_aes 4 (take 16 kek)) wrapped128 ≡ be 24 0xa6a6a6a6a6a6a6a600112233445566778899aabbccddeeff

-- 4.4: 192 bits of key data under a key of 192 bits.
abbrev pub Wrapped192 : Type 0
Wrapped192 = wrap (aes 6 (take 24 kek)) (take 24 key_data) ≡ be 32 0x031d33264e15d33268f24ec260743edce1c6c7ddee725a936ba814915c6762d2

-- 4.6: 256 bits of key data under a key of 256 bits.
abbrev pub Wrapped256 : Type 0
Wrapped256 = wrap (aes 8 kek) key_data ≡ be 40 0x28c9f404c4b810f4cbccb35cfb87f8263f5786e2d80ed326cbc7f0e71a99f43bfb988b9b7a02dd21

-- The key-encryption key of the stock program's tests, and their master key, 32 zeros: what it is wrapped to, and that this unwraps to it.
abbrev pub stock_kek : List ℕ
stock_kek = be 32 0x8cf4a04ec845f428b2f9f9e1d9df08d26211d9afe2f55fdedfcbb5e75aef34f9

abbrev pub stock_wrapped : List ℕ
stock_wrapped = be 40 0x98cfaaa10fa8d2abcf4e20c0658b7e7e5682dd66e9340c75b135da533c70a72d0cf42b63e938a1fd

abbrev pub stock_key : List ℕ
stock_key = replicate 32 0

abbrev pub StockMasterKey : Type 0
StockMasterKey = wrap (aes 8 stock_kek) stock_key ≡ stock_wrapped

abbrev pub StockMasterKeyUnwraps : Type 0
StockMasterKeyUnwraps = unwrap_key stock_kek stock_wrapped (replicate 32 0xa5) ≡ ended (done (32 ∷ [])) stock_key

-- The key 40, 41, .. 5f under the key-encryption key 00, 01, .. 1f.
abbrev pub DistinctWrapped : Type 0
DistinctWrapped =
    wrap (aes 8 kek) (be 32 0x404142434445464748494a4b4c4d4e4f505152535455565758595a5b5c5d5e5f)
    ≡ be 40 0xbd2a276ae8c7464c7e8b396674ac6e0e9558c84c6009b3fa413cf06a67a200823e4d720df2419fa9
