-- Headers and chunks as they are to come out of the definitions: those of the stock program's published tests, all of zeros, and values
-- of our own whose keys, nonces, reserved bytes and numbers all differ, so that none can stand for another, worked out with OpenSSL.
-- Assumes nothing.
use Rattle.std.specs.Prelude.{ℕ, List, ◌∷◌, ◌≡◌, replicate}
use Rattle.octets.specs.BigEndian.{be}
use Rattle.octets.specs.Rows.{done, ended}
use Rattle.frame.specs.Frame.{Head, head_with, own_head}
use Rattle.frame.specs.Single.{open_header}
use Rattle.siv_gcm.specs.SivGcm.{codec}

-- "hello world"
abbrev pub hello_world : List ℕ
hello_world = be 11 0x68656c6c6f20776f726c64

abbrev pub zeros : List ℕ
zeros = replicate 32 0

abbrev pub zero_head : Head
zero_head = own_head (replicate 12 0) zeros

abbrev pub StockHeader : Type 0
StockHeader =
    (codec zeros zeros).header_of zero_head
    ≡ be 68 0x3158bfc2b29f9491074ec5d3baf39d18726003ca37a62a74d1a2f58e7506358edd4ab1284d4ae17b2fa66951ba3f417644199947be128d4d

abbrev pub StockChunk : Type 0
StockChunk =
    (codec zeros zeros).chunk_of zero_head 0 (replicate 12 0) hello_world
    ≡ be 39 0xa6c22c5122401c017522a1bae8f02a12f71ea05222023e7bdfa5ea

abbrev pub enc : List ℕ
enc = be 32 0x000102030405060708090a0b0c0d0e0f101112131415161718191a1b1c1d1e1f

abbrev pub mac : List ℕ
mac = be 32 0x202122232425262728292a2b2c2d2e2f303132333435363738393a3b3c3d3e3f

abbrev pub distinct_head : Head
distinct_head = own_head (be 12 0xa0a1a2a3a4a5a6a7a8a9aaab) (be 32 0x404142434445464748494a4b4c4d4e4f505152535455565758595a5b5c5d5e5f)

abbrev pub DistinctHeader : Type 0
DistinctHeader =
    (codec enc mac).header_of distinct_head
    ≡ be 68 0xa0a1a2a3a4a5a6a7a8a9aaab19e783d2ba34fd402224c590433f869938e5135bdefa0c23cc5f74d52bfe23568a2f1da4f37f0d62c30445876cf09467f774a0756c425257

-- The same with reserved bytes that this library does not write, 81 to 88; and its opening, which returns them.
abbrev pub reserved : List ℕ
reserved = be 8 0x8182838485868788

abbrev pub reserved_header : List ℕ
reserved_header = be 68 0xa0a1a2a3a4a5a6a7a8a9aaab679affa9c04d85372224c590433f869938e5135bdefa0c23cc5f74d52bfe23568a2f1da4f37f0d626f1bad30e94f48695add4579789994d4

abbrev pub ReservedHeader : Type 0
ReservedHeader = (codec enc mac).header_of (head_with distinct_head.nonce reserved distinct_head.key) ≡ reserved_header

abbrev pub ReservedHeaderOpens : Type 0
ReservedHeaderOpens = open_header (codec enc mac) reserved_header zeros ≡ ended (done (32 ∷ reserved)) distinct_head.key

-- chunk 0x0102030405060708
abbrev pub DistinctChunk : Type 0
DistinctChunk =
    (codec enc mac).chunk_of distinct_head 0x0102030405060708 (be 12 0xb0b1b2b3b4b5b6b7b8b9babb) hello_world
    ≡ be 39 0xb0b1b2b3b4b5b6b7b8b9babb6b65ece9ae6a9cf6498243d879e4b644b667624ea3431af5ef572e
