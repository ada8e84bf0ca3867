-- Headers and chunks of SIV_CTRMAC as they are to come out of the definitions: the chunk of the stock program's published tests, all of zeros, and
-- values of our own, worked out with OpenSSL. The keys, the reserved bytes and the text "hello world" are those of `known_answers`.
-- Assumes nothing.
use Rattle.std.specs.Prelude.{ℕ, List, ◌∷◌, ◌≡◌, replicate}
use Rattle.octets.specs.BigEndian.{be}
use Rattle.octets.specs.Rows.{done, ended}
use Rattle.frame.specs.Layout.{limit, file_length}
use Rattle.frame.specs.Frame.{Head, head_with, own_head}
use Rattle.frame.specs.Single.{open_header}
use Rattle.siv_ctrmac.specs.SivCtrmac.{siv_ctrmac, codec}
use Rattle.known_answers.specs.Content as known

-- The file of 512 full chunks.
abbrev pub LongestFile : Type 0
LongestFile = file_length siv_ctrmac limit ≡ 16801880

abbrev pub StockChunk : Type 0
StockChunk =
    (codec known.zeros known.zeros).chunk_of (own_head (replicate 16 0) known.zeros) 0 (replicate 16 0) known.hello_world
    ≡ be 59 0xb4f0ac14cd60fee6df24c62a58646bd58fbd7d4ba67e4461f5719725f52128115ed7519e2bcceebe85dce8

abbrev pub distinct_head : Head
distinct_head = own_head (be 16 0xa0a1a2a3a4a5a6a7a8a9aaabacadaeaf) (known.distinct_head).key

abbrev pub DistinctHeader : Type 0
DistinctHeader =
    (codec known.enc known.mac).header_of distinct_head
    ≡ be 88 0xa0a1a2a3a4a5a6a7a8a9aaabacadaeaf2360fe02894783f24f0aaac64f4eaaa7a998a15a300cdb67bcdbaad9336585c8c1b2bef9b43ac7550589e7da3c53e4401b4d9ce13b10695c3bdc2c6bf95c505004b775c9ec8753d8

-- The same with reserved bytes that this library does not write; and its opening, which returns them.
abbrev pub reserved_header : List ℕ
reserved_header = be 88 0xa0a1a2a3a4a5a6a7a8a9aaabacadaeaf5d1d8279f33efb854f0aaac64f4eaaa7a998a15a300cdb67bcdbaad9336585c8c1b2bef9b43ac755f0ed114aa480ef8e30f6e1235a8633ea94e0a7c0abc2a732e96755d57e2d18f7

abbrev pub ReservedHeader : Type 0
ReservedHeader = (codec known.enc known.mac).header_of (head_with distinct_head.nonce known.reserved distinct_head.key) ≡ reserved_header

abbrev pub ReservedHeaderOpens : Type 0
ReservedHeaderOpens = open_header (codec known.enc known.mac) reserved_header known.zeros ≡ ended (done (32 ∷ known.reserved)) distinct_head.key

-- chunk 0x0102030405060708
abbrev pub DistinctChunk : Type 0
DistinctChunk =
    (codec known.enc known.mac).chunk_of distinct_head 0x0102030405060708 (be 16 0xb0b1b2b3b4b5b6b7b8b9babbbcbdbebf) known.hello_world
    ≡ be 59 0xb0b1b2b3b4b5b6b7b8b9babbbcbdbebf229bcaac973d97e8c4d5fbc30d2f4189151f80a14793745962345efdd12a8df9472094f13b0909955f8d38

-- the bytes 01 to 64
abbrev pub hundred_bytes : List ℕ
hundred_bytes = be 100 0x102030405060708090a0b0c0d0e0f101112131415161718191a1b1c1d1e1f202122232425262728292a2b2c2d2e2f303132333435363738393a3b3c3d3e3f404142434445464748494a4b4c4d4e4f505152535455565758595a5b5c5d5e5f6061626364

-- chunk 0xf1f2f3f4f5f6f7f8, of seven blocks
abbrev pub LongChunk : Type 0
LongChunk =
    (codec known.enc known.mac).chunk_of distinct_head 0xf1f2f3f4f5f6f7f8 (be 16 0xb0b1b2b3b4b5b6b7b8b9babbbcbdbebf) hundred_bytes
    ≡ be 148 0xb0b1b2b3b4b5b6b7b8b9babbbcbdbebf4bfca5c4fd1be78fbfb39470141431d44e2220c59a1e6e8a2074dcfb5dd7965be87d0eaf785c91078db424a9112e9af00e1ff07478f20e0691e55c870d7286f24ee2b8e3dbc3e3326ab5f4cd20acfcc20a54ab5cf2aa303d7b285cf45b4feee461fc0ccbea9439c9cedda28a1ddea85a83d5ea79a1b8c772a5cf7a3252c635c6f434ef53

-- the bytes 01 to 28
abbrev pub forty_bytes : List ℕ
forty_bytes = be 40 0x102030405060708090a0b0c0d0e0f101112131415161718191a1b1c1d1e1f202122232425262728

-- Chunk 3, of the nonce of all ones: the counter goes to zero after the first block.
abbrev pub CounterWraps : Type 0
CounterWraps =
    (codec known.enc known.mac).chunk_of distinct_head 3 (replicate 16 0xff) forty_bytes
    ≡ be 88 0xffffffffffffffffffffffffffffffff3952466ab1b83b2bd58f0006532ce38d77f6c096f51532c3536e92104c86a3350681575d9ab1723b69e9b10b2c677576504f85c71091d656e4651fb21823a780b0d4263b623be560

-- Chunk 3, of a nonce whose lower half is all ones: after the first block it carries into the upper half.
abbrev pub CounterCarries : Type 0
CounterCarries =
    (codec known.enc known.mac).chunk_of distinct_head 3 (be 16 0xb0b1b2b3b4b5b6b7ffffffffffffffff) forty_bytes
    ≡ be 88 0xb0b1b2b3b4b5b6b7ffffffffffffffff47779669ccd2d00ffb74de2dd53350d37170c6f1138ddeabe3a10d36e16538c6554cdaa323a13708793110bc789728a16e4e30d9dac037da14cc79b535b21e550d1a4f4702dfea5a
