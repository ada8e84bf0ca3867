-- Places of broken full names, worked out from the definitions.
-- Assumes nothing.
use Prim.Native.Nat.{ℕ}
use mathlib.Core.List.{List, [], ◌++◌}
use mathlib.Core.Path.{◌≡◌, refl}
use lib.ListN.{replicate}
use Rattle.octets.specs.BigEndian.{be}
use Rattle.encoding.specs.Base64url.{canonical, alphabet, place, value, known, octets, pad_length, body, whole, accepted, decoded, encoded_length}
use Rattle.encoding.specs.Broken.{fewest_bytes, pad_fits, within, fits, stop_from, stop}
use Rattle.name_spec.specs.Places.{longest_full, common, stem_allows, text_broken_at}

-- "A", n times
abbrev many : ℕ → List ℕ
many n = replicate n 0x41

-- '=' as the second of a group; '=' that leaves 16 bytes; another end; a character behind the end; pad bits that are not zero before '='; the
-- end after 15 bytes, and inside a group; a text that ends too early, in its end and behind a full stem; a stem of more than 36 characters with its end, of more
-- than 39 and of no multiple of four within 40. No text.
short_names :
    (text_broken_at 36 (many 21 ++ be 7 0x3d3d3d2e633972) ≡ 21)
    × (text_broken_at 36 (many 22 ++ be 6 0x3d3d2e633972) ≡ 22)
    × (text_broken_at 36 (many 23 ++ be 5 0x3d2e633973) ≡ 27)
    × (text_broken_at 36 (many 23 ++ be 6 0x3d2e6339722e) ≡ 28)
    × (text_broken_at 36 (many 22 ++ be 6 0x423d2e633972) ≡ 23)
    × (text_broken_at 36 (many 20 ++ be 4 0x2e633972) ≡ 20)
    × (text_broken_at 36 (many 22 ++ be 4 0x2e633972) ≡ 22)
    × (text_broken_at 36 (many 24 ++ be 3 0x2e6339) ≡ 27)
    × (text_broken_at 36 (many 32) ≡ 32)
    × (text_broken_at 36 (many 33 ++ be 4 0x2e633972) ≡ 32)
    × (text_broken_at 39 (many 33 ++ be 4 0x2e633972) ≡ 32)
    × (text_broken_at 40 (many 33 ++ be 4 0x2e633972) ≡ 33)
    × (text_broken_at 36 [] ≡ 0)
unfolding be canonical alphabet place value known octets pad_length body whole accepted decoded encoded_length fewest_bytes pad_fits within fits stop_from stop common stem_allows text_broken_at
short_names = (refl, refl, refl, refl, refl, refl, refl, refl, refl, refl, refl, refl, refl)

-- The longest full name stands for 1,036 bytes, one more than whole groups: its last group has two characters, of which the second, "Q" here and not "B", has four pad
-- bits that are zero, then "==".
longest_names :
    (text_broken_at longest_full (many 1381 ++ be 1 0x42) ≡ 1381)
    × (text_broken_at longest_full (many 1381 ++ be 2 0x5141) ≡ 1382)
    × (text_broken_at longest_full (many 1381 ++ be 6 0x513d3d2e6339) ≡ 1387)
unfolding be canonical alphabet place value known octets pad_length body whole accepted decoded encoded_length fewest_bytes pad_fits within fits stop_from stop common stem_allows text_broken_at
longest_names = (refl, refl, refl)
