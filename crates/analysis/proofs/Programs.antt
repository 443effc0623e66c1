-- The worked programs of docs/MACHINE.md and docs/VERIFIER.md, written as there, eight bytes a numeral.
use mathlib.Core.List.{List, [], ◌∷◌, ◌++◌}
use Prim.Native.Nat.{ℕ, ◌/◌, ◌%◌, ◌^◌}

-- the eight bytes of a numeral as they are printed, highest digits first
unfoldable pub eight : ℕ → List ℕ
eight n =
    n / 256 ^ 7 ∷ n / 256 ^ 6 % 256 ∷ n / 256 ^ 5 % 256 ∷ n / 256 ^ 4 % 256 ∷ n / 256 ^ 3 % 256 ∷ n / 256 ^ 2 % 256 ∷ n / 256 % 256 ∷ n % 256 ∷ []

unfoldable pub program : List ℕ → List ℕ
program [] = []
program (n ∷ ns) = eight n ++ program ns

-- r2 = byte 0; r2 &= 60; r1 += r2; r0 = 4 bytes at r1 + 8; exit
unfoldable pub K1 : List ℕ
K1 = 0x7112000000000000 ∷ 0x570200003c000000 ∷ 0x0f21000000000000 ∷ 0x6110080000000000 ∷ 0x9500000000000000 ∷ []

-- r2 = byte 0; if r2 > 10 answer 0, else the byte at r2 + 1
unfoldable pub K2 : List ℕ
K2 = 0x7112000000000000 ∷ 0x250203000a000000 ∷ 0x0f21000000000000 ∷ 0x7110010000000000 ∷ 0x9500000000000000 ∷ 0xb700000000000000 ∷ 0x9500000000000000 ∷ []

-- 8 bytes to the lowest stack address, 2 bytes back
unfoldable pub K3 : List ℕ
K3 = 0xb702000002010000 ∷ 0x7b2a00fe00000000 ∷ 0x69a000fe00000000 ∷ 0x9500000000000000 ∷ []

-- r2 = (byte 0 and 48) xor 16; the byte there
unfoldable pub K4 : List ℕ
K4 = 0x7112000000000000 ∷ 0x5702000030000000 ∷ 0xa702000010000000 ∷ 0x0f21000000000000 ∷ 0x7110000000000000 ∷ 0x9500000000000000 ∷ []

-- 4 bytes of -2 to the stack, 8 bytes back
unfoldable pub K5 : List ℕ
K5 = 0x620af8fffeffffff ∷ 0x79a0f8ff00000000 ∷ 0x9500000000000000 ∷ []

-- 32-bit MOD by 0
unfoldable pub K6 : List ℕ
K6 = 0xb7020000ffffffff ∷ 0xb703000000000000 ∷ 0x9c32000000000000 ∷ 0xbf20000000000000 ∷ 0x9500000000000000 ∷ []

-- -8 halved on 64, then on 32 bits
unfoldable pub K7 : List ℕ
K7 = 0xb7000000f8ffffff ∷ 0xc700000001000000 ∷ 0xc400000001000000 ∷ 0x9500000000000000 ∷ []

-- shifts by 64 and by 65
unfoldable pub K8 : List ℕ
K8 = 0xb700000001000000 ∷ 0x6700000040000000 ∷ 0xb702000041000000 ∷ 0x6f20000000000000 ∷ 0x9500000000000000 ∷ []

-- answers r1
unfoldable pub X1 : List ℕ
X1 = 0xbf10000000000000 ∷ 0x9500000000000000 ∷ []

-- compares r1 with r10
unfoldable pub X2 : List ℕ
X2 = 0xb700000000000000 ∷ 0x2da1010000000000 ∷ 0xb700000001000000 ∷ 0x9500000000000000 ∷ []

-- answers r0, which is unset
unfoldable pub X3 : List ℕ
X3 = 0x9500000000000000 ∷ []

-- the byte at byte 0, if byte 0 has none of the bits of 240
unfoldable pub jset_240 : List ℕ
jset_240 = 0x7112000000000000 ∷ 0x45020300f0000000 ∷ 0x0f21000000000000 ∷ 0x7110000000000000 ∷ 0x9500000000000000 ∷ 0xb700000000000000 ∷ 0x9500000000000000 ∷ []

-- byte 0 less 1, then a test against 10
unfoldable pub byte_less_1 : List ℕ
byte_less_1 = 0x7112000000000000 ∷ 0x07020000ffffffff ∷ 0x250203000a000000 ∷ 0x0f21000000000000 ∷ 0x7110010000000000 ∷ 0x9500000000000000 ∷ 0xb700000000000000 ∷ 0x9500000000000000 ∷ []

-- r1 + 4 - 3
unfoldable pub four_less_3 : List ℕ
four_less_3 = 0x0701000004000000 ∷ 0x1701000003000000 ∷ 0x7110000000000000 ∷ 0x9500000000000000 ∷ []

-- a 4-byte number extended with its sign, tested "signed > 15" only
unfoldable pub signed_15 : List ℕ
signed_15 = 0x6112000000000000 ∷ 0x6702000020000000 ∷ 0xc702000020000000 ∷ 0x650203000f000000 ∷ 0x0f21000000000000 ∷ 0x7110010000000000 ∷ 0x9500000000000000 ∷ 0xb700000000000000 ∷ 0x9500000000000000 ∷ []

-- tests the low half of a number and uses all of it
unfoldable pub low_half_program : List ℕ
low_half_program = 0x7912000000000000 ∷ 0xbc23000000000000 ∷ 0x250303000f000000 ∷ 0x0f21000000000000 ∷ 0x7110010000000000 ∷ 0x9500000000000000 ∷ 0xb700000000000000 ∷ 0x9500000000000000 ∷ []

-- the same by a jump of class 6
unfoldable pub low_half_jump : List ℕ
low_half_jump = 0x7912000000000000 ∷ 0x260203000f000000 ∷ 0x0f21000000000000 ∷ 0x7110010000000000 ∷ 0x9500000000000000 ∷ 0xb700000000000000 ∷ 0x9500000000000000 ∷ []

-- the same with the upper half cleared after the test
unfoldable pub low_half_moved : List ℕ
low_half_moved = 0x7912000000000000 ∷ 0x260204000f000000 ∷ 0xbc22000000000000 ∷ 0x0f21000000000000 ∷ 0x7110010000000000 ∷ 0x9500000000000000 ∷ 0xb700000000000000 ∷ 0x9500000000000000 ∷ []

-- K2 with its jump in class 6: a byte is its own low half
unfoldable pub K2_jump : List ℕ
K2_jump = 0x7112000000000000 ∷ 0x260203000a000000 ∷ 0x0f21000000000000 ∷ 0x7110010000000000 ∷ 0x9500000000000000 ∷ 0xb700000000000000 ∷ 0x9500000000000000 ∷ []

-- r2 = 2^32 + 1; if its low half is 2 answer r1, else 0
unfoldable pub leak_excluded_jump : List ℕ
leak_excluded_jump = 0xb702000001000000 ∷ 0x6702000020000000 ∷ 0x4702000001000000 ∷ 0x1602020002000000 ∷ 0xb700000000000000 ∷ 0x9500000000000000 ∷ 0xbf10000000000000 ∷ 0x9500000000000000 ∷ []

-- stores r1 to the stack and answers 0
unfoldable pub stores_r1 : List ℕ
stores_r1 = 0xb700000000000000 ∷ 0x7b1af8ff00000000 ∷ 0x9500000000000000 ∷ []

-- r2 = 1; if r2 = 2 answer r1, else 0
unfoldable pub leak_excluded : List ℕ
leak_excluded = 0xb702000001000000 ∷ 0x1502020002000000 ∷ 0xb700000000000000 ∷ 0x9500000000000000 ∷ 0xbf10000000000000 ∷ 0x9500000000000000 ∷ []

-- r2 = byte 0; if r2 = 2 answer r1, else 0
unfoldable pub leak_possible : List ℕ
leak_possible = 0x7112000000000000 ∷ 0x1502020002000000 ∷ 0xb700000000000000 ∷ 0x9500000000000000 ∷ 0xbf10000000000000 ∷ 0x9500000000000000 ∷ []

-- JA back at index 1, and no instruction at index 2
unfoldable pub two_faults : List ℕ
two_faults = 0xb700000000000000 ∷ 0x0500ffff00000000 ∷ 0x8f00000000000000 ∷ 0x9500000000000000 ∷ []

-- what two programs do with r2
unfoldable pub from_a_load : List ℕ
from_a_load =
    0xbf23000000000000 ∷ 0x5703000001000000 ∷ 0x6703000007000000 ∷ 0x7702000005000000 ∷ 0x5702000008000000 ∷ 0x4f23000000000000 ∷ 0x4703000070000000
    ∷ 0xa503060071000000 ∷ 0x2503050081000000 ∷ 0x1703000070000000 ∷ 0x1703000001000000 ∷ 0x0f31000000000000 ∷ 0x7110000000000000 ∷ 0x9500000000000000
    ∷ 0xb700000000000000 ∷ 0x9500000000000000 ∷ []

-- r2 = 2 bytes; r3 = bit 0 of r2 as 128, or bit 8 of r2 as 8, or 112; if r3 is from 113 to 129 answer the byte at r3 - 113, else 0
unfoldable pub two_bytes : List ℕ
two_bytes = 0x6912000000000000 ∷ from_a_load

-- the same of 1 byte, of which bit 8 is 0: r3 is 112 or 240
unfoldable pub one_byte : List ℕ
one_byte = 0x7112000000000000 ∷ from_a_load
