-- The worked programs of docs/MACHINE.md, section 6, as theorems by computation about the definitions.
-- A program is written as there, eight bytes a numeral.
use mathlib.Core.Path.{◌≡◌, refl}
use mathlib.Core.List.{List, [], ◌∷◌, ◌++◌}
use Prim.Native.Nat.{ℕ, zero, suc, ◌+◌, ◌-◌, ◌/◌, ◌%◌, ◌^◌}
use Rattle.word.specs.Word.{cut, extend, shift_signed, alu, moved, compare, read_bytes, write_bytes}
use Rattle.machine.specs.declared.instruction.Instruction.{Instruction}
use Rattle.machine.specs.declared.instruction.Instruction.TheVariants.{NoInstruction}
use Rattle.machine.specs.declared.outcome.Cause.TheVariants.{OffEnd, Unset, WriteR10, BadAccess}
use Rattle.machine.specs.declared.outcome.Outcome.{Outcome}
use Rattle.machine.specs.declared.outcome.Outcome.TheVariants.{Verdict, Fault, Budget}
use Rattle.machine.specs.Instruction.{fields, only, lookup, with_operand, operations, arithmetic, comparisons, jump, loads, stores_of_imm, stores_of_src, load, store_of_imm, store_of_src, by_class, meaning, decode, reads_operand, reads_dst, reads, writes}
use Rattle.machine.specs.Machine.{content, held, value, operand_value, put, jumped, bits, bytes, address, within, loaded, after_load, after_store, effect, is_no_instruction, names10, is_unset, any_unset, obey, step, next, runs, start, bad_program, bad_record, bad_stack, bad_address, overlap, refused, interpreted}

-- the eight bytes of a numeral as they are printed, highest digits first
eight : ℕ → List ℕ
eight n =
    n / 256 ^ 7 ∷ n / 256 ^ 6 % 256 ∷ n / 256 ^ 5 % 256 ∷ n / 256 ^ 4 % 256 ∷ n / 256 ^ 3 % 256 ∷ n / 256 ^ 2 % 256 ∷ n / 256 % 256 ∷ n % 256 ∷ []

program : List ℕ → List ℕ
program [] = []
program (n ∷ ns) = eight n ++ program ns

-- n bytes that count up from k: "1.." is count n 1
count : ℕ → ℕ → List ℕ
count zero k = []
count (suc n) k = k ∷ count n (k + 1)

P : ℕ
P = 0x10000

S : ℕ
S = 0x20000

zeros : ℕ → List ℕ
zeros zero = []
zeros (suc n) = 0 ∷ zeros n

-- the outcome of a run with the record at P, the stack at S and steps enough
outcome : List ℕ → List ℕ → Outcome
unfolding eight program count P S zeros cut extend shift_signed alu moved compare read_bytes write_bytes fields only lookup with_operand operations arithmetic comparisons jump loads stores_of_imm stores_of_src load store_of_imm store_of_src by_class meaning decode reads_operand reads_dst reads writes content held value operand_value put jumped bits bytes address within loaded after_load after_store effect is_no_instruction names10 is_unset any_unset obey step next runs start bad_program bad_record bad_stack bad_address overlap refused interpreted
outcome ns rec = (interpreted (program ns) rec P S (zeros 512) 100).outcome

-- ---- K1: r2 = byte 0; r2 &= 60; r1 += r2; r0 = 4 bytes at r1 + 8; exit

K1 : List ℕ
K1 = 0x7112000000000000 ∷ 0x570200003c000000 ∷ 0x0f21000000000000 ∷ 0x6110080000000000 ∷ 0x9500000000000000 ∷ []

K1_72 : outcome K1 (count 72 1) ≡ Verdict 0x0c0b0a09 5
unfolding outcome K1
K1_72 = refl

K1_72_ff : outcome K1 (0xff ∷ count 71 2) ≡ Verdict 0x48474645 5
unfolding outcome K1
K1_72_ff = refl

K1_71_ff : outcome K1 (0xff ∷ count 70 2) ≡ Fault BadAccess 3 3
unfolding outcome K1
K1_71_ff = refl

-- ---- K2: r2 = byte 0; if r2 > 10 answer 0, else the byte at r2 + 1

K2 : List ℕ
K2 =
    0x7112000000000000 ∷ 0x250203000a000000 ∷ 0x0f21000000000000 ∷ 0x7110010000000000 ∷ 0x9500000000000000 ∷ 0xb700000000000000 ∷ 0x9500000000000000 ∷ []

K2_12_at_10 : outcome K2 (10 ∷ count 11 2) ≡ Verdict 12 5
unfolding outcome K2
K2_12_at_10 = refl

K2_12_at_11 : outcome K2 (11 ∷ count 11 2) ≡ Verdict 0 4
unfolding outcome K2
K2_12_at_11 = refl

K2_11_at_10 : outcome K2 (10 ∷ count 10 2) ≡ Fault BadAccess 3 3
unfolding outcome K2
K2_11_at_10 = refl

-- ---- K3: 8 bytes to the lowest stack address, 2 bytes back

K3 : outcome (0xb702000002010000 ∷ 0x7b2a00fe00000000 ∷ 0x69a000fe00000000 ∷ 0x9500000000000000 ∷ []) [] ≡ Verdict 258 4
unfolding outcome
K3 = refl

-- ---- K4: r2 = (byte 0 and 48) xor 16; the byte there

K4 : List ℕ
K4 = 0x7112000000000000 ∷ 0x5702000030000000 ∷ 0xa702000010000000 ∷ 0x0f21000000000000 ∷ 0x7110000000000000 ∷ 0x9500000000000000 ∷ []

K4_49 : outcome K4 (32 ∷ count 48 2) ≡ Verdict 49 6
unfolding outcome K4
K4_49 = refl

K4_48 : outcome K4 (32 ∷ count 47 2) ≡ Fault BadAccess 4 4
unfolding outcome K4
K4_48 = refl

-- ---- K5 to K8

-- ST of 4 bytes of -2, 8 bytes back
K5 : outcome (0x620af8fffeffffff ∷ 0x79a0f8ff00000000 ∷ 0x9500000000000000 ∷ []) [] ≡ Verdict 4294967294 3
unfolding outcome
K5 = refl

-- 32-bit MOD of 2^64 - 1 by 0
K6 : outcome (0xb7020000ffffffff ∷ 0xb703000000000000 ∷ 0x9c32000000000000 ∷ 0xbf20000000000000 ∷ 0x9500000000000000 ∷ []) [] ≡ Verdict 4294967295 5
unfolding outcome
K6 = refl

-- -8 halved on 64, then on 32 bits
K7 : outcome (0xb7000000f8ffffff ∷ 0xc700000001000000 ∷ 0xc400000001000000 ∷ 0x9500000000000000 ∷ []) [] ≡ Verdict 4294967294 4
unfolding outcome
K7 = refl

-- shifted by 64, which counts as 0, then by 65, which counts as 1
K8 : outcome (0xb700000001000000 ∷ 0x6700000040000000 ∷ 0xb702000041000000 ∷ 0x6f20000000000000 ∷ 0x9500000000000000 ∷ []) [] ≡ Verdict 2 5
unfolding outcome
K8 = refl

-- ---- X1 to X6: what a verifier must refuse

-- answers r1: the verdict is P
X1 : outcome (0xbf10000000000000 ∷ 0x9500000000000000 ∷ []) [] ≡ Verdict P 2
unfolding outcome
X1 = refl

-- compares r1 with r10
X2 : List ℕ
X2 = program (0xb700000000000000 ∷ 0x2da1010000000000 ∷ 0xb700000001000000 ∷ 0x9500000000000000 ∷ [])

X2_record_below : (interpreted X2 [] P S (zeros 512) 100).outcome ≡ Verdict 1 4
unfolding outcome X2
X2_record_below = refl

X2_record_above : (interpreted X2 [] S P (zeros 512) 100).outcome ≡ Verdict 0 3
unfolding outcome X2
X2_record_above = refl

X3 : outcome (0x9500000000000000 ∷ []) [] ≡ Fault Unset 0 0
unfolding outcome
X3 = refl

X4 : outcome (0xb700000000000000 ∷ []) [] ≡ Fault OffEnd 1 1
unfolding outcome
X4 = refl

-- r10 += -8
X5 : outcome (0x070a0000f8ffffff ∷ 0x9500000000000000 ∷ []) [] ≡ Fault WriteR10 0 0
unfolding outcome
X5 = refl

-- one byte below the stack
X6 : outcome (0xb700000000000000 ∷ 0x730afffd00000000 ∷ 0x9500000000000000 ∷ []) [] ≡ Fault BadAccess 1 1
unfolding outcome
X6 = refl

-- ---- which fault comes first, jumps, and a budget

-- r10 = r2 with r2 unset: WRITE_R10 is tested before UNSET
write_r10_before_unset : outcome (0xbf2a000000000000 ∷ 0x9500000000000000 ∷ []) [] ≡ Fault WriteR10 0 0
unfolding outcome
write_r10_before_unset = refl

-- a budget of one step answers before the second instruction is looked at
budget_of_one : (interpreted (program (0xb700000000000000 ∷ 0x9500000000000000 ∷ [])) [] P S (zeros 512) 1).outcome ≡ Budget 1
unfolding outcome
budget_of_one = refl

-- JA reads no register
ja_reads_nothing : outcome (0x0500000000000000 ∷ 0xb700000000000000 ∷ 0x9500000000000000 ∷ []) [] ≡ Verdict 0 3
unfolding outcome
ja_reads_nothing = refl

-- a jump back before 0 is off the end, at an index modulo 2^64
jump_before_0 : outcome (0x0500feff00000000 ∷ []) [] ≡ Fault OffEnd (2 ^ 64 - 1) 1
unfolding outcome
jump_before_0 = refl

-- r2 = 2^32 + 5; "if w2 == 5" is taken, "if r2 == 5" is not
low_half_equal : outcome (0xb702000001000000 ∷ 0x6702000020000000 ∷ 0x0702000005000000 ∷ 0xb700000001000000 ∷ 0x1602010005000000 ∷ 0xb700000000000000 ∷ 0x9500000000000000 ∷ []) [] ≡ Verdict 1 6
unfolding outcome
low_half_equal = refl

whole_unequal : outcome (0xb702000001000000 ∷ 0x6702000020000000 ∷ 0x0702000005000000 ∷ 0xb700000001000000 ∷ 0x1502010005000000 ∷ 0xb700000000000000 ∷ 0x9500000000000000 ∷ []) [] ≡ Verdict 0 7
unfolding outcome
whole_unequal = refl

-- r2 = 2^31; "if w2 s< 0" is taken, "if r2 s< 0" is not
low_half_negative : outcome (0xb402000000000080 ∷ 0xb700000001000000 ∷ 0xc602010000000000 ∷ 0xb700000000000000 ∷ 0x9500000000000000 ∷ []) [] ≡ Verdict 1 4
unfolding outcome
low_half_negative = refl

whole_not_negative : outcome (0xb402000000000080 ∷ 0xb700000001000000 ∷ 0xc502010000000000 ∷ 0xb700000000000000 ∷ 0x9500000000000000 ∷ []) [] ≡ Verdict 0 5
unfolding outcome
whole_not_negative = refl

-- ---- no instruction, though close to one

meant : ℕ → Instruction
unfolding outcome
meant n = decode (eight n) 0

src_with_an_immediate : meant 0xb710000001000000 ≡ NoInstruction
unfolding meant
src_with_an_immediate = refl

r11 : meant 0xb70b000001000000 ≡ NoInstruction
unfolding meant
r11 = refl

off_in_mov : meant 0xbf10080000000000 ≡ NoInstruction
unfolding meant
off_in_mov = refl

-- JA and EXIT are of class 5 alone
ja_in_class_6 : meant 0x0600000000000000 ≡ NoInstruction
unfolding meant
ja_in_class_6 = refl

exit_in_class_6 : meant 0x9600000000000000 ≡ NoInstruction
unfolding meant
exit_in_class_6 = refl

neg_with_bit_3 : meant 0x8f00000000000000 ≡ NoInstruction
unfolding meant
neg_with_bit_3 = refl

imm_in_exit : meant 0x9500000001000000 ≡ NoInstruction
unfolding meant
imm_in_exit = refl
