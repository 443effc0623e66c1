-- The worked programs of docs/VERIFIER.md, judged by computation: both sides of each limit.
use mathlib.Core.Path.{◌≡◌, refl}
use mathlib.Core.List.{List, [], ◌∷◌}
use Prim.Native.Nat.{ℕ}
use lib.Count.{count_leading_zeros, count_trailing_zeros}
use Rattle.word.specs.Word.{bit, cut, extend, shift_signed, alu, moved, read_bytes}
use Rattle.machine.specs.Instruction.{fields, only, lookup, with_operand, operations, arithmetic, comparisons, jump, loads, stores_of_imm, stores_of_src, load, store_of_imm, store_of_src, by_class, meaning, decode, writes}
use Rattle.machine.specs.Machine.{bits, bytes, is_no_instruction, names10, bad_program, bad_record}
use Rattle.known_bits.specs.Formula.{placed, with_digit, low_digits, shift_and_add, low, sum, difference, digits, parity, up_to, from_bit, among, highest_product, product_mask, known, product, power, quotient, highest_rest, rest, shifted_by, joined, highest_shifted, left_mask, signed_right, shifted_unknown, single, shifted, formula, calculated, cleared, met}
use Rattle.number.specs.Sharpen.{narrowed, still_unknown, learnt, sharpened, just, exact, everything, loaded, joined_range, joined_number}
use Rattle.number.specs.Ranges.{straight, crossed, sum_range, difference_range, product_range, quotient_range, same_quotient, rest_range, longest, left_range, signed_right_range, ranged}
use Rattle.number.specs.Computed.{block, modulo, second, computed_range, computed, fits}
use Rattle.number.specs.Compare.{settled, bounds, ordered_in, ordered, exchanged, above, common, equal_by, equal, empty, without, apart_from, unequal, resharpened, disjoint_by, disjoint_of, disjoint, overlapping_of, overlapping, turned, firsts, turned_back, signed_ordered, signed_above, taken, not_taken, refined}
use Rattle.number.specs.Halves.{unsigned, signed, low_half, moved_half, compared, moved_back, low_halves, halves, halves_of_bits, halves_of_range, with_low, whole, taken32, not_taken32, refined32}
use Rattle.analysis.specs.Values.{value_of, operand_of, start_facts, same_region, joined_gone, joined_value, joined_values, joined_facts, meeting}
use Rattle.analysis.specs.Effects.{is_never, is_mixed, reading, reading_both, put, role, calculate, limit, store_at, store, fork, exit, effect}
use Rattle.analysis.specs.Effects as effects
use Rattle.analysis.specs.Form.{instruction, off_of, goes_back, goes_out, may_be_last, goes_on, failing}
use Rattle.analysis.specs.Paths.{no_target, aimed, reaching, connected}
use Rattle.analysis.specs.Judged.{reason_number, pair, having, along, apply, nobody, arrive, send, and_then, distribute, visit, conclude, pass, or_else, formed, followed, on_paths, on_form, judged}
use Rattle.analysis.specs.Judged as judgements
use Rattle.analysis.proofs.Programs.{eight, program, K1, K2, K3, K4, K5, K6, K7, K8, X1, X2, X3, jset_240, byte_less_1, four_less_3, signed_15, low_half_program, low_half_jump, low_half_moved, K2_jump, leak_excluded_jump, stores_r1, leak_excluded, leak_possible, two_faults, from_a_load, two_bytes, one_byte}

-- the answer for a record of R bytes
answer : List ℕ → ℕ → ℕ × ℕ
unfolding eight program bit placed with_digit low_digits shift_and_add cut extend shift_signed alu moved read_bytes fields only lookup with_operand operations arithmetic comparisons jump loads stores_of_imm stores_of_src load store_of_imm store_of_src by_class meaning decode writes bits bytes is_no_instruction names10 bad_program bad_record low sum difference digits parity up_to from_bit among highest_product product_mask known product power quotient highest_rest rest shifted_by joined highest_shifted left_mask signed_right shifted_unknown single shifted formula calculated cleared met count_leading_zeros count_trailing_zeros narrowed still_unknown learnt sharpened just exact everything loaded joined_range joined_number straight crossed sum_range difference_range product_range quotient_range same_quotient rest_range longest left_range signed_right_range ranged block modulo second computed_range computed fits settled bounds ordered_in ordered exchanged above common equal_by equal empty without apart_from unequal resharpened disjoint_by disjoint_of disjoint overlapping_of overlapping turned firsts turned_back signed_ordered signed_above taken not_taken refined unsigned signed low_half moved_half compared moved_back low_halves halves halves_of_bits halves_of_range with_low whole taken32 not_taken32 refined32 value_of operand_of start_facts same_region joined_gone joined_value joined_values joined_facts meeting is_never is_mixed reading reading_both put role calculate effects.sum effects.difference effects.arithmetic limit effects.load store_at store effects.told fork exit effect instruction off_of goes_back goes_out may_be_last goes_on failing no_target aimed reaching connected reason_number pair having judgements.with_operand along apply nobody arrive send and_then distribute visit conclude pass or_else formed followed on_paths on_form judged
answer ns R = pair (judged (program ns) R).finding

K1_with_72 : answer K1 72 ≡ (0, 0)
unfolding answer K1
K1_with_72 = refl

K1_with_71 : answer K1 71 ≡ (8, 3)
unfolding answer K1
K1_with_71 = refl

K2_with_12 : answer K2 12 ≡ (0, 0)
unfolding answer K2
K2_with_12 = refl

K2_with_11 : answer K2 11 ≡ (8, 3)
unfolding answer K2
K2_with_11 = refl

K3_with_0 : answer K3 0 ≡ (0, 0)
unfolding answer K3
K3_with_0 = refl

K4_with_49 : answer K4 49 ≡ (0, 0)
unfolding answer K4
K4_with_49 = refl

K4_with_48 : answer K4 48 ≡ (8, 4)
unfolding answer K4
K4_with_48 = refl

K5_with_0 : answer K5 0 ≡ (0, 0)
unfolding answer K5
K5_with_0 = refl

K6_with_0 : answer K6 0 ≡ (0, 0)
unfolding answer K6
K6_with_0 = refl

K7_with_0 : answer K7 0 ≡ (0, 0)
unfolding answer K7
K7_with_0 = refl

K8_with_0 : answer K8 0 ≡ (0, 0)
unfolding answer K8
K8_with_0 = refl

X1_with_0 : answer X1 0 ≡ (9, 1)
unfolding answer X1
X1_with_0 = refl

X1_with_1024 : answer X1 1024 ≡ (9, 1)
unfolding answer X1
X1_with_1024 = refl

X2_with_0 : answer X2 0 ≡ (9, 1)
unfolding answer X2
X2_with_0 = refl

X3_with_0 : answer X3 0 ≡ (7, 0)
unfolding answer X3
X3_with_0 = refl

jset_240_with_16 : answer jset_240 16 ≡ (0, 0)
unfolding answer jset_240
jset_240_with_16 = refl

jset_240_with_15 : answer jset_240 15 ≡ (8, 3)
unfolding answer jset_240
jset_240_with_15 = refl

byte_less_1_with_12 : answer byte_less_1 12 ≡ (0, 0)
unfolding answer byte_less_1
byte_less_1_with_12 = refl

byte_less_1_with_11 : answer byte_less_1 11 ≡ (8, 4)
unfolding answer byte_less_1
byte_less_1_with_11 = refl

four_less_3_with_2 : answer four_less_3 2 ≡ (0, 0)
unfolding answer four_less_3
four_less_3_with_2 = refl

four_less_3_with_1 : answer four_less_3 1 ≡ (8, 2)
unfolding answer four_less_3
four_less_3_with_1 = refl

signed_15_with_4 : answer signed_15 4 ≡ (8, 5)
unfolding answer signed_15
signed_15_with_4 = refl

signed_15_with_1024 : answer signed_15 1024 ≡ (8, 5)
unfolding answer signed_15
signed_15_with_1024 = refl

low_half_with_8 : answer low_half_program 8 ≡ (8, 4)
unfolding answer low_half_program
low_half_with_8 = refl

low_half_with_1024 : answer low_half_program 1024 ≡ (8, 4)
unfolding answer low_half_program
low_half_with_1024 = refl

low_half_jump_with_8 : answer low_half_jump 8 ≡ (8, 3)
unfolding answer low_half_jump
low_half_jump_with_8 = refl

low_half_jump_with_1024 : answer low_half_jump 1024 ≡ (8, 3)
unfolding answer low_half_jump
low_half_jump_with_1024 = refl

low_half_moved_with_17 : answer low_half_moved 17 ≡ (0, 0)
unfolding answer low_half_moved
low_half_moved_with_17 = refl

low_half_moved_with_16 : answer low_half_moved 16 ≡ (8, 4)
unfolding answer low_half_moved
low_half_moved_with_16 = refl

K2_jump_with_12 : answer K2_jump 12 ≡ (0, 0)
unfolding answer K2_jump
K2_jump_with_12 = refl

K2_jump_with_11 : answer K2_jump 11 ≡ (8, 3)
unfolding answer K2_jump
K2_jump_with_11 = refl

-- a way that is excluded at 32 bits is not followed
leak_excluded_jump_with_0 : answer leak_excluded_jump 0 ≡ (0, 0)
unfolding answer leak_excluded_jump
leak_excluded_jump_with_0 = refl

stores_r1_with_0 : answer stores_r1 0 ≡ (9, 1)
unfolding answer stores_r1
stores_r1_with_0 = refl

stores_r1_with_1024 : answer stores_r1 1024 ≡ (9, 1)
unfolding answer stores_r1
stores_r1_with_1024 = refl

leak_excluded_with_1 : answer leak_excluded 1 ≡ (0, 0)
unfolding answer leak_excluded
leak_excluded_with_1 = refl

leak_possible_with_1 : answer leak_possible 1 ≡ (9, 5)
unfolding answer leak_possible
leak_possible_with_1 = refl

-- ---- the order of the tests on form

empty_and_long : answer [] 1025 ≡ (1, 0)
unfolding answer
empty_and_long = refl

X3_and_long : answer X3 1025 ≡ (2, 0)
unfolding answer X3
X3_and_long = refl

-- a write of r10 at the last index
last_writes_r10 : answer (0xb70a000001000000 ∷ []) 0 ≡ (4, 0)
unfolding answer
last_writes_r10 = refl

-- a conditional jump back at the last index
last_jumps_back : answer (0xb700000000000000 ∷ 0x1500feff00000000 ∷ []) 0 ≡ (5, 1)
unfolding answer
last_jumps_back = refl

-- a conditional jump at the last index, to itself and one more
last_jumps_out : answer (0xb700000000000000 ∷ 0x1500000000000000 ∷ []) 0 ≡ (6, 1)
unfolding answer
last_jumps_out = refl

-- the lower index comes before the lower reason
two_faults_found : answer two_faults 0 ≡ (5, 1)
unfolding answer two_faults
two_faults_found = refl

-- ---- dead code

-- nothing jumps to what stands after EXIT
after_exit : answer (0xb700000000000000 ∷ 0x9500000000000000 ∷ 0x9500000000000000 ∷ []) 0 ≡ (12, 2)
unfolding answer
after_exit = refl

-- nor to what JA jumps over
after_ja : answer (0xb700000000000000 ∷ 0x0500010000000000 ∷ 0xb700000001000000 ∷ 0x9500000000000000 ∷ []) 0 ≡ (12, 2)
unfolding answer
after_ja = refl

-- what only dead code jumps to is dead as well; the lowest index is named
dead_jumps_on : answer (0xb700000000000000 ∷ 0x0500010000000000 ∷ 0x0500010000000000 ∷ 0x9500000000000000 ∷ 0x9500000000000000 ∷ []) 0 ≡ (12, 2)
unfolding answer
dead_jumps_on = refl

-- a jump that is never taken is a path all the same: the values don't count
never_taken : answer (0xb700000000000000 ∷ 0x5500010000000000 ∷ 0x9500000000000000 ∷ 0x9500000000000000 ∷ []) 0 ≡ (0, 0)
unfolding answer
never_taken = refl

-- and a JA to the next instruction leads there
ja_to_the_next : answer (0xb700000000000000 ∷ 0x0500000000000000 ∷ 0x9500000000000000 ∷ []) 0 ≡ (0, 0)
unfolding answer
ja_to_the_next = refl

-- the tests at each index come first, dead code or not
dead_and_no_instruction : answer (0xb700000000000000 ∷ 0x9500000000000000 ∷ 0x8f00000000000000 ∷ 0x9500000000000000 ∷ []) 0 ≡ (3, 2)
unfolding answer
dead_and_no_instruction = refl

-- and the values after it: r0 is unset at index 0
dead_and_unset : answer (0x9500000000000000 ∷ 0x9500000000000000 ∷ []) 0 ≡ (12, 1)
unfolding answer
dead_and_unset = refl

two_bytes_with_8 : answer two_bytes 8 ≡ (0, 0)
unfolding answer two_bytes from_a_load
two_bytes_with_8 = refl

-- no run comes to index 10, and what is known there contradicts itself: 112 or 240, and from 113 to 129
one_byte_with_8 : answer one_byte 8 ≡ (8, 13)
unfolding answer one_byte from_a_load
one_byte_with_8 = refl
