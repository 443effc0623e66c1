-- What a comparison of low halves tells of some numbers, computed.
use mathlib.Core.Path.{◌≡◌, refl}
use mathlib.Core.Bool.{true, false}
use Prim.Native.Nat.{ℕ}
use lib.Count.{count_leading_zeros}
use Rattle.std.specs.Prelude.{Some, None}
use Rattle.word.specs.Word.{cut, alu}
use Rattle.word.specs.declared.Comparison.TheVariants.{Eq, Gt, Set, Ne, Sgt, Slt, Lt}
use Rattle.known_bits.specs.Formula.{calculated, formula, low, sum, up_to, among, cleared, met}
use Rattle.number.specs.declared.Number.{Number}
use Rattle.number.specs.Sharpen.{narrowed, still_unknown, learnt, sharpened, just, exact, everything, loaded}
use Rattle.number.specs.Ranges.{straight, sum_range, ranged}
use Rattle.number.specs.Computed.{block, modulo, second, computed_range, computed}
use Rattle.number.specs.Compare.{settled, bounds, ordered_in, ordered, exchanged, above, common, equal_by, equal, empty, without, apart_from, unequal, resharpened, disjoint_by, disjoint_of, disjoint, firsts, taken, not_taken}
use Rattle.number.specs.Halves.{unsigned, signed, low_half, moved_half, compared, moved_back, low_halves, halves, halves_of_bits, halves_of_range, with_low, whole, taken32, not_taken32, refined32}

-- the numbers from lo to hi, among those of the bits m
abbrev from : ℕ → ℕ → ℕ → Number
from lo hi m = record { bits = among m; range = record { lo = lo; hi = hi } }

-- 4 bytes are their own low half: on both sides of a limit
pub four_bytes_against_fifteen : (refined32 Gt false (loaded 4) (exact 15) ≡ Some (from 0 15 15, exact 15))
    × (refined32 Gt true (loaded 4) (exact 15) ≡ Some (from 16 0xffffffff 0xffffffff, exact 15))
    × (refined32 Gt false (from 16 20 31) (exact 15) ≡ None)
    × (refined32 Gt true (from 0 16 31) (exact 15) ≡ Some (exact 16, exact 15))
unfolding narrowed still_unknown learnt sharpened just exact among up_to count_leading_zeros calculated formula low sum cut alu everything loaded straight sum_range ranged block modulo second computed_range computed settled refined32 taken32 not_taken32 taken not_taken whole with_low halves_of_range halves_of_bits halves low_halves moved_back low_half compared moved_half signed unsigned common firsts equal equal_by met above exchanged ordered ordered_in bounds
four_bytes_against_fifteen = (refl, refl, refl, refl)

-- of any number only the low half is known to be at most 15: what is done with the whole is bounded by nothing
pub any_number_against_fifteen : refined32 Gt false (loaded 8) (exact 15) ≡ Some (from 0 0xffffffffffffffff 0xffffffff0000000f, exact 15)
unfolding narrowed still_unknown learnt sharpened just exact among up_to count_leading_zeros calculated formula low sum cut alu everything loaded straight sum_range ranged block modulo second computed_range computed settled refined32 taken32 not_taken32 taken not_taken whole with_low halves_of_range halves_of_bits halves low_halves moved_back low_half compared moved_half signed unsigned common firsts equal equal_by met above exchanged ordered ordered_in bounds
any_number_against_fifteen = refl

-- the upper half of an operand does not enter: imm -1 is 0xffffffff here
pub at_most_minus_one_is_all : (refined32 Gt true (loaded 8) (exact 0xffffffffffffffff) ≡ None)
    × (refined32 Lt true (exact 0x100000003) (exact 4) ≡ Some (exact 0x100000003, exact 4))
unfolding narrowed still_unknown learnt sharpened just exact among up_to count_leading_zeros calculated formula low sum cut alu everything loaded straight sum_range ranged block modulo second computed_range computed settled refined32 taken32 not_taken32 taken not_taken whole with_low halves_of_range halves_of_bits halves low_halves moved_back low_half compared moved_half signed unsigned common firsts equal equal_by met above exchanged ordered ordered_in bounds
at_most_minus_one_is_all = (refl, refl)

-- the sign is bit 31
pub four_bytes_by_sign : (refined32 Slt true (loaded 4) (exact 0) ≡ Some (record { bits = record { value = 0x80000000; mask = 0x7fffffff }; range = record { lo = 0x80000000; hi = 0xffffffff } }, exact 0))
    × (refined32 Slt false (loaded 4) (exact 0) ≡ Some (from 0 0x7fffffff 0x7fffffff, exact 0))
    × (refined32 Sgt true (loaded 8) (exact 0xffffffffffffffff) ≡ Some (from 0 0xffffffffffffffff 0xffffffff7fffffff, exact 0xffffffffffffffff))
    × (refined32 Sgt false (loaded 8) (exact 15) ≡ Some (loaded 8, exact 15))
unfolding narrowed still_unknown learnt sharpened just exact among up_to count_leading_zeros calculated formula low sum cut alu everything loaded straight sum_range ranged block modulo second computed_range computed settled refined32 taken32 not_taken32 taken not_taken whole with_low halves_of_range halves_of_bits halves low_halves moved_back low_half compared moved_half signed unsigned common firsts equal equal_by met above exchanged ordered ordered_in bounds
four_bytes_by_sign = (refl, refl, refl, refl)

-- equality and common bits of the low halves
pub any_number_with_a_low_half : (refined32 Eq true (loaded 8) (exact 7) ≡ Some (record { bits = record { value = 7; mask = 0xffffffff00000000 }; range = record { lo = 0; hi = 0xffffffffffffffff } }, exact 7))
    × (refined32 Ne true (from 3 10 15) (exact 3) ≡ Some (from 4 10 15, exact 3))
    × (refined32 Set false (loaded 1) (exact 0xfffffffffffffff0) ≡ Some (from 0 15 15, exact 0xfffffffffffffff0))
unfolding narrowed still_unknown learnt sharpened just exact among up_to count_leading_zeros calculated formula low sum cut alu everything loaded straight sum_range ranged block modulo second computed_range computed settled refined32 taken32 not_taken32 taken not_taken whole with_low halves_of_range halves_of_bits halves low_halves moved_back low_half compared moved_half signed unsigned common firsts equal equal_by met unequal apart_from without empty bounds disjoint disjoint_of disjoint_by resharpened cleared
any_number_with_a_low_half = (refl, refl, refl)
