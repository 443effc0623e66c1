-- What a comparison tells of some numbers, computed: on both sides of each limit.
use mathlib.Core.Path.{◌≡◌, refl}
use mathlib.Core.Bool.{true, false}
use Prim.Native.Nat.{ℕ}
use lib.Count.{count_leading_zeros}
use Rattle.std.specs.Prelude.{Some, None}
use Rattle.word.specs.Word.{cut, alu, shift_signed}
use Rattle.word.specs.declared.Operation.TheVariants.{Add, Lsh, Arsh}
use Rattle.word.specs.declared.Comparison.TheVariants.{Eq, Gt, Set, Ne, Sgt, Lt}
use Rattle.known_bits.specs.Formula.{calculated, formula, low, sum, up_to, among, shifted_by, shifted, cleared, met}
use Rattle.number.specs.declared.Number.{Number}
use Rattle.number.specs.declared.Range.{Range}
use Rattle.number.specs.Refined.{Refined}
use Rattle.number.specs.Sharpen.{narrowed, still_unknown, learnt, sharpened, just, exact, everything, loaded}
use Rattle.number.specs.Ranges.{straight, crossed, sum_range, left_range, signed_right_range, ranged}
use Rattle.number.specs.Computed.{block, modulo, second, computed_range, computed}
use Rattle.number.specs.Compare.{settled, bounds, ordered_in, ordered, exchanged, above, common, equal_by, equal, empty, without, apart_from, unequal, resharpened, disjoint_by, disjoint_of, disjoint, turned, firsts, turned_back, signed_ordered, taken, not_taken, refined}

-- the numbers from lo to hi, among those of the bits m
abbrev from : ℕ → ℕ → ℕ → Number
from lo hi m = record { bits = among m; range = record { lo = lo; hi = hi } }

-- the range that is left of the first number; of a way that is excluded, one that is empty
abbrev first_range : Refined → Range
first_range None = record { lo = 1; hi = 0 }
first_range (Some (d, s)) = d.range

abbrev second_range : Refined → Range
second_range None = record { lo = 1; hi = 0 }
second_range (Some (d, s)) = s.range

-- a byte less 1, which is at most 10: the difference that wraps is gone
pub byte_less_one_at_most_ten : (refined Gt false (computed 64 Add (loaded 1) (exact 0xffffffffffffffff)) (exact 10) ≡ Some (record { bits = among 15; range = record { lo = 0; hi = 10 } }, exact 10))
    × (first_range (refined Gt true (computed 64 Add (loaded 1) (exact 0xffffffffffffffff)) (exact 10)) ≡ record { lo = 11; hi = 0xffffffffffffffff })
unfolding narrowed still_unknown learnt sharpened just exact among up_to count_leading_zeros calculated formula low sum cut alu everything loaded straight sum_range ranged block modulo second computed_range computed refined taken not_taken above exchanged ordered ordered_in bounds settled
byte_less_one_at_most_ten = (refl, refl)

-- a number that is not the other loses an end, and nothing in between
pub unequal_loses_an_end : (first_range (refined Ne true (from 3 10 15) (exact 3)) ≡ record { lo = 4; hi = 10 })
    × (first_range (refined Ne true (from 3 10 15) (exact 4)) ≡ record { lo = 3; hi = 10 })
    × (first_range (refined Ne true (from 3 10 15) (exact 10)) ≡ record { lo = 3; hi = 9 })
    × (first_range (refined Eq false (from 3 10 15) (exact 3)) ≡ record { lo = 4; hi = 10 })
    × (refined Ne true (exact 7) (exact 7) ≡ None)
unfolding narrowed still_unknown learnt sharpened just exact among up_to count_leading_zeros refined taken not_taken unequal apart_from without empty bounds settled
unequal_loses_an_end = (refl, refl, refl, refl, refl)

-- a number is equal to another from the first to the last of its range
pub equal_within_the_range : (refined Eq true (from 3 10 15) (exact 2) ≡ None)
    × (refined Eq true (from 3 10 15) (exact 3) ≡ Some (exact 3, exact 3))
    × (refined Eq true (from 3 10 15) (exact 10) ≡ Some (exact 10, exact 10))
    × (refined Eq true (from 3 10 15) (exact 11) ≡ None)
unfolding narrowed still_unknown learnt sharpened just exact among up_to count_leading_zeros refined taken equal equal_by common met settled
equal_within_the_range = (refl, refl, refl, refl)

-- a byte that shares no bit with 240
pub byte_without_its_high_bits : refined Set false (loaded 1) (exact 240) ≡ Some (record { bits = among 15; range = record { lo = 0; hi = 15 } }, exact 240)
unfolding narrowed still_unknown learnt sharpened just exact among up_to count_leading_zeros everything loaded refined not_taken disjoint disjoint_of disjoint_by resharpened cleared settled
byte_without_its_high_bits = refl

-- a number of 4 bytes, extended with its sign, that is not above 15 may have any sign: nothing is told of it
pub signed_not_above_fifteen_tells_nothing : refined Sgt false (computed 64 Arsh (computed 64 Lsh (loaded 4) (exact 32)) (exact 32)) (exact 15) ≡ Some (from 0 0xffffffffffffffff 0xffffffffffffffff, exact 15)
unfolding narrowed still_unknown learnt sharpened just exact among up_to count_leading_zeros calculated formula low sum cut alu everything loaded straight sum_range ranged block modulo second computed_range computed shifted shifted_by left_range signed_right_range shift_signed crossed refined not_taken ordered ordered_in bounds settled signed_ordered turned_back turned firsts equal equal_by common met
signed_not_above_fifteen_tells_nothing = refl

-- signed order on both sides of a limit
pub signed_sixteen_is_above_fifteen : (refined Sgt false (exact 16) (exact 15) ≡ None)
    × (refined Sgt false (exact 15) (exact 15) ≡ Some (exact 15, exact 15))
    × (refined Sgt false (exact 0xffffffffffffffff) (exact 15) ≡ Some (exact 0xffffffffffffffff, exact 15))
unfolding narrowed still_unknown learnt sharpened just exact among up_to count_leading_zeros calculated formula low sum cut alu everything loaded straight sum_range ranged block modulo second computed_range computed refined not_taken ordered ordered_in bounds settled signed_ordered turned_back turned firsts equal equal_by common met
signed_sixteen_is_above_fifteen = (refl, refl, refl)

-- two numbers sharpen each other
pub both_are_sharpened : (first_range (refined Lt true (from 16 100 127) (from 0 50 63)) ≡ record { lo = 16; hi = 49 })
    × (second_range (refined Lt true (from 16 100 127) (from 0 50 63)) ≡ record { lo = 17; hi = 50 })
    × (refined Lt true (from 50 100 127) (from 0 50 63) ≡ None)
unfolding narrowed still_unknown learnt sharpened just exact among up_to count_leading_zeros refined taken ordered ordered_in bounds settled
both_are_sharpened = (refl, refl, refl)
