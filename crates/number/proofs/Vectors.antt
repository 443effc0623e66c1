-- Numbers computed, on both sides of the limits at which a range becomes unknown. Each field is a theorem by computation; they stand in
-- one record because they unfold the same definitions.
use mathlib.Core.Path.{◌≡◌, refl}
use mathlib.Core.Bool.{true, false}
use Prim.Native.Nat.{ℕ, ◌+◌, ◌-◌, ◌^◌}
use lib.Count.{count_leading_zeros, count_trailing_zeros}
use Rattle.word.specs.Word.{bit, cut, alu, shift_signed}
use Rattle.word.specs.declared.Operation.TheVariants.{Add, Sub, Mul, Or, And, Rsh, Neg, Mod}
use Rattle.known_bits.specs.Formula.{calculated, formula, low, sum, difference, digits, up_to, from_bit, among, highest_product, product_mask, placed, with_digit, low_digits, shift_and_add, known, product, power, quotient, highest_rest, rest, shifted_by, joined, shifted}
use Rattle.number.specs.declared.Range.{Range}
use Rattle.number.specs.declared.Number.{Number}
use Rattle.number.specs.Sharpen.{narrowed, still_unknown, learnt, sharpened, just, exact, everything, loaded, joined_range, joined_number}
use Rattle.number.specs.Ranges.{straight, crossed, sum_range, difference_range, product_range, quotient_range, same_quotient, rest_range, longest, left_range, signed_right_range, ranged}
use Rattle.number.specs.Computed.{block, modulo, second, computed_range, computed, fits}

abbrev ends : ℕ → ℕ → Range
ends l h = record { lo = l; hi = h }

abbrev number : ℕ → ℕ → ℕ → ℕ → Number
number value mask l h = record { bits = record { value = value; mask = mask }; range = ends l h }

record Vectors : Type 0 where
  -- byte * 24 + 3
  offset : (computed 64 Add (computed 64 Mul (loaded 1) (exact 24)) (exact 3)).range ≡ ends 3 6123
  -- the greatest sum is the last number of 64 bits, and one more
  sum_fits_64 : (computed 64 Add (loaded 4) (exact (2 ^ 64 - 2 ^ 32))).range ≡ ends (2 ^ 64 - 2 ^ 32) (2 ^ 64 - 1)
  sum_may_wrap_64 : (computed 64 Add (loaded 4) (exact (2 ^ 64 - 2 ^ 32 + 1))).range ≡ everything 64
  -- the same at 32 bits
  sum_fits_32 : (computed 32 Add (loaded 2) (exact (2 ^ 32 - 2 ^ 16))).range ≡ ends (2 ^ 32 - 2 ^ 16) (2 ^ 32 - 1)
  sum_may_wrap_32 : (computed 32 Add (loaded 2) (exact (2 ^ 32 - 2 ^ 16 + 1))).range ≡ everything 32
  -- byte + 16 - 16, with a sum that always wraps
  sum_wraps : (computed 64 Add (computed 64 Add (loaded 1) (exact 16)) (exact (2 ^ 64 - 16))).range ≡ ends 0 255
  -- byte + 255 - byte, and byte + 254 - byte
  difference_fits : (computed 64 Sub (computed 64 Add (loaded 1) (exact 255)) (loaded 1)).range ≡ ends 0 510
  difference_may_wrap : (computed 64 Sub (computed 64 Add (loaded 1) (exact 254)) (loaded 1)).range ≡ everything 64
  product_fits : product_range (ends 1 (2 ^ 32)) (just (2 ^ 32 - 1)) ≡ ends (2 ^ 32 - 1) (2 ^ 64 - 2 ^ 32)
  product_may_wrap : product_range (ends 1 (2 ^ 32)) (just (2 ^ 32)) ≡ everything 64
  -- by a byte, and by a byte | 1
  rest_by_any : (computed 64 Mod (loaded 2) (loaded 1)).range ≡ ends 0 65535
  rest_by_some : (computed 64 Mod (loaded 2) (computed 64 Or (loaded 1) (exact 1))).range ≡ ends 0 254
  masked : computed 64 And (loaded 8) (exact 60) ≡ record { bits = record { value = 0; mask = 60 }; range = ends 0 60 }
  shifted_right : (computed 64 Rsh (loaded 4) (exact 28)).range ≡ ends 0 15
  negative : (computed 32 Neg (computed 32 Or (loaded 1) (exact 1)) (exact 0)).range ≡ ends (2 ^ 32 - 255) (2 ^ 32 - 1)
  join : joined_number (exact 3) (exact 12) ≡ record { bits = record { value = 0; mask = 15 }; range = ends 3 12 }
  -- 112, 120, 240 or 248, and 112 or 240, from 113 to 129, less 112; the second is empty, since no such number is there
  some_left : computed 64 Sub (number 112 136 113 129) (exact 112) ≡ number 0 8 1 8
  none_left : computed 64 Sub (number 112 128 113 129) (exact 112) ≡ number 0 0 1 0
  -- so that less is told where more is known, and that no range is empty has to be asked
  one_less : computed 64 Sub (number 0 8 1 8) (exact 1) ≡ exact 7
  one_less_of_none : computed 64 Sub (number 0 0 1 0) (exact 1) ≡ exact (2 ^ 64 - 1)
  reaches_the_limit : fits (loaded 1) 8 263 ≡ true
  passes_the_limit : fits (loaded 1) 8 262 ≡ false

vectors : Vectors
unfolding calculated formula low sum difference digits product placed with_digit low_digits shift_and_add known among product_mask from_bit highest_product up_to power quotient highest_rest rest shifted shifted_by joined count_leading_zeros count_trailing_zeros bit cut alu shift_signed narrowed still_unknown learnt sharpened just exact everything loaded joined_range joined_number straight crossed sum_range difference_range product_range quotient_range same_quotient rest_range longest left_range signed_right_range ranged block modulo second computed_range computed fits
vectors =
    record {
      offset = refl;
      sum_fits_64 = refl;
      sum_may_wrap_64 = refl;
      sum_fits_32 = refl;
      sum_may_wrap_32 = refl;
      sum_wraps = refl;
      difference_fits = refl;
      difference_may_wrap = refl;
      product_fits = refl;
      product_may_wrap = refl;
      rest_by_any = refl;
      rest_by_some = refl;
      masked = refl;
      shifted_right = refl;
      negative = refl;
      join = refl;
      some_left = refl;
      none_left = refl;
      one_less = refl;
      one_less_of_none = refl;
      reaches_the_limit = refl;
      passes_the_limit = refl;
    }
