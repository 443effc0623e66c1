-- Everything that is demanded of Numbers holds.
use mathlib.Core.Path.{refl}
use mathlib.Core.Bool.{Bool}
use Prim.Native.Nat.{ℕ, ◌^◌, ◌≤◌, ◌<◌}
use Rattle.word.specs.declared.Comparison.{Comparison}
use Rattle.known_bits.specs.KnownBits.{Well}
use Rattle.known_bits.proofs.Computing.{calculated_computed}
use Rattle.known_bits.proofs.ProductsWithin.{product_within_shift_and_add, product_of_multiples}
use Rattle.known_bits.specs.Formula.{among}
use Rattle.number.specs.declared.Range.{Range}
use Rattle.number.specs.declared.Number.{Number}
use Rattle.number.specs.Sharpen.{just, exact, everything, loaded}
use Rattle.number.specs.Halves.{low_half, moved_half}
use Rattle.number.specs.Demanded.{OfOperations, LeastRanges, OfMemory, OfJoins, OfJumps, OfLowHalves, OfJset, Demanded}
use Rattle.number.proofs.AgainstKnown.{excluded_if_none_goes, refined_tightest, set_not_taken_clears, refined_exact_excluded}
use Rattle.number.proofs.Compare.{refined_sound, refined_narrower}
use Rattle.number.proofs.Computing.{computed_sound, computed_exact, computed_bits_within, computed_range_within, fits_exactly}
use Rattle.number.proofs.BothOperands.{both_told}
use Rattle.number.proofs.Ends.{ranges_are, cuts_are, sharpening_is}
use Rattle.number.proofs.Exclusion.{excluded_by_ranges, excluded_by_bits}
use Rattle.number.proofs.Halves.{refined32_sound, refined32_narrower, refined32_upper, refined32_exact_excluded}
use Rattle.number.proofs.HalvesAgainstKnown.{excluded32_if_none_goes, refined32_tightest}
use Rattle.number.proofs.HalvesBoth.{refined32_low_ranges, refined32_signed}
use Rattle.number.proofs.HalvesWithin.{refined32_low_bits, excluded32_by_bits, set32_not_taken_clears}
use Rattle.number.proofs.Known.{joined_covers_left, joined_covers_right, joined_range_is, joined_bits_best}
use Rattle.number.proofs.PowersAndShifts.{calculated_quotient_by_power, calculated_rest_by_power, shift_by_one_of_two_best, left_by_more}
use Rattle.number.proofs.Shorter.{computed_rest_below_the_divisor, computed_and_at_most_the_first, computed_and_at_most_the_second}
use Rattle.number.proofs.SumLaws.{sum_within, difference_within, sum_ends, difference_ends}
use Rattle.number.proofs.Tightness.{product_range_tightest, quotient_range_tightest, left_range_tightest, right_range_tightest}

operations : OfOperations
operations =
    record {
      sound = computed_sound;
      exact_of_exact = computed_exact;
      bits_within = computed_bits_within;
      bits_best = λ w h op a b. calculated_computed w h op a.bits b.bits;
      product_bits = λ w h a b ga gb. (λ z m. (product_within_shift_and_add w h a b ga gb z m).0, λ z m. (product_within_shift_and_add w h a b ga gb z m).1);
      product_of_multiples = λ w h a b ga gb i j p q z m. product_of_multiples w h a b ga gb z m i j p q;
      quotient_by_power = calculated_quotient_by_power;
      rest_by_power = calculated_rest_by_power;
      shift_by_one_of_two = shift_by_one_of_two_best;
      left_by_more = left_by_more;
      sum_within = sum_within;
      difference_within = difference_within;
      range_within = computed_range_within;
      sum_ends = sum_ends;
      difference_ends = difference_ends;
      rest_below_the_divisor = computed_rest_below_the_divisor;
      and_at_most_the_first = computed_and_at_most_the_first;
      and_at_most_the_second = computed_and_at_most_the_second;
    }

least_ranges : (a b : Range) → a.lo ≤ a.hi → b.lo ≤ b.hi → LeastRanges a b
least_ranges a b na nb =
    record {
      product = product_range_tightest a b na nb;
      quotient = quotient_range_tightest a b na nb;
      left = left_range_tightest a b na nb;
      right = right_range_tightest a b na nb;
    }

memory : OfMemory
unfolding loaded everything among exact just
memory = record { loaded_range = λ k. refl; loaded_bits = λ k. refl; exact_range = λ n. refl; exact_bits = λ n. refl; fits_exactly = fits_exactly }

joins : (a b : Number) → OfJoins a b
joins a b = record { covers_left = joined_covers_left a b; covers_right = joined_covers_right a b; range = joined_range_is a b; bits = joined_bits_best a b }

jumps : (c : Comparison) (way : Bool) → OfJumps c way
jumps c way =
    record {
      sound = refined_sound c way;
      narrower = refined_narrower c way;
      tightest = refined_tightest c way;
      excluded_if_none_goes = excluded_if_none_goes c way;
      excluded_by_ranges = λ n d s. excluded_by_ranges c way d s n;
      excluded_by_bits = λ n d s. excluded_by_bits c way d s n;
      exact_excluded = refined_exact_excluded c way;
    }

low_halves : (c : Comparison) (way : Bool) → OfLowHalves c way
unfolding low_half moved_half
low_halves c way =
    record {
      sound = refined32_sound c way;
      narrower = refined32_narrower c way;
      upper = refined32_upper c way;
      low_bits = refined32_low_bits c way;
      low_ranges = refined32_low_ranges c way;
      signed = refined32_signed c way;
      tightest = refined32_tightest c way;
      excluded_if_none_goes = excluded32_if_none_goes c way;
      excluded_by_bits = excluded32_by_bits c way;
      exact_excluded = refined32_exact_excluded c way;
    }

jset : (d : Number) (k : ℕ) → Well 64 d.bits → k < 2 ^ 64 → OfJset d k
jset d k g h = record { clears = set_not_taken_clears d k g h; clears32 = set32_not_taken_clears d k g h }

pub all_demanded : Demanded
all_demanded =
    record {
      operations = operations;
      ranges = ranges_are;
      cuts = cuts_are;
      sharpening = sharpening_is;
      least_ranges = least_ranges;
      memory = memory;
      joins = joins;
      jumps = jumps;
      both = both_told;
      low_halves = low_halves;
      jset = jset;
    }
