-- The known bits of a quotient and a rest by a known power of two, and of a shift by a count that is one of two, at either width.
use mathlib.Core.Path.{◌≡◌, ap, ◌∙◌}
use Prim.Native.Nat.{ℕ, ◌+◌, ◌-◌, ◌/◌, ◌%◌, ◌^◌, ◌<◌}
use native.Mathlib.Nat.{lt_of_lt_of_le}
use native.Mathlib.Omega.{arith}
use native.Mathlib.Decide.{dec_lt}
use lib.Bits.{bit_and}
use lib.Count.{count_trailing_zeros}
use lib.Pow.{pow_pos}
use borrow.Author.Tests.{eq-eqb, ne_eqb}
use Rattle.word.specs.Word.{bit, cut}
use Rattle.word.proofs.Cut.{cut_small, cut_below}
use Rattle.word.proofs.Bit.{bit_zero, bit_and_lem}
use Rattle.word.specs.declared.Operation.{Operation}
use Rattle.word.specs.declared.Operation.TheVariants.{Div, Lsh, Mod}
use Rattle.known_bits.specs.declared.Bits.{Bits}
use Rattle.known_bits.specs.declared.Shift.TheVariants as shifts
use Rattle.known_bits.specs.Shift.{operation}
use Rattle.known_bits.specs.KnownBits.{Well, Best, Results}
use Rattle.known_bits.specs.Formula.{low, among, from_bit, up_to, highest_shifted, left_mask, shifted_unknown, single, shifted, formula, calculated}
use Rattle.known_bits.specs.Pair.{top}
use Rattle.known_bits.proofs.Class4.{cut_bit}
use Rattle.known_bits.proofs.Computing.{one_of_two_best}
use Rattle.known_bits.proofs.Covering.{a_multiple_has_as_many_zeros, bit_below_from}
use Rattle.known_bits.proofs.Laws.{high_bit}
use Rattle.known_bits.proofs.QuotientLaws.{quotient_by_power, rest_by_power}
use Rattle.number.specs.Demanded.{Wide, IsShift, lsh, rsh, arsh}
use Rattle.number.proofs.Results.{word, wide_at_most_64}

module _ (w : ℕ) (h : Wide w) (a b : Bits) (n : ℕ) (l : n < w) (ev : b.value % 2 ^ w ≡ 2 ^ n) (em : b.mask % 2 ^ w ≡ 0) where
  pub calculated_quotient_by_power : calculated w Div a b ≡ record { value = a.value % 2 ^ w / 2 ^ n; mask = a.mask % 2 ^ w / 2 ^ n }
  unfolding calculated formula low cut
  calculated_quotient_by_power =
      quotient_by_power (low w b) n em ev (low w a) (word w h _ (cut_below w a.value)) (lt_of_lt_of_le l (wide_at_most_64 w h))

  pub calculated_rest_by_power : calculated w Mod a b ≡ record { value = a.value % 2 ^ w % 2 ^ n; mask = a.mask % 2 ^ w % 2 ^ n }
  unfolding calculated formula low cut
  calculated_rest_by_power =
      rest_by_power (low w b) n em ev (low w a) (word w h _ (cut_below w a.value)) (lt_of_lt_of_le l (wide_at_most_64 w h))

pub shift_by_one_of_two_best : (w : ℕ) → Wide w → (op : Operation) → IsShift op → (a b : Bits) → Well 64 a → Well 64 b
    → ¬ (b.mask % w ≡ 0) → bit_and (b.mask % w) (b.mask % w - 1) ≡ 0 → Best 64 (Results w op a b) (calculated w op a b)
unfolding operation single
shift_by_one_of_two_best w h op lsh a b ga gb n e = one_of_two_best w h shifts.Left a b ga gb n (eq-eqb _ _ e)
shift_by_one_of_two_best w h op rsh a b ga gb n e = one_of_two_best w h shifts.Right a b ga gb n (eq-eqb _ _ e)
shift_by_one_of_two_best w h op arsh a b ga gb n e = one_of_two_best w h shifts.Signed a b ga gb n (eq-eqb _ _ e)

-- the zeros that the least count leaves, and those of the number
module _ (w t n g k i : ℕ) (e : t % 2 ^ i ≡ 0) (l : k < i + n) (s : k < 64) where
  below : k < count_trailing_zeros 64 t + n
  below = go (dec_lt (count_trailing_zeros 64 t) 64)
    where
      go : Dec (count_trailing_zeros 64 t < 64) → k < count_trailing_zeros 64 t + n
      go (yes h) = omega (arith, a_multiple_has_as_many_zeros t i e h)
      go (no h) = omega arith

  left_mask_zero : bit k (left_mask t n g) ≡ 0
  unfolding left_mask
  left_mask_zero =
      omega (arith, bit_and_lem k (from_bit (count_trailing_zeros 64 t + n)) (up_to (highest_shifted t g)), bit_below_from (count_trailing_zeros 64 t + n) k below s)

  cut_left_mask_zero : bit k (cut w (left_mask t n g)) ≡ 0
  cut_left_mask_zero = go (dec_lt k w)
    where
      go : Dec (k < w) → bit k (cut w (left_mask t n g)) ≡ 0
      go (yes h) = cut_bit w k (left_mask t n g) h ∙ left_mask_zero
      go (no h) = high_bit w k (cut w (left_mask t n g)) h (cut_below w (left_mask t n g))

pub left_by_more : (w : ℕ) → Wide w → (a b : Bits) (i k : ℕ) → ¬ ((low w b).mask % w ≡ 0) → ¬ (bit_and ((low w b).mask % w) ((low w b).mask % w - 1) ≡ 0)
    → top (low w a) % 2 ^ i ≡ 0 → k < i + (low w b).value % w → k < 64
    → (bit k (calculated w Lsh a b).value ≡ 0) × (bit k (calculated w Lsh a b).mask ≡ 0)
unfolding calculated formula shifted single shifted_unknown among low
left_by_more w h a b i k m n e l s =
    rw (ne_eqb ((low w b).mask % w) 0 m, ne_eqb (bit_and ((low w b).mask % w) ((low w b).mask % w - 1)) 0 n)
    (ap (bit k) (cut_small w (pow_pos w)) ∙ bit_zero k, cut_left_mask_zero w (top (low w a)) ((low w b).value % w) (top (low w b) % w) k i e l s)
