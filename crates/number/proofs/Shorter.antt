-- The operations whose results are no longer than their operands: what they give at w bits is not cut, so that it is the range of the
-- operands cut to w bits itself.
use mathlib.Core.Path.{◌≡◌, ap}
use Prim.Native.Nat.{ℕ, ◌^◌, ◌≤◌, ◌<◌}
use native.Mathlib.Nat.{lt_of_le_of_lt, le_trans, le_of_eq}
use native.Mathlib.Omega.{arith}
use lib.Pow.{pow_pos}
use Rattle.word.specs.declared.Operation.{Operation}
use Rattle.word.specs.declared.Operation.TheVariants.{Div, Or, And, Rsh, Mod, Xor, Mov}
pub use Rattle.number.specs.Demanded.{Below}
use Rattle.number.specs.declared.Range.{Range}
use Rattle.number.specs.declared.Number.{Number}
use Rattle.number.specs.Ranges.{straight, crossed, quotient_range, same_quotient, rest_range, ranged}
use Rattle.number.specs.Computed.{block, modulo, second, computed_range, computed}
use Rattle.number.proofs.Cases.{by_test, by_less, by_equal}
use Rattle.number.proofs.Computing.{computed_range_within}
use Rattle.number.proofs.Limits.{and_range_at_most_the_first, and_range_at_most_the_second, or_range_no_longer, xor_range_no_longer, rest_at_most_the_dividend, rest_below_the_divisor}
use Rattle.number.proofs.Operands.{block_keeps, Wide, modulo_below, modulo_low_below}
use Rattle.number.proofs.Results.{word, quotient_at_most, rest_at_most, right_at_most}

pub block_of_small : (m : ℕ) (r : Range) → Below m r → block m r ≡ r
block_of_small m r h = block_keeps m 0 r.lo r.hi r (omega arith) (omega arith) h.low h.high

module _ (w : ℕ) (h : Wide w) (u v : Range) (hu : Below (2 ^ w) u) (hv : Below (2 ^ w) v) where
  pub quotient_range_below : Below (2 ^ w) (quotient_range u v)
  unfolding quotient_range crossed
  quotient_range_below =
      by_equal (Below (2 ^ w)) v.lo 0
      (λ _. record { low = pow_pos w; high = by_equal (λ n. n < 2 ^ w) v.hi 0 (λ _. pow_pos w) (λ _. hu.high) })
      (λ _. record {
        low = lt_of_le_of_lt (quotient_at_most u.lo v.hi (word w h _ hu.low) (word w h _ hv.high)) hu.low;
        high = lt_of_le_of_lt (quotient_at_most u.hi v.lo (word w h _ hu.high) (word w h _ hv.low)) hu.high;
      })

  pub rest_range_below : Below (2 ^ w) (rest_range u v)
  unfolding rest_range straight
  rest_range_below =
      let P : Range → Type 0 = Below (2 ^ w) in
      by_equal P v.hi 0 (λ _. hu)
      (λ _. by_equal P v.lo 0 (λ _. record { low = pow_pos w; high = hu.high })
      (λ _. by_less P u.hi v.lo (λ _. hu)
      (λ _. by_test P (same_quotient u v)
      (λ _. record {
        low = lt_of_le_of_lt (rest_at_most u.lo v.lo (word w h _ hu.low) (word w h _ hv.low)) hu.low;
        high = lt_of_le_of_lt (rest_at_most u.hi v.hi (word w h _ hu.high) (word w h _ hv.high)) hu.high;
      })
      (λ _. record { low = pow_pos w; high = omega arith }))))

module _ (w : ℕ) (h : Wide w) (a b : Number) where
  first_below : Below (2 ^ w) (modulo (2 ^ w) a)
  first_below = record { low = modulo_low_below w a; high = modulo_below w a }

  second_below : Below (2 ^ w) (modulo (2 ^ w) b)
  second_below = record { low = modulo_low_below w b; high = modulo_below w b }

  pub and_computed_range : computed_range w And a b ≡ ranged w And (modulo (2 ^ w) a) (modulo (2 ^ w) b)
  unfolding computed_range second ranged
  and_computed_range = block_of_small (2 ^ w) _ (record { low = pow_pos w; high = omega (arith, first_below.high) })

  pub or_computed_range : computed_range w Or a b ≡ ranged w Or (modulo (2 ^ w) a) (modulo (2 ^ w) b)
  unfolding computed_range second ranged
  or_computed_range =
      block_of_small (2 ^ w) _
      (record {
        low = omega (arith, first_below.low, second_below.low);
        high = or_range_no_longer (modulo (2 ^ w) a) (modulo (2 ^ w) b) w w first_below.high second_below.high;
      })

  pub xor_computed_range : computed_range w Xor a b ≡ ranged w Xor (modulo (2 ^ w) a) (modulo (2 ^ w) b)
  unfolding computed_range second ranged
  xor_computed_range =
      block_of_small (2 ^ w) _
      (record {
        low = pow_pos w;
        high = xor_range_no_longer (modulo (2 ^ w) a) (modulo (2 ^ w) b) w w first_below.high second_below.high;
      })

  pub quotient_computed_range : computed_range w Div a b ≡ quotient_range (modulo (2 ^ w) a) (modulo (2 ^ w) b)
  unfolding computed_range second ranged
  quotient_computed_range =
      block_of_small (2 ^ w) _ (quotient_range_below w h (modulo (2 ^ w) a) (modulo (2 ^ w) b) first_below second_below)

  pub rest_computed_range : computed_range w Mod a b ≡ rest_range (modulo (2 ^ w) a) (modulo (2 ^ w) b)
  unfolding computed_range second ranged
  rest_computed_range = block_of_small (2 ^ w) _ (rest_range_below w h (modulo (2 ^ w) a) (modulo (2 ^ w) b) first_below second_below)

  pub mov_computed_range : computed_range w Mov a b ≡ modulo (2 ^ w) b
  unfolding computed_range second ranged
  mov_computed_range = block_of_small (2 ^ w) _ second_below

  -- a shift to the right gives no more than the number shifted
  pub right_computed_range : computed_range w Rsh a b ≡ crossed 64 Rsh (modulo (2 ^ w) a) (second w Rsh b)
  unfolding computed_range ranged crossed
  right_computed_range =
      block_of_small (2 ^ w) _
      (record {
        low = lt_of_le_of_lt (right_at_most (modulo (2 ^ w) a).lo _ (word w h _ first_below.low)) first_below.low;
        high = lt_of_le_of_lt (right_at_most (modulo (2 ^ w) a).hi _ (word w h _ first_below.high)) first_below.high;
      })

  -- ---- so the limits hold of what is computed
  computed_at_most : (op : Operation) (r : Range) → computed_range w op a b ≡ r → (computed w op a b).range.hi ≤ r.hi
  computed_at_most op r e = le_trans (computed_range_within w op a b).high (le_of_eq (ap (λ (s : Range). s.hi) e))

  pub computed_and_at_most_the_first : (computed w And a b).range.hi ≤ (modulo (2 ^ w) a).hi
  computed_and_at_most_the_first =
      le_trans (computed_at_most And _ and_computed_range) (and_range_at_most_the_first (modulo (2 ^ w) a) (modulo (2 ^ w) b) w)

  pub computed_and_at_most_the_second : (computed w And a b).range.hi ≤ (modulo (2 ^ w) b).hi
  computed_and_at_most_the_second =
      le_trans (computed_at_most And _ and_computed_range) (and_range_at_most_the_second (modulo (2 ^ w) a) (modulo (2 ^ w) b) w)

  module _ (n : ℕ) (ha : (modulo (2 ^ w) a).hi < 2 ^ n) (hb : (modulo (2 ^ w) b).hi < 2 ^ n) where
    pub computed_or_no_longer : (computed w Or a b).range.hi < 2 ^ n
    computed_or_no_longer =
        lt_of_le_of_lt (computed_at_most Or _ or_computed_range) (or_range_no_longer (modulo (2 ^ w) a) (modulo (2 ^ w) b) w n ha hb)

    pub computed_xor_no_longer : (computed w Xor a b).range.hi < 2 ^ n
    computed_xor_no_longer =
        lt_of_le_of_lt (computed_at_most Xor _ xor_computed_range) (xor_range_no_longer (modulo (2 ^ w) a) (modulo (2 ^ w) b) w n ha hb)

  pub computed_rest_at_most_the_dividend : (computed w Mod a b).range.hi ≤ (modulo (2 ^ w) a).hi
  computed_rest_at_most_the_dividend =
      le_trans (computed_at_most Mod _ rest_computed_range)
      (rest_at_most_the_dividend (modulo (2 ^ w) a) (modulo (2 ^ w) b) (word w h _ first_below.high) (word w h _ second_below.high))

  pub computed_rest_below_the_divisor : 0 < (modulo (2 ^ w) b).lo → (modulo (2 ^ w) b).lo ≤ (modulo (2 ^ w) b).hi
      → (computed w Mod a b).range.hi < (modulo (2 ^ w) b).hi
  computed_rest_below_the_divisor p n =
      lt_of_le_of_lt (computed_at_most Mod _ rest_computed_range)
      (rest_below_the_divisor (modulo (2 ^ w) a) (modulo (2 ^ w) b) (word w h _ first_below.high) (word w h _ second_below.high) p n)
