-- Which ranges are the least wide that have all results: those whose ends are results themselves.
use mathlib.Core.Path.{refl}
use mathlib.Core.Logic.{◌⊎◌, inl, inr}
use Prim.Native.Nat.{ℕ, ◌+◌, ◌*◌, ◌^◌, ◌≤◌, ◌<◌}
use native.Mathlib.Nat.{le_refl}
use native.Mathlib.Omega.{arith}
use Rattle.word.specs.Word.{alu}
use Rattle.word.specs.declared.Operation.{Operation}
use Rattle.word.specs.declared.Operation.TheVariants.{Add, Sub, Mul, Div, Lsh, Rsh}
use Rattle.number.specs.declared.Range.{Range}
use Rattle.number.specs.declared.Number.{Number}
use Rattle.number.specs.Meaning.{Within, Tightest, Image}
use Rattle.number.specs.Sharpen.{joined_range, joined_number}
use Rattle.number.specs.Ranges.{straight, crossed, sum_range, difference_range, product_range, quotient_range, left_range}
use Rattle.number.proofs.Cases.{by_less, by_at_most, by_equal}

pub reached_is_tightest : (S : ℕ → Type 0) (r : Range) → S r.lo → S r.hi → Tightest S r
reached_is_tightest S r l h q has = record { low = (has r.lo l).low; high = (has r.hi h).high }

lowest : (r : Range) → r.lo ≤ r.hi → Within r r.lo
lowest r n = record { low = le_refl r.lo; high = n }

highest : (r : Range) → r.lo ≤ r.hi → Within r r.hi
highest r n = record { low = n; high = le_refl r.hi }

module _ (a b : Range) (na : a.lo ≤ a.hi) (nb : b.lo ≤ b.hi) where
  straight_is_tightest : (op : Operation) → Tightest (Image (alu 64 op) a b) (straight 64 op a b)
  unfolding straight
  straight_is_tightest op =
      reached_is_tightest (Image (alu 64 op) a b) (straight 64 op a b) (a.lo, b.lo, lowest a na, lowest b nb, refl)
      (a.hi, b.hi, highest a na, highest b nb, refl)

  crossed_is_tightest : (op : Operation) → Tightest (Image (alu 64 op) a b) (crossed 64 op a b)
  unfolding crossed
  crossed_is_tightest op =
      reached_is_tightest (Image (alu 64 op) a b) (crossed 64 op a b) (a.lo, b.hi, lowest a na, highest b nb, refl)
      (a.hi, b.lo, highest a na, lowest b nb, refl)

  -- no pair wraps
  pub sum_range_tightest : a.hi + b.hi < 2 ^ 64 → Tightest (Image (alu 64 Add) a b) (sum_range a b)
  unfolding sum_range
  sum_range_tightest n =
      by_less (Tightest (Image (alu 64 Add) a b)) (a.hi + b.hi) (2 ^ 64) (λ _. straight_is_tightest Add) (λ m. absurd (omega arith))

  -- every pair does
  pub sum_range_tightest_wrapped : 2 ^ 64 ≤ a.lo + b.lo → Tightest (Image (alu 64 Add) a b) (sum_range a b)
  unfolding sum_range
  sum_range_tightest_wrapped n =
      let P : Range → Type 0 = Tightest (Image (alu 64 Add) a b) in
      by_less P (a.hi + b.hi) (2 ^ 64) (λ _. straight_is_tightest Add)
      (λ _. by_at_most P (2 ^ 64) (a.lo + b.lo) (λ _. straight_is_tightest Add) (λ m. absurd (omega arith)))

  pub difference_range_tightest : b.hi ≤ a.lo → Tightest (Image (alu 64 Sub) a b) (difference_range a b)
  unfolding difference_range
  difference_range_tightest n =
      by_at_most (Tightest (Image (alu 64 Sub) a b)) b.hi a.lo (λ _. crossed_is_tightest Sub) (λ m. absurd (omega arith))

  pub difference_range_tightest_wrapped : a.hi < b.lo → Tightest (Image (alu 64 Sub) a b) (difference_range a b)
  unfolding difference_range
  difference_range_tightest_wrapped n =
      let P : Range → Type 0 = Tightest (Image (alu 64 Sub) a b) in
      by_at_most P b.hi a.lo (λ _. crossed_is_tightest Sub)
      (λ _. by_less P a.hi b.lo (λ _. crossed_is_tightest Sub) (λ m. absurd (omega arith)))

  pub product_range_tightest : a.hi * b.hi < 2 ^ 64 → Tightest (Image (alu 64 Mul) a b) (product_range a b)
  unfolding product_range
  product_range_tightest n =
      by_less (Tightest (Image (alu 64 Mul) a b)) (a.hi * b.hi) (2 ^ 64) (λ _. straight_is_tightest Mul) (λ m. absurd (omega arith))

  pub quotient_range_tightest : 0 < b.lo → Tightest (Image (alu 64 Div) a b) (quotient_range a b)
  unfolding quotient_range
  quotient_range_tightest n =
      by_equal (Tightest (Image (alu 64 Div) a b)) b.lo 0 (λ z. absurd (omega arith)) (λ _. crossed_is_tightest Div)

  -- shifts by counts from b.lo to b.hi, so by a known one
  pub left_range_tightest : a.hi * 2 ^ b.hi < 2 ^ 64 → Tightest (Image (alu 64 Lsh) a b) (left_range a b)
  unfolding left_range
  left_range_tightest n =
      by_less (Tightest (Image (alu 64 Lsh) a b)) (a.hi * 2 ^ b.hi) (2 ^ 64) (λ _. straight_is_tightest Lsh) (λ m. absurd (omega arith))

  pub right_range_tightest : Tightest (Image (alu 64 Rsh) a b) (crossed 64 Rsh a b)
  right_range_tightest = crossed_is_tightest Rsh

-- ---- where paths join
pub joined_range_tightest : (a b : Number) → a.range.lo ≤ a.range.hi → b.range.lo ≤ b.range.hi
    → Tightest (λ x. Within a.range x ⊎ Within b.range x) (joined_number a b).range
unfolding joined_number joined_range
joined_range_tightest a b na nb q has =
    let al = (has a.range.lo (inl (lowest a.range na))).low in
    let bl = (has b.range.lo (inr (lowest b.range nb))).low in
    let ah = (has a.range.hi (inl (highest a.range na))).high in
    let bh = (has b.range.hi (inr (highest b.range nb))).high in
    record { low = omega arith; high = omega arith }
