-- What is asked of the ranges of MOD, AND, OR, XOR, DIV and NEG.
use mathlib.Core.Path.{◌≡◌, refl, sym, ap, ap₂}
use Prim.Native.Nat.{ℕ, ◌/◌, ◌^◌, ◌≤◌, ◌<◌}
use native.Mathlib.Nat.{mod-lt, le_refl, zero-mod}
use native.Mathlib.Omega.{arith}
use lib.Pow.{pow_pos}
use lib.Bits.{or_lt}
use Rattle.word.specs.declared.Operation.TheVariants.{Sub, Or, And, Neg, Xor}
use Rattle.word.proofs.Cut.{cut_small}
use Rattle.known_bits.specs.declared.Bits.{Bits}
use Rattle.known_bits.specs.Pair.{exactly}
use Rattle.known_bits.specs.Formula.{low, difference, formula, calculated}
use Rattle.number.specs.declared.Range.{Range}
use Rattle.number.specs.declared.Number.{Number}
use Rattle.number.specs.Sharpen.{just, exact, sharpened}
use Rattle.number.specs.Ranges.{straight, crossed, difference_range, quotient_range, same_quotient, rest_range, longest, ranged}
use Rattle.number.specs.Computed.{block, modulo, second, computed_range, computed}
use Rattle.number.proofs.Cases.{by_test, by_less, by_equal}
use Rattle.number.proofs.Operands.{same_ends, block_keeps}
use Rattle.number.proofs.Results.{quotient_is, rest_is, rest_at_most}
use Rattle.number.proofs.Sharpening.{up_to_below}

-- ---- MOD
module _ (a b : Range) (ha : a.hi < 2 ^ 64) (hb : b.hi < 2 ^ 64) where
  pub rest_at_most_the_dividend : (rest_range a b).hi ≤ a.hi
  unfolding rest_range straight
  rest_at_most_the_dividend =
      let P : Range → Type 0 = λ r. r.hi ≤ a.hi in
      by_equal P b.hi 0 (λ _. le_refl _)
      (λ _. by_equal P b.lo 0 (λ _. le_refl _)
      (λ _. by_less P a.hi b.lo (λ _. le_refl _)
      (λ _. by_test P (same_quotient a b) (λ _. rest_at_most a.hi b.hi ha hb) (λ _. omega arith))))

  pub rest_below_the_divisor : 0 < b.lo → b.lo ≤ b.hi → (rest_range a b).hi < b.hi
  unfolding rest_range straight
  rest_below_the_divisor p n =
      let P : Range → Type 0 = λ r. r.hi < b.hi in
      by_equal P b.hi 0 (λ z. absurd (omega arith))
      (λ _. by_equal P b.lo 0 (λ z. absurd (omega arith))
      (λ _. by_less P a.hi b.lo (λ l. omega arith)
      (λ _. by_test P (same_quotient a b) (λ _. omega (arith, rest_is a.hi b.hi ha hb (omega arith), mod-lt a.hi {m = b.hi} (omega arith))) (λ _. omega arith))))

  pub rest_of_less_is_the_dividend : a.hi < b.lo → b.lo ≤ b.hi → rest_range a b ≡ a
  unfolding rest_range
  rest_of_less_is_the_dividend l n =
      let P : Range → Type 0 = λ r. r ≡ a in
      by_equal P b.hi 0 (λ _. refl)
      (λ _. by_equal P b.lo 0 (λ z. absurd (omega arith)) (λ _. by_less P a.hi b.lo (λ _. refl) (λ m. absurd (omega arith))))

  -- ---- DIV
  pub quotient_range_ends : 0 < b.lo → a.lo ≤ a.hi → b.lo ≤ b.hi → quotient_range a b ≡ record { lo = a.lo / b.hi; hi = a.hi / b.lo }
  unfolding quotient_range crossed
  quotient_range_ends p na nb =
      by_equal (λ r. r ≡ record { lo = a.lo / b.hi; hi = a.hi / b.lo }) b.lo 0 (λ z. absurd (omega arith))
      (λ _. same_ends _ _ _ (quotient_is a.lo b.hi (omega arith) hb (omega arith)) (quotient_is a.hi b.lo ha (omega arith) p))

module _ (a b : Range) where
  pub quotient_range_by_none : b.lo ≡ 0 → b.hi ≡ 0 → quotient_range a b ≡ just 0
  unfolding quotient_range just
  quotient_range_by_none l h =
      by_equal (λ r. r ≡ record { lo = 0; hi = 0 }) b.lo 0
      (λ _. by_equal (λ n. ◌≡◌ {A = Range} (record { lo = 0; hi = n }) (record { lo = 0; hi = 0 })) b.hi 0 (λ _. refl) (λ n. absurd (n h)))
      (λ n. absurd (n l))

  -- the divisor may be 0
  pub quotient_range_by_any : b.lo ≡ 0 → 0 < b.hi → quotient_range a b ≡ record { lo = 0; hi = a.hi }
  unfolding quotient_range
  quotient_range_by_any l h =
      by_equal (λ r. r ≡ record { lo = 0; hi = a.hi }) b.lo 0
      (λ _. by_equal (λ n. ◌≡◌ {A = Range} (record { lo = 0; hi = n }) (record { lo = 0; hi = a.hi })) b.hi 0 (λ z. absurd (omega arith)) (λ _. refl))
      (λ n. absurd (n l))

  -- ---- AND, OR and XOR
  pub and_range_at_most_the_first : (w : ℕ) → (ranged w And a b).hi ≤ a.hi
  unfolding ranged
  and_range_at_most_the_first w = omega arith

  pub and_range_at_most_the_second : (w : ℕ) → (ranged w And a b).hi ≤ b.hi
  unfolding ranged
  and_range_at_most_the_second w = omega arith

  module _ (w n : ℕ) (ha : a.hi < 2 ^ n) (hb : b.hi < 2 ^ n) where
    pub or_range_no_longer : (ranged w Or a b).hi < 2 ^ n
    unfolding ranged longest
    or_range_no_longer = up_to_below _ n (or_lt n a.hi b.hi ha hb)

    pub xor_range_no_longer : (ranged w Xor a b).hi < 2 ^ n
    unfolding ranged longest
    xor_range_no_longer = up_to_below _ n (or_lt n a.hi b.hi ha hb)

-- ---- NEG is SUB from 0
module _ (w : ℕ) where
  low_of_none : low w (exactly 0) ≡ exactly 0
  unfolding low
  low_of_none = λ i. record { value = cut_small w (pow_pos w) i; mask = cut_small w (pow_pos w) i }

  modulo_of_none : modulo (2 ^ w) (exact 0) ≡ just 0
  unfolding modulo exact just
  modulo_of_none =
      let e = block_keeps (2 ^ w) 0 0 0 (just 0) (omega arith) (omega arith) (pow_pos w) (pow_pos w) in
      let l : (block (2 ^ w) (just 0)).lo ≡ 0 = ap (λ (r : Range). r.lo) e in
      let h : (block (2 ^ w) (just 0)).hi ≡ 0 = ap (λ (r : Range). r.hi) e in
      same_ends _ _ _ (omega (arith, zero-mod (2 ^ w))) (omega arith)

  pub negative_is_difference : (a b : Number) → computed w Neg a b ≡ computed w Sub (exact 0) a
  unfolding computed calculated formula computed_range ranged second exact
  negative_is_difference a b =
      ap₂ (λ (p : Bits) (u : Range). sharpened (difference w p (low w a.bits)) (block (2 ^ w) (difference_range u (modulo (2 ^ w) a))))
      (sym low_of_none) (sym modulo_of_none)
