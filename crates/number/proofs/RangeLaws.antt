-- The range of each operation has the result for any two numbers of its operands' ranges.
use mathlib.Core.Path.{◌≡◌, sym, ap, ◌∙◌}
use mathlib.Core.Bool.{true}
use Prim.Native.Nat.{ℕ, ◌+◌, ◌-◌, ◌*◌, ◌/◌, ◌%◌, ◌^◌, ◌≤◌, ◌<◌, min, max}
use native.Mathlib.Nat.{mod-lt, mod-eq_of_lt, mul-le-mul, le_trans, pos_of_ne-zero}
use native.Mathlib.Omega.{arith}
use lib.Pow.{pow_pos, pow_mono}
use lib.Bits.{bit_or, bit_xor, and_le_l, and_le_r, or_lt, xor_lt, or_add_and}
use borrow.Author.Tests.{eqb-true}
use Rattle.word.specs.Word.{alu, bit}
use Rattle.word.specs.declared.Operation.TheVariants.{Add, Sub, Mul, Div, Or, And, Lsh, Rsh, Mod, Xor, Arsh}
use Rattle.word.proofs.Bit.{bit_lt, bit_high, low_le}
use Rattle.known_bits.specs.Formula.{up_to}
use Rattle.known_bits.proofs.Tight.{digit}
use Rattle.number.specs.declared.Range.{Range}
use Rattle.number.specs.Meaning.{Within}
use Rattle.number.specs.Sharpen.{everything}
use Rattle.number.specs.Ranges.{straight, crossed, sum_range, difference_range, product_range, quotient_range, same_quotient, rest_range, longest, left_range, signed_right_range}
use Rattle.number.proofs.Cases.{both_hold, by_test, by_less, by_at_most, by_equal}
use Rattle.number.proofs.Operands.{quotient_in_order, rest_in_order, same_quotient_between}
use Rattle.number.proofs.Results.{sum_is, difference_is, product_is, quotient_is, quotient_by_none, quotient_at_most, rest_is, rest_by_none, rest_at_most, or_is, and_is, xor_is, left_is, right_is, shift_of_a_positive, shift_of_a_negative, signed_shift_below, signed_right_is}
use Rattle.number.proofs.Sharpening.{up_to_below, zero_of_up_to_is_above}

pub everything_has : (w x : ℕ) → x < 2 ^ w → Within (everything w) x
unfolding everything
everything_has w x h = record { low = omega arith; high = omega arith }

-- ---- at 64 bits
module _ (a b : Range) (x y : ℕ) (ha : a.hi < 2 ^ 64) (hb : b.hi < 2 ^ 64) (i : Within a x) (j : Within b y) where
  pub sum_range_has : Within (sum_range a b) (alu 64 Add x y)
  unfolding sum_range straight
  sum_range_has =
      let e = sum_is x y (omega arith) (omega arith) in
      let l = sum_is a.lo b.lo (omega arith) (omega arith) in
      let h = sum_is a.hi b.hi ha hb in
      let P : Range → Type 0 = λ r. Within r (alu 64 Add x y) in
      by_less P (a.hi + b.hi) (2 ^ 64) (λ n. record { low = omega arith; high = omega arith })
      (λ _. by_at_most P (2 ^ 64) (a.lo + b.lo) (λ n. record { low = omega arith; high = omega arith })
      (λ _. everything_has 64 _ (omega arith)))

  pub difference_range_has : Within (difference_range a b) (alu 64 Sub x y)
  unfolding difference_range crossed
  difference_range_has =
      let e = difference_is x y (omega arith) (omega arith) in
      let l = difference_is a.lo b.hi (omega arith) hb in
      let h = difference_is a.hi b.lo ha (omega arith) in
      let P : Range → Type 0 = λ r. Within r (alu 64 Sub x y) in
      by_at_most P b.hi a.lo (λ n. record { low = omega arith; high = omega arith })
      (λ _. by_less P a.hi b.lo (λ n. record { low = omega arith; high = omega arith })
      (λ _. everything_has 64 _ (omega arith)))

  -- a product between the products of the ends is itself where the greatest one fits
  pub product_range_has : Within (product_range a b) (alu 64 Mul x y)
  unfolding product_range straight
  product_range_has =
      let e = product_is x y (omega arith) (omega arith) in
      let l = product_is a.lo b.lo (omega arith) (omega arith) in
      let h = product_is a.hi b.hi ha hb in
      let u : x * y ≤ a.hi * b.hi = mul-le-mul i.high j.high in
      let v : a.lo * b.lo ≤ x * y = mul-le-mul i.low j.low in
      by_less (λ r. Within r (alu 64 Mul x y)) (a.hi * b.hi) (2 ^ 64)
      (λ n. record { low = omega arith; high = omega arith })
      (λ _. everything_has 64 _ (omega arith))

  pub quotient_range_has : Within (quotient_range a b) (alu 64 Div x y)
  unfolding quotient_range crossed
  quotient_range_has =
      let P : Range → Type 0 = λ r. Within r (alu 64 Div x y) in
      by_equal P b.lo 0
      (λ _. record {
        low = omega arith;
        high = by_equal (λ n. alu 64 Div x y ≤ n) b.hi 0
            (λ z. omega (arith, quotient_by_none x y (omega arith) (omega arith) (omega arith)))
            (λ _. le_trans (quotient_at_most x y (omega arith) (omega arith)) i.high);
      })
      (λ n. let p : 0 < b.lo = pos_of_ne-zero n in
      let e = quotient_is x y (omega arith) (omega arith) (omega arith) in
      let l = quotient_is a.lo b.hi (omega arith) hb (omega arith) in
      let h = quotient_is a.hi b.lo ha (omega arith) p in
      record {
        low = omega (arith, quotient_in_order a.lo x b.hi y i.low j.high (omega arith));
        high = omega (arith, quotient_in_order x a.hi y b.lo i.high j.low p);
      })

  pub rest_range_has : Within (rest_range a b) (alu 64 Mod x y)
  unfolding rest_range straight same_quotient
  rest_range_has =
      let P : Range → Type 0 = λ r. Within r (alu 64 Mod x y) in
      let m = rest_at_most x y (omega arith) (omega arith) in
      by_equal P b.hi 0
      (λ z. let e = rest_by_none x y (omega arith) (omega arith) (omega arith) in record { low = omega arith; high = omega arith })
      (λ _. by_equal P b.lo 0 (λ z. record { low = omega arith; high = omega arith })
      (λ n. let p : 0 < b.lo = pos_of_ne-zero n in
      let e = rest_is x y (omega arith) (omega arith) (omega arith) in
      by_less P a.hi b.lo
      (λ s. let k : x % y ≡ x = mod-eq_of_lt (omega arith) in record { low = omega arith; high = omega arith })
      (λ _. by_test P (same_quotient a b) (λ t. in_the_block p (same_quotient_lem t))
      (λ _. record { low = omega arith; high = omega (arith, mod-lt x {m = y} (omega arith)) }))))
    where
      same_quotient_lem : same_quotient a b ≡ true → (b.lo ≡ b.hi) × (a.lo / b.lo ≡ a.hi / b.lo)
      same_quotient_lem t =
          let u = both_hold _ _ t in
          (eqb-true _ _ u.0, eqb-true _ _ u.1)

      in_the_block : 0 < b.lo → (b.lo ≡ b.hi) × (a.lo / b.lo ≡ a.hi / b.lo) → Within (straight 64 Mod a b) (alu 64 Mod x y)
      in_the_block p q =
          let d : y ≡ b.lo = omega (arith, q.0) in
          let u = same_quotient_between a.lo x a.hi b.lo p q.1 i.low i.high in
          let e : alu 64 Mod x y ≡ x % b.lo = rest_is x y (omega arith) (omega arith) (omega arith) ∙ ap (λ (n : ℕ). x % n) d in
          let l = rest_is a.lo b.lo (omega arith) (omega arith) p in
          let h : alu 64 Mod a.hi b.hi ≡ a.hi % b.lo = rest_is a.hi b.hi ha hb (omega arith) ∙ ap (λ (n : ℕ). a.hi % n) (sym q.0) in
          record {
            low = omega (arith, rest_in_order a.lo x b.lo u.0 i.low);
            high = omega (arith, rest_in_order x a.hi b.lo u.1 i.high);
          }

  -- no bit is above the highest one of the upper ends
  pub at_most_the_longest : (z : ℕ) → ((n : ℕ) → x < 2 ^ n → y < 2 ^ n → z < 2 ^ n) → z ≤ longest a b
  unfolding longest
  at_most_the_longest z shorter =
      let t = bit_or a.hi b.hi in
      let below : (n : ℕ) → t < 2 ^ n → z < 2 ^ n = λ n l.
      let o = or_add_and a.hi b.hi in
      shorter n (omega (arith, and_le_r a.hi b.hi)) (omega (arith, and_le_l a.hi b.hi)) in
      let h = or_lt 64 a.hi b.hi ha hb in
      let e = mod-eq_of_lt (below 64 h) in
      let f = mod-eq_of_lt (up_to_below t 64 h) in
      omega (
        arith,
        low_le 64 z (up_to t)
            (λ k l. digit (bit k (up_to t)) (bit_lt k (up_to t)) (λ u. omega (arith, bit_high k z (below k (zero_of_up_to_is_above t k h u)))) (λ u. omega (arith, bit_lt k z))),
      )

  pub or_range_has : Within (record { lo = max a.lo b.lo; hi = longest a b }) (alu 64 Or x y)
  or_range_has =
      let e = or_is x y (omega arith) (omega arith) in
      record {
        low = omega (arith, or_add_and x y, and_le_l x y, and_le_r x y);
        high = omega (arith, at_most_the_longest (bit_or x y) (λ n. or_lt n x y));
      }

  pub xor_range_has : Within (record { lo = 0; hi = longest a b }) (alu 64 Xor x y)
  xor_range_has =
      let e = xor_is x y (omega arith) (omega arith) in
      record { low = omega arith; high = omega (arith, at_most_the_longest (bit_xor x y) (λ n. xor_lt n x y)) }

  pub and_range_has : Within (record { lo = 0; hi = min a.hi b.hi }) (alu 64 And x y)
  and_range_has =
      let e = and_is x y (omega arith) (omega arith) in
      record { low = omega arith; high = omega (arith, and_le_l x y, and_le_r x y) }

-- shifts: c is a range of counts
module _ (a c : Range) (x n : ℕ) (i : Within a x) (j : Within c n) where
  pub left_range_has : a.hi < 2 ^ 64 → c.hi < 64 → Within (left_range a c) (alu 64 Lsh x n)
  unfolding left_range straight
  left_range_has ha hc =
      let e = left_is x n (omega arith) (omega arith) in
      let l = left_is a.lo c.lo (omega arith) (omega arith) in
      let h = left_is a.hi c.hi ha hc in
      let u : x * 2 ^ n ≤ a.hi * 2 ^ c.hi = mul-le-mul i.high (pow_mono j.high) in
      let v : a.lo * 2 ^ c.lo ≤ x * 2 ^ n = mul-le-mul i.low (pow_mono j.low) in
      by_less (λ r. Within r (alu 64 Lsh x n)) (a.hi * 2 ^ c.hi) (2 ^ 64)
      (λ s. record { low = omega arith; high = omega arith })
      (λ _. everything_has 64 _ (omega arith))

  pub right_range_has : a.hi < 2 ^ 64 → c.hi < 64 → Within (crossed 64 Rsh a c) (alu 64 Rsh x n)
  unfolding crossed
  right_range_has ha hc =
      let e = right_is x n (omega arith) (omega arith) in
      let l = right_is a.lo c.hi (omega arith) hc in
      let h = right_is a.hi c.lo ha (omega arith) in
      record {
        low = omega (arith, quotient_in_order a.lo x (2 ^ c.hi) (2 ^ n) i.low (pow_mono j.high) (pow_pos n));
        high = omega (arith, quotient_in_order x a.hi (2 ^ n) (2 ^ c.lo) i.high (pow_mono j.low) (pow_pos c.lo));
      }

module _ (w : ℕ) (a c : Range) (x n : ℕ) (i : Within a x) (j : Within c n) where
  pub signed_right_range_has : a.hi < 2 ^ w → c.hi < w → Within (signed_right_range w a c) (alu w Arsh x n)
  unfolding signed_right_range crossed straight
  signed_right_range_has ha hc =
      let e = signed_right_is w x n (omega arith) (omega arith) in
      let P : Range → Type 0 = λ r. Within r (alu w Arsh x n) in
      by_less P a.hi (2 ^ (w - 1))
      (λ s. let l = signed_right_is w a.lo c.hi (omega arith) hc ∙ shift_of_a_positive w a.lo c.hi (omega arith) in
      let h = signed_right_is w a.hi c.lo ha (omega arith) ∙ shift_of_a_positive w a.hi c.lo s in
      let f = shift_of_a_positive w x n (omega arith) in
      record {
        low = omega (arith, quotient_in_order a.lo x (2 ^ c.hi) (2 ^ n) i.low (pow_mono j.high) (pow_pos n));
        high = omega (arith, quotient_in_order x a.hi (2 ^ n) (2 ^ c.lo) i.high (pow_mono j.low) (pow_pos c.lo));
      })
      (λ _. by_at_most P (2 ^ (w - 1)) a.lo
      (λ s. let l = signed_right_is w a.lo c.lo (omega arith) (omega arith) ∙ shift_of_a_negative w a.lo c.lo s in
      let h = signed_right_is w a.hi c.hi ha hc ∙ shift_of_a_negative w a.hi c.hi (omega arith) in
      let f = shift_of_a_negative w x n (omega arith) in
      record {
        low = omega (arith, quotient_in_order (2 ^ w - 1 - x) (2 ^ w - 1 - a.lo) (2 ^ n) (2 ^ c.lo) (omega arith) (pow_mono j.low) (pow_pos c.lo));
        high = omega (arith, quotient_in_order (2 ^ w - 1 - a.hi) (2 ^ w - 1 - x) (2 ^ c.hi) (2 ^ n) (omega arith) (pow_mono j.high) (pow_pos n));
      })
      (λ _. everything_has w _ (omega (arith, signed_shift_below w x n (omega arith)))))
