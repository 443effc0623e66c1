-- Knowing more never hurts the range of an operation: of less wide ranges the range is less wide, and none of it is empty. Most ends of a
-- range are results, which a wider one has; otherwise the wider one is told by the same test.
use mathlib.Core.Path.{◌≡◌, sym, ◌∙◌}
use mathlib.Core.Bool.{true, false, cond}
use Prim.Native.Nat.{ℕ, ◌+◌, ◌-◌, ◌*◌, ◌/◌, ◌%◌, ◌^◌, ◌≤◌, ◌<◌, min, max}
use native.Mathlib.Nat.{mod-lt, mod-eq_of_lt, mul-le-mul, le_trans, le_refl}
use native.Mathlib.Omega.{arith}
use lib.Pow.{pow_mono}
use lib.Bits.{bit_or, or_lt}
use lib.Dec.{eqb}
use borrow.Author.Tests.{eqb-true, eq-eqb}
use Rattle.word.specs.Word.{alu}
use Rattle.word.specs.declared.Operation.{Operation}
use Rattle.word.specs.declared.Operation.TheVariants.{Add, Sub, Mul, Div, Or, Lsh, Rsh, Mod, Arsh}
use Rattle.number.specs.declared.Range.{Range}
use Rattle.number.specs.Meaning.{Within, RangeWithin}
use Rattle.number.specs.Sharpen.{everything}
use Rattle.number.specs.Ranges.{straight, crossed, sum_range, difference_range, product_range, quotient_range, same_quotient, rest_range, longest, left_range, signed_right_range}
use Rattle.number.specs.Computed.{block}
use Rattle.number.proofs.Cases.{both_hold, by_test, by_less, by_at_most, by_equal}
use Rattle.number.proofs.Operands.{rest_in_order, same_quotient_between}
use Rattle.number.proofs.Outcomes.{NotEmpty}
use Rattle.number.proofs.RangeLaws.{sum_range_has, difference_range_has, product_range_has, quotient_range_has, rest_range_has, at_most_the_longest, or_range_has, left_range_has, right_range_has, signed_right_range_has}
use Rattle.number.proofs.Results.{rest_is, rest_by_none}
use Rattle.number.proofs.Sharpening.{up_to_below}

-- r' lies in r, and is not empty
pub record Shrinks (r' r : Range) : Type 0 where
  pub within : RangeWithin r' r
  pub some : NotEmpty r'

pub same_range : (r : Range) → RangeWithin r r
same_range r = record { low = le_refl r.lo; high = le_refl r.hi }

some_of : (r : Range) (x : ℕ) → Within r x → NotEmpty r
some_of r x i = le_trans i.low i.high

lowest : (r : Range) → NotEmpty r → Within r r.lo
lowest r n = record { low = le_refl r.lo; high = n }

-- ---- a range modulo m
pub block_shrinks : (m : ℕ) (r' r : Range) → 0 < m → Shrinks r' r → Shrinks (block m r') (block m r)
unfolding block
block_shrinks m r' r p h =
    record {
      within = by_equal (RangeWithin (block m r')) (r.lo / m) (r.hi / m)
          (λ e. let l = same_quotient_between r.lo r'.lo r.hi m p e h.within.low (omega (arith, h.some, h.within.high)) in
          let u = same_quotient_between r.lo r'.hi r.hi m p e (omega (arith, h.some, h.within.low)) h.within.high in
          by_equal (λ s. RangeWithin s (record { lo = r.lo % m; hi = r.hi % m })) (r'.lo / m) (r'.hi / m)
          (λ _. record {
            low = rest_in_order r.lo r'.lo m l.0 h.within.low;
            high = rest_in_order r'.hi r.hi m u.1
                h.within.high;
          })
          (λ n. absurd (n (sym l.0 ∙ u.0))))
          (λ _. by_equal (λ s. RangeWithin s (record { lo = 0; hi = m - 1 })) (r'.lo / m) (r'.hi / m)
          (λ _. record { low = omega arith; high = omega (arith, mod-lt r'.hi p) }) (λ _. same_range _));
      some = by_equal NotEmpty (r'.lo / m) (r'.hi / m) (λ e. rest_in_order r'.lo r'.hi m e h.some) (λ _. omega arith);
    }

no_longer : (u v : Range) (n : ℕ) → u.hi < 2 ^ n → v.hi < 2 ^ n → longest u v < 2 ^ n
unfolding longest
no_longer u v n p q = up_to_below (bit_or u.hi v.hi) n (or_lt n u.hi v.hi p q)

-- ---- at 64 bits
-- at most the first, and less than the second
abbrev below_both : Range → Range → Range
below_both a b = record { lo = 0; hi = min a.hi (b.hi - 1) }

module _ (a' b' a b : Range) (ra : RangeWithin a' a) (rb : RangeWithin b' b) (na : NotEmpty a') (nb : NotEmpty b') where
  -- the ends of the less wide ranges, in the others
  al : Within a a'.lo
  al = record { low = ra.low; high = le_trans na ra.high }

  ah : Within a a'.hi
  ah = record { low = le_trans ra.low na; high = ra.high }

  bl : Within b b'.lo
  bl = record { low = rb.low; high = le_trans nb rb.high }

  bh : Within b b'.hi
  bh = record { low = le_trans rb.low nb; high = rb.high }

  module _ (w : ℕ) (op : Operation) (r : Range) (has : (x y : ℕ) → Within a x → Within b y → Within r (alu w op x y)) where
    straight_within : RangeWithin (straight w op a' b') r
    unfolding straight
    straight_within = record { low = (has a'.lo b'.lo al bl).low; high = (has a'.hi b'.hi ah bh).high }

    crossed_within : RangeWithin (crossed w op a' b') r
    unfolding crossed
    crossed_within = record { low = (has a'.lo b'.hi al bh).low; high = (has a'.hi b'.lo ah bl).high }

  module _ (ha : a.hi < 2 ^ 64) (hb : b.hi < 2 ^ 64) where
    ha' : a'.hi < 2 ^ 64
    ha' = omega (arith, ra.high)

    hb' : b'.hi < 2 ^ 64
    hb' = omega (arith, rb.high)

    -- what has a result is not empty
    some_result : (op : Operation) (r' : Range)
        → ((x y : ℕ) → a'.hi < 2 ^ 64 → b'.hi < 2 ^ 64 → Within a' x → Within b' y → Within r' (alu 64 op x y)) → NotEmpty r'
    some_result op r' has = some_of r' _ (has a'.lo b'.lo ha' hb' (lowest a' na) (lowest b' nb))

    pub sum_shrinks : Shrinks (sum_range a' b') (sum_range a b)
    unfolding sum_range
    sum_shrinks =
        let P : Range → Type 0 = λ s. RangeWithin s (sum_range a b) in
        let s : RangeWithin (straight 64 Add a' b') (sum_range a b) = straight_within 64 Add _ (λ x y. sum_range_has a b x y ha hb) in
        record {
          within = by_less P (a'.hi + b'.hi) (2 ^ 64) (λ _. s)
              (λ m. by_at_most P (2 ^ 64) (a'.lo + b'.lo) (λ _. s)
              (λ n. by_less (RangeWithin (everything 64)) (a.hi + b.hi) (2 ^ 64) (λ l. absurd (omega (arith, ra.high, rb.high)))
              (λ _. by_at_most (RangeWithin (everything 64)) (2 ^ 64) (a.lo + b.lo) (λ l. absurd (omega (arith, ra.low, rb.low)))
              (λ _. same_range _))));
          some = some_result Add _ (sum_range_has a' b');
        }

    pub difference_shrinks : Shrinks (difference_range a' b') (difference_range a b)
    unfolding difference_range
    difference_shrinks =
        let P : Range → Type 0 = λ s. RangeWithin s (difference_range a b) in
        let s : RangeWithin (crossed 64 Sub a' b') (difference_range a b) = crossed_within 64 Sub _
        (λ x y. difference_range_has a b x y ha hb) in
        record {
          within = by_at_most P b'.hi a'.lo (λ _. s)
              (λ m. by_less P a'.hi b'.lo (λ _. s)
              (λ n. by_at_most (RangeWithin (everything 64)) b.hi a.lo (λ l. absurd (omega (arith, ra.low, rb.high)))
              (λ _. by_less (RangeWithin (everything 64)) a.hi b.lo (λ l. absurd (omega (arith, ra.high, rb.low)))
              (λ _. same_range _))));
          some = some_result Sub _ (difference_range_has a' b');
        }

    pub product_shrinks : Shrinks (product_range a' b') (product_range a b)
    unfolding product_range
    product_shrinks =
        let p : a'.hi * b'.hi ≤ a.hi * b.hi = mul-le-mul ra.high rb.high in
        record {
          within = by_less (λ s. RangeWithin s (product_range a b)) (a'.hi * b'.hi) (2 ^ 64)
              (λ _. straight_within 64 Mul _ (λ x y. product_range_has a b x y ha hb))
              (λ m. by_less (RangeWithin (everything 64)) (a.hi * b.hi) (2 ^ 64) (λ l. absurd (omega arith)) (λ _. same_range _));
          some = some_result Mul _ (product_range_has a' b');
        }

    pub quotient_shrinks : Shrinks (quotient_range a' b') (quotient_range a b)
    unfolding quotient_range
    quotient_shrinks =
        record {
          within = by_equal (λ s. RangeWithin s (quotient_range a b)) b'.lo 0
              (λ z. by_equal (RangeWithin _) b.lo 0
              (λ _. record {
                low = omega arith;
                high = by_equal (λ n. n ≤ cond (eqb b.hi 0) 0 a.hi) b'.hi 0 (λ _. omega arith)
                    (λ n. by_equal (λ m. a'.hi ≤ m) b.hi 0 (λ o. absurd (n (omega (arith, rb.high)))) (λ _. ra.high));
              })
              (λ n. absurd (n (omega (arith, rb.low)))))
              (λ _. crossed_within 64 Div _ (λ x y. quotient_range_has a b x y ha hb));
          some = some_result Div _ (quotient_range_has a' b');
        }

    -- a rest that is the dividend is a result
    dividend_within : (y : ℕ) → Within b y → ((x : ℕ) → Within a x → x ≤ a'.hi → alu 64 Mod x y ≡ x) → RangeWithin a' (rest_range a b)
    dividend_within y j same =
        let l = rest_range_has a b a'.lo y ha hb al j in
        let h = rest_range_has a b a'.hi y ha hb ah j in
        record { low = omega (arith, same a'.lo al na, l.low); high = omega (arith, same a'.hi ah (le_refl a'.hi), h.high) }

    same_quotient_shrinks : same_quotient a b ≡ true → (b.lo ≡ 0 → ⊥) → same_quotient a' b' ≡ true
    unfolding same_quotient
    same_quotient_shrinks t n =
        let u = both_hold _ _ t in
        let e : b.lo ≡ b.hi = eqb-true _ _ u.0 in
        let c : b'.lo ≡ b.lo = omega (arith, rb.low, rb.high) in
        let q : a.lo / b.lo ≡ a.hi / b.lo = eqb-true _ _ u.1 in
        let f = same_quotient_between a.lo a'.lo a.hi b.lo (omega arith) q ra.low al.high in
        let g = same_quotient_between a.lo a'.hi a.hi b.lo (omega arith) q ah.low ra.high in
        rw (eq-eqb b'.lo b'.hi (omega (arith, rb.low, rb.high)))
        (eq-eqb (a'.lo / b'.lo) (a'.hi / b'.lo) (rw c (sym f.0 ∙ g.0)))

    pub rest_shrinks : Shrinks (rest_range a' b') (rest_range a b)
    unfolding rest_range
    rest_shrinks =
        let P : Range → Type 0 = λ s. RangeWithin s (rest_range a b) in
        record {
          within = by_equal P b'.hi 0
              (λ z. dividend_within b'.hi bh (λ x i l. rest_by_none x b'.hi (omega (arith, i.high)) hb' z))
              (λ nz. by_equal P b'.lo 0
              (λ z. by_equal (RangeWithin _) b.hi 0 (λ o. absurd (nz (omega (arith, rb.high))))
              (λ _. by_equal (RangeWithin _) b.lo 0 (λ _. record { low = omega arith; high = ra.high })
              (λ o. absurd (o (omega (arith, rb.low))))))
              (λ nl. by_less P a'.hi b'.lo
              (λ s. dividend_within b'.lo bl (λ x i l. rest_is x b'.lo (omega (arith, i.high)) (omega (arith, nb)) (omega arith)
              ∙ mod-eq_of_lt (omega arith)))
              (λ m. by_test P (same_quotient a' b') (λ _. straight_within 64 Mod _ (λ x y. rest_range_has a b x y ha hb))
              (λ f. by_equal (RangeWithin (below_both a' b')) b.hi 0 (λ o. absurd (nz (omega (arith, rb.high))))
              (λ _. by_equal (RangeWithin (below_both a' b')) b.lo 0 (λ _. record { low = omega arith; high = omega (arith, ra.high) })
              (λ o. by_less (RangeWithin (below_both a' b')) a.hi b.lo (λ s. absurd (omega (arith, ra.high, rb.low)))
              (λ _. by_test (RangeWithin (below_both a' b')) (same_quotient a b)
              (λ t. let z : true ≡ false = sym (same_quotient_shrinks t o) ∙ f in absurd (let e : ◌≡◌ {A = ℕ} 0 1 = cc in omega arith))
              (λ _. record { low = omega arith; high = omega (arith, ra.high, rb.high) }))))))));
          some = some_result Mod _ (rest_range_has a' b');
        }

    longest_shrinks : longest a' b' ≤ longest a b
    longest_shrinks = at_most_the_longest a b a'.hi b'.hi ha hb ah bh (longest a' b') (no_longer a' b')

    pub or_shrinks : Shrinks (record { lo = max a'.lo b'.lo; hi = longest a' b' }) (record { lo = max a.lo b.lo; hi = longest a b })
    or_shrinks =
        record {
          within = record { low = omega (arith, ra.low, rb.low); high = longest_shrinks };
          some = some_result Or _ (or_range_has a' b');
        }

    pub xor_shrinks : Shrinks (record { lo = 0; hi = longest a' b' }) (record { lo = 0; hi = longest a b })
    xor_shrinks = record { within = record { low = omega arith; high = longest_shrinks }; some = omega arith }

    pub and_shrinks : Shrinks (record { lo = 0; hi = min a'.hi b'.hi }) (record { lo = 0; hi = min a.hi b.hi })
    and_shrinks = record { within = record { low = omega arith; high = omega (arith, ra.high, rb.high) }; some = omega arith }

  -- shifts: b is a range of counts
  module _ (ha : a.hi < 2 ^ 64) (hb : b.hi < 64) where
    pub left_shrinks : Shrinks (left_range a' b') (left_range a b)
    unfolding left_range
    left_shrinks =
        let p : a'.hi * 2 ^ b'.hi ≤ a.hi * 2 ^ b.hi = mul-le-mul ra.high (pow_mono rb.high) in
        record {
          within = by_less (λ s. RangeWithin s (left_range a b)) (a'.hi * 2 ^ b'.hi) (2 ^ 64)
              (λ _. straight_within 64 Lsh _ (λ x n i j. left_range_has a b x n i j ha hb))
              (λ m. by_less (RangeWithin (everything 64)) (a.hi * 2 ^ b.hi) (2 ^ 64) (λ l. absurd (omega arith)) (λ _. same_range _));
          some = some_of _ _ (left_range_has a' b' a'.lo b'.lo (lowest a' na) (lowest b' nb) (omega (arith, ra.high))
              (omega (arith, rb.high)));
        }

    pub right_shrinks : Shrinks (crossed 64 Rsh a' b') (crossed 64 Rsh a b)
    right_shrinks =
        record {
          within = crossed_within 64 Rsh _ (λ x n i j. right_range_has a b x n i j ha hb);
          some = some_of _ _ (right_range_has a' b' a'.lo b'.lo (lowest a' na) (lowest b' nb) (omega (arith, ra.high))
              (omega (arith, rb.high)));
        }

  pub signed_right_shrinks : (w : ℕ) → a.hi < 2 ^ w → b.hi < w → Shrinks (signed_right_range w a' b') (signed_right_range w a b)
  unfolding signed_right_range
  signed_right_shrinks w ha hb =
      let P : Range → Type 0 = λ s. RangeWithin s (signed_right_range w a b) in
      record {
        within = by_less P a'.hi (2 ^ (w - 1)) (λ _. crossed_within w Arsh _ (λ x n i j. signed_right_range_has w a b x n i j ha hb))
            (λ m. by_at_most P (2 ^ (w - 1)) a'.lo (λ _. straight_within w Arsh _
            (λ x n i j. signed_right_range_has w a b x n i j ha hb))
            (λ n. by_less (RangeWithin (everything w)) a.hi (2 ^ (w - 1)) (λ l. absurd (omega (arith, ra.high)))
            (λ _. by_at_most (RangeWithin (everything w)) (2 ^ (w - 1)) a.lo (λ l. absurd (omega (arith, ra.low)))
            (λ _. same_range _))));
        some = some_of _ _ (signed_right_range_has w a' b' a'.lo b'.lo (lowest a' na) (lowest b' nb) (omega (arith, ra.high))
            (omega (arith, rb.high)));
      }
