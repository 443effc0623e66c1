-- ADD and SUB have exactly the ends that are asked for: where no pair wraps, where every pair does, and all numbers otherwise.
use mathlib.Core.Path.{◌≡◌, refl, ap, ◌∙◌}
use mathlib.Core.Logic.{inl, inr}
use Prim.Native.Nat.{ℕ, ◌+◌, ◌-◌, ◌*◌, ◌%◌, ◌^◌, ◌≤◌, ◌<◌}
use native.Mathlib.Omega.{arith}
use Rattle.word.specs.declared.Operation.TheVariants.{Add, Sub}
use Rattle.number.specs.declared.Range.{Range}
use Rattle.number.specs.declared.Number.{Number}
use Rattle.number.specs.Meaning.{In, RangeWithin}
use Rattle.number.specs.Sharpen.{everything}
use Rattle.number.specs.Ranges.{straight, crossed, sum_range, difference_range, ranged}
use Rattle.number.specs.Demanded.{SumEnds, DifferenceEnds}
use Rattle.number.specs.Computed.{block, modulo, second, computed_range, computed}
use Rattle.number.proofs.Cases.{by_less, by_at_most}
use Rattle.number.proofs.Operands.{Wide, at_either_width, same_ends, block_keeps, block_of_more, modulo_in, modulo_below}
use Rattle.number.proofs.Computing.{computed_range_within}
use Rattle.number.proofs.Results.{sum_is, difference_is}

-- ---- a range modulo m that says nothing
block_of_everything : (w : ℕ) → Wide w → block (2 ^ w) (everything 64) ≡ everything w
unfolding everything
block_of_everything =
    at_either_width (λ w. block (2 ^ w) (everything 64) ≡ everything w)
    (block_keeps (2 ^ 64) 0 0 (2 ^ 64 - 1) (everything 64) (omega arith) (omega arith) (omega arith) (omega arith))
    (block_of_more (2 ^ 32) (everything 64) (omega arith) (omega arith))

-- ---- the ranges of words
module _ (a b : Range) (na : a.lo ≤ a.hi) (nb : b.lo ≤ b.hi) (ha : a.hi < 2 ^ 64) (hb : b.hi < 2 ^ 64) where
  straight_sum_is : straight 64 Add a b ≡ record { lo = (a.lo + b.lo) % 2 ^ 64; hi = (a.hi + b.hi) % 2 ^ 64 }
  unfolding straight
  straight_sum_is = same_ends _ _ _ (sum_is a.lo b.lo (omega arith) (omega arith)) (sum_is a.hi b.hi ha hb)

  pub sum_range_exact : a.hi + b.hi < 2 ^ 64 → sum_range a b ≡ record { lo = a.lo + b.lo; hi = a.hi + b.hi }
  unfolding sum_range
  sum_range_exact n =
      by_less (λ r. r ≡ record { lo = a.lo + b.lo; hi = a.hi + b.hi }) (a.hi + b.hi) (2 ^ 64)
      (λ _. straight_sum_is ∙ same_ends _ _ _ (omega arith) (omega arith))
      (λ m. absurd (omega arith))

  pub sum_range_wraps : 2 ^ 64 ≤ a.lo + b.lo → sum_range a b ≡ record { lo = a.lo + b.lo - 2 ^ 64; hi = a.hi + b.hi - 2 ^ 64 }
  unfolding sum_range
  sum_range_wraps n =
      let P : Range → Type 0 = λ r. r ≡ record { lo = a.lo + b.lo - 2 ^ 64; hi = a.hi + b.hi - 2 ^ 64 } in
      by_less P (a.hi + b.hi) (2 ^ 64) (λ m. absurd (omega arith))
      (λ _. by_at_most P (2 ^ 64) (a.lo + b.lo) (λ _. straight_sum_is ∙ same_ends _ _ _ (omega arith) (omega arith)) (λ m. absurd (omega arith)))

  pub sum_range_unknown : a.lo + b.lo < 2 ^ 64 → 2 ^ 64 ≤ a.hi + b.hi → sum_range a b ≡ everything 64
  unfolding sum_range
  sum_range_unknown l h =
      by_less (λ r. r ≡ everything 64) (a.hi + b.hi) (2 ^ 64) (λ m. absurd (omega arith))
      (λ _. by_at_most (λ r. r ≡ everything 64) (2 ^ 64) (a.lo + b.lo) (λ m. absurd (omega arith)) (λ _. refl))

  pub difference_range_exact : b.hi ≤ a.lo → difference_range a b ≡ record { lo = a.lo - b.hi; hi = a.hi - b.lo }
  unfolding difference_range crossed
  difference_range_exact n =
      let l = difference_is a.lo b.hi (omega arith) hb in
      let h = difference_is a.hi b.lo ha (omega arith) in
      by_at_most (λ r. r ≡ record { lo = a.lo - b.hi; hi = a.hi - b.lo }) b.hi a.lo
      (λ _. same_ends _ _ _ (omega arith) (omega arith))
      (λ m. absurd (omega arith))

  pub difference_range_wraps : a.hi < b.lo → difference_range a b ≡ record { lo = a.lo + 2 ^ 64 - b.hi; hi = a.hi + 2 ^ 64 - b.lo }
  unfolding difference_range crossed
  difference_range_wraps n =
      let l = difference_is a.lo b.hi (omega arith) hb in
      let h = difference_is a.hi b.lo ha (omega arith) in
      let P : Range → Type 0 = λ r. r ≡ record { lo = a.lo + 2 ^ 64 - b.hi; hi = a.hi + 2 ^ 64 - b.lo } in
      by_at_most P b.hi a.lo (λ m. absurd (omega arith))
      (λ _. by_less P a.hi b.lo (λ _. same_ends _ _ _ (omega arith) (omega arith)) (λ m. absurd (omega arith)))

  pub difference_range_unknown : a.lo < b.hi → b.lo ≤ a.hi → difference_range a b ≡ everything 64
  unfolding difference_range
  difference_range_unknown l h =
      by_at_most (λ r. r ≡ everything 64) b.hi a.lo (λ m. absurd (omega arith))
      (λ _. by_less (λ r. r ≡ everything 64) a.hi b.lo (λ m. absurd (omega arith)) (λ _. refl))

-- ---- at either width: u and v are the operands cut to w bits
-- the same for a range that is known to be another
block_at : (m q l h l' h' : ℕ) (r : Range) → r ≡ record { lo = l'; hi = h' } → l' ≡ q * m + l → h' ≡ q * m + h → l < m → h < m
    → block m r ≡ record { lo = l; hi = h }
block_at m q l h l' h' r e f g below above = ap (block m) e ∙ block_keeps m q l h (record { lo = l'; hi = h' }) f g below above

module _ (u v : Range) (nu : u.lo ≤ u.hi) (nv : v.lo ≤ v.hi) where
  sum_ends_64 : u.hi < 2 ^ 64 → v.hi < 2 ^ 64 → SumEnds 64 u v (block (2 ^ 64) (sum_range u v))
  sum_ends_64 hu hv =
      record {
        exact = λ n. block_at (2 ^ 64) 0 _ _ _ _ _ (sum_range_exact u v nu nv hu hv n) (omega arith) (omega arith) (omega arith) (omega arith);
        wraps = λ n. block_at (2 ^ 64) 0 _ _ _ _ _ (sum_range_wraps u v nu nv hu hv n) (omega arith) (omega arith) (omega arith) (omega arith);
        unknown = λ l h. ap (block (2 ^ 64)) (sum_range_unknown u v nu nv hu hv l h) ∙ block_of_everything 64 (inl refl);
      }

  -- no sum of halves wraps at 64 bits
  sum_ends_32 : u.hi < 2 ^ 32 → v.hi < 2 ^ 32 → SumEnds 32 u v (block (2 ^ 32) (sum_range u v))
  unfolding everything
  sum_ends_32 hu hv =
      let e = sum_range_exact u v nu nv (omega arith) (omega arith) (omega arith) in
      record {
        exact = λ n. block_at (2 ^ 32) 0 _ _ _ _ _ e (omega arith) (omega arith) (omega arith) (omega arith);
        wraps = λ n. block_at (2 ^ 32) 1 _ _ _ _ _ e (omega arith) (omega arith) (omega arith) (omega arith);
        unknown = λ l h. ap (block (2 ^ 32)) e ∙ block_of_more (2 ^ 32) (record { lo = u.lo + v.lo; hi = u.hi + v.hi }) l h;
      }

  difference_ends_64 : u.hi < 2 ^ 64 → v.hi < 2 ^ 64 → DifferenceEnds 64 u v (block (2 ^ 64) (difference_range u v))
  difference_ends_64 hu hv =
      record {
        exact = λ n. block_at (2 ^ 64) 0 _ _ _ _ _ (difference_range_exact u v nu nv hu hv n) (omega arith) (omega arith) (omega arith) (omega arith);
        wraps = λ n. block_at (2 ^ 64) 0 _ _ _ _ _ (difference_range_wraps u v nu nv hu hv n) (omega arith) (omega arith) (omega arith) (omega arith);
        unknown = λ l h. ap (block (2 ^ 64)) (difference_range_unknown u v nu nv hu hv l h) ∙ block_of_everything 64 (inl refl);
      }

  -- one that wraps at 64 bits lies in the last block of 32
  difference_ends_32 : u.hi < 2 ^ 32 → v.hi < 2 ^ 32 → DifferenceEnds 32 u v (block (2 ^ 32) (difference_range u v))
  difference_ends_32 hu hv =
      record {
        exact = λ n. block_at (2 ^ 32) 0 _ _ _ _ _ (difference_range_exact u v nu nv (omega arith) (omega arith) n) (omega arith) (omega arith) (omega arith) (omega arith);
        wraps = λ n. block_at (2 ^ 32) (2 ^ 32 - 1) _ _ _ _ _ (difference_range_wraps u v nu nv (omega arith) (omega arith) n) (omega arith) (omega arith) (omega arith) (omega arith);
        unknown = λ l h. ap (block (2 ^ 32)) (difference_range_unknown u v nu nv (omega arith) (omega arith) l h) ∙ block_of_everything 32 (inr refl);
      }

module _ (w : ℕ) (wide : Wide w) (a b : Number) (na : (modulo (2 ^ w) a).lo ≤ (modulo (2 ^ w) a).hi) (nb : (modulo (2 ^ w) b).lo ≤ (modulo (2 ^ w) b).hi) where
  pub sum_ends : SumEnds w (modulo (2 ^ w) a) (modulo (2 ^ w) b) (computed_range w Add a b)
  unfolding computed_range ranged second
  sum_ends =
      at_either_width
      (λ w. (u v : Range) → u.lo ≤ u.hi → v.lo ≤ v.hi → u.hi < 2 ^ w → v.hi < 2 ^ w → SumEnds w u v (block (2 ^ w) (sum_range u v)))
      sum_ends_64 sum_ends_32 w wide (modulo (2 ^ w) a) (modulo (2 ^ w) b) na nb (modulo_below w a) (modulo_below w b)

  pub difference_ends : DifferenceEnds w (modulo (2 ^ w) a) (modulo (2 ^ w) b) (computed_range w Sub a b)
  unfolding computed_range ranged second
  difference_ends =
      at_either_width
      (λ w. (u v : Range) → u.lo ≤ u.hi → v.lo ≤ v.hi → u.hi < 2 ^ w → v.hi < 2 ^ w → DifferenceEnds w u v (block (2 ^ w) (difference_range u v)))
      difference_ends_64 difference_ends_32 w wide (modulo (2 ^ w) a) (modulo (2 ^ w) b) na nb (modulo_below w a) (modulo_below w b)

-- ---- in the words of the Numbers' own ranges
module _ (w : ℕ) (wide : Wide w) (n : Number) (x : ℕ) (i : In n x) where
  narrow : w ≤ 64
  narrow = at_either_width (λ w. w ≤ 64) (omega arith) (omega arith) w wide

  cut_has_a_member : (modulo (2 ^ w) n).lo ≤ (modulo (2 ^ w) n).hi
  cut_has_a_member = let m = modulo_in w n narrow x i in omega arith

  pub cut_within : n.range.hi < 2 ^ w → RangeWithin (modulo (2 ^ w) n) n.range
  unfolding modulo
  cut_within h =
      let e = block_keeps (2 ^ w) 0 n.range.lo n.range.hi n.range (omega arith) (omega arith) (omega (arith, i.range.low, i.range.high)) h in
      let l : (block (2 ^ w) n.range).lo ≡ n.range.lo = ap (λ (r : Range). r.lo) e in
      let t : (block (2 ^ w) n.range).hi ≡ n.range.hi = ap (λ (r : Range). r.hi) e in
      record { low = omega arith; high = omega arith }

module _ (w : ℕ) (wide : Wide w) (a b : Number) (x y : ℕ) (i : In a x) (j : In b y) where
  pub sum_within : a.range.hi + b.range.hi < 2 ^ w
      → RangeWithin (computed w Add a b).range (record { lo = a.range.lo + b.range.lo; hi = a.range.hi + b.range.hi })
  sum_within n =
      let u = cut_within w wide a x i (omega arith) in
      let v = cut_within w wide b y j (omega arith) in
      let e = (sum_ends w wide a b (cut_has_a_member w wide a x i) (cut_has_a_member w wide b y j)).exact (omega arith) in
      let l : (computed_range w Add a b).lo ≡ (modulo (2 ^ w) a).lo + (modulo (2 ^ w) b).lo = ap (λ (r : Range). r.lo) e in
      let h : (computed_range w Add a b).hi ≡ (modulo (2 ^ w) a).hi + (modulo (2 ^ w) b).hi = ap (λ (r : Range). r.hi) e in
      let c = computed_range_within w Add a b in
      record { low = omega arith; high = omega arith }

  pub difference_within : a.range.hi < 2 ^ w → b.range.hi ≤ a.range.lo
      → RangeWithin (computed w Sub a b).range (record { lo = a.range.lo - b.range.hi; hi = a.range.hi - b.range.lo })
  difference_within t n =
      let u = cut_within w wide a x i t in
      let v = cut_within w wide b y j (omega (arith, i.range.low, i.range.high)) in
      let e = (difference_ends w wide a b (cut_has_a_member w wide a x i) (cut_has_a_member w wide b y j)).exact (omega arith) in
      let l : (computed_range w Sub a b).lo ≡ (modulo (2 ^ w) a).lo - (modulo (2 ^ w) b).hi = ap (λ (r : Range). r.lo) e in
      let h : (computed_range w Sub a b).hi ≡ (modulo (2 ^ w) a).hi - (modulo (2 ^ w) b).lo = ap (λ (r : Range). r.hi) e in
      let c = computed_range_within w Sub a b in
      record { low = omega arith; high = omega arith }
