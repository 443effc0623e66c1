-- What is left when a pair and a range sharpen each other: no number of both is lost, neither half gets wider, and the leading bits
-- that the ends have in common are known.
use mathlib.Core.Path.{◌≡◌, sym, ap, ◌∙◌}
use Prim.Native.Nat.{ℕ, ◌-◌, ◌/◌, ◌%◌, ◌^◌, ◌≤◌, ◌<◌, min, max}
use native.Mathlib.Nat.{div-eq_of_lt, lt_of_le_of_lt, lt_of_lt_of_le, le_trans}
use native.Mathlib.Decide.{dec_lt}
use native.Mathlib.Omega.{arith}
use lib.Pow.{pow_pos, pow_mono, shr_mono, shr_le}
use lib.Bits.{bit_and, bit_or, bit_xor, and_le_l, and_le_r, and_lt, or_lt, xor_lt, xor_shr, xor_add_and, and_zero_l, and_zero_r, or_zero_r}
use lib.Count.{count_leading_zeros}
use Rattle.word.specs.Word.{bit}
use Rattle.word.proofs.Bit.{bit_lt, bit_zero, bit_and_lem, bit_or_lem, bit_xor_lem, bit_pow, bit_high, ext}
use Rattle.known_bits.specs.declared.Bits.{Bits}
use Rattle.known_bits.specs.KnownBits.{Well, Mem}
use Rattle.known_bits.specs.Pair.{top, exactly}
use Rattle.known_bits.specs.Formula.{up_to}
use Rattle.known_bits.proofs.Covering.{up_to_covers, up_to_is_no_longer}
use Rattle.known_bits.proofs.Laws.{mem_bounds}
use Rattle.known_bits.proofs.Tight.{digit, apart_bit, mem_top}
use Rattle.number.specs.declared.Range.{Range}
use Rattle.number.specs.Meaning.{Within, In, RangeWithin, BitsWithin}
use Rattle.number.specs.Sharpen.{narrowed, still_unknown, learnt, sharpened, just, exact}

-- ---- the leading bits that two ends have in common
no_difference_is_equality : (u v : ℕ) → bit_xor u v ≡ 0 → u ≡ v
no_difference_is_equality u v e = omega (arith, xor_add_and u v, and_le_l u v, and_le_r u v)

-- the ends agree from bit n on, so all between them do
pub common_quotient : (l h x n : ℕ) → bit_xor l h < 2 ^ n → l ≤ x → x ≤ h → x / 2 ^ n ≡ l / 2 ^ n
common_quotient l h x n d p q =
    let z : bit_xor (l / 2 ^ n) (h / 2 ^ n) ≡ 0 = sym (xor_shr l h n) ∙ div-eq_of_lt d in
    omega (arith, no_difference_is_equality (l / 2 ^ n) (h / 2 ^ n) z, shr_mono n p, shr_mono n q)

pub common_lead : (l h x n k : ℕ) → bit_xor l h < 2 ^ n → n ≤ k → l ≤ x → x ≤ h → bit k x ≡ bit k l
unfolding bit
common_lead l h x n k d g p q = ap (λ (m : ℕ). m % 2) (common_quotient l h x k (le_trans d (pow_mono g)) p q)

-- ---- the ones up to the highest bit of t
up_to_fits : (t : ℕ) → up_to t < 2 ^ 64
unfolding up_to
up_to_fits t = omega (arith, shr_le (2 ^ 64 - 1) (count_leading_zeros 64 t))

pub up_to_below : (t n : ℕ) → t < 2 ^ n → up_to t < 2 ^ n
up_to_below t n h = go (dec_lt t (2 ^ 64))
  where
    go : Dec (t < 2 ^ 64) → up_to t < 2 ^ n
    go (yes l) = up_to_is_no_longer t l n h
    go (no l) = lt_of_lt_of_le (up_to_fits t) (omega arith)

pub zero_of_up_to_is_above : (t k : ℕ) → t < 2 ^ 64 → bit k (up_to t) ≡ 0 → t < 2 ^ k
zero_of_up_to_is_above t k h e = go (dec_lt t (2 ^ k))
  where
    go : Dec (t < 2 ^ k) → t < 2 ^ k
    go (yes l) = l
    go (no l) = absurd (omega (arith, bit_pow k, (up_to_covers t h (2 ^ k) (omega arith)).zeros k e))

-- ---- what the pair learns
module _ (p : Bits) (s : Range) (k : ℕ) where
  pub learnt_mask : bit k (learnt p s).mask ≡ min (bit k p.mask) (bit k (up_to (bit_xor s.lo s.hi)))
  unfolding learnt still_unknown
  learnt_mask = bit_and_lem k p.mask (up_to (bit_xor s.lo s.hi))

  pub learnt_value : bit k (learnt p s).value ≡ max (bit k p.value) (min (bit k s.lo) (bit k p.mask - bit k (learnt p s).mask))
  unfolding learnt
  learnt_value =
      let fresh = bit_xor p.mask (still_unknown p s) in
      omega (
        arith,
        bit_or_lem k p.value (bit_and s.lo fresh),
        bit_and_lem k s.lo fresh,
        bit_xor_lem k p.mask (still_unknown p s),
        learnt_mask,
        bit_lt k p.mask,
      )

module _ (p : Bits) (s : Range) (g : Well 64 p) where
  learnt_mask_fits : (learnt p s).mask < 2 ^ 64
  unfolding learnt still_unknown
  learnt_mask_fits = lt_of_le_of_lt (and_le_l p.mask (up_to (bit_xor s.lo s.hi))) g.mask_fits

  learnt_value_fits : (learnt p s).value < 2 ^ 64
  unfolding learnt
  learnt_value_fits =
      let fresh = bit_xor p.mask (still_unknown p s) in
      or_lt 64 p.value (bit_and s.lo fresh) g.value_fits
      (lt_of_le_of_lt (and_le_r s.lo fresh) (xor_lt 64 p.mask (still_unknown p s) g.mask_fits learnt_mask_fits))

  pub learnt_form : Well 64 (learnt p s)
  learnt_form =
      record {
        value_fits = learnt_value_fits;
        mask_fits = learnt_mask_fits;
        apart = ext 64 _ 0 (and_lt 64 _ _ learnt_value_fits learnt_mask_fits) (pow_pos 64)
            (λ k l. omega (
              arith,
              bit_zero k,
              bit_and_lem k (learnt p s).value (learnt p s).mask,
              learnt_mask p s k,
              learnt_value p s k,
              apart_bit 64 p g k,
              bit_lt k (learnt p s).mask,
              bit_lt k p.mask,
            ));
      }

  -- the ends are words, so their difference is one
  pub learnt_keeps : (x : ℕ) → s.hi < 2 ^ 64 → Mem 64 p x → Within s x → Mem 64 (learnt p s) x
  learnt_keeps x h m i = record { fits = m.fits; agrees = λ k l e. digit (bit k p.mask) (bit_lt k p.mask) (was_known k l) (is_new k e) }
    where
      was_known : (k : ℕ) → k < 64 → bit k p.mask ≡ 0 → bit k x ≡ bit k (learnt p s).value
      was_known k l z = omega (arith, m.agrees k l z, learnt_value p s k)

      is_new : (k : ℕ) → bit k (learnt p s).mask ≡ 0 → bit k p.mask ≡ 1 → bit k x ≡ bit k (learnt p s).value
      is_new k e z =
          let d : bit_xor s.lo s.hi < 2 ^ 64 = xor_lt 64 s.lo s.hi (omega (arith, i.low, i.high)) h in
          let y : bit k (up_to (bit_xor s.lo s.hi)) ≡ 0 = omega (arith, e, z, learnt_mask p s k, bit_lt k (up_to (bit_xor s.lo s.hi))) in
          omega (
            arith,
            e,
            z,
            learnt_value p s k,
            apart_bit 64 p g k,
            bit_lt k s.lo,
            common_lead s.lo s.hi x k k (zero_of_up_to_is_above _ k d y) (omega arith) i.low i.high,
          )

pub learnt_within : (p : Bits) (s : Range) → BitsWithin (learnt p s) p
learnt_within p s x m =
    record {
      fits = m.fits;
      agrees = λ k l e.
          let z : bit k (learnt p s).mask ≡ 0 = omega (arith, e, learnt_mask p s k) in
          omega (arith, e, z, m.agrees k l z, learnt_value p s k);
    }

-- ---- what the range learns
pub narrowed_keeps : (p : Bits) (s : Range) → Well 64 p → (x : ℕ) → Mem 64 p x → Within s x → Within (narrowed p s) x
unfolding narrowed
narrowed_keeps p s g x m i =
    let b = mem_bounds 64 p g x m in
    record { low = omega (arith, b.0, i.low); high = omega (arith, b.1, i.high) }

pub narrowed_within : (p : Bits) (s : Range) → RangeWithin (narrowed p s) s
unfolding narrowed
narrowed_within p s = record { low = omega arith; high = omega arith }

pub narrowed_above_least : (p : Bits) (s : Range) → p.value ≤ (narrowed p s).lo
unfolding narrowed
narrowed_above_least p s = omega arith

pub narrowed_below_top : (p : Bits) (s : Range) → (narrowed p s).hi ≤ top p
unfolding narrowed
narrowed_below_top p s = omega arith

-- ---- both
pub sharpened_keeps : (p : Bits) (s : Range) (x : ℕ) → Well 64 p → Mem 64 p x → Within s x → In (sharpened p s) x
unfolding sharpened
sharpened_keeps p s x g m i =
    let u = narrowed p s in
    let hu : Within u x = narrowed_keeps p s g x m i in
    let h : u.hi < 2 ^ 64 = lt_of_le_of_lt (narrowed_below_top p s) (mem_top 64 p g).fits in
    let hb : Mem 64 (learnt p u) x = learnt_keeps p u g x h m hu in
    record { form = learnt_form p u g; bits = hb; range = narrowed_keeps (learnt p u) u (learnt_form p u g) x hb hu }

module _ (p : Bits) (s : Range) where
  pub sharpened_form : Well 64 p → Well 64 (sharpened p s).bits
  unfolding sharpened
  sharpened_form g = learnt_form p (narrowed p s) g

  pub sharpened_bits_within : BitsWithin (sharpened p s).bits p
  unfolding sharpened
  sharpened_bits_within = learnt_within p (narrowed p s)

  pub sharpened_range_within_narrowed : RangeWithin (sharpened p s).range (narrowed p s)
  unfolding sharpened
  sharpened_range_within_narrowed = narrowed_within (learnt p (narrowed p s)) (narrowed p s)

  pub sharpened_range_within : RangeWithin (sharpened p s).range s
  sharpened_range_within =
      let v = sharpened_range_within_narrowed in
      let u = narrowed_within p s in
      record { low = omega (arith, u.low, v.low); high = omega (arith, u.high, v.high) }

  pub sharpened_above_least : p.value ≤ (sharpened p s).range.lo
  sharpened_above_least = le_trans (narrowed_above_least p s) sharpened_range_within_narrowed.low

  pub sharpened_below_top : (sharpened p s).range.hi ≤ top p
  sharpened_below_top = le_trans sharpened_range_within_narrowed.high (narrowed_below_top p s)

  pub sharpened_knows_the_common_lead : (n k : ℕ) → bit_xor (narrowed p s).lo (narrowed p s).hi < 2 ^ n → n ≤ k
      → bit k (sharpened p s).bits.mask ≡ 0
  unfolding sharpened
  sharpened_knows_the_common_lead n k d l =
      let u = narrowed p s in
      omega (
        arith,
        learnt_mask p u k,
        bit_high k (up_to (bit_xor u.lo u.hi)) (lt_of_lt_of_le (up_to_below (bit_xor u.lo u.hi) n d) (pow_mono l)),
      )

-- ---- a number that is known
pub just_within : (v : ℕ) → Within (just v) v
unfolding just
just_within v = record { low = omega arith; high = omega arith }

narrowed_exact : (v : ℕ) (s : Range) → Within s v → narrowed (exactly v) s ≡ just v
unfolding narrowed just
narrowed_exact v s i = λ j. record { lo = low j; hi = high j }
  where
    low : max s.lo v ≡ v
    low = omega (arith, i.low)

    high : min s.hi (bit_or v 0) ≡ v
    high = omega (arith, i.high, or_zero_r v)

learnt_exact : (v : ℕ) (s : Range) → learnt (exactly v) s ≡ exactly v
unfolding learnt still_unknown
learnt_exact v s = λ j. record { value = value j; mask = none j }
  where
    none : bit_and 0 (up_to (bit_xor s.lo s.hi)) ≡ 0
    none = and_zero_l (up_to (bit_xor s.lo s.hi))

    value : bit_or v (bit_and s.lo (bit_xor 0 (bit_and 0 (up_to (bit_xor s.lo s.hi))))) ≡ v
    value = ap (λ (m : ℕ). bit_or v (bit_and s.lo (bit_xor 0 m))) none ∙ ap (bit_or v) (and_zero_r s.lo) ∙ or_zero_r v

pub sharpened_exact : (p : Bits) (s : Range) (v : ℕ) → p ≡ exactly v → Within s v → sharpened p s ≡ exact v
unfolding sharpened exact
sharpened_exact p s v e i = ap (λ (q : Bits). sharpened q s) e ∙ (λ j. record { bits = bits j; range = range j })
  where
    bits : learnt (exactly v) (narrowed (exactly v) s) ≡ exactly v
    bits = learnt_exact v (narrowed (exactly v) s)

    range : narrowed (learnt (exactly v) (narrowed (exactly v) s)) (narrowed (exactly v) s) ≡ just v
    range =
        ap (λ (q : Bits). narrowed q (narrowed (exactly v) s)) bits ∙ ap (narrowed (exactly v)) (narrowed_exact v s i)
        ∙ narrowed_exact v (just v) (just_within v)
