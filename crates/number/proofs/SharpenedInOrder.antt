-- Knowing more never hurts where a pair and a range sharpen each other: of less wide halves less is left, unless they contradict each
-- other, so that the range that is left is empty.
use mathlib.Core.Path.{◌≡◌, sym, ap, ◌∙◌}
use Prim.Native.Nat.{ℕ, ◌*◌, ◌/◌, ◌%◌, ◌^◌, ◌≤◌, ◌<◌}
use native.Mathlib.Nat.{mod-lt, zero-mul, div-eq_of_lt, lt_of_le_of_lt, le_trans}
use native.Mathlib.Omega.{arith}
use lib.Pow.{pow_pos, shr_mono, split}
use lib.Bits.{bit_or, bit_xor, and_le_r, xor_lt, xor_shr, xor_self, or_shr, or_zero_r}
use Rattle.word.specs.Word.{bit}
use Rattle.word.proofs.Bit.{bit_lt, bit_high}
use Rattle.known_bits.specs.declared.Bits.{Bits}
use Rattle.known_bits.specs.KnownBits.{Well}
use Rattle.known_bits.specs.Formula.{up_to}
use Rattle.known_bits.specs.Pair.{top}
use Rattle.known_bits.proofs.Inside.{value_grows, top_falls}
use Rattle.known_bits.proofs.Tight.{digit, mem_top, apart_bit}
use Rattle.number.specs.declared.Range.{Range}
use Rattle.number.specs.Meaning.{Within, RangeWithin, BitsWithin, Narrower}
use Rattle.number.specs.Sharpen.{narrowed, still_unknown, learnt, sharpened}
use Rattle.number.proofs.Outcomes.{NotEmpty}
use Rattle.number.proofs.Sharpening.{common_quotient, up_to_below, zero_of_up_to_is_above, learnt_mask, learnt_value, learnt_form, learnt_within, narrowed_within, narrowed_below_top, narrowed_above_least}

module _ (p' p : Bits) (g' : Well 64 p') (g : Well 64 p) (i : BitsWithin p' p) where
  pub narrowed_in_order : (s' s : Range) → RangeWithin s' s → RangeWithin (narrowed p' s') (narrowed p s)
  unfolding narrowed
  narrowed_in_order s' s r =
      let v = value_grows 64 p' p g' g i in
      let t = top_falls 64 p' p g' g i in
      record { low = omega (arith, r.low); high = omega (arith, r.high) }

-- the ends of a pair whose mask has no bit from k on have the bits from k on of all between them
pub same_lead_as_ends : (p : Bits) (k y : ℕ) → p.mask < 2 ^ k → p.value ≤ y → y ≤ top p → p.value / 2 ^ k ≡ y / 2 ^ k
same_lead_as_ends p k y h l t =
    let e : top p / 2 ^ k ≡ p.value / 2 ^ k = or_shr p.value p.mask k ∙ ap (bit_or (p.value / 2 ^ k)) (div-eq_of_lt h) ∙ or_zero_r
    (p.value / 2 ^ k) in
    omega (arith, shr_mono k l, shr_mono k t)

pub no_difference_from : (l h k : ℕ) → l / 2 ^ k ≡ h / 2 ^ k → bit_xor l h < 2 ^ k
no_difference_from l h k e =
    let z : bit_xor l h / 2 ^ k ≡ 0 = xor_shr l h k ∙ ap (λ (m : ℕ). bit_xor m (h / 2 ^ k)) e ∙ xor_self (h / 2 ^ k) in
    let o : bit_xor l h / 2 ^ k * 2 ^ k ≡ 0 = ap (λ (m : ℕ). m * 2 ^ k) z ∙ zero-mul (2 ^ k) in
    omega (arith, split (bit_xor l h) k, mod-lt (bit_xor l h) (pow_pos k))

pub learnt_mask_below : (p : Bits) (u : Range) (k : ℕ) → bit_xor u.lo u.hi < 2 ^ k → (learnt p u).mask < 2 ^ k
unfolding learnt still_unknown
learnt_mask_below p u k n = lt_of_le_of_lt (and_le_r p.mask (up_to (bit_xor u.lo u.hi))) (up_to_below (bit_xor u.lo u.hi) k n)

-- what the pair learns from a range that lies in it
module _ (p' p : Bits) (g' : Well 64 p') (g : Well 64 p) (i : BitsWithin p' p) (u' u : Range) (r : RangeWithin u' u) (h : u.hi < 2 ^ 64)
    (y : ℕ) (yu : Within u' y) (yl : (learnt p' u').value ≤ y) (yt : y ≤ top (learnt p' u')) where
  learnt_in_order : BitsWithin (learnt p' u') (learnt p u)
  unfolding bit
  learnt_in_order x m =
      record { fits = m.fits; agrees = λ k l e. digit (bit k p.mask) (bit_lt k p.mask) (was_known k l e) (is_new k l e) }
    where
      was_known : (k : ℕ) → k < 64 → bit k (learnt p u).mask ≡ 0 → bit k p.mask ≡ 0 → bit k x ≡ bit k (learnt p u).value
      was_known k l e z = omega (arith, (i x (learnt_within p' u' x m)).agrees k l z, learnt_value p u k)

      is_new : (k : ℕ) → k < 64 → bit k (learnt p u).mask ≡ 0 → bit k p.mask ≡ 1 → bit k x ≡ bit k (learnt p u).value
      is_new k l e z =
          let d : bit_xor u.lo u.hi < 2 ^ 64 = xor_lt 64 u.lo u.hi (omega (arith, r.low, r.high, yu.low, yu.high)) h in
          let o : bit k (up_to (bit_xor u.lo u.hi)) ≡ 0 = omega
          (arith, e, z, learnt_mask p u k, bit_lt k (up_to (bit_xor u.lo u.hi))) in
          let a : bit_xor u.lo u.hi < 2 ^ k = zero_of_up_to_is_above _ k d o in
          let f : (v : ℕ) → u.lo ≤ v → v ≤ u.hi → v / 2 ^ k ≡ u.lo / 2 ^ k = λ v. common_quotient u.lo u.hi v k a in
          let n : bit_xor u'.lo u'.hi < 2 ^ k = no_difference_from u'.lo u'.hi k (
          f u'.lo r.low (omega (arith, r.high, yu.low, yu.high)) ∙ sym
          (f u'.hi (omega (arith, r.low, yu.low, yu.high)) r.high)) in
          let b : (learnt p' u').mask < 2 ^ k = learnt_mask_below p' u' k n in
          let q : bit k (learnt p' u').value ≡ bit k y = ap (λ (c : ℕ). c % 2) (same_lead_as_ends (learnt p' u') k y b yl yt) in
          let v : bit k y ≡ bit k u.lo = ap (λ (c : ℕ). c % 2)
          (f y (omega (arith, r.low, yu.low)) (omega (arith, r.high, yu.high))) in
          omega (
            arith,
            e,
            z,
            m.agrees k l (bit_high k (learnt p' u').mask b),
            q,
            v,
            learnt_value p u k,
            apart_bit 64 p g k,
            bit_lt k
                u.lo,
          )

-- ---- both
module _ (p' p : Bits) (g' : Well 64 p') (g : Well 64 p) (i : BitsWithin p' p) (s' s : Range) (r : RangeWithin s' s) where
  pub sharpened_in_order : NotEmpty (sharpened p' s').range → Narrower (sharpened p' s') (sharpened p s)
  unfolding sharpened
  sharpened_in_order n =
      let u' = narrowed p' s' in
      let u = narrowed p s in
      let q' = learnt p' u' in
      let w = narrowed_in_order p' p g' g i s' s r in
      let v = narrowed_within q' u' in
      let b : BitsWithin q' (learnt p u) = learnt_in_order p' p g' g i u' u w
      (lt_of_le_of_lt (narrowed_below_top p s) (mem_top 64 p g).fits)
      (narrowed q' u').lo (record { low = v.low; high = omega (arith, v.high) }) (narrowed_above_least q' u')
      (le_trans n (narrowed_below_top q' u')) in
      record { bits = b; range = narrowed_in_order q' (learnt p u) (learnt_form p' u' g') (learnt_form p u g) b u' u w }
