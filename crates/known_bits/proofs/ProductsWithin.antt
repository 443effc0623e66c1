-- How much the product of an instruction knows: no less than shift and add over the digits of either operand, no less than the mask
-- alone, which it was before, and the low zeros of both. With products that are sharper than that mask.
use mathlib.Core.Bool.{Bool, true, false, cond}
use mathlib.Core.Path.{◌≡◌, refl, sym, ap, ◌∙◌, subst}
use mathlib.Core.Logic.{◌⊎◌, inl, inr}
use Prim.Native.Nat.{ℕ, ◌+◌, ◌%◌, ◌^◌, ◌≤◌, ◌<◌}
use native.Mathlib.Nat.{zero-mod}
use native.Mathlib.Decide.{dec_lt}
use native.Mathlib.Omega.{arith}
use lib.Bits.{or_mod}
use lib.Count.{count_leading_zeros, count_trailing_zeros, trailing_le}
use Rattle.word.specs.Word.{bit, cut, alu}
use Rattle.word.specs.declared.Operation.TheVariants.{Mul}
use Rattle.word.proofs.Bit.{bit_zero, bit_and_lem, low_eq}
use Rattle.word.proofs.Pinned.{result_below}
use Rattle.known_bits.specs.declared.Bits.{Bits}
use Rattle.known_bits.specs.Formula.{low, sum, joined, among, from_bit, up_to, highest_product, product_mask, placed, with_digit, low_digits, shift_and_add, known, product, formula, calculated}
use Rattle.known_bits.specs.KnownBits.{Well, Mem}
use Rattle.known_bits.specs.Pair.{top, exactly}
use Rattle.known_bits.proofs.Base.{by_cases}
use Rattle.known_bits.proofs.Class4.{width, low_well, low_has_the_cuts, low_has_only_cuts}
use Rattle.known_bits.proofs.Covering.{bit_below_from, a_multiple_has_as_many_zeros}
use Rattle.known_bits.proofs.Exact.{exact_well}
use Rattle.known_bits.proofs.Laws.{high_bit, well_wider, mem_wider, mem_narrower}
use Rattle.known_bits.proofs.ProductLaws.{by_the_mask, whole_product_sound, whole_product_within}
use Rattle.known_bits.proofs.ShiftAndAdd.{shift_and_add_sound, cut_of_shift_and_add, cut_of_multiple}
use Rattle.known_bits.proofs.Tight.{mem_top}

-- ---- the low zeros of the mask
enough_zeros : (t i : ℕ) → t % 2 ^ i ≡ 0 → (count_trailing_zeros 64 t ≡ 64) ⊎ (i ≤ count_trailing_zeros 64 t)
enough_zeros t i z = go (dec_lt (count_trailing_zeros 64 t) 64)
  where
    go : Dec (count_trailing_zeros 64 t < 64) → (count_trailing_zeros 64 t ≡ 64) ⊎ (i ≤ count_trailing_zeros 64 t)
    go (yes l) = inr (a_multiple_has_as_many_zeros t i z l)
    go (no n) = inl (omega (arith, trailing_le 64 t))

module _ (t u i j : ℕ) (zt : t % 2 ^ i ≡ 0) (zu : u % 2 ^ j ≡ 0) where
  low_mask_bit : (k : ℕ) → k < i + j → k < 64 → bit k (product_mask t u) ≡ 0
  unfolding product_mask
  low_mask_bit k l h =
      omega (
        arith,
        bit_and_lem k (from_bit (count_trailing_zeros 64 t + count_trailing_zeros 64 u)) (up_to (highest_product t u)),
        bit_below_from (count_trailing_zeros 64 t + count_trailing_zeros 64 u) k (go (enough_zeros t i zt) (enough_zeros u j zu)) h,
      )
    where
      go : (count_trailing_zeros 64 t ≡ 64) ⊎ (i ≤ count_trailing_zeros 64 t) → (count_trailing_zeros 64 u ≡ 64) ⊎ (j ≤ count_trailing_zeros 64 u)
          → k < count_trailing_zeros 64 t + count_trailing_zeros 64 u
      go (inl e) q = omega arith
      go (inr e) (inl f) = omega arith
      go (inr e) (inr f) = omega arith

  masked_is_a_multiple : (x : ℕ) → Mem 64 (among (product_mask t u)) x → x % 2 ^ (i + j) ≡ 0
  unfolding among
  masked_is_a_multiple x m = low_eq (i + j) x 0 (λ k l. go k l (dec_lt k 64) ∙ sym (bit_zero k)) ∙ zero-mod (2 ^ (i + j))
    where
      go : (k : ℕ) → k < i + j → Dec (k < 64) → bit k x ≡ 0
      go k l (yes h) = m.agrees k h (low_mask_bit k l h) ∙ bit_zero k
      go k l (no h) = high_bit 64 k x h m.fits

-- ---- of the instruction
-- the product that was: the mask alone
abbrev pub former : Bits → Bits → Bits
former a b = cond (known a b) (exactly (alu 64 Mul a.value b.value)) (among (product_mask (top a) (top b)))

former_if : (t : Bool) (e n o : Bits) (z : ℕ) → Mem 64 (cond t e n) z → Mem 64 o z → Mem 64 (cond t e o) z
former_if true e n o z m f = m
former_if false e n o z m f = f

former_has : (a b : Bits) (z : ℕ) → Mem 64 (product a b) z → Mem 64 (among (product_mask (top a) (top b))) z → Mem 64 (former a b) z
unfolding product
former_has a b z = former_if (known a b) _ _ _ z

former_form : (a b : Bits) → Well 64 a → Well 64 b → Well 64 (former a b)
former_form a b ga gb =
    by_cases (Well 64) (known a b) (λ e. exact_well 64 _ (result_below 64 Mul a.value b.value) refl) (λ e. (by_the_mask a b ga gb).well)

low_top_multiple : (w : ℕ) (p : Bits) (i : ℕ) → top p % 2 ^ i ≡ 0 → top (low w p) % 2 ^ i ≡ 0
unfolding low cut
low_top_multiple w p i z = ap (λ (n : ℕ). n % 2 ^ i) (sym (or_mod p.value p.mask w)) ∙ cut_of_multiple w i (top p) z

module _ (w : ℕ) (either : (w ≡ 64) ⊎ (w ≡ 32)) (a b : Bits) (ga : Well 64 a) (gb : Well 64 b) where
  small : w ≤ 64
  small = (width w either).small

  wide_form : (p : Bits) → Well 64 p → Well 64 (low w p)
  wide_form p g = well_wider w 64 small (low w p) (low_well w 64 small p g)

  product_form : Well 64 (product (low w a) (low w b))
  product_form = (whole_product_sound (low w a) (low w b) (wide_form a ga) (wide_form b gb)).well

  recut : (p : Bits) → Well 64 p → (x z : ℕ) → z ≡ cut w x → Mem 64 p x → Mem 64 (low w p) z
  recut p g x z e m =
      mem_wider w 64 small (low w p) (low_well w 64 small p g) z (subst (λ (n : ℕ). Mem w (low w p) n) (sym e) (low_has_the_cuts w 64 small p g x m))

  module _ (z : ℕ) (m : Mem 64 (calculated w Mul a b) z) where
    -- it is the cut of a number of the product at 64 bits
    uncut : (x : ℕ) × Mem 64 (product (low w a) (low w b)) x × (z ≡ cut w x)
    unfolding calculated formula
    uncut = low_has_only_cuts w 64 small _ product_form z (mem_narrower w 64 small _ (low_well w 64 small _ product_form) z m)

    views : Mem 64 (among (product_mask (top (low w a)) (top (low w b)))) uncut.0
        × (Mem 64 (shift_and_add 64 (low w a) (low w b)) uncut.0 × Mem 64 (shift_and_add 64 (low w b) (low w a)) uncut.0)
    views = whole_product_within (low w a) (low w b) (wide_form a ga) (wide_form b gb) uncut.0 uncut.1

    pub product_within_shift_and_add : Mem 64 (shift_and_add w (low w a) (low w b)) z × Mem 64 (shift_and_add w (low w b) (low w a)) z
    product_within_shift_and_add = (
      within (low w a) (low w b) (wide_form a ga) (wide_form b gb) uncut.0 z uncut.2 views.1.0,
      within (low w b) (low w a) (wide_form b gb) (wide_form a ga) uncut.0 z uncut.2 views.1.1,
    )
      where
        within : (p q : Bits) → Well 64 p → Well 64 q → (x z : ℕ) → z ≡ cut w x → Mem 64 (shift_and_add 64 p q) x → Mem 64 (shift_and_add w p q) z
        within p q gp gq x z e m =
            subst (λ (r : Bits). Mem 64 r z) (cut_of_shift_and_add w small p q) (recut (shift_and_add 64 p q) (shift_and_add_sound 64 p q gp gq).well x z e m)

    pub product_within_the_former : Mem 64 (low w (former (low w a) (low w b))) z
    product_within_the_former =
        recut (former (low w a) (low w b)) (former_form (low w a) (low w b) (wide_form a ga) (wide_form b gb)) uncut.0 z uncut.2
        (former_has (low w a) (low w b) uncut.0 uncut.1 views.0)

    -- where all numbers of a are multiples of 2 ^ i, and those of b of 2 ^ j
    pub product_of_multiples : (i j : ℕ) → ((x : ℕ) → Mem 64 a x → x % 2 ^ i ≡ 0) → ((y : ℕ) → Mem 64 b y → y % 2 ^ j ≡ 0) → z % 2 ^ (i + j) ≡ 0
    unfolding cut
    product_of_multiples i j ha hb =
        ap (λ (n : ℕ). n % 2 ^ (i + j)) uncut.2
        ∙ cut_of_multiple w (i + j) uncut.0
        (masked_is_a_multiple _ _ i j (low_top_multiple w a i (ha (top a) (mem_top 64 a ga))) (low_top_multiple w b j (hb (top b) (mem_top 64 b gb)))
        uncut.0 views.0)

-- ---- products that are sharper than they were; the names have the numbers in hexadecimal
abbrev pair : ℕ → ℕ → Bits
pair v m = record { value = v; mask = m }

-- a stride of 24 at an odd index, 1 or 3: the bit of 8 is known. It was 0/78
pub mul_of_1/2_and_18/0_is_8/50 : (product (pair 1 2) (pair 24 0) ≡ pair 8 80) × (former (pair 1 2) (pair 24 0) ≡ pair 0 120)
unfolding product known shift_and_add low_digits with_digit placed sum joined among product_mask from_bit up_to highest_product alu cut bit count_trailing_zeros count_leading_zeros
mul_of_1/2_and_18/0_is_8/50 = (refl, refl)

-- digits far apart leave a gap of zeros. It was 0/fff
pub mul_of_0/101_and_0/f_is_0/f0f : (product (pair 0 257) (pair 0 15) ≡ pair 0 3855) × (former (pair 0 257) (pair 0 15) ≡ pair 0 4095)
unfolding product known shift_and_add low_digits with_digit placed sum joined among product_mask from_bit up_to highest_product alu cut bit count_trailing_zeros count_leading_zeros
mul_of_0/101_and_0/f_is_0/f0f = (refl, refl)

-- any odd number times any odd number is odd. It was 0/ffffffffffffffff, anything
pub mul_of_1/fffffffffffffffe_and_1/fffffffffffffffe_is_1/fffffffffffffffe :
    (product (pair 1 18446744073709551614) (pair 1 18446744073709551614) ≡ pair 1 18446744073709551614)
    × (former (pair 1 18446744073709551614) (pair 1 18446744073709551614) ≡ pair 0 18446744073709551615)
unfolding product known shift_and_add low_digits with_digit placed sum joined among product_mask from_bit up_to highest_product alu cut bit count_trailing_zeros count_leading_zeros
mul_of_1/fffffffffffffffe_and_1/fffffffffffffffe_is_1/fffffffffffffffe = (refl, refl)

-- a stride of 24 at any odd index, at 32 bits. It was 0/fffffff8
pub mul_32_of_1/fffffffffffffffe_and_18/0_is_8/fffffff0 :
    (calculated 32 Mul (pair 1 18446744073709551614) (pair 24 0) ≡ pair 8 4294967280)
    × (low 32 (former (low 32 (pair 1 18446744073709551614)) (low 32 (pair 24 0))) ≡ pair 0 4294967288)
unfolding calculated formula low product known shift_and_add low_digits with_digit placed sum joined among product_mask from_bit up_to highest_product alu cut bit count_trailing_zeros count_leading_zeros
mul_32_of_1/fffffffffffffffe_and_18/0_is_8/fffffff0 = (refl, refl)
