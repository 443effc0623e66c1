-- Products of w bits: no result is more than the formula's bound, and the pair that the formula gives is sound, by each of its three views.
use mathlib.Core.Path.{◌≡◌, refl, sym, ap, ◌∙◌, subst}
use Prim.Native.Nat.{ℕ, ◌+◌, ◌*◌, ◌%◌, ◌^◌, ◌≤◌, ◌<◌}
use native.Mathlib.Nat.{mod-le, mul_comm, mul-le-mul, le_trans, lt_of_le_of_lt}
use native.Mathlib.Omega.{arith}
use lib.Bits.{bit_or, and_le_r}
use lib.Count.{count_trailing_zeros}
use lib.Dec.{eqb, ltb}
use lib.Pow.{pow_pos, pow_mono}
use borrow.Author.Tests.{eqb-true, ltb-true}
use Rattle.word.specs.Word.{alu, cut}
use Rattle.word.specs.declared.Operation.TheVariants.{Mul}
use Rattle.word.proofs.Cut.{cut_small, cut_wider}
use Rattle.word.proofs.Pinned.{mul_is_the_product}
use Rattle.known_bits.specs.declared.Bits.{Bits}
use Rattle.known_bits.specs.Formula.{low, up_to, from_bit, among, highest_product, product_mask, meet, shift_and_add, known, product, highest_shifted, left_mask}
use Rattle.known_bits.specs.KnownBits.{Well, Mem, Sound, Best}
use Rattle.known_bits.specs.Masks.{Covers}
use Rattle.known_bits.specs.Pair.{exactly, top}
use Rattle.known_bits.proofs.Exact.{both_known, exact_best}
use Rattle.known_bits.proofs.Covering.{zeros_of_a_product, zeros_of_a_shift, covered_has_the_low_zeros, from_bit_covers, up_to_covers, up_to_is_no_longer}
use Rattle.known_bits.proofs.Base.{by_cases, top_covers, both_cover, covered_is_at_most}
use Rattle.known_bits.proofs.Class4.{low_well, low_has_the_cuts, sound_wider}
use Rattle.known_bits.proofs.Laws.{best_sound, well_wider, mem_wider, exact_mem}
use Rattle.known_bits.proofs.Meet.{meet_sound, meet_within}
use Rattle.known_bits.proofs.Methods.{Image}
use Rattle.known_bits.proofs.ShiftAndAdd.{shift_and_add_sound}
use Rattle.known_bits.proofs.Tight.{mem_least, mem_top}
use Rattle.known_bits.proofs.Among.{among_is_sound}

-- ---- bounds of products
module _ (t u : ℕ) where
  product_at_most : (x y : ℕ) → x ≤ t → y ≤ u → (x * y) % 2 ^ 64 ≤ highest_product t u
  unfolding highest_product
  product_at_most x y p q =
      by_cases (λ (m : ℕ). (x * y) % 2 ^ 64 ≤ m) (ltb (t * u) (2 ^ 64)) (λ e. le_trans (mod-le (x * y) (2 ^ 64)) (mul-le-mul p q))
      (λ e. omega arith)

  pub highest_product_fits : highest_product t u < 2 ^ 64
  unfolding highest_product
  highest_product_fits = by_cases (λ (m : ℕ). m < 2 ^ 64) (ltb (t * u) (2 ^ 64)) (ltb-true (t * u) (2 ^ 64)) (λ e. omega arith)

  highest_product_mask_fits : up_to (highest_product t u) < 2 ^ 64
  highest_product_mask_fits = up_to_is_no_longer (highest_product t u) highest_product_fits 64 highest_product_fits

  -- the low zeros of both factors, and no bit above the highest product
  pub product_mask_covers : t < 2 ^ 64 → u < 2 ^ 64 → (x y : ℕ) → x < 2 ^ 64 → y < 2 ^ 64 → Covers t x → Covers u y
      → Covers (product_mask t u) ((x * y) % 2 ^ 64)
  unfolding product_mask
  product_mask_covers ht hu x y hx hy p q =
      both_cover _ _ _
      (from_bit_covers (count_trailing_zeros 64 t + count_trailing_zeros 64 u) (x * y)
      (zeros_of_a_product x y _ _ (covered_has_the_low_zeros t x p) (covered_has_the_low_zeros u y q)))
      (up_to_covers (highest_product t u) highest_product_fits _
      (product_at_most x y (covered_is_at_most t x p 64 hx ht) (covered_is_at_most u y q 64 hy hu)))

  pub product_mask_fits : product_mask t u < 2 ^ 64
  unfolding product_mask
  product_mask_fits = lt_of_le_of_lt (and_le_r (from_bit (count_trailing_zeros 64 t + count_trailing_zeros 64 u)) (up_to (highest_product t u))) highest_product_mask_fits

-- a shift to the left is a product with a power of two
module _ (t least most : ℕ) where
  pub left_mask_covers : t < 2 ^ 64 → (x c : ℕ) → x < 2 ^ 64 → Covers t x → least ≤ c → c ≤ most → Covers (left_mask t least most) ((x * 2 ^ c) % 2 ^ 64)
  unfolding left_mask highest_shifted
  left_mask_covers ht x c hx p lo hi =
      both_cover _ _ _
      (from_bit_covers (count_trailing_zeros 64 t + least) (x * 2 ^ c)
      (zeros_of_a_shift x (count_trailing_zeros 64 t) least c lo (covered_has_the_low_zeros t x p)))
      (up_to_covers (highest_product t (2 ^ most)) (highest_product_fits t (2 ^ most)) _
      (product_at_most t (2 ^ most) x (2 ^ c) (covered_is_at_most t x p 64 hx ht) (pow_mono hi)))

  pub left_mask_fits : left_mask t least most < 2 ^ 64
  unfolding left_mask highest_shifted
  left_mask_fits =
      lt_of_le_of_lt (and_le_r (from_bit (count_trailing_zeros 64 t + least)) (up_to (highest_product t (2 ^ most)))) (highest_product_mask_fits t (2 ^ most))

-- ---- the result of known numbers at 64 bits is that at w bits
module _ (w : ℕ) (small : w ≤ 64) (x y : ℕ) where
  pub low_of_the_product : cut w ((x * y) % 2 ^ 64) ≡ alu w Mul x y
  unfolding cut
  low_of_the_product = cut_wider w 64 (x * y) small ∙ sym (mul_is_the_product w x y)

  pub exact_product_is : low w (exactly (alu 64 Mul x y)) ≡ exactly (alu w Mul x y)
  unfolding low
  exact_product_is = λ i. record {
    value = (ap (cut w) (mul_is_the_product 64 x y) ∙ low_of_the_product) i;
    mask = cut_small w (pow_pos w) i;
  }

-- ---- the product, in three views: by the mask, by the digits of a, by the digits of b
module _ (a b : Bits) (ga : Well 64 a) (gb : Well 64 b) where
  abbrev Products : ℕ → Type 0
  Products = Image 64 (alu 64 Mul) a b

  pub by_the_mask : Sound 64 Products (among (product_mask (top a) (top b)))
  by_the_mask =
      among_is_sound 64 Mul a b _ (omega arith) (product_mask_fits (top a) (top b))
      (λ x y hx hy. subst (λ (n : ℕ). Covers (product_mask (top a) (top b)) n) (sym (mul_is_the_product 64 x y))
      (product_mask_covers (top a) (top b) (mem_top 64 a ga).fits (mem_top 64 b gb).fits x y hx.fits hy.fits (top_covers 64 a ga x hx) (top_covers 64 b gb y hy)))

  by_digits_of_a : Sound 64 Products (shift_and_add 64 a b)
  by_digits_of_a = shift_and_add_sound 64 a b ga gb

  by_digits_of_b : Sound 64 Products (shift_and_add 64 b a)
  by_digits_of_b =
      let h = shift_and_add_sound 64 b a gb ga in
      record { well = h.well; sound = λ z i. h.sound z (i.1, i.0, i.3, i.2, i.4 ∙ turned i.0 i.1) }
    where
      turned : (x y : ℕ) → alu 64 Mul x y ≡ alu 64 Mul y x
      turned x y = mul_is_the_product 64 x y ∙ ap (λ (n : ℕ). n % 2 ^ 64) (mul_comm x y) ∙ sym (mul_is_the_product 64 y x)

  by_digits : Sound 64 Products (meet (shift_and_add 64 a b) (shift_and_add 64 b a))
  by_digits = meet_sound 64 Products _ _ by_digits_of_a by_digits_of_b

  both_exact : bit_or a.mask b.mask ≡ 0 → Best 64 Products (exactly (alu 64 Mul a.value b.value))
  both_exact e = let z = both_known a.mask b.mask e in exact_best 64 Mul a b ga gb z.0 z.1

  pub whole_product_sound : Sound 64 Products (product a b)
  unfolding product known
  whole_product_sound =
      by_cases (Sound 64 Products) (eqb (bit_or a.mask b.mask) 0) (λ e. best_sound 64 _ _ (both_exact (eqb-true _ _ e)))
      (λ e. meet_sound 64 Products _ _ by_the_mask by_digits)

  -- each number of the product is one of all three; an exact one is a product
  pub whole_product_within : (z : ℕ) → Mem 64 (product a b) z
      → Mem 64 (among (product_mask (top a) (top b))) z × (Mem 64 (shift_and_add 64 a b) z × Mem 64 (shift_and_add 64 b a) z)
  unfolding product known
  whole_product_within z =
      by_cases (λ (r : Bits). Mem 64 r z → Mem 64 (among (product_mask (top a) (top b))) z × (Mem 64 (shift_and_add 64 a b) z × Mem 64 (shift_and_add 64 b a) z))
      (eqb (bit_or a.mask b.mask) 0)
      (λ e m. let i : Products z = (
        a.value,
        b.value,
        mem_least 64 a ga,
        mem_least 64 b gb,
        (exact_mem 64 _ (both_exact (eqb-true _ _ e)).well refl z).0 m,
      ) in
      (by_the_mask.sound z i, (by_digits_of_a.sound z i, by_digits_of_b.sound z i)))
      (λ e m. let s = meet_within 64 Products _ _ by_the_mask by_digits _ some z m in
      (s.0, meet_within 64 Products _ _ by_digits_of_a by_digits_of_b _ some z s.1))
    where
      some : Products (alu 64 Mul a.value b.value)
      some = (a.value, b.value, mem_least 64 a ga, mem_least 64 b gb, refl)

module _ (w : ℕ) (small : w ≤ 64) (a b : Bits) (ga : Well w a) (gb : Well w b) where
  pub product_sound : Sound 64 (Image w (alu w Mul) a b) (low w (product a b))
  product_sound =
      let h = whole_product_sound a b (well_wider w 64 small a ga) (well_wider w 64 small b gb) in
      sound_wider w 64 small _ _ (record {
        well = low_well w 64 small (product a b) h.well;
        sound = λ z i. subst (λ (n : ℕ). Mem w (low w (product a b)) n)
            (ap (cut w) (mul_is_the_product 64 i.0 i.1) ∙ low_of_the_product w small i.0 i.1 ∙ sym i.4)
            (low_has_the_cuts w 64 small (product a b) h.well _
            (h.sound _ (i.0, i.1, mem_wider w 64 small a ga i.0 i.2, mem_wider w 64 small b gb i.1 i.3, refl)));
      })
