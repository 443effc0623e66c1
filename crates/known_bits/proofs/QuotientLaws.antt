-- Quotients and rests of w bits: no result is more than the formula's bound, and the pairs that the formulas give are sound.
-- By a power of two they are the best.
use mathlib.Core.Bool.{Bool, true, false, cond, ◌&&◌}
use mathlib.Core.Path.{◌≡◌, refl, sym, ap, ◌∙◌, subst}
use mathlib.Core.Logic.{inl, inr}
use Prim.Native.Nat.{ℕ, ◌+◌, ◌/◌, ◌%◌, ◌^◌, ◌≤◌, ◌<◌}
use native.Mathlib.Nat.{mod-lt, mod-le, mod-eq_of_lt, mul-le-mul_left, le-div_iff_mul-le, div-mul-le_self, div-le_self, le_trans, lt_of_le_of_lt, zero-mod, zero-div, mod_self}
use native.Mathlib.Decide.{dec_lt}
use native.Mathlib.Omega.{arith}
use lib.Bits.{bit_or}
use lib.Count.{count_trailing_zeros}
use lib.Dec.{eqb, ltb}
use lib.Pow.{pow_pos, pow-lt, shr_le}
use borrow.Author.Tests.{eq-eqb, ne_eqb, lt-ltb, eqb-true, eqb-false, ltb-true, ltb-false}
use Rattle.word.specs.Word.{alu, cut}
use Rattle.word.specs.declared.Operation.{Operation}
use Rattle.word.specs.declared.Operation.TheVariants.{Div, Mod}
use Rattle.word.proofs.Bit.{bit_shr, bit_pow}
use Rattle.word.proofs.Cut.{cut_small, cut_64}
use Rattle.word.proofs.Pinned.{div_by_zero, mod_by_zero}
use Rattle.known_bits.specs.declared.Bits.{Bits}
use Rattle.known_bits.specs.Formula.{low, up_to, among, known, power, highest_quotient, quotient, highest_rest, rest}
use Rattle.known_bits.specs.KnownBits.{Well, Mem, Sound, Best}
use Rattle.known_bits.specs.Pair.{exactly, top, each}
use Rattle.known_bits.proofs.Exact.{both_known}
use Rattle.known_bits.proofs.Covering.{up_to_covers, up_to_is_no_longer, low_bits_are_zero, a_multiple_has_as_many_zeros}
use Rattle.known_bits.proofs.Base.{by_cases}
use Rattle.known_bits.proofs.Class4.{low_best, sound_wider}
use Rattle.known_bits.proofs.Laws.{best_sound, best_same_set, number_wider, high_bit, mem_bounds, exact_mem}
use Rattle.known_bits.proofs.Methods.{Image1, Image, From, selected}
use Rattle.known_bits.proofs.Tight.{mem_least}
use Rattle.known_bits.proofs.Among.{among_is_sound, top_fits, at_most_top, exact_sound}

-- ---- bounds of quotients and rests
module _ (w x y : ℕ) (hx : x < 2 ^ w) (hy : y < 2 ^ w) where
  pub quotient_is : 0 < y → alu w Div x y ≡ x / y
  unfolding alu
  quotient_is p = simp (cut_small w {x = x} hx, cut_small w {x = y} hy, ne_eqb y 0 (λ e. omega arith))

  pub rest_is : 0 < y → alu w Mod x y ≡ x % y
  unfolding alu
  rest_is p = simp (cut_small w {x = x} hx, cut_small w {x = y} hy, ne_eqb y 0 (λ e. omega arith))

  none : ¬ (0 < y) → y % 2 ^ w ≡ 0
  none n = let e : y ≡ 0 = omega arith in ap (λ (m : ℕ). m % 2 ^ w) e ∙ zero-mod (2 ^ w)

  pub quotient_at_most_the_dividend : alu w Div x y ≤ x
  quotient_at_most_the_dividend = go (dec_lt 0 y)
    where
      go : Dec (0 < y) → alu w Div x y ≤ x
      go (yes p) = omega (arith, quotient_is p, div-le_self x y)
      go (no n) = omega (arith, div_by_zero w x y (none n))

  pub rest_at_most_the_dividend : alu w Mod x y ≤ x
  rest_at_most_the_dividend = go (dec_lt 0 y)
    where
      go : Dec (0 < y) → alu w Mod x y ≤ x
      go (yes p) = omega (arith, rest_is p, mod-le x y)
      go (no n) = omega (arith, mod_by_zero w x y (none n), mod-eq_of_lt hx)

  quotient_by_more : (t v : ℕ) → x ≤ t → v ≤ y → 0 < v → alu w Div x y ≤ t / v
  quotient_by_more t v p q h =
      omega (
        arith,
        quotient_is (omega arith),
        (le-div_iff_mul-le {k = v} {x = x / y} {y = t} h).1 (le_trans (mul-le-mul_left (x / y) q) (le_trans (div-mul-le_self x y) p)),
      )

  quotient_at_most : (t v : ℕ) → x ≤ t → v ≤ y → alu w Div x y ≤ highest_quotient t v
  unfolding highest_quotient
  quotient_at_most t v p q =
      by_cases (λ (m : ℕ). alu w Div x y ≤ m) (eqb v 0) (λ e. le_trans quotient_at_most_the_dividend p)
      (λ e. let n = eqb-false v 0 e in quotient_by_more t v p q (omega arith))

  rest_at_most : (t v u : ℕ) → x ≤ t → v ≤ y → y ≤ u → alu w Mod x y ≤ highest_rest t v u
  unfolding highest_rest
  rest_at_most t v u p q l =
      by_cases (λ (m : ℕ). alu w Mod x y ≤ m) (eqb v 0) (λ e. le_trans rest_at_most_the_dividend p)
      (λ e. let n = eqb-false v 0 e in by_cases (λ (m : ℕ). alu w Mod x y ≤ m) (ltb t u) (λ i. le_trans rest_at_most_the_dividend p)
      (λ i. omega (arith, rest_is (omega arith), mod-lt x {m = y} (omega arith))))

pub highest_quotient_at_most : (t v : ℕ) → highest_quotient t v ≤ t
unfolding highest_quotient
highest_quotient_at_most t v = by_cases (λ (m : ℕ). m ≤ t) (eqb v 0) (λ e. omega arith) (λ e. div-le_self t v)

pub highest_rest_at_most : (t v u : ℕ) → highest_rest t v u ≤ t
unfolding highest_rest
highest_rest_at_most t v u =
    by_cases (λ (m : ℕ). m ≤ t) (eqb v 0) (λ e. omega arith)
    (λ e. by_cases (λ (m : ℕ). m ≤ t) (ltb t u) (λ i. omega arith) (λ i. omega (arith, ltb-false t u i)))

-- ---- powers of two
pub low_zeros_of_a_power : (n : ℕ) → n < 64 → count_trailing_zeros 64 (2 ^ n) ≡ n
low_zeros_of_a_power n l = go (dec_lt n (count_trailing_zeros 64 (2 ^ n)))
  where
    go : Dec (n < count_trailing_zeros 64 (2 ^ n)) → count_trailing_zeros 64 (2 ^ n) ≡ n
    go (yes i) = absurd (omega (arith, low_bits_are_zero 64 (2 ^ n) n i, bit_pow n))
    go (no i) = omega (arith, a_multiple_has_as_many_zeros (2 ^ n) n (mod_self (2 ^ n)) (omega arith))

power_if : (P : ℕ → Type 0) (s t : Bool) (n : ℕ) → (s ≡ true → t ≡ true → P n) → P 64 → P (cond (s && t) n 64)
power_if P true t n f g = by_cases P t (f refl) (λ _. g)
power_if P false t n f g = g

pub power_is : (b : Bits) → power b < 64 → (b.mask ≡ 0) × (b.value ≡ 2 ^ power b)
unfolding power
power_is b =
    power_if (λ n. n < 64 → (b.mask ≡ 0) × (b.value ≡ 2 ^ n)) (eqb b.mask 0) (eqb b.value (2 ^ (count_trailing_zeros 64 b.value % 64))) _
    (λ e i l. (eqb-true _ _ e, eqb-true _ _ i)) (λ l. absurd (omega arith))

module _ (b : Bits) (n : ℕ) (zm : b.mask ≡ 0) (zv : b.value ≡ 2 ^ n) where
  pub power_of : n < 64 → power b ≡ n
  unfolding power
  power_of l =
      let e : count_trailing_zeros 64 b.value % 64 ≡ n =
      ap (λ (v : ℕ). count_trailing_zeros 64 v % 64) zv ∙ ap (λ (m : ℕ). m % 64) (low_zeros_of_a_power n l) ∙ mod-eq_of_lt l in
      simp (eq-eqb b.mask 0 zm, eq-eqb b.value (2 ^ (count_trailing_zeros 64 b.value % 64)) (zv ∙ ap (λ (m : ℕ). 2 ^ m) (sym e))) e

  module _ (w : ℕ) (a : Bits) (ga : Well w a) (gb : Well w b) where
    divisor : (y : ℕ) → Mem w b y → y ≡ 2 ^ n
    divisor y m = (exact_mem w b gb zm y).0 m ∙ zv

    positive : (y : ℕ) → Mem w b y → 0 < y
    positive y m = omega (arith, divisor y m, pow_pos n)

    quotient_of : (x y : ℕ) → x < 2 ^ w → Mem w b y → alu w Div x y ≡ x / 2 ^ n
    quotient_of x y h m = quotient_is w x y h m.fits (positive y m) ∙ ap (λ (d : ℕ). x / d) (divisor y m)

    rest_of : (x y : ℕ) → x < 2 ^ w → Mem w b y → alu w Mod x y ≡ cut n x
    unfolding cut
    rest_of x y h m = rest_is w x y h m.fits (positive y m) ∙ ap (λ (d : ℕ). x % d) (divisor y m)

    pub quotient_by_power_best : Best w (Image w (alu w Div) a b) (each (λ x. x / 2 ^ n) a)
    quotient_by_power_best =
        best_same_set w (Image1 w (λ x. x / 2 ^ n) a) (Image w (alu w Div) a b) (each (λ x. x / 2 ^ n) a)
        (λ z i. (i.0, b.value, i.1, mem_least w b gb, i.2 ∙ sym (quotient_of i.0 b.value i.1.fits (mem_least w b gb))))
        (λ z i. (i.0, i.2, i.4 ∙ quotient_of i.0 i.1 i.2.fits i.3))
        (selected w a ga (λ x. x / 2 ^ n) (λ x l. lt_of_le_of_lt (shr_le x n) l) (λ k l. from k (dec_lt (n + k) w)))
      where
        from : (k : ℕ) → Dec (n + k < w) → From w (λ x. x / 2 ^ n) k
        from k (yes h) = inl (n + k, h, λ x hx. bit_shr n k x)
        from k (no h) = inr (λ x hx. bit_shr n k x ∙ high_bit w (n + k) x h hx)

    pub rest_by_power_best : Best w (Image w (alu w Mod) a b) (each (λ x. x % 2 ^ n) a)
    unfolding low cut
    rest_by_power_best =
        best_same_set w (Image1 w (cut n) a) (Image w (alu w Mod) a b) (low n a)
        (λ z i. (i.0, b.value, i.1, mem_least w b gb, i.2 ∙ sym (rest_of i.0 b.value i.1.fits (mem_least w b gb))))
        (λ z i. (i.0, i.2, i.4 ∙ rest_of i.0 i.1 i.2.fits i.3))
        (low_best n w a ga)

  -- an exact dividend too
  module _ (a : Bits) (ha : a.value < 2 ^ 64) (l : n < 64) where
    hb : b.value < 2 ^ 64
    hb = subst (λ (m : ℕ). m < 2 ^ 64) (sym zv) (pow-lt l)

    some : 0 < b.value
    some = omega (arith, zv, pow_pos n)

    divided_by_power : (op : Operation) (g : ℕ → ℕ → ℕ) (s : Bits) → alu 64 op a.value b.value ≡ g n a.value → g n 0 ≡ 0
        → cond (known a b) (exactly (alu 64 op a.value b.value)) (cond (ltb (power b) 64) (each (g (power b)) a) s) ≡ each (g n) a
    unfolding known
    divided_by_power op g s hv h0 =
        by_cases (λ (r : Bits). r ≡ each (g n) a) (eqb (bit_or a.mask b.mask) 0)
        (λ e i. record { value = hv i; mask = sym (ap (g n) (both_known a.mask b.mask (eqb-true _ _ e)).0 ∙ h0) i })
        (λ e. simp (power_of l, lt-ltb n 64 l))

    pub quotient_by_power : quotient a b ≡ each (λ x. x / 2 ^ n) a
    unfolding quotient
    quotient_by_power =
        divided_by_power Div (λ m x. x / 2 ^ m) _ (quotient_is 64 a.value b.value ha hb some ∙ ap (λ (d : ℕ). a.value / d) zv) (zero-div (2 ^ n))

    pub rest_by_power : rest a b ≡ each (λ x. x % 2 ^ n) a
    unfolding rest
    rest_by_power =
        divided_by_power Mod (λ m x. x % 2 ^ m) _ (rest_is 64 a.value b.value ha hb some ∙ ap (λ (d : ℕ). a.value % d) zv) (zero-mod (2 ^ n))

-- ---- the result of known numbers at 64 bits is that at w bits
module _ (w : ℕ) (small : w ≤ 64) (x y : ℕ) (hx : x < 2 ^ w) (hy : y < 2 ^ w) where
  pub div_at_64 : alu 64 Div x y ≡ alu w Div x y
  unfolding alu
  div_at_64 = simp (cut_small w {x = x} hx, cut_small w {x = y} hy, cut_64 {x = x} (number_wider w 64 small hx), cut_64 {x = y} (number_wider w 64 small hy))

  pub mod_at_64 : alu 64 Mod x y ≡ alu w Mod x y
  unfolding alu
  mod_at_64 = simp (cut_small w {x = x} hx, cut_small w {x = y} hy, cut_64 {x = x} (number_wider w 64 small hx), cut_64 {x = y} (number_wider w 64 small hy))

-- ---- sound pairs
module _ (w : ℕ) (small : w ≤ 64) (a b : Bits) (ga : Well w a) (gb : Well w b) where
  -- by a power of two the best pair, and else a bound no more than the greatest dividend
  divided_sound : (op : Operation) (p : Bits) (t : ℕ) → alu 64 op a.value b.value ≡ alu w op a.value b.value
      → ((b.mask ≡ 0) × (b.value ≡ 2 ^ power b) → Best w (Image w (alu w op) a b) p)
      → t ≤ top a → ((x y : ℕ) → Mem w a x → Mem w b y → alu w op x y ≤ t)
      → Sound 64 (Image w (alu w op) a b) (cond (known a b) (exactly (alu 64 op a.value b.value)) (cond (ltb (power b) 64) p (among (up_to t))))
  unfolding known
  divided_sound op p t same by-power least most =
      by_cases P (eqb (bit_or a.mask b.mask) 0) (λ e. subst (λ (n : ℕ). P (exactly n)) (sym same) (exact_sound w small a b ga gb op (eqb-true _ _ e)))
      (λ e. by_cases P (ltb (power b) 64) (λ i. sound_wider w 64 small _ _ (best_sound w _ _ (by-power (power_is b (ltb-true _ _ i)))))
      (λ i. among_is_sound w op a b (up_to t) small (up_to_is_no_longer t fits 64 fits) (λ x y hx hy. up_to_covers t fits _ (most x y hx hy))))
    where
      P : Bits → Type 0
      P r = Sound 64 (Image w (alu w op) a b) r

      fits : t < 2 ^ 64
      fits = lt_of_le_of_lt least (top_fits w small a ga)

  pub quotient_sound : Sound 64 (Image w (alu w Div) a b) (quotient a b)
  unfolding quotient
  quotient_sound =
      divided_sound Div _ _ (div_at_64 w small _ _ ga.value_fits gb.value_fits)
      (λ p. quotient_by_power_best b (power b) p.0 p.1 w a ga gb) (highest_quotient_at_most (top a) b.value)
      (λ x y hx hy. quotient_at_most w x y hx.fits hy.fits (top a) b.value (at_most_top w small a ga x hx) (mem_bounds w b gb y hy).0)

  pub rest_sound : Sound 64 (Image w (alu w Mod) a b) (rest a b)
  unfolding rest
  rest_sound =
      divided_sound Mod _ _ (mod_at_64 w small _ _ ga.value_fits gb.value_fits)
      (λ p. rest_by_power_best b (power b) p.0 p.1 w a ga gb) (highest_rest_at_most (top a) b.value (top b))
      (λ x y hx hy. rest_at_most w x y hx.fits hy.fits (top a) b.value (top b) (at_most_top w small a ga x hx)
      (mem_bounds w b gb y hy).0 (at_most_top w small b gb y hy))
