-- What an operation is: on words, and at w bits as the low w bits of one on words.
use mathlib.Core.Path.{◌≡◌, refl, sym, ap, ◌∙◌}
use Prim.Native.Nat.{ℕ, ◌+◌, ◌-◌, ◌*◌, ◌/◌, ◌%◌, ◌^◌, ◌≤◌, ◌<◌}
use native.Mathlib.Nat.{zero-mod, mod-mod, mod-le, mod-eq_of_lt, div-le_self, lt_of_le_of_lt, lt_of_lt_of_le}
use native.Mathlib.Decide.{dec_lt}
use native.Mathlib.Omega.{arith}
use lib.Pow.{pow_pos, pow_mono, shr_le}
use lib.Bits.{bit_and, bit_or, bit_xor, or_lt, xor_lt, and_lt}
use borrow.Author.Tests.{lt-ltb, le-ltb, eq-eqb, ne_eqb}
use Rattle.word.specs.Word.{cut, alu, shift_signed}
use Rattle.word.specs.declared.Operation.TheVariants.{Add, Sub, Mul, Div, Or, And, Lsh, Rsh, Neg, Mod, Xor, Mov, Arsh}
use Rattle.word.proofs.Cut.{cut_below, cut_small, cut_64, cut_cut, cut_wider}
use Rattle.number.proofs.Cases.{by_less, by_equal}
use Rattle.number.proofs.Operands.{Wide, at_either_width}

-- ---- what an operation on words is
module _ (x y : ℕ) (hx : x < 2 ^ 64) (hy : y < 2 ^ 64) where
  pub sum_is : alu 64 Add x y ≡ (x + y) % 2 ^ 64
  unfolding alu
  sum_is = rw (cut_64 hx, cut_64 hy) refl

  pub difference_is : alu 64 Sub x y ≡ (x + (2 ^ 64 - y)) % 2 ^ 64
  unfolding alu
  difference_is = rw (cut_64 hx, cut_64 hy) refl

  pub product_is : alu 64 Mul x y ≡ (x * y) % 2 ^ 64
  unfolding alu
  product_is = rw (cut_64 hx, cut_64 hy) refl

  pub quotient_is : 0 < y → alu 64 Div x y ≡ x / y
  unfolding alu
  quotient_is p = rw (cut_64 hx, cut_64 hy, ne_eqb y 0 (λ e. omega arith)) refl

  pub quotient_by_none : y ≡ 0 → alu 64 Div x y ≡ 0
  unfolding alu
  quotient_by_none e = rw (cut_64 hy, eq-eqb y 0 e) refl

  pub quotient_at_most : alu 64 Div x y ≤ x
  quotient_at_most = go (dec_lt 0 y)
    where
      go : Dec (0 < y) → alu 64 Div x y ≤ x
      go (yes p) = omega (arith, quotient_is p, div-le_self x y)
      go (no p) = omega (arith, quotient_by_none (omega arith))

  pub rest_is : 0 < y → alu 64 Mod x y ≡ x % y
  unfolding alu
  rest_is p = rw (cut_64 hx, cut_64 hy, ne_eqb y 0 (λ e. omega arith)) refl

  pub rest_by_none : y ≡ 0 → alu 64 Mod x y ≡ x
  unfolding alu
  rest_by_none e = rw (cut_64 hx, cut_64 hy, eq-eqb y 0 e) refl

  pub rest_at_most : alu 64 Mod x y ≤ x
  rest_at_most = go (dec_lt 0 y)
    where
      go : Dec (0 < y) → alu 64 Mod x y ≤ x
      go (yes p) = omega (arith, rest_is p, mod-le x y)
      go (no p) = omega (arith, rest_by_none (omega arith))

  pub or_is : alu 64 Or x y ≡ bit_or x y
  unfolding alu
  or_is = rw (cut_64 hx, cut_64 hy) refl

  pub and_is : alu 64 And x y ≡ bit_and x y
  unfolding alu
  and_is = rw (cut_64 hx, cut_64 hy) refl

  pub xor_is : alu 64 Xor x y ≡ bit_xor x y
  unfolding alu
  xor_is = rw (cut_64 hx, cut_64 hy) refl

module _ (x c : ℕ) (hx : x < 2 ^ 64) (hc : c < 64) where
  pub left_is : alu 64 Lsh x c ≡ (x * 2 ^ c) % 2 ^ 64
  unfolding alu
  left_is = rw (cut_64 hx, mod-eq_of_lt hc) refl

  pub right_is : alu 64 Rsh x c ≡ x / 2 ^ c
  unfolding alu
  right_is = rw (cut_64 hx, mod-eq_of_lt hc) refl

pub right_at_most : (x c : ℕ) → x < 2 ^ 64 → alu 64 Rsh x c ≤ x
unfolding alu
right_at_most x c h = rw (cut_64 h) (shr_le x (c % 64))

-- with the sign, which is bit w - 1
module _ (w x n : ℕ) where
  pub shift_of_a_positive : x < 2 ^ (w - 1) → shift_signed w x n ≡ x / 2 ^ n
  unfolding shift_signed
  shift_of_a_positive h = rw (lt-ltb x (2 ^ (w - 1)) h) refl

  pub shift_of_a_negative : 2 ^ (w - 1) ≤ x → shift_signed w x n ≡ 2 ^ w - 1 - (2 ^ w - 1 - x) / 2 ^ n
  unfolding shift_signed
  shift_of_a_negative h = rw (le-ltb x (2 ^ (w - 1)) h) refl

  pub signed_shift_below : x < 2 ^ w → shift_signed w x n < 2 ^ w
  unfolding shift_signed
  signed_shift_below h =
      by_less (λ z. z < 2 ^ w) x (2 ^ (w - 1)) (λ _. lt_of_le_of_lt (shr_le x n) h) (λ _. omega (arith, pow_pos w))

  pub signed_right_is : x < 2 ^ w → n < w → alu w Arsh x n ≡ shift_signed w x n
  unfolding alu
  signed_right_is hx hn = rw (cut_small w hx, mod-eq_of_lt hn) refl

-- ---- at either width: the low w bits of a result on words, but for the shift with the sign
pub wide_at_most_64 : (w : ℕ) → Wide w → w ≤ 64
wide_at_most_64 = at_either_width (λ w. w ≤ 64) (omega arith) (omega arith)

pub word : (w : ℕ) → Wide w → (z : ℕ) → z < 2 ^ w → z < 2 ^ 64
word w h z l = lt_of_lt_of_le l (pow_mono (wide_at_most_64 w h))

module _ (w : ℕ) (h : Wide w) (x y : ℕ) where
  first_fits : cut w x < 2 ^ 64
  first_fits = word w h _ (cut_below w x)

  second_fits : cut w y < 2 ^ 64
  second_fits = word w h _ (cut_below w y)

  -- 64 bits first, and then w
  twice_cut : (z : ℕ) → cut w z ≡ cut w (cut 64 z)
  twice_cut z = sym (cut_wider w 64 z (wide_at_most_64 w h))

  -- a count is below 64 at either width
  count_is : y % w % 64 ≡ y % w
  count_is = mod-eq_of_lt (at_either_width (λ w. y % w < 64) (omega arith) (omega arith) w h)

  pub low_sum : alu w Add x y ≡ cut w (alu 64 Add (cut w x) (cut w y))
  unfolding alu cut
  low_sum = rw (cut_64 first_fits, cut_64 second_fits) (twice_cut _)

  pub low_product_lem : alu w Mul x y ≡ cut w (alu 64 Mul (cut w x) (cut w y))
  unfolding alu cut
  low_product_lem = rw (cut_64 first_fits, cut_64 second_fits) (twice_cut _)

  pub low_left : alu w Lsh x y ≡ cut w (alu 64 Lsh (cut w x) (y % w))
  unfolding alu cut
  low_left = rw (cut_64 first_fits, count_is) (twice_cut _)

  pub low_quotient : alu w Div x y ≡ cut w (alu 64 Div (cut w x) (cut w y))
  unfolding alu
  low_quotient =
      rw (cut_64 first_fits, cut_64 second_fits)
      (sym (cut_small w (by_equal (λ z. z < 2 ^ w) (cut w y) 0 (λ _. pow_pos w) (λ _. lt_of_le_of_lt (div-le_self _ _) (cut_below w x)))))

  pub low_rest : alu w Mod x y ≡ cut w (alu 64 Mod (cut w x) (cut w y))
  unfolding alu
  low_rest =
      rw (cut_64 first_fits, cut_64 second_fits)
      (sym (cut_small w (by_equal (λ z. z < 2 ^ w) (cut w y) 0 (λ _. cut_below w x) (λ _. lt_of_le_of_lt (mod-le _ _) (cut_below w x)))))

  pub low_or : alu w Or x y ≡ cut w (alu 64 Or (cut w x) (cut w y))
  unfolding alu
  low_or =
      rw (cut_64 first_fits, cut_64 second_fits) (sym (cut_small w (or_lt w _ _ (cut_below w x) (cut_below w y))))

  pub low_and : alu w And x y ≡ cut w (alu 64 And (cut w x) (cut w y))
  unfolding alu
  low_and =
      rw (cut_64 first_fits, cut_64 second_fits) (sym (cut_small w (and_lt w _ _ (cut_below w x) (cut_below w y))))

  pub low_xor : alu w Xor x y ≡ cut w (alu 64 Xor (cut w x) (cut w y))
  unfolding alu
  low_xor =
      rw (cut_64 first_fits, cut_64 second_fits) (sym (cut_small w (xor_lt w _ _ (cut_below w x) (cut_below w y))))

  pub low_right : alu w Rsh x y ≡ cut w (alu 64 Rsh (cut w x) (y % w))
  unfolding alu
  low_right =
      rw (cut_64 first_fits, count_is) (sym (cut_small w (lt_of_le_of_lt (shr_le _ _) (cut_below w x))))

module _ (x y : ℕ) where
  difference_of_halves : x < 2 ^ 32 → y < 2 ^ 32 → (x + (2 ^ 32 - y)) % 2 ^ 32 ≡ cut 32 (alu 64 Sub x y)
  unfolding cut
  difference_of_halves hx hy = let e = difference_is x y (omega arith) (omega arith) in omega arith

  difference_of_words : x < 2 ^ 64 → y < 2 ^ 64 → (x + (2 ^ 64 - y)) % 2 ^ 64 ≡ cut 64 (alu 64 Sub x y)
  unfolding cut
  difference_of_words hx hy = let e = difference_is x y hx hy in omega arith

module _ (x y : ℕ) where
  pub low_difference : (w : ℕ) → Wide w → alu w Sub x y ≡ cut w (alu 64 Sub (cut w x) (cut w y))
  unfolding alu
  low_difference =
      at_either_width (λ w. alu w Sub x y ≡ cut w (alu 64 Sub (cut w x) (cut w y)))
      (difference_of_words (cut 64 x) (cut 64 y) (cut_below 64 x) (cut_below 64 y))
      (difference_of_halves (cut 32 x) (cut 32 y) (cut_below 32 x) (cut_below 32 y))

  -- NEG is SUB from 0
  pub negative_is : (w : ℕ) → alu w Neg x y ≡ alu w Sub 0 x
  unfolding alu cut
  negative_is w = ap (λ (n : ℕ). n % 2 ^ w) (omega (arith, zero-mod (2 ^ w)))

pub low_negative : (w : ℕ) → Wide w → (x y : ℕ) → alu w Neg x y ≡ cut w (alu 64 Sub 0 (cut w x))
low_negative w h x y =
    negative_is x y w ∙ low_difference 0 x w h ∙ ap (λ (n : ℕ). cut w (alu 64 Sub n (cut w x))) (cut_small w (pow_pos w))

pub low_mov : (w x y : ℕ) → alu w Mov x y ≡ cut w (cut w y)
unfolding alu
low_mov w x y = sym (cut_cut w y)

-- at w bits both times: the sign is that of w bits
pub low_signed_right : (w : ℕ) → Wide w → (x y : ℕ) → alu w Arsh x y ≡ cut w (alu w Arsh (cut w x) (y % w))
unfolding alu
low_signed_right w h x y =
    rw (cut_cut w x, mod-mod y w) (sym (cut_small w (signed_shift_below w (cut w x) (y % w) (cut_below w x))))
