-- Products of numbers of which nothing but a length is known: the mask alone is the best pair, so that no digit has to be looked at.
use mathlib.Core.Path.{◌≡◌, sym, ap, ap₂, ◌∙◌, subst}
use Prim.Native.Nat.{ℕ, ◌+◌, ◌-◌, ◌*◌, ◌/◌, ◌%◌, ◌^◌, ◌≤◌, ◌<◌, min}
use native.Mathlib.Nat.{mod-eq_of_lt, zero-mul, mul-zero, lt_of_lt_of_le}
use native.Mathlib.Decide.{dec_lt}
use native.Mathlib.Omega.{arith}
use lib.Bits.{bit_and, bit_or, and_zero_l, or_zero_l}
use lib.Count.{count_trailing_zeros}
use lib.Pow.{high, pow_pos, pow-add, pow-lt, pow_mono}
use borrow.Author.Tests.{lt-ltb}
use Rattle.word.specs.Word.{bit, alu}
use Rattle.word.specs.declared.Operation.TheVariants.{Mul}
use Rattle.word.proofs.Bit.{bit_lt, bit_zero, bit_and_lem, bit_mod, bit_pow}
use Rattle.word.proofs.Pinned.{mul_is_the_product}
use Rattle.known_bits.specs.declared.Bits.{Bits}
use Rattle.known_bits.specs.Formula.{up_to, from_bit, among, highest_product, product_mask, product}
use Rattle.known_bits.specs.KnownBits.{Well, Mem, Best}
use Rattle.known_bits.specs.Pair.{top}
use Rattle.known_bits.proofs.Covering.{bit_of_ones, bit_up_to}
use Rattle.known_bits.proofs.Laws.{high_bit, unique}
use Rattle.known_bits.proofs.Methods.{Image}
use Rattle.known_bits.proofs.ProductLaws.{highest_product_fits, by_the_mask, whole_product_sound, whole_product_within}
use Rattle.known_bits.proofs.Tight.{tight_best}

-- all numbers of n bits, and no other
pub record Plain (n : ℕ) (p : Bits) : Type 0 where
  pub none : p.value ≡ 0
  pub all : p.mask ≡ 2 ^ n - 1
  pub fits : p.mask < 2 ^ 64

module _ (n : ℕ) (p : Bits) (h : Plain n p) where
  plain_well : Well 64 p
  plain_well =
      record {
        value_fits = subst (λ (v : ℕ). v < 2 ^ 64) (sym h.none) (pow_pos 64);
        mask_fits = h.fits;
        apart = ap (λ (v : ℕ). bit_and v p.mask) h.none ∙ and_zero_l p.mask;
      }

  plain_top : top p ≡ 2 ^ n - 1
  plain_top = ap (λ (v : ℕ). bit_or v p.mask) h.none ∙ or_zero_l p.mask ∙ h.all

  plain_has : (x : ℕ) → x < 2 ^ n → Mem 64 p x
  plain_has x l = record { fits = omega (arith, h.all, h.fits); agrees = λ k i z. go k z (dec_lt k n) }
    where
      go : (k : ℕ) → bit k p.mask ≡ 0 → Dec (k < n) → bit k x ≡ bit k p.value
      go k z (yes i) = absurd (omega (arith, ap (bit k) h.all, bit_of_ones n k i))
      go k z (no i) = high_bit n k x i l ∙ sym (ap (bit k) h.none ∙ bit_zero k)

-- ---- a product with bit k set, of numbers below 2 ^ m and 2 ^ n
abbrev SomeBit : ℕ → ℕ → ℕ → Type 0
SomeBit m n k = (x : ℕ) × (y : ℕ) × (x < 2 ^ m) × (y < 2 ^ n) × (bit k ((x * y) % 2 ^ 64) ≡ 1)

module _ (m n k : ℕ) (l : k < 64) where
  power_has_the_bit : 0 < m → 0 < n → k + 1 < m + n → SomeBit m n k
  power_has_the_bit hm hn h =
      let i = min k (m - 1) in
      let j = k - i in
      let e : i + j ≡ k = omega arith in (
        2 ^ i,
        2 ^ j,
        pow-lt (omega arith),
        pow-lt (omega arith),
        bit_mod 64 k (2 ^ i * 2 ^ j) l ∙ ap (bit k) (sym (pow-add 2 i j) ∙ ap (λ (c : ℕ). 2 ^ c) e) ∙ bit_pow k,
      )

  module _ (big : 2 ^ k ≤ highest_product (2 ^ m - 1) (2 ^ n - 1)) where
    top_has_the_bit : m + n ≤ k + 1 → SomeBit m n k
    unfolding highest_product bit
    top_has_the_bit h =
        (t, u, omega (arith, pow_pos m), omega (arith, pow_pos n), ap (λ (z : ℕ). bit k z) (mod-eq_of_lt fits) ∙ top_digit (t * u) above below)
      where
        t : ℕ
        t = 2 ^ m - 1

        u : ℕ
        u = 2 ^ n - 1

        more : (x y : ℕ) → x * y < (x + 1) * (y + 1)
        more x y = omega arith

        below : t * u < 2 ^ (k + 1)
        below =
            let em : t + 1 ≡ 2 ^ m = omega (arith, pow_pos m) in
            let en : u + 1 ≡ 2 ^ n = omega (arith, pow_pos n) in
            let e : (t + 1) * (u + 1) ≡ 2 ^ (m + n) = ap₂ (λ (x y : ℕ). x * y) em en ∙ sym (pow-add 2 m n) in
            lt_of_lt_of_le (subst (λ (z : ℕ). t * u < z) e (more t u)) (pow_mono h)

        fits : t * u < 2 ^ 64
        fits = lt_of_lt_of_le below (pow_mono {i = k + 1} {j = 64} (omega arith))

        above : 2 ^ k ≤ t * u
        above = let e : highest_product t u ≡ t * u = simp (lt-ltb (t * u) (2 ^ 64) fits) in subst (λ (z : ℕ). 2 ^ k ≤ z) e big

        top_digit : (z : ℕ) → 2 ^ k ≤ z → z < 2 ^ (k + 1) → z / 2 ^ k % 2 ≡ 1
        top_digit z lo hi =
            let e : z ≡ 1 * 2 ^ k + (z - 2 ^ k) = omega arith in
            ap (λ (c : ℕ). c / 2 ^ k % 2) e ∙ ap (λ (c : ℕ). c % 2) (high 1 k (omega (arith, pow-add 2 k 1)))

    some_bit_of_products : SomeBit m n k
    unfolding highest_product
    some_bit_of_products = go (dec_lt 0 m) (dec_lt 0 n) (dec_lt (k + 1) (m + n))
      where
        none : (t u : ℕ) → t * u ≡ 0 → 2 ^ k ≤ highest_product t u → ⊥
        none t u z b =
            let e : highest_product t u ≡ 0 = simp (lt-ltb (t * u) (2 ^ 64) (omega arith)) z in
            omega (arith, pow_pos k)

        go : Dec (0 < m) → Dec (0 < n) → Dec (k + 1 < m + n) → SomeBit m n k
        go (yes hm) (yes hn) (yes h) = power_has_the_bit hm hn h
        go (yes hm) (yes hn) (no h) = top_has_the_bit (omega arith)
        go (no hm) hn h = let z : m ≡ 0 = omega arith in absurd (none (2 ^ m - 1) (2 ^ n - 1) (ap (λ (c : ℕ). (2 ^ c - 1) * (2 ^ n - 1)) z ∙ zero-mul (2 ^ n - 1)) big)
        go (yes hm) (no hn) h = let z : n ≡ 0 = omega arith in absurd (none (2 ^ m - 1) (2 ^ n - 1) (ap (λ (c : ℕ). (2 ^ m - 1) * (2 ^ c - 1)) z ∙ mul-zero (2 ^ m - 1)) big)

-- ---- so the mask is the best pair
module _ (a b : Bits) (m n : ℕ) (ha : Plain m a) (hb : Plain n b) where
  ga : Well 64 a
  ga = plain_well m a ha

  gb : Well 64 b
  gb = plain_well n b hb

  plain_product : (x y : ℕ) → x < 2 ^ m → y < 2 ^ n → Image 64 (alu 64 Mul) a b ((x * y) % 2 ^ 64)
  plain_product x y hx hy = (x, y, plain_has m a ha x hx, plain_has n b hb y hy, sym (mul_is_the_product 64 x y))

  bit_of_the_mask : (k : ℕ) → bit k (product_mask (top a) (top b)) ≡ 1 → 2 ^ k ≤ highest_product (2 ^ m - 1) (2 ^ n - 1)
  unfolding product_mask
  bit_of_the_mask k e =
      subst (λ (t : ℕ). 2 ^ k ≤ t) (ap₂ highest_product (plain_top m a ha) (plain_top n b hb))
      (bit_up_to (highest_product (top a) (top b)) (highest_product_fits (top a) (top b)) k
      (omega (arith, bit_and_lem k (from_bit (count_trailing_zeros 64 (top a) + count_trailing_zeros 64 (top b))) (up_to (highest_product (top a) (top b))), bit_lt k (up_to (highest_product (top a) (top b))))))

  pub mask_is_best : Best 64 (Image 64 (alu 64 Mul) a b) (among (product_mask (top a) (top b)))
  unfolding among
  mask_is_best =
      tight_best 64 (Image 64 (alu 64 Mul) a b) (among (product_mask (top a) (top b)))
      (record {
        well = (by_the_mask a b ga gb).well;
        sound = (by_the_mask a b ga gb).sound;
        some = (0, plain_product 0 0 (pow_pos m) (pow_pos n));
        differs = λ k l e. let s = some_bit_of_products m n k l (bit_of_the_mask k e) in (
          0,
          (s.0 * s.1) % 2 ^ 64,
          plain_product 0 0 (pow_pos m) (pow_pos n),
          plain_product s.0 s.1 s.2 s.3,
          omega (arith, s.4, bit_zero k),
        );
      })

  pub plain_product_is_the_mask : product a b ≡ among (product_mask (top a) (top b))
  plain_product_is_the_mask =
      let s = whole_product_sound a b ga gb in
      unique 64 (Image 64 (alu 64 Mul) a b) (product a b) (among (product_mask (top a) (top b)))
      (record {
        well = s.well;
        sound = s.sound;
        least = λ q gq hq x hx. mask_is_best.least q gq hq x (whole_product_within a b ga gb x hx).0;
      })
      mask_is_best
