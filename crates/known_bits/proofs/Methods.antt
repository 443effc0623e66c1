-- Three theorems that give the best pair: for operations in order digit by digit (AND, OR), for those whose digit is the sum of the digits
-- and a carry from below (ADD, SUB, XOR), and for those that take each digit from one digit (shifts, the cut).
use mathlib.Core.Path.{◌≡◌, refl, sym, ap, ◌∙◌}
use mathlib.Core.Logic.{◌⊎◌, inl, inr}
use Prim.Native.Nat.{ℕ, ◌+◌, ◌%◌, ◌^◌, ◌≤◌, ◌<◌, max}
use native.Mathlib.Omega.{arith}
use lib.Pow.{pow_pos}
use lib.Bits.{bit_and, bit_xor, xor_lt, and_lt}
use Rattle.word.specs.Word.{bit}
use Rattle.word.proofs.Bit.{bit_lt, bit_zero, bit_and_lem, bit_xor_lem, low_eq, ext}
use Rattle.known_bits.specs.declared.Bits.{Bits}
use Rattle.known_bits.specs.KnownBits.{Well, Mem, Best}
use Rattle.known_bits.specs.Pair.{packed, spread, top, each}
use Rattle.known_bits.proofs.Tight.{digit, tight_best, apart_bit, mem_least, mem_top, mem_low, mem_high, flip, flip_bit, flip_other, mem_flip, packed_best, spread_fits, spread_bit}

-- what a function gives for the numbers of a pair, and of two: `Results 64 op` is `Image 64 (alu 64 op)`
abbrev pub Image1 : ℕ → (ℕ → ℕ) → Bits → ℕ → Type 0
Image1 w f a z = (x : ℕ) × Mem w a x × (z ≡ f x)

abbrev pub Image : ℕ → (ℕ → ℕ → ℕ) → Bits → Bits → ℕ → Type 0
Image w f a b z = (x : ℕ) × (y : ℕ) × Mem w a x × Mem w b y × (z ≡ f x y)

-- ---- the least numbers give the least digits, the greatest the greatest
module _ (w : ℕ) (a b : Bits) (ga : Well w a) (gb : Well w b) (f : ℕ → ℕ → ℕ) (fits : (x y : ℕ) → f x y < 2 ^ w)
    (order : (k x y x' y' : ℕ) → k < w → bit k x ≤ bit k x' → bit k y ≤ bit k y' → bit k (f x y) ≤ bit k (f x' y')) where
  pub monotone : Best w (Image w f a b) (packed (f a.value b.value) (bit_xor (f (top a) (top b)) (f a.value b.value)))
  monotone =
      let s = f a.value b.value in
      let t = f (top a) (top b) in
      packed_best w (Image w f a b) s (bit_xor t s) (fits _ _) (xor_lt w t s (fits _ _) (fits _ _))
      (λ z i. rw i.4 (fits i.0 i.1))
      (λ z i k l e. rw i.4
      (omega (
        arith,
        e,
        bit_xor_lem k t s,
        bit_lt k t,
        bit_lt k s,
        order k a.value b.value i.0 i.1 l (mem_low w a ga i.0 i.2 k l) (mem_low w b gb i.1 i.3 k l),
        order k i.0 i.1 (top a) (top b) l (mem_high w a ga i.0 i.2 k l) (mem_high w b gb i.1 i.3 k l),
      )))
      (a.value, b.value, mem_least w a ga, mem_least w b gb, refl)
      (λ k l e. (
        s,
        t,
        (a.value, b.value, mem_least w a ga, mem_least w b gb, refl),
        (top a, top b, mem_top w a ga, mem_top w b gb, refl),
        omega (arith, e, bit_xor_lem k t s, bit_lt k t, bit_lt k s),
      ))

-- ---- the carry depends on lower digits only, and lies between those of two known pairs of numbers
module _ (w : ℕ) (a b : Bits) (ga : Well w a) (gb : Well w b)
    (f : ℕ → ℕ → ℕ) (fits : (x y : ℕ) → f x y < 2 ^ w)
    (c : ℕ → ℕ → ℕ → ℕ)
    (digits : (k x y : ℕ) → k < w → x < 2 ^ w → y < 2 ^ w → bit k (f x y) ≡ (bit k x + bit k y + c k x y) % 2)
    (below : (k x y x' y' : ℕ) → x % 2 ^ k ≡ x' % 2 ^ k → y % 2 ^ k ≡ y' % 2 ^ k → c k x y ≡ c k x' y')
    (c_lt : (k x y : ℕ) → c k x y < 2)
    (x₀ y₀ x₁ y₁ : ℕ) (hx₀ : Mem w a x₀) (hy₀ : Mem w b y₀) (hx₁ : Mem w a x₁) (hy₁ : Mem w b y₁)
    (lo : (k x y : ℕ) → k < w → Mem w a x → Mem w b y → c k x₀ y₀ ≤ c k x y)
    (hi : (k x y : ℕ) → k < w → Mem w a x → Mem w b y → c k x y ≤ c k x₁ y₁) where
  at : (k x y : ℕ) → k < w → Mem w a x → Mem w b y → bit k (f x y) ≡ (bit k x + bit k y + c k x y) % 2
  at k x y l hx hy = digits k x y l hx.fits hy.fits

  -- where no operand's bit is unknown and the two ends agree, all results agree
  same : (k x y x' y' : ℕ) → k < w → Mem w a x → Mem w b y → Mem w a x' → Mem w b y'
      → bit k a.mask ≡ 0 → bit k b.mask ≡ 0 → bit k (f x₀ y₀) ≡ bit k (f x₁ y₁) → bit k (f x y) ≡ bit k (f x' y')
  same k x y x' y' l hx hy hx' hy' za zb e =
      let v₀ : bit k x₀ ≡ bit k a.value = hx₀.agrees k l za in
      let v₁ : bit k x₁ ≡ bit k a.value = hx₁.agrees k l za in
      let u₀ : bit k y₀ ≡ bit k b.value = hy₀.agrees k l zb in
      let u₁ : bit k y₁ ≡ bit k b.value = hy₁.agrees k l zb in
      let p : (bit k x₀ + bit k y₀ + c k x₀ y₀) % 2 ≡ (bit k x₁ + bit k y₁ + c k x₁ y₁) % 2 =
      sym (at k x₀ y₀ l hx₀ hy₀) ∙ e ∙ at k x₁ y₁ l hx₁ hy₁ in
      let q : c k x y ≡ c k x' y' =
      omega (arith, lo k x y l hx hy, hi k x y l hx hy, lo k x' y' l hx' hy', hi k x' y' l hx' hy', c_lt k x₁ y₁) in
      at k x y l hx hy ∙ omega (arith, hx.agrees k l za, hx'.agrees k l za, hy.agrees k l zb, hy'.agrees k l zb) ∙ sym (at k x' y' l hx' hy')

  -- the value is that of any result
  pub carried : (x y : ℕ) → Mem w a x → Mem w b y → Best w (Image w f a b) (spread (f x y) (f x₀ y₀) (f x₁ y₁) a.mask b.mask)
  carried x y hx hy =
      packed_best w (Image w f a b) (f x y) m (fits x y) (spread_fits w (f x y) _ _ _ _ (fits x₀ y₀) (fits x₁ y₁) ga.mask_fits gb.mask_fits)
      (λ z i. rw i.4 (fits i.0 i.1))
      (λ z i k l e. let n = m_bit k in
      ap (bit k) i.4 ∙ same k i.0 i.1 x y l i.2 i.3 hx hy (omega (arith, e)) (omega (arith, e))
      (omega (arith, e, bit_lt k (f x₁ y₁), bit_lt k (f x₀ y₀))))
      (x, y, hx, hy, refl)
      differs
    where
      m : ℕ
      m = (spread (f x y) (f x₀ y₀) (f x₁ y₁) a.mask b.mask).mask

      m_bit : (k : ℕ) → bit k m ≡ max (max ((bit k (f x₁ y₁) + bit k (f x₀ y₀)) % 2) (bit k a.mask)) (bit k b.mask)
      m_bit k = spread_bit k (f x y) (f x₀ y₀) (f x₁ y₁) a.mask b.mask

      -- an operand's unknown bit is flipped, which leaves the carry; else the two ends differ
      differs : (k : ℕ) → k < w → bit k m ≡ 1 → (x : ℕ) × (y : ℕ) × Image w f a b x × Image w f a b y × (¬ (bit k x ≡ bit k y))
      differs k l e =
          digit (bit k a.mask) (bit_lt k a.mask)
          (λ za. digit (bit k b.mask) (bit_lt k b.mask)
          (λ zb. (
            f x₀ y₀,
            f x₁ y₁,
            (x₀, y₀, hx₀, hy₀, refl),
            (x₁, y₁, hx₁, hy₁, refl),
            omega (arith, m_bit k, bit_lt k (f x₁ y₁), bit_lt k (f x₀ y₀)),
          ))
          (λ ub. let av = a.value in let bv = b.value in let v = flip b k in let hv = mem_flip w b gb k l ub in (
            f av bv,
            f av v,
            (av, bv, mem_least w a ga, mem_least w b gb, refl),
            (av, v, mem_least w a ga, hv, refl),
            omega (
              arith,
              at k av bv l (mem_least w a ga) (mem_least w b gb),
              at k av v l (mem_least w a ga) hv,
              flip_bit w b gb k,
              apart_bit w b gb k,
              c_lt k av bv,
              below k av bv av v refl (low_eq k bv v (λ j i. sym (flip_other w b gb j k (omega arith)))),
            ),
          )))
          (λ ua. let av = a.value in let bv = b.value in let v = flip a k in let hv = mem_flip w a ga k l ua in (
            f av bv,
            f v bv,
            (av, bv, mem_least w a ga, mem_least w b gb, refl),
            (v, bv, hv, mem_least w b gb, refl),
            omega (
              arith,
              at k av bv l (mem_least w a ga) (mem_least w b gb),
              at k v bv l hv (mem_least w b gb),
              flip_bit w a ga k,
              apart_bit w a ga k,
              c_lt k av bv,
              below k av bv v bv (low_eq k av v (λ j i. sym (flip_other w a ga j k (omega arith)))) refl,
            ),
          ))

-- ---- where digit k of the result comes from: a digit of the operand, or it is 0
abbrev pub From : ℕ → (ℕ → ℕ) → ℕ → Type 0
From w f k = ((j : ℕ) × (j < w) × ((x : ℕ) → x < 2 ^ w → bit k (f x) ≡ bit j x)) ⊎ ((x : ℕ) → x < 2 ^ w → bit k (f x) ≡ 0)

module _ (w : ℕ) (a : Bits) (ga : Well w a) (f : ℕ → ℕ) (fits : (x : ℕ) → x < 2 ^ w → f x < 2 ^ w) (source : (k : ℕ) → k < w → From w f k) where
  hv : a.value < 2 ^ w
  hv = ga.value_fits

  hm : a.mask < 2 ^ w
  hm = ga.mask_fits

  apart : (k : ℕ) → From w f k → bit k (bit_and (f a.value) (f a.mask)) ≡ bit k 0
  apart k (inl s) = omega (arith, bit_zero k, bit_and_lem k (f a.value) (f a.mask), s.2 a.value hv, s.2 a.mask hm, apart_bit w a ga s.0)
  apart k (inr z) = omega (arith, bit_zero k, bit_and_lem k (f a.value) (f a.mask), z a.value hv, z a.mask hm)

  agrees : (x : ℕ) → Mem w a x → (k : ℕ) → From w f k → bit k (f a.mask) ≡ 0 → bit k (f x) ≡ bit k (f a.value)
  agrees x h k (inl s) e = s.2 x h.fits ∙ h.agrees s.0 s.1 (sym (s.2 a.mask hm) ∙ e) ∙ sym (s.2 a.value hv)
  agrees x h k (inr z) e = z x h.fits ∙ sym (z a.value hv)

  differs : (k : ℕ) → From w f k → bit k (f a.mask) ≡ 1
      → (x : ℕ) × (y : ℕ) × Image1 w f a x × Image1 w f a y × (¬ (bit k x ≡ bit k y))
  differs k (inl s) e =
      let u : bit s.0 a.mask ≡ 1 = sym (s.2 a.mask hm) ∙ e in
      let h = mem_flip w a ga s.0 s.1 u in (
        f a.value,
        f (flip a s.0),
        (a.value, mem_least w a ga, refl),
        (flip a s.0, h, refl),
        omega (arith, s.2 a.value hv, s.2 (flip a s.0) h.fits, flip_bit w a ga s.0, apart_bit w a ga s.0),
      )
  differs k (inr z) e = absurd (omega (arith, z a.mask hm))

  pub selected : Best w (Image1 w f a) (each f a)
  selected =
      tight_best w (Image1 w f a) (each f a)
      (record {
        well = record {
          value_fits = fits a.value hv;
          mask_fits = fits a.mask hm;
          apart = ext w _ 0 (and_lt w _ _ (fits a.value hv) (fits a.mask hm)) (pow_pos w) (λ k l. apart k (source k l));
        };
        sound = λ z i. record {
          fits = rw i.2 (fits i.0 i.1.fits);
          agrees = λ k l e. ap (bit k) i.2 ∙ agrees i.0 i.1 k (source k l) e;
        };
        some = (f a.value, (a.value, mem_least w a ga, refl));
        differs = λ k l e. differs k (source k l) e;
      })
