-- The masks that the code makes cover what they are said to cover: the numbers up to one, the multiples of a power of two.
use mathlib.Core.Path.{◌≡◌, refl, sym, ap, ap₂, ◌∙◌, subst}
use Prim.Native.Nat.{ℕ, zero, suc, ◌+◌, ◌-◌, ◌*◌, ◌/◌, ◌%◌, ◌^◌, ◌≤◌, ◌<◌}
use native.Mathlib.Nat.{mod-lt, zero-mod, lt_of_lt_of_le, lt_of_le_of_lt, mul-mod_left, mod_self}
use native.Mathlib.Decide.{dec_lt}
use native.Mathlib.Omega.{arith}
use lib.Count.{count_leading_zeros, leading_length, leading_of_zero, count_trailing_zeros, under}
use lib.Pow.{high, pow_pos, pow-add, pow_mono, ones_lt, ones_split, split}
use lib.Dec.{ltb}
use borrow.Author.Tests.{ltb-false}
use Rattle.word.specs.Word.{bit}
use Rattle.word.proofs.Bit.{bit_lt, bit_zero, bit_mod, bit_high, bit_not, bit_pow, bit_shr, bit_shl, bit_shl_low, low_eq}
use Rattle.known_bits.specs.Formula.{up_to, from_bit}
use Rattle.known_bits.specs.Masks.{Covers}
use Rattle.known_bits.proofs.Base.{by_cases}
use Rattle.known_bits.proofs.Tight.{digit}

-- ---- all bits below n
pub bit_of_ones : (n k : ℕ) → k < n → bit k (2 ^ n - 1) ≡ 1
bit_of_ones n k l = ap (bit k) (omega arith) ∙ bit_not n k 0 l (pow_pos n) ∙ ap (λ (d : ℕ). 1 - d) (bit_zero k)

pub ones_cover_all_below : (n x : ℕ) → x < 2 ^ n → Covers (2 ^ n - 1) x
ones_cover_all_below n x h = record { zeros = λ k z. go k z (dec_lt k n) }
  where
    go : (k : ℕ) → bit k (2 ^ n - 1) ≡ 0 → Dec (k < n) → bit k x ≡ 0
    go k z (yes l) = absurd (omega (arith, bit_of_ones n k l))
    go k z (no i) = bit_high k x (lt_of_lt_of_le h (pow_mono (omega arith)))

-- ---- up to the highest bit of t
pub up_to_none : up_to 0 ≡ 0
unfolding up_to
up_to_none = ap (λ (n : ℕ). (2 ^ 64 - 1) / 2 ^ n) (leading_of_zero 64)

module _ (t : ℕ) (h : t < 2 ^ 64) where
  -- as many ones as t has digits
  pub ones_of : (n : ℕ) × ((2 ^ 64 - 1) / 2 ^ count_leading_zeros 64 t ≡ 2 ^ n - 1) × (t < 2 ^ n) × (2 ^ n ≤ 2 * t + 1)
  ones_of =
      let s = leading_length 64 t h in
      let z = count_leading_zeros 64 t in
      let e : s.0 + z ≡ 64 = omega (arith, s.1) in (
        s.0,
        subst (λ (k : ℕ). (2 ^ k - 1) / 2 ^ z ≡ 2 ^ s.0 - 1) e (ap (λ (y : ℕ). y / 2 ^ z) (ones_split s.0 z) ∙ high (2 ^ s.0 - 1) z (ones_lt z)),
        s.2,
        s.3,
      )

  pub up_to_covers : (x : ℕ) → x ≤ t → Covers (up_to t) x
  unfolding up_to
  up_to_covers x l =
      let s = ones_of in subst (λ (m : ℕ). Covers m x) (sym s.1) (ones_cover_all_below s.0 x (lt_of_le_of_lt l s.2))

  pub up_to_is_no_longer : (n : ℕ) → t < 2 ^ n → up_to t < 2 ^ n
  unfolding up_to
  up_to_is_no_longer n l =
      let s = ones_of in subst (λ (m : ℕ). m < 2 ^ n) (sym s.1) (go s.0 s.3 (dec_lt n s.0))
    where
      go : (k : ℕ) → 2 ^ k ≤ 2 * t + 1 → Dec (n < k) → 2 ^ k - 1 < 2 ^ n
      go k b (yes i) =
          let p : 2 ^ (n + 1) ≤ 2 ^ k = pow_mono (omega arith) in
          absurd (omega (arith, pow-add 2 n 1))
      go k b (no i) = let p : 2 ^ k ≤ 2 ^ n = pow_mono (omega arith) in omega (arith, pow_pos k)

  pub bit_up_to : (k : ℕ) → bit k (up_to t) ≡ 1 → 2 ^ k ≤ t
  unfolding up_to
  bit_up_to k e = let s = ones_of in go s.0 s.1 s.3 (dec_lt k s.0)
    where
      go : (n : ℕ) → (2 ^ 64 - 1) / 2 ^ count_leading_zeros 64 t ≡ 2 ^ n - 1 → 2 ^ n ≤ 2 * t + 1 → Dec (k < n) → 2 ^ k ≤ t
      go n i l (yes h) = let p : 2 ^ (k + 1) ≤ 2 ^ n = pow_mono (omega arith) in omega (arith, pow-add 2 k 1)
      go n i l (no h) = absurd (omega (arith, ap (bit k) (sym i) ∙ e, bit_high k (2 ^ n - 1) (lt_of_lt_of_le (ones_lt n) (pow_mono (omega arith)))))

-- ---- the low zeros
pub low_bits_are_zero : (k n j : ℕ) → j < count_trailing_zeros k n → bit j n ≡ 0
unfolding count_trailing_zeros bit
low_bits_are_zero zero n j l = absurd (omega arith)
low_bits_are_zero (suc k) n j l = go (low_bits_are_zero k (n / 2)) (n % 2) refl j l
  where
    go : ((i : ℕ) → i < count_trailing_zeros k (n / 2) → bit i (n / 2) ≡ 0) → (d : ℕ) → n % 2 ≡ d
        → (i : ℕ) → i < under d (count_trailing_zeros k (n / 2)) → bit i n ≡ 0
    go rest zero e zero m = ap (λ (x : ℕ). x % 2) (omega arith) ∙ e
    go rest zero e (suc i) m = ap (λ (j : ℕ). bit j n) (omega arith) ∙ sym (bit_shr 1 i n) ∙ rest i (omega arith)
    go rest (suc d) e i m = absurd (omega arith)

pub covered_has_the_low_zeros : (t x : ℕ) → Covers t x → x % 2 ^ count_trailing_zeros 64 t ≡ 0
covered_has_the_low_zeros t x h =
    low_eq (count_trailing_zeros 64 t) x 0 (λ j l. h.zeros j (low_bits_are_zero 64 t j l) ∙ sym (bit_zero j)) ∙ zero-mod (2 ^ count_trailing_zeros 64 t)

-- and no other number of t's low zeros is greater
low_bit_is_one : (k n : ℕ) → count_trailing_zeros k n < k → bit (count_trailing_zeros k n) n ≡ 1
unfolding count_trailing_zeros bit
low_bit_is_one zero n l = absurd (omega arith)
low_bit_is_one (suc k) n l = go (low_bit_is_one k (n / 2)) (n % 2) refl l
  where
    go : (count_trailing_zeros k (n / 2) < k → bit (count_trailing_zeros k (n / 2)) (n / 2) ≡ 1) → (d : ℕ) → n % 2 ≡ d
        → under d (count_trailing_zeros k (n / 2)) < suc k → bit (under d (count_trailing_zeros k (n / 2))) n ≡ 1
    go rest zero e m =
        let t = count_trailing_zeros k (n / 2) in
        let e : suc t ≡ 1 + t = omega arith in
        ap (λ (j : ℕ). bit j n) e ∙ sym (bit_shr 1 t n) ∙ rest (omega arith)
    go rest (suc d) e m = let o : n / 2 ^ 0 ≡ n = omega arith in ap (λ (x : ℕ). x % 2) o ∙ omega (arith, mod-lt n (pow_pos 1))

pub a_multiple_has_as_many_zeros : (t k : ℕ) → t % 2 ^ k ≡ 0 → count_trailing_zeros 64 t < 64 → k ≤ count_trailing_zeros 64 t
a_multiple_has_as_many_zeros t k h l = go (dec_lt (count_trailing_zeros 64 t) k)
  where
    go : Dec (count_trailing_zeros 64 t < k) → k ≤ count_trailing_zeros 64 t
    go (yes i) =
        let z : bit (count_trailing_zeros 64 t) t ≡ 0 = sym (bit_mod k (count_trailing_zeros 64 t) t i) ∙ ap (bit (count_trailing_zeros 64 t)) h ∙ bit_zero (count_trailing_zeros 64 t) in
        absurd (omega (arith, low_bit_is_one 64 t l))
    go (no i) = omega arith

-- ---- from bit n on
module _ (n x : ℕ) (h : x % 2 ^ n ≡ 0) where
  pub low_of_multiple : (k : ℕ) → k < n → bit k x ≡ 0
  low_of_multiple k l = sym (bit_mod n k x l) ∙ ap (bit k) h ∙ bit_zero k

  no_bit_of_a_multiple_of_more : 64 ≤ n → Covers 0 (x % 2 ^ 64)
  no_bit_of_a_multiple_of_more g = record { zeros = λ k z. go k (dec_lt k 64) }
    where
      go : (k : ℕ) → Dec (k < 64) → bit k (x % 2 ^ 64) ≡ 0
      go k (yes l) = bit_mod 64 k x l ∙ low_of_multiple k (omega arith)
      go k (no i) = bit_high k (x % 2 ^ 64) (lt_of_lt_of_le (mod-lt x (pow_pos 64)) (pow_mono {i = 64} (omega arith)))

  shifted_ones_cover_multiples : Covers (((2 ^ 64 - 1) * 2 ^ n) % 2 ^ 64) (x % 2 ^ 64)
  shifted_ones_cover_multiples = record { zeros = λ k z. go k z (dec_lt k 64) (dec_lt k n) }
    where
      go : (k : ℕ) → bit k (((2 ^ 64 - 1) * 2 ^ n) % 2 ^ 64) ≡ 0 → Dec (k < 64) → Dec (k < n) → bit k (x % 2 ^ 64) ≡ 0
      go k z (yes l) (yes i) = bit_mod 64 k x l ∙ low_of_multiple k i
      go k z (yes l) (no i) =
          let e : n + (k - n) ≡ k = omega arith in
          let b : bit k (((2 ^ 64 - 1) * 2 ^ n) % 2 ^ 64) ≡ 1 =
          bit_mod 64 k ((2 ^ 64 - 1) * 2 ^ n) l ∙ ap (λ (j : ℕ). bit j ((2 ^ 64 - 1) * 2 ^ n)) (sym e)
          ∙ bit_shl n (k - n) (2 ^ 64 - 1) ∙ bit_of_ones 64 (k - n) (omega arith) in
          absurd (omega arith)
      go k z (no l) i = bit_high k (x % 2 ^ 64) (lt_of_lt_of_le (mod-lt x (pow_pos 64)) (pow_mono {i = 64} (omega arith)))

  pub from_bit_covers : Covers (from_bit n) (x % 2 ^ 64)
  unfolding from_bit
  from_bit_covers =
      by_cases (λ (m : ℕ). Covers m (x % 2 ^ 64)) (ltb n 64) (λ e. shifted_ones_cover_multiples)
      (λ e. no_bit_of_a_multiple_of_more (ltb-false n 64 e))

pub zeros_of_fewer : (x m n : ℕ) → m ≤ n → x % 2 ^ n ≡ 0 → x % 2 ^ m ≡ 0
zeros_of_fewer x m n l h = low_eq m x 0 (λ j i. low_of_multiple n x h j (omega arith) ∙ sym (bit_zero j)) ∙ zero-mod (2 ^ m)

pub bit_below_from : (n k : ℕ) → k < n → k < 64 → bit k (from_bit n) ≡ 0
unfolding from_bit
bit_below_from n k l h =
    by_cases (λ (m : ℕ). bit k m ≡ 0) (ltb n 64) (λ e. bit_mod 64 k ((2 ^ 64 - 1) * 2 ^ n) h ∙ bit_shl_low n k (2 ^ 64 - 1) l) (λ e. bit_zero k)

pub bit_from_on : (n k : ℕ) → n ≤ k → k < 64 → bit k (from_bit n) ≡ 1
bit_from_on n k l h =
    digit (bit k (from_bit n)) (bit_lt k (from_bit n))
    (λ z. absurd (omega (arith, (from_bit_covers n (2 ^ k) (zeros_of_fewer (2 ^ k) n k l (mod_self (2 ^ k)))).zeros k z, bit_mod 64 k (2 ^ k) h, bit_pow k)))
    (λ o. o)

-- ---- products of multiples
pub zeros_of_a_product : (x y i j : ℕ) → x % 2 ^ i ≡ 0 → y % 2 ^ j ≡ 0 → (x * y) % 2 ^ (i + j) ≡ 0
zeros_of_a_product x y i j p q =
    let ex : x ≡ x / 2 ^ i * 2 ^ i = omega (arith, split x i) in
    let ey : y ≡ y / 2 ^ j * 2 ^ j = omega (arith, split y j) in
    ap₂ (λ (u v : ℕ). u % v) (ap₂ (λ (u v : ℕ). u * v) ex ey ∙ grouped (x / 2 ^ i) (2 ^ i) (y / 2 ^ j) (2 ^ j)) (pow-add 2 i j)
    ∙ mul-mod_left (x / 2 ^ i * (y / 2 ^ j)) (2 ^ i * 2 ^ j)
  where
    grouped : (a b c d : ℕ) → a * b * (c * d) ≡ a * c * (b * d)
    grouped a b c d = omega arith

pub zeros_of_a_shift : (x i n c : ℕ) → n ≤ c → x % 2 ^ i ≡ 0 → (x * 2 ^ c) % 2 ^ (i + n) ≡ 0
zeros_of_a_shift x i n c l h =
    zeros_of_fewer (x * 2 ^ c) (i + n) (i + c) (omega arith) (zeros_of_a_product x (2 ^ c) i c h (mod_self (2 ^ c)))
