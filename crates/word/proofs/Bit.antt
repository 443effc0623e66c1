-- The laws of `bit`: of the operations bit by bit, of sums and differences with the carry and the borrow from below, of shifts,
-- and that numbers with the same bits are equal.
use Rattle.std.proofs.Common.{◌≡◌, ℕ, zero, suc, ◌+◌, ◌-◌, ◌*◌, ◌/◌, ◌%◌, ◌^◌, ◌<◌, ◌≤◌, min, max, sym, refl, ap, ◌∙◌, subst, ap₂, le_of_eq, mul-le-mul_right, mod-lt, mod-eq_of_lt, zero-lt-suc, div-lt_iff_lt-mul, div-mul-le_self, mul-div_cancel, arith, pow_pos, pow-add, shr-shr}
use native.Mathlib.Nat.{zero-div, pow-succ', mul-add-div_right, div-eq_of_lt, mul-mod_left, div_self, lt-div-mul-add, mod-one}
use native.Mathlib.Decide.{dec_lt}
use lib.Arith.{digits_mod, digits_div, mod-mul}
use lib.Pow.{pow-lt, split, field, mod-mod-pow, shr_mono, shl-shr}
use lib.Bits.{bit_and, bit_or, bit_xor, and_step, or_step, and_shr, or_shr, xor_shr, xor_add_and}
use Rattle.word.specs.Word.{bit}

two_pos : 0 < 2
two_pos = zero-lt-suc 1

pub bit_lt : (k x : ℕ) → bit k x < 2
unfolding bit
bit_lt k x = omega arith

pub bit_zero : (k : ℕ) → bit k 0 ≡ 0
unfolding bit
bit_zero k = rw (zero-div) refl

-- the digits of the operations
pub bit_and_lem : (k a b : ℕ) → bit k (bit_and a b) ≡ min (bit k a) (bit k b)
unfolding bit
bit_and_lem k a b = rw (and_shr a b k, and_step (a / 2 ^ k) (b / 2 ^ k)) (digits_mod _ (omega arith))

pub bit_or_lem : (k a b : ℕ) → bit k (bit_or a b) ≡ max (bit k a) (bit k b)
unfolding bit
bit_or_lem k a b = rw (or_shr a b k, or_step (a / 2 ^ k) (b / 2 ^ k)) (digits_mod _ (omega arith))

pub bit_xor_lem : (k a b : ℕ) → bit k (bit_xor a b) ≡ (bit k a + bit k b) % 2
unfolding bit
bit_xor_lem k a b = rw (xor_shr a b k) (omega (arith, xor_add_and (a / 2 ^ k) (b / 2 ^ k)))

-- the low digits, and one digit more
pub low_suc : (k x : ℕ) → x % 2 ^ suc k ≡ bit k x * 2 ^ k + x % 2 ^ k
unfolding bit
low_suc k x = rw (pow-succ' 2 k) (mod-mul x two_pos (pow_pos k))

-- k digits and one, of the w digits: a w above k is of this form
above : {k w : ℕ} → k < w → w - suc k + 1 + k ≡ w
above h = omega arith

-- the digits below w of a number cut to w digits
pub bit_mod : (w k x : ℕ) → k < w → bit k (x % 2 ^ w) ≡ bit k x
unfolding bit
bit_mod w k x h =
    subst (λ (n : ℕ). x % 2 ^ n / 2 ^ k % 2 ≡ x / 2 ^ k % 2) (above h)
    (ap (λ (n : ℕ). n % 2) (field x (w - suc k + 1) k) ∙ mod-mod-pow (x / 2 ^ k) (w - suc k) 1)

-- all digits above are 0
pub bit_high : (k x : ℕ) → x < 2 ^ k → bit k x ≡ 0
unfolding bit
bit_high k x h = ap (λ (n : ℕ). n % 2) (div-eq_of_lt h)

-- numbers whose digits are in order are in order, also when they are cut; numbers with the same digits are equal
pub low_le : (k x y : ℕ) → ((j : ℕ) → j < k → bit j x ≤ bit j y) → x % 2 ^ k ≤ y % 2 ^ k
low_le zero x y h = omega (arith, mod-one x)
low_le (suc k) x y h =
    rw (low_suc k x, low_suc k y)
    (omega (arith, low_le k x y (λ j l. h j (omega arith)), mul-le-mul_right (2 ^ k) (h k (omega arith))))

pub low_eq : (k x y : ℕ) → ((j : ℕ) → j < k → bit j x ≡ bit j y) → x % 2 ^ k ≡ y % 2 ^ k
low_eq k x y h = omega (arith, low_le k x y (λ j l. le_of_eq (h j l)), low_le k y x (λ j l. le_of_eq (sym (h j l))))

pub ext : (w x y : ℕ) → x < 2 ^ w → y < 2 ^ w → ((k : ℕ) → k < w → bit k x ≡ bit k y) → x ≡ y
ext w x y hx hy h =
    sym (mod-eq_of_lt hx) ∙ low_eq w x y h ∙ mod-eq_of_lt hy

-- a number that is not 0 has a digit that is 1
pub some_bit : (w x : ℕ) → ¬ (x % 2 ^ w ≡ 0) → (k : ℕ) × (k < w) × (bit k x ≡ 1)
some_bit zero x h = absurd (h (mod-one x))
some_bit (suc w) x h = go (dec_lt (bit w x) 1) (some_bit w x)
  where
    go : Dec (bit w x < 1) → (¬ (x % 2 ^ w ≡ 0) → (k : ℕ) × (k < w) × (bit k x ≡ 1)) → (k : ℕ) × (k < suc w) × (bit k x ≡ 1)
    go (yes l) below =
        let b : bit w x ≡ 0 = omega arith in
        let r = below (λ e. h (low_suc w x ∙ rw (b, e) (omega arith))) in
        (r.0, omega (arith, r.1), r.2)
    go (no l) below = (w, omega arith, omega (arith, bit_lt w x))

-- the complement
pub bit_not : (w k x : ℕ) → k < w → x < 2 ^ w → bit k (2 ^ w - 1 - x) ≡ 1 - bit k x
unfolding bit
bit_not w k x h hx =
    let c = 2 ^ k in
    let p = 2 ^ (w - suc k) in
    let q = x / c in
    let e : 2 ^ w ≡ p * 2 * c = sym (ap (λ (n : ℕ). 2 ^ n) (above h)) ∙ pow-add 2 (w - suc k + 1) k ∙ ap (λ (n : ℕ). n * c) (pow-add 2 (w - suc k) 1) in
    let hq : q < p * 2 = (div-lt_iff_lt-mul (pow_pos k)).1 (omega arith) in
    let y = p * 2 - 1 - q in
    let s : y + q + 1 ≡ p * 2 = omega arith in
    let m : (y + q + 1) * c ≡ p * 2 * c = ap (λ (n : ℕ). n * c) s in
    let hr : x % c < c = mod-lt x (pow_pos k) in
    let d : 2 ^ w - 1 - x ≡ y * c + (c - 1 - x % c) = omega (arith, split x k) in
    ap (λ (n : ℕ). n / c % 2) d ∙ ap (λ (n : ℕ). n % 2) (digits_div y (omega arith)) ∙ omega arith

-- the powers
pub bit_pow : (k : ℕ) → bit k (2 ^ k) ≡ 1
unfolding bit
bit_pow k = ap (λ (n : ℕ). n % 2) (div_self (pow_pos k))

pub bit_pow_below : (j k : ℕ) → j < k → bit j (2 ^ k) ≡ 0
unfolding bit
bit_pow_below j k h =
    ap (λ (n : ℕ). n / 2 ^ j % 2) (sym (ap (λ (n : ℕ). 2 ^ n) (above h)) ∙ pow-add 2 (k - suc j + 1) j)
    ∙ ap (λ (n : ℕ). n % 2) (mul-div_cancel (2 ^ (k - suc j + 1)) (pow_pos j) ∙ pow-add 2 (k - suc j) 1) ∙ mul-mod_left (2 ^ (k - suc j)) 2

pub bit_pow_above : (j k : ℕ) → k < j → bit j (2 ^ k) ≡ 0
bit_pow_above j k h = bit_high j (2 ^ k) (pow-lt h)

pub bit_pow_other : (j k : ℕ) → ¬ (j ≡ k) → bit j (2 ^ k) ≡ 0
bit_pow_other j k h = go (dec_lt j k)
  where
    go : Dec (j < k) → bit j (2 ^ k) ≡ 0
    go (yes l) = bit_pow_below j k l
    go (no l) = bit_pow_above j k (omega arith)

-- the digit of a sum: the digits and the carry from below
unfoldable pub carry : ℕ → ℕ → ℕ → ℕ
carry k x y = (x % 2 ^ k + y % 2 ^ k) / 2 ^ k

pub bit_add : (k x y : ℕ) → bit k (x + y) ≡ (bit k x + bit k y + carry k x y) % 2
unfolding bit carry
bit_add k x y =
    let c = 2 ^ k in
    let e : x + y ≡ (x / c + y / c) * c + (x % c + y % c) = omega (arith, split x k, split y k) in
    ap (λ (n : ℕ). n / c % 2) e ∙ ap (λ (n : ℕ). n % 2) (mul-add-div_right (pow_pos k) (x / c + y / c) (x % c + y % c)) ∙ omega arith

pub carry_lt : (k x y : ℕ) → carry k x y < 2
unfolding carry
carry_lt k x y = (div-lt_iff_lt-mul (pow_pos k)).1 (omega (arith, mod-lt x (pow_pos k), mod-lt y (pow_pos k)))

pub carry_mono : (k x y x' y' : ℕ) → x % 2 ^ k ≤ x' % 2 ^ k → y % 2 ^ k ≤ y' % 2 ^ k → carry k x y ≤ carry k x' y'
unfolding carry
carry_mono k x y x' y' hx hy = shr_mono k (omega arith)

pub carry_low : (k x y x' y' : ℕ) → x % 2 ^ k ≡ x' % 2 ^ k → y % 2 ^ k ≡ y' % 2 ^ k → carry k x y ≡ carry k x' y'
unfolding carry
carry_low k x y x' y' p q = ap₂ (λ (m n : ℕ). (m + n) / 2 ^ k) p q

-- the digit of a difference: the digits and the borrow from below, 1 where y's low digits are more than x's
unfoldable pub borrow : ℕ → ℕ → ℕ → ℕ
borrow k x y = (2 ^ k - 1 - x % 2 ^ k + y % 2 ^ k) / 2 ^ k

pub borrow_lt : (k x y : ℕ) → borrow k x y < 2
unfolding borrow
borrow_lt k x y = (div-lt_iff_lt-mul (pow_pos k)).1 (omega (arith, mod-lt x (pow_pos k), mod-lt y (pow_pos k)))

pub borrow_mono : (k x y x' y' : ℕ) → x' % 2 ^ k ≤ x % 2 ^ k → y % 2 ^ k ≤ y' % 2 ^ k → borrow k x y ≤ borrow k x' y'
unfolding borrow
borrow_mono k x y x' y' hx hy = shr_mono k (omega arith)

pub borrow_low : (k x y x' y' : ℕ) → x % 2 ^ k ≡ x' % 2 ^ k → y % 2 ^ k ≡ y' % 2 ^ k → borrow k x y ≡ borrow k x' y'
unfolding borrow
borrow_low k x y x' y' p q = ap₂ (λ (m n : ℕ). (2 ^ k - 1 - m + n) / 2 ^ k) p q

pub bit_sub : (w k x y : ℕ) → k < w → x < 2 ^ w → y < 2 ^ w → bit k ((x + (2 ^ w - y)) % 2 ^ w) ≡ (bit k x + bit k y + borrow k x y) % 2
unfolding bit borrow
bit_sub w k x y h hx hy =
    let c = 2 ^ k in
    let p = 2 ^ (w - suc k) in
    let e : 2 ^ w ≡ p * 2 * c = sym (ap (λ (n : ℕ). 2 ^ n) (above h)) ∙ pow-add 2 (w - suc k + 1) k ∙ ap (λ (n : ℕ). n * c) (pow-add 2 (w - suc k) 1) in
    let q = x / c in
    let r = y / c in
    let b = borrow k x y in
    let hr : r < p * 2 = (div-lt_iff_lt-mul (pow_pos k)).1 (omega arith) in
    let hb : b < 2 = borrow_lt k x y in
    let z = q + p * 2 - r - b in
    let m : (z + r + b) * c ≡ (q + p * 2) * c = ap (λ (n : ℕ). n * c) (omega arith) in
    let hxl : x % c < c = mod-lt x (pow_pos k) in
    let hyl : y % c < c = mod-lt y (pow_pos k) in
    let s : b * c ≤ c - 1 - x % c + y % c = div-mul-le_self (c - 1 - x % c + y % c) c in
    let t : c - 1 - x % c + y % c < b * c + c = lt-div-mul-add (pow_pos k) in
    let d : x + (2 ^ w - y) ≡ z * c + (x % c + b * c - y % c) = omega (arith, split x k, split y k) in
    bit_mod w k (x + (2 ^ w - y)) h
    ∙ ap (λ (n : ℕ). n / c % 2) d ∙ ap (λ (n : ℕ). n % 2) (digits_div z (omega arith)) ∙ omega arith

-- the digits of a number that is shifted
pub bit_shr : (n k x : ℕ) → bit k (x / 2 ^ n) ≡ bit (n + k) x
unfolding bit
bit_shr n k x = ap (λ (m : ℕ). m % 2) (shr-shr x n k)

pub bit_shl : (n k x : ℕ) → bit (n + k) (x * 2 ^ n) ≡ bit k x
bit_shl n k x = sym (bit_shr n k (x * 2 ^ n)) ∙ ap (bit k) (shl-shr x n)

pub bit_shl_low : (n k x : ℕ) → k < n → bit k (x * 2 ^ n) ≡ 0
unfolding bit
bit_shl_low n k x h =
    let c = 2 ^ k in
    let p = 2 ^ (n - suc k) in
    let e : 2 ^ n ≡ p * 2 * c = sym (ap (λ (m : ℕ). 2 ^ m) (above h)) ∙ pow-add 2 (n - suc k + 1) k ∙ ap (λ (m : ℕ). m * c) (pow-add 2 (n - suc k) 1) in
    let d : x * 2 ^ n ≡ x * p * 2 * c = ap (λ (m : ℕ). x * m) e ∙ omega arith in
    ap (λ (m : ℕ). m / c % 2) d ∙ ap (λ (m : ℕ). m % 2) (mul-div_cancel (x * p * 2) (pow_pos k)) ∙ mul-mod_left (x * p) 2
