-- The pair that each operation gives, as a formula. The code computes these and nothing else; what they promise is proved about them.
use Rattle.std.specs.Prelude.{Bool, cond, ◌&&◌, ℕ, zero, suc, ◌+◌, ◌-◌, ◌*◌, ◌/◌, ◌%◌, ◌^◌, eqb, ltb, Option, Some, None}
use Rattle.std.specs.Int.Bits.{bit_and, bit_or, bit_xor}
use Rattle.std.specs.Int.Count.{count_leading_zeros, count_trailing_zeros}
use Rattle.word.specs.Word.{bit, cut, alu}
use Rattle.word.specs.declared.Operation.{Operation}
use Rattle.word.specs.declared.Operation.TheVariants.{Add, Sub, Mul, Div, Or, And, Lsh, Rsh, Neg, Mod, Xor, Mov, Arsh}
use Rattle.known_bits.specs.declared.Bits.{Bits}
use Rattle.known_bits.specs.Pair.{top, exactly, packed, spread, each}

-- the low w bits of a pair
unfoldable pub low : ℕ → Bits → Bits
low w a = each (cut w) a

-- ---- ADD and SUB: the least and the greatest carry, or borrow, are those of two ends. A borrow grows with b and falls with a
unfoldable pub sum : ℕ → Bits → Bits → Bits
sum w a b = spread (alu w Add a.value b.value) (alu w Add a.value b.value) (alu w Add (top a) (top b)) a.mask b.mask

unfoldable pub difference : ℕ → Bits → Bits → Bits
difference w a b = spread (alu w Sub a.value b.value) (alu w Sub (top a) b.value) (alu w Sub a.value (top b)) a.mask b.mask

-- ---- AND and OR: the least and the greatest numbers give the least and the greatest digits
unfoldable pub digits : ℕ → Operation → Bits → Bits → Bits
digits w op a b = packed (alu w op a.value b.value) (bit_xor (alu w op (top a) (top b)) (alu w op a.value b.value))

unfoldable pub parity : ℕ → Bits → Bits → Bits
parity w a b = packed (alu w Xor a.value b.value) (bit_or a.mask b.mask)

-- ---- two pairs: what holds of the numbers of either, and of those of both
-- unknown where either is, and where the values differ
unfoldable pub joined : Bits → Bits → Bits
joined a b = spread a.value b.value a.value a.mask b.mask

-- known where either pair knows it
abbrev pub meet : Bits → Bits → Bits
meet a b = record { value = bit_or a.value b.value; mask = bit_and a.mask b.mask }

-- ---- masks of the bits that a result may have
-- all bits up to the highest one of t
unfoldable pub up_to : ℕ → ℕ
up_to t = (2 ^ 64 - 1) / 2 ^ count_leading_zeros 64 t

-- all bits from n on
unfoldable pub from_bit : ℕ → ℕ
from_bit n = cond (ltb n 64) ((2 ^ 64 - 1) * 2 ^ n % 2 ^ 64) 0

-- a number of which only the bits are known that it may have
unfoldable pub among : ℕ → Bits
among m = record { value = 0; mask = m }

-- no less than any number up to t times any up to u, modulo 2 ^ 64
unfoldable pub highest_product : ℕ → ℕ → ℕ
highest_product t u = cond (ltb (t * u) (2 ^ 64)) (t * u) (2 ^ 64 - 1)

-- a product has the low zeros of both factors, and is no longer than the highest one
unfoldable pub product_mask : ℕ → ℕ → ℕ
product_mask t u = bit_and (from_bit (count_trailing_zeros 64 t + count_trailing_zeros 64 u)) (up_to (highest_product t u))

-- ---- MUL by shift and add, the method of the schools: for each digit of a, from the lowest on, b that many places up is added
unfoldable pub placed : ℕ → ℕ → Bits → Bits
placed w k b = each (λ x. (x * 2 ^ k) % 2 ^ w) b

-- r and digit k of a: nothing is added for a 0, b for a 1, and either may be where the digit is unknown
unfoldable pub with_digit : ℕ → Bits → Bits → ℕ → Bits → Bits
with_digit w a b k r =
    cond (eqb (bit k a.mask) 0)
    (cond (eqb (bit k a.value) 0) r (sum w r (placed w k b)))
    (joined r (sum w r (placed w k b)))

-- the low n digits of a times b
unfoldable pub low_digits : ℕ → Bits → Bits → ℕ → Bits
low_digits w a b zero = exactly 0
low_digits w a b (suc k) = with_digit w a b k (low_digits w a b k)

unfoldable pub shift_and_add : ℕ → Bits → Bits → Bits
shift_and_add w a b = low_digits w a b w

-- ---- MUL, DIV and MOD: exact for exact operands
unfoldable pub known : Bits → Bits → Bool
known a b = eqb (bit_or a.mask b.mask) 0

-- what the digits of either factor and the mask know
unfoldable pub product : Bits → Bits → Bits
product a b =
    cond (known a b) (exactly (alu 64 Mul a.value b.value))
    (meet (among (product_mask (top a) (top b))) (meet (shift_and_add 64 a b) (shift_and_add 64 b a)))

-- the n of a pair that is known to be 2 ^ n; 64 for any other
unfoldable pub power : Bits → ℕ
power b = cond (eqb b.mask 0 && eqb b.value (2 ^ (count_trailing_zeros 64 b.value % 64))) (count_trailing_zeros 64 b.value % 64) 64

-- no quotient is more than that of the greatest dividend by the least divisor
unfoldable pub highest_quotient : ℕ → ℕ → ℕ
highest_quotient t v = cond (eqb v 0) t (t / v)

-- by 2 ^ n: the pair shifted
unfoldable pub quotient : Bits → Bits → Bits
quotient a b =
    cond (known a b) (exactly (alu 64 Div a.value b.value))
    (cond (ltb (power b) 64) (each (λ x. x / 2 ^ power b) a)
    (among (up_to (highest_quotient (top a) b.value))))

-- a rest is at most the dividend, and less than a divisor that can't be 0
unfoldable pub highest_rest : ℕ → ℕ → ℕ → ℕ
highest_rest t v u = cond (eqb v 0) t (cond (ltb t u) t (u - 1))

-- by 2 ^ n: the low n bits of the pair
unfoldable pub rest : Bits → Bits → Bits
rest a b =
    cond (known a b) (exactly (alu 64 Mod a.value b.value))
    (cond (ltb (power b) 64) (each (λ x. x % 2 ^ power b) a)
    (among (up_to (highest_rest (top a) b.value (top b)))))

-- ---- shifts: by a known count, by one of two counts, and by any count from the least to the greatest
unfoldable pub shifted_by : ℕ → Operation → Bits → ℕ → Bits
shifted_by w op a n = each (λ x. alu w op x n) a

-- no less than any number up to t shifted left by at most n, modulo 2 ^ 64
unfoldable pub highest_shifted : ℕ → ℕ → ℕ
highest_shifted t n = highest_product t (2 ^ n)

unfoldable pub left_mask : ℕ → ℕ → ℕ → ℕ
left_mask t least most = bit_and (from_bit (count_trailing_zeros 64 t + least)) (up_to (highest_shifted t most))

-- the numbers of w bits from v to t, shifted with their sign by at least n
unfoldable pub signed_right : ℕ → ℕ → ℕ → ℕ → Bits
signed_right w v t n =
    cond (ltb t (2 ^ (w - 1))) (among (up_to (t / 2 ^ n)))
    (cond (ltb v (2 ^ (w - 1))) (among (2 ^ w - 1))
    (packed (2 ^ w - 1) (up_to ((2 ^ w - 1 - v) / 2 ^ n))))

unfoldable pub shifted_unknown : ℕ → Operation → Bits → Bits → Bits
shifted_unknown w Lsh a b = low w (among (left_mask (top a) (b.value % w) (top b % w)))
shifted_unknown w Rsh a b = among (up_to (top a / 2 ^ (b.value % w)))
shifted_unknown w Arsh a b = signed_right w a.value (top a) (b.value % w)
shifted_unknown w Add a b = a
shifted_unknown w Sub a b = a
shifted_unknown w Mul a b = a
shifted_unknown w Div a b = a
shifted_unknown w Or a b = a
shifted_unknown w And a b = a
shifted_unknown w Neg a b = a
shifted_unknown w Mod a b = a
shifted_unknown w Xor a b = a
shifted_unknown w Mov a b = a

-- m has at most one bit
unfoldable pub single : ℕ → Bool
single m = eqb (bit_and m (m - 1)) 0

unfoldable pub shifted : ℕ → Operation → Bits → Bits → Bits
shifted w op a b =
    cond (eqb (b.mask % w) 0) (shifted_by w op a b.value)
    (cond (single (b.mask % w)) (joined (shifted_by w op a b.value) (shifted_by w op a (top b)))
    (shifted_unknown w op a b))

-- ---- each operation on pairs of w bits
unfoldable pub formula : ℕ → Operation → Bits → Bits → Bits
formula w Add a b = sum w a b
formula w Sub a b = difference w a b
formula w Mul a b = low w (product a b)
formula w Div a b = quotient a b
formula w Or a b = digits w Or a b
formula w And a b = digits w And a b
formula w Lsh a b = shifted w Lsh a b
formula w Rsh a b = shifted w Rsh a b
formula w Neg a b = difference w (exactly 0) a
formula w Mod a b = rest a b
formula w Xor a b = parity w a b
formula w Mov a b = b
formula w Arsh a b = shifted w Arsh a b

-- the instruction of class 7 at w = 64, of class 4 at w = 32: the operands are cut first
unfoldable pub calculated : ℕ → Operation → Bits → Bits → Bits
calculated w op a b = formula w op (low w a) (low w b)

-- ---- what a comparison tells
-- the way of JSET that is not taken: the bits of s are 0
unfoldable pub cleared : Bits → ℕ → Option Bits
cleared a s = cond (eqb (bit_and a.value s) 0) (Some (record { value = a.value; mask = bit_xor (bit_or a.mask s) s })) None

-- equality: what both know; nothing where they contradict each other
unfoldable pub met : Bits → Bits → Option Bits
met a b =
    cond (eqb (bit_or a.value (bit_or a.mask b.mask)) (bit_or b.value (bit_or a.mask b.mask)))
    (Some (meet a b))
    None
