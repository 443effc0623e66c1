-- The range that each operation gives for two ranges: the ends that the results have where no result wraps or all do, and all numbers
-- otherwise.
use Rattle.std.specs.Prelude.{Bool, cond, ◌&&◌, ℕ, ◌+◌, ◌-◌, ◌*◌, ◌/◌, ◌^◌, min, max, eqb, leb, ltb}
use Rattle.std.specs.Int.Bits.{bit_or}
use Rattle.word.specs.Word.{alu}
use Rattle.word.specs.declared.Operation.{Operation}
use Rattle.word.specs.declared.Operation.TheVariants.{Add, Sub, Mul, Div, Or, And, Lsh, Rsh, Neg, Mod, Xor, Mov, Arsh}
use Rattle.known_bits.specs.Formula.{up_to}
use Rattle.number.specs.declared.Range.{Range}
use Rattle.number.specs.Sharpen.{just, everything}

-- the results of an operation that grows with both operands
unfoldable pub straight : ℕ → Operation → Range → Range → Range
straight w op a b = record { lo = alu w op a.lo b.lo; hi = alu w op a.hi b.hi }

-- the results of an operation that grows with the first operand and falls with the second
unfoldable pub crossed : ℕ → Operation → Range → Range → Range
crossed w op a b = record { lo = alu w op a.lo b.hi; hi = alu w op a.hi b.lo }

-- no sum wraps, or every sum does
unfoldable pub sum_range : Range → Range → Range
sum_range a b = cond (ltb (a.hi + b.hi) (2 ^ 64)) (straight 64 Add a b) (cond (leb (2 ^ 64) (a.lo + b.lo)) (straight 64 Add a b) (everything 64))

-- no difference wraps, or every difference does
unfoldable pub difference_range : Range → Range → Range
difference_range a b = cond (leb b.hi a.lo) (crossed 64 Sub a b) (cond (ltb a.hi b.lo) (crossed 64 Sub a b) (everything 64))

unfoldable pub product_range : Range → Range → Range
product_range a b = cond (ltb (a.hi * b.hi) (2 ^ 64)) (straight 64 Mul a b) (everything 64)

-- the quotient by 0 is 0
unfoldable pub quotient_range : Range → Range → Range
quotient_range a b = cond (eqb b.lo 0) (record { lo = 0; hi = cond (eqb b.hi 0) 0 a.hi }) (crossed 64 Div a b)

-- b is one number, and all of a have the same quotient by it
unfoldable pub same_quotient : Range → Range → Bool
same_quotient a b = eqb b.lo b.hi && eqb (a.lo / b.lo) (a.hi / b.lo)

-- the rest by 0 is the dividend, and so is the rest by a number above it
unfoldable pub rest_range : Range → Range → Range
rest_range a b =
    cond (eqb b.hi 0) a
    (cond (eqb b.lo 0) (record { lo = 0; hi = a.hi })
    (cond (ltb a.hi b.lo) a
    (cond (same_quotient a b) (straight 64 Mod a b)
    (record { lo = 0; hi = min a.hi (b.hi - 1) }))))

-- no bit of a result is above the highest one of the upper ends
unfoldable pub longest : Range → Range → ℕ
longest a b = up_to (bit_or a.hi b.hi)

unfoldable pub left_range : Range → Range → Range
left_range a c = cond (ltb (a.hi * 2 ^ c.hi) (2 ^ 64)) (straight 64 Lsh a c) (everything 64)

-- a number that is not negative falls with the count, a negative one grows
unfoldable pub signed_right_range : ℕ → Range → Range → Range
signed_right_range w a c =
    cond (ltb a.hi (2 ^ (w - 1))) (crossed w Arsh a c) (cond (leb (2 ^ (w - 1)) a.lo) (straight w Arsh a c) (everything w))

-- operands of w bits; of a shift the second is the range of counts. A result of 32 bits is cut afterwards
unfoldable pub ranged : ℕ → Operation → Range → Range → Range
ranged w Add a b = sum_range a b
ranged w Sub a b = difference_range a b
ranged w Mul a b = product_range a b
ranged w Div a b = quotient_range a b
ranged w Or a b = record { lo = max a.lo b.lo; hi = longest a b }
ranged w And a b = record { lo = 0; hi = min a.hi b.hi }
ranged w Lsh a b = left_range a b
ranged w Rsh a b = crossed 64 Rsh a b
ranged w Neg a b = difference_range (just 0) a
ranged w Mod a b = rest_range a b
ranged w Xor a b = record { lo = 0; hi = longest a b }
ranged w Mov a b = b
ranged w Arsh a b = signed_right_range w a b
