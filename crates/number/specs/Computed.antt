-- Each operation of the machine on Numbers, at 64 bits (class 7) and at 32 (class 4): the known bits of `known_bits`, the range of the
-- operands cut to the width, and each sharpens the other.
use Rattle.std.specs.Prelude.{Bool, cond, ℕ, ◌+◌, ◌-◌, ◌/◌, ◌%◌, ◌^◌, min, max, eqb, leb}
use Rattle.word.specs.declared.Operation.{Operation}
use Rattle.word.specs.declared.Operation.TheVariants.{Add, Sub, Mul, Div, Or, And, Lsh, Rsh, Neg, Mod, Xor, Mov, Arsh}
use Rattle.known_bits.specs.Pair.{top}
use Rattle.known_bits.specs.Formula.{calculated}
use Rattle.number.specs.declared.Range.{Range}
use Rattle.number.specs.declared.Number.{Number}
use Rattle.number.specs.Sharpen.{sharpened}
use Rattle.number.specs.Ranges.{ranged}

-- the numbers of a range modulo m, kept as a range where it lies within one block of m
unfoldable pub block : ℕ → Range → Range
block m r = cond (eqb (r.lo / m) (r.hi / m)) (record { lo = r.lo % m; hi = r.hi % m }) (record { lo = 0; hi = m - 1 })

-- a Number modulo m, a power of two: what the range and the known bits tell
unfoldable pub modulo : ℕ → Number → Range
modulo m n =
    record {
      lo = max (block m n.range).lo (n.bits.value % m);
      hi = min (block m n.range).hi (top n.bits % m);
    }

-- the second operand: of a shift it is a count, s % w
unfoldable pub second : ℕ → Operation → Number → Range
second w Add b = modulo (2 ^ w) b
second w Sub b = modulo (2 ^ w) b
second w Mul b = modulo (2 ^ w) b
second w Div b = modulo (2 ^ w) b
second w Or b = modulo (2 ^ w) b
second w And b = modulo (2 ^ w) b
second w Lsh b = modulo w b
second w Rsh b = modulo w b
second w Neg b = modulo (2 ^ w) b
second w Mod b = modulo (2 ^ w) b
second w Xor b = modulo (2 ^ w) b
second w Mov b = modulo (2 ^ w) b
second w Arsh b = modulo w b

-- before it is sharpened
unfoldable pub computed_range : ℕ → Operation → Number → Number → Range
computed_range w op a b = block (2 ^ w) (ranged w op (modulo (2 ^ w) a) (second w op b))

unfoldable pub computed : ℕ → Operation → Number → Number → Number
computed w op a b = sharpened (calculated w op a.bits b.bits) (computed_range w op a b)

-- size bytes at each of these offsets lie below a limit
unfoldable pub fits : Number → ℕ → ℕ → Bool
fits offset size limit = leb (offset.range.hi + size) limit
