-- What a way out of a comparison of the low 32 bits (class 6) tells of the two whole numbers: their low halves are sharpened, and nothing
-- is told of the upper ones.
use Rattle.std.specs.Prelude.{◌≡◌, Bool, true, false, cond, ℕ, ◌+◌, ◌*◌, ◌/◌, ◌%◌, ◌^◌, ◌≤◌, ltb, Some, None}
use Rattle.word.specs.declared.Comparison.{Comparison}
use Rattle.word.specs.declared.Comparison.TheVariants.{Eq, Gt, Ge, Set, Ne, Sgt, Sge, Lt, Le, Slt, Sle}
use Rattle.word.specs.declared.Operation.TheVariants.{Add, Mov}
use Rattle.known_bits.specs.declared.Bits.{Bits}
use Rattle.number.specs.declared.Range.{Range}
use Rattle.number.specs.declared.Number.{Number}
use Rattle.number.specs.Refined.{Refined}
use Rattle.number.specs.Sharpen.{exact}
use Rattle.number.specs.Computed.{computed}
use Rattle.number.specs.Compare.{settled, common, equal, firsts, taken, not_taken}

-- ---- a comparison of low halves is one of class 5: a signed order is the order of the halves moved by 2 ^ 31, half their range, the
-- others take them as they are
unfoldable pub unsigned : Comparison → Comparison
unsigned Eq = Eq
unsigned Gt = Gt
unsigned Ge = Ge
unsigned Set = Set
unsigned Ne = Ne
unsigned Sgt = Gt
unsigned Sge = Ge
unsigned Lt = Lt
unsigned Le = Le
unsigned Slt = Lt
unsigned Sle = Le

unfoldable pub signed : Comparison → Bool
signed Eq = false
signed Gt = false
signed Ge = false
signed Set = false
signed Ne = false
signed Sgt = true
signed Sge = true
signed Lt = false
signed Le = false
signed Slt = true
signed Sle = true

unfoldable pub low_half : Number → Number
low_half n = computed 32 Mov n n

-- the low half moved by 2 ^ 31. Moved again it is back, at 32 bits
unfoldable pub moved_half : Number → Number
moved_half n = computed 32 Add n (exact (2 ^ 31))

-- what is compared
unfoldable pub compared : Comparison → Number → Number
compared c n = cond (signed c) (moved_half n) (low_half n)

-- ---- what is told of the halves that were compared, as that of the low halves
-- what is left of moved halves is moved back and met with the low half as it was, since moving may forget something
unfoldable pub moved_back : Number → Number → Refined → Refined
moved_back d s None = None
moved_back d s (Some (u, v)) = firsts (equal (low_half d) (moved_half u)) (equal (low_half s) (moved_half v))

-- without a sign the low halves themselves were compared
unfoldable pub low_halves : Comparison → Number → Number → Refined → Refined
low_halves c d s r = cond (signed c) (moved_back d s r) r

-- ---- a number with another low half: the upper half of x, the low half of y
unfoldable pub halves : ℕ → ℕ → ℕ
halves x y = x / 2 ^ 32 * 2 ^ 32 + y % 2 ^ 32

unfoldable pub halves_of_bits : Bits → Bits → Bits
halves_of_bits p q = record { value = halves p.value q.value; mask = halves p.mask q.mask }

-- the range of the whole is that of its low half only where the upper half is 0
unfoldable pub halves_of_range : Range → Range → Range
halves_of_range r t = cond (ltb r.hi (2 ^ 32)) (common r t) r

unfoldable pub with_low : Number → Number → Number
with_low n l = record { bits = halves_of_bits n.bits l.bits; range = halves_of_range n.range l.range }

unfoldable pub whole : Number → Number → Refined → Refined
whole d s None = None
whole d s (Some (l, m)) = settled (with_low d l) (with_low s m)

-- ---- the way of each comparison of low halves that is taken, and the one that is not
unfoldable pub taken32 : Comparison → Number → Number → Refined
taken32 c d s = whole d s (low_halves c d s (taken (unsigned c) (compared c d) (compared c s)))

unfoldable pub not_taken32 : Comparison → Number → Number → Refined
not_taken32 c d s = whole d s (low_halves c d s (not_taken (unsigned c) (compared c d) (compared c s)))

unfoldable pub refined32 : Comparison → Bool → Number → Number → Refined
refined32 c true d s = taken32 c d s
refined32 c false d s = not_taken32 c d s

-- ---- the upper half of n' is known as that of n is: the same bits, and the same range unless that says that the upper half is 0
pub record UpperKept (n' n : Number) : Type 0 where
  pub value : n'.bits.value / 2 ^ 32 ≡ n.bits.value / 2 ^ 32
  pub mask : n'.bits.mask / 2 ^ 32 ≡ n.bits.mask / 2 ^ 32
  pub range : 2 ^ 32 ≤ n.range.hi → n'.range ≡ n.range
