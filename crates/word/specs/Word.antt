-- Numbers of w bits: what the operations and comparisons of the machine give, signs, bits, and numbers as bytes.
-- One definition serves every width; the machine has w = 64 and w = 32.
use Rattle.std.specs.Prelude.{ℕ, zero, suc, ◌+◌, ◌-◌, ◌*◌, ◌/◌, ◌%◌, ◌^◌, Bool, cond, not, List, ◌==◌, bit_and, bit_or, bit_xor, nat_le, nat_lt, slice_index, slice_set}
use Rattle.word.specs.declared.Operation.{Operation}
use Rattle.word.specs.declared.Operation.TheVariants.{Add, Sub, Mul, Div, Or, And, Lsh, Rsh, Neg, Mod, Xor, Mov, Arsh}
use Rattle.word.specs.declared.Comparison.{Comparison}
use Rattle.word.specs.declared.Comparison.TheVariants.{Eq, Gt, Ge, Set, Ne, Sgt, Sge, Lt, Le, Slt, Sle}

-- the low w bits of x
unfoldable pub cut : ℕ → ℕ → ℕ
cut w x = x % 2 ^ w

-- bit k of x, 0 or 1
unfoldable pub bit : ℕ → ℕ → ℕ
bit k x = x / 2 ^ k % 2

-- the low w bits of x, extended with their sign to 64 bits
unfoldable pub extend : ℕ → ℕ → ℕ
extend w x = cond (nat_lt (cut w x) (2 ^ (w - 1))) (cut w x) (cut w x + (2 ^ 64 - 2 ^ w))

-- d of w bits, shifted right by n places; the sign enters: a negative number is complemented, shifted, complemented again
unfoldable pub shift_signed : ℕ → ℕ → ℕ → ℕ
shift_signed w d n = cond (nat_lt d (2 ^ (w - 1))) (d / 2 ^ n) (2 ^ w - 1 - (2 ^ w - 1 - d) / 2 ^ n)

-- an operation on the low w bits of d and s. A count is its low 6 bits at w = 64 and its low 5 bits at w = 32, so s % w
unfoldable pub alu : ℕ → Operation → ℕ → ℕ → ℕ
alu w Add d s = (cut w d + cut w s) % 2 ^ w
alu w Sub d s = (cut w d + (2 ^ w - cut w s)) % 2 ^ w
alu w Mul d s = (cut w d * cut w s) % 2 ^ w
alu w Div d s = cond (cut w s == 0) 0 (cut w d / cut w s)
alu w Or d s = bit_or (cut w d) (cut w s)
alu w And d s = bit_and (cut w d) (cut w s)
alu w Lsh d s = (cut w d * 2 ^ (s % w)) % 2 ^ w
alu w Rsh d s = cut w d / 2 ^ (s % w)
alu w Neg d s = (2 ^ w - cut w d) % 2 ^ w
alu w Mod d s = cond (cut w s == 0) (cut w d) (cut w d % cut w s)
alu w Xor d s = bit_xor (cut w d) (cut w s)
alu w Mov d s = cut w s
alu w Arsh d s = shift_signed w (cut w d) (s % w)

-- x of w bits, moved by half the range: the order of signed numbers is the order of the numbers so moved
unfoldable pub moved : ℕ → ℕ → ℕ
moved w x = (x + 2 ^ (w - 1)) % 2 ^ w

-- a comparison of the low w bits of d and s; the S forms compare signed
unfoldable pub compare : ℕ → Comparison → ℕ → ℕ → Bool
compare w Eq d s = cut w d == cut w s
compare w Gt d s = nat_lt (cut w s) (cut w d)
compare w Ge d s = nat_le (cut w s) (cut w d)
compare w Set d s = not (bit_and (cut w d) (cut w s) == 0)
compare w Ne d s = not (cut w d == cut w s)
compare w Sgt d s = nat_lt (moved w (cut w s)) (moved w (cut w d))
compare w Sge d s = nat_le (moved w (cut w s)) (moved w (cut w d))
compare w Lt d s = nat_lt (cut w d) (cut w s)
compare w Le d s = nat_le (cut w d) (cut w s)
compare w Slt d s = nat_lt (moved w (cut w d)) (moved w (cut w s))
compare w Sle d s = nat_le (moved w (cut w d)) (moved w (cut w s))

-- the number that the n bytes of m at i spell, lowest first
unfoldable pub read_bytes : ℕ → List ℕ → ℕ → ℕ
read_bytes zero m i = 0
read_bytes (suc n) m i = slice_index m i + 256 * read_bytes n m (i + 1)

-- m with the low n bytes of x at i, lowest first
unfoldable pub write_bytes : ℕ → List ℕ → ℕ → ℕ → List ℕ
write_bytes zero m i x = m
write_bytes (suc n) m i x = write_bytes n (slice_set m i (x % 256)) (i + 1) (x / 256)
