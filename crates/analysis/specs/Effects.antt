-- What an instruction does to what is known of the registers, or why it is refused: docs/VERIFIER.md, section 2.
-- Where several reasons apply, 7 (unset) comes before 9 (address) and 9 before 8 (access).
use Rattle.std.specs.Prelude.{Bool, true, false, cond, ◌||◌, ℕ, ◌+◌, eqb}
use Rattle.word.specs.declared.Operation.{Operation}
use Rattle.word.specs.declared.Operation.TheVariants.{Add, Sub, Mul, Div, Or, And, Lsh, Rsh, Mod, Xor, Mov, Arsh}
use Rattle.word.specs.declared.Operation.TheVariants as operation
use Rattle.word.specs.declared.Comparison.{Comparison}
use Rattle.machine.specs.declared.instruction.Width.{Width}
use Rattle.machine.specs.declared.instruction.Width.TheVariants.{Long, Short}
use Rattle.machine.specs.declared.instruction.Operand.{Operand}
use Rattle.machine.specs.declared.instruction.Instruction.{Instruction}
use Rattle.machine.specs.declared.instruction.Instruction.TheVariants.{Alu, Neg, Jump, Always, Exit, Load, Store, NoInstruction}
use Rattle.machine.specs.Machine.{bits, bytes}
use Rattle.number.specs.declared.Number.{Number}
use Rattle.number.specs.Sharpen.{exact, loaded}
use Rattle.number.specs.Computed.{computed, fits}
use Rattle.number.specs.Refined.{Refined}
use Rattle.number.specs.Compare.{refined}
use Rattle.number.specs.Halves.{refined32}
use Rattle.analysis.specs.declared.Reason.TheVariants.{NoCode, WritesR10, ReadsUnset, Outside, LeaksAddress}
use Rattle.analysis.specs.declared.Region.{Region}
use Rattle.analysis.specs.declared.Region.TheVariants.{Record, Stack}
use Rattle.analysis.specs.declared.Gone.TheVariants.{Never, Mixed}
use Rattle.analysis.specs.declared.Value.{Value}
use Rattle.analysis.specs.declared.Value.TheVariants.{Unusable, Plain, Address}
use Rattle.analysis.specs.declared.Effect.{Effect}
use Rattle.analysis.specs.declared.Effect.TheVariants.{Refuse, Put, Keep, Fork, Goto, Stop}
use Rattle.analysis.specs.Values.{Facts, value_of, operand_of}

-- ---- what is read must be usable

unfoldable pub is_never : Value → Bool
is_never (Unusable Never) = true
is_never (Unusable Mixed) = false
is_never (Plain a) = false
is_never (Address p a) = false

unfoldable pub is_mixed : Value → Bool
is_mixed (Unusable Never) = false
is_mixed (Unusable Mixed) = true
is_mixed (Plain a) = false
is_mixed (Address p a) = false

unfoldable pub reading : Value → Effect → Effect
reading x e = cond (is_never x) (Refuse ReadsUnset) (cond (is_mixed x) (Refuse LeaksAddress) e)

unfoldable pub reading_both : Value → Value → Effect → Effect
reading_both x y e = cond (is_never x || is_never y) (Refuse ReadsUnset) (cond (is_mixed x || is_mixed y) (Refuse LeaksAddress) e)

-- r10 is not written
unfoldable pub put : ℕ → Value → Effect
put d v = cond (eqb d 10) (Refuse WritesR10) (Put d v)

-- ---- arithmetic

-- what an operation may do with an address: a 64-bit MOV copies it, and 64-bit ADD and SUB move it
pub data Role : Type 0 where
  copies : Role
  converts : Role
  adds : Role
  subtracts : Role
  calculates : Role

unfoldable pub role : Width → Operation → Role
role Long Add = adds
role Long Sub = subtracts
role Long Mul = calculates
role Long Div = calculates
role Long Or = calculates
role Long And = calculates
role Long Lsh = calculates
role Long Rsh = calculates
role Long operation.Neg = calculates
role Long Mod = calculates
role Long Xor = calculates
role Long Mov = copies
role Long Arsh = calculates
role Short Add = calculates
role Short Sub = calculates
role Short Mul = calculates
role Short Div = calculates
role Short Or = calculates
role Short And = calculates
role Short Lsh = calculates
role Short Rsh = calculates
role Short operation.Neg = calculates
role Short Mod = calculates
role Short Xor = calculates
role Short Mov = converts
role Short Arsh = calculates

-- plain numbers only
unfoldable pub calculate : ℕ → Operation → ℕ → Value → Value → Effect
calculate w op d (Plain a) (Plain b) = put d (Plain (computed w op a b))
calculate w op d (Plain a) (Unusable h) = Refuse LeaksAddress
calculate w op d (Plain a) (Address q b) = Refuse LeaksAddress
calculate w op d (Unusable g) y = Refuse LeaksAddress
calculate w op d (Address p a) y = Refuse LeaksAddress

-- a number may be added to an address, in either order
unfoldable pub sum : ℕ → Value → Value → Effect
sum d (Plain a) (Plain b) = put d (Plain (computed 64 Add a b))
sum d (Plain a) (Address q b) = put d (Address q (computed 64 Add b a))
sum d (Plain a) (Unusable h) = Refuse LeaksAddress
sum d (Address p a) (Plain b) = put d (Address p (computed 64 Add a b))
sum d (Address p a) (Address q b) = Refuse LeaksAddress
sum d (Address p a) (Unusable h) = Refuse LeaksAddress
sum d (Unusable g) y = Refuse LeaksAddress

-- and subtracted from it
unfoldable pub difference : ℕ → Value → Value → Effect
difference d (Plain a) (Plain b) = put d (Plain (computed 64 Sub a b))
difference d (Plain a) (Address q b) = Refuse LeaksAddress
difference d (Plain a) (Unusable h) = Refuse LeaksAddress
difference d (Address p a) (Plain b) = put d (Address p (computed 64 Sub a b))
difference d (Address p a) (Address q b) = Refuse LeaksAddress
difference d (Address p a) (Unusable h) = Refuse LeaksAddress
difference d (Unusable g) y = Refuse LeaksAddress

-- MOV doesn't read dst
unfoldable pub arithmetic : Role → ℕ → Operation → ℕ → Value → Value → Effect
arithmetic copies w op d x y = reading y (put d y)
arithmetic converts w op d x y = reading y (calculate w op d y y)
arithmetic adds w op d x y = reading_both x y (sum d x y)
arithmetic subtracts w op d x y = reading_both x y (difference d x y)
arithmetic calculates w op d x y = reading_both x y (calculate w op d x y)

-- ---- memory

unfoldable pub limit : ℕ → Region → ℕ
limit R Record = R
limit R Stack = 512

-- a base of a load: a plain number is no address into anything
unfoldable pub load : ℕ → ℕ → ℕ → ℕ → Value → Effect
load R size d off (Address p a) = cond (fits (computed 64 Add a (exact off)) size (limit R p)) (put d (Plain (loaded size))) (Refuse Outside)
load R size d off (Plain a) = Refuse Outside
load R size d off (Unusable g) = Refuse Outside

-- only the stack is written, and only with plain numbers
unfoldable pub store_at : ℕ → ℕ → Value → Effect
store_at size off (Address Stack a) = cond (fits (computed 64 Add a (exact off)) size 512) Keep (Refuse Outside)
store_at size off (Address Record a) = Refuse Outside
store_at size off (Plain a) = Refuse Outside
store_at size off (Unusable g) = Refuse Outside

unfoldable pub store : ℕ → ℕ → Value → Value → Effect
store size off x (Plain b) = store_at size off x
store size off x (Address q b) = Refuse LeaksAddress
store size off x (Unusable h) = Refuse LeaksAddress

-- ---- jumps

-- what a way out tells of both operands: of the whole numbers, or of their low halves
unfoldable pub told : Width → Comparison → Bool → Number → Number → Refined
told Long c way a b = refined c way a b
told Short c way a b = refined32 c way a b

-- the way on, and the way taken to target
unfoldable pub fork : Width → Comparison → ℕ → Operand → ℕ → Value → Value → Effect
fork w c d s target (Plain a) (Plain b) = Fork d s (told w c false a b) (told w c true a b) target
fork w c d s target (Plain a) (Address q b) = Refuse LeaksAddress
fork w c d s target (Plain a) (Unusable h) = Refuse LeaksAddress
fork w c d s target (Address p a) y = Refuse LeaksAddress
fork w c d s target (Unusable g) y = Refuse LeaksAddress

-- the verdict must be a plain number
unfoldable pub exit : Value → Effect
exit (Plain a) = Stop
exit (Address p a) = Refuse LeaksAddress
exit (Unusable g) = Refuse LeaksAddress

-- ---- each instruction, at index i, for a record of R bytes
unfoldable pub effect : ℕ → ℕ → Facts → Instruction → Effect
effect R i a (Alu w op d s) = arithmetic (role w op) (bits w) op d (value_of a d) (operand_of a s)
effect R i a (Neg w d) = reading (value_of a d) (calculate (bits w) operation.Neg d (value_of a d) (value_of a d))
effect R i a (Jump w c d s off) = reading_both (value_of a d) (operand_of a s) (fork w c d s (i + 1 + off) (value_of a d) (operand_of a s))
effect R i a (Always off) = Goto (i + 1 + off)
effect R i a Exit = reading (value_of a 0) (exit (value_of a 0))
effect R i a (Load z d s off) = reading (value_of a s) (load R (bytes z) d off (value_of a s))
effect R i a (Store z d off s) = reading_both (value_of a d) (operand_of a s) (store (bytes z) off (value_of a d) (operand_of a s))
effect R i a NoInstruction = Refuse NoCode
