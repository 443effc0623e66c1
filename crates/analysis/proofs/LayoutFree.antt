-- The machine without a layout: a register is unset, a number, or an offset into the record or the stack. It is stuck on whatever would
-- fault and on whatever would depend on where memory lies.
use mathlib.Core.Path.{◌≡◌}
use mathlib.Core.Bool.{Bool, true, cond}
use mathlib.Core.List.{List, [], ◌∷◌}
use Prim.Native.Nat.{ℕ, zero, suc, ◌+◌, ◌/◌, ◌%◌, ◌^◌, ◌<◌}
use lib.ListN.{length, get_or, set, replicate}
use lib.Dec.{eqb, leb}
use Rattle.word.specs.Word.{cut, alu, compare, read_bytes, write_bytes}
use Rattle.word.specs.declared.Operation.{Operation}
use Rattle.word.specs.declared.Operation.TheVariants as operation
use Rattle.word.specs.declared.Comparison.{Comparison}
use Rattle.machine.specs.declared.instruction.Width.{Width}
use Rattle.machine.specs.declared.instruction.Operand.{Operand}
use Rattle.machine.specs.declared.instruction.Operand.TheVariants.{Immediate, Register}
use Rattle.machine.specs.declared.instruction.Instruction.{Instruction}
use Rattle.machine.specs.declared.instruction.Instruction.TheVariants.{Alu, Neg, Jump, Always, Exit, Load, Store, NoInstruction}
use Rattle.machine.specs.Machine.{bits, bytes}
use Rattle.analysis.specs.declared.Region.{Region}
use Rattle.analysis.specs.declared.Region.TheVariants.{Record, Stack}
use Rattle.analysis.specs.Effects.{Role, copies, converts, adds, subtracts, calculates, role, limit}
use Rattle.analysis.specs.Form.{instruction}

-- an offset is modulo 2 ^ 64
pub data Cell : Type 0 where
  unset : Cell
  number : ℕ → Cell
  offset : Region → ℕ → Cell

pub record Config : Type 0 where
  pub registers : List Cell
  pub stack : List ℕ
  pub index : ℕ

pub data Course : Type 0 where
  stuck : Course
  ends : ℕ → Course
  goes : Config → Course

unfoldable pub cell_of : Config → ℕ → Cell
cell_of c r = get_or c.registers r unset

unfoldable pub operand_cell : Config → Operand → Cell
operand_cell c (Immediate n) = number n
operand_cell c (Register r) = cell_of c r

unfoldable pub put_cell : Config → ℕ → Cell → Course
put_cell c d x = cond (eqb d 10) stuck (goes (record { registers = set c.registers d x; stack = c.stack; index = c.index + 1 }))

-- ---- arithmetic, as the analysis divides it

unfoldable pub copied : Config → ℕ → Cell → Course
copied c d unset = stuck
copied c d (number b) = put_cell c d (number (cut 64 b))
copied c d (offset q o) = put_cell c d (offset q o)

unfoldable pub calculated : ℕ → Operation → Config → ℕ → Cell → Cell → Course
calculated w op c d unset y = stuck
calculated w op c d (number a) unset = stuck
calculated w op c d (number a) (number b) = put_cell c d (number (alu w op a b))
calculated w op c d (number a) (offset q o) = stuck
calculated w op c d (offset p o) y = stuck

unfoldable pub summed : Config → ℕ → Cell → Cell → Course
summed c d unset y = stuck
summed c d (number a) unset = stuck
summed c d (number a) (number b) = put_cell c d (number (alu 64 operation.Add a b))
summed c d (number a) (offset q o) = put_cell c d (offset q (alu 64 operation.Add o a))
summed c d (offset p o) unset = stuck
summed c d (offset p o) (number b) = put_cell c d (offset p (alu 64 operation.Add o b))
summed c d (offset p o) (offset q u) = stuck

unfoldable pub subtracted : Config → ℕ → Cell → Cell → Course
subtracted c d unset y = stuck
subtracted c d (number a) unset = stuck
subtracted c d (number a) (number b) = put_cell c d (number (alu 64 operation.Sub a b))
subtracted c d (number a) (offset q o) = stuck
subtracted c d (offset p o) unset = stuck
subtracted c d (offset p o) (number b) = put_cell c d (offset p (alu 64 operation.Sub o b))
subtracted c d (offset p o) (offset q u) = stuck

unfoldable pub worked : Role → ℕ → Operation → Config → ℕ → Cell → Cell → Course
worked copies w op c d x y = copied c d y
worked converts w op c d x y = calculated w op c d y y
worked adds w op c d x y = summed c d x y
worked subtracts w op c d x y = subtracted c d x y
worked calculates w op c d x y = calculated w op c d x y

-- ---- memory

unfoldable pub region : List ℕ → Config → Region → List ℕ
region rec c Record = rec
region rec c Stack = c.stack

unfoldable pub loaded_at : List ℕ → ℕ → Config → ℕ → Region → ℕ → Course
loaded_at rec size c d p e = cond (leb (e + size) (limit (length rec) p)) (put_cell c d (number (read_bytes size (region rec c p) e))) stuck

unfoldable pub loaded : List ℕ → ℕ → Config → ℕ → ℕ → Cell → Course
loaded rec size c d off unset = stuck
loaded rec size c d off (number a) = stuck
loaded rec size c d off (offset p o) = loaded_at rec size c d p (alu 64 operation.Add o off)

unfoldable pub stored_at : ℕ → Config → ℕ → ℕ → Course
stored_at size c e v =
    cond (leb (e + size) 512) (goes (record { registers = c.registers; stack = write_bytes size c.stack e v; index = c.index + 1 })) stuck

unfoldable pub stored : ℕ → Config → ℕ → Cell → Cell → Course
stored size c off unset y = stuck
stored size c off (number a) y = stuck
stored size c off (offset Record o) y = stuck
stored size c off (offset Stack o) unset = stuck
stored size c off (offset Stack o) (number b) = stored_at size c (alu 64 operation.Add o off) b
stored size c off (offset Stack o) (offset q u) = stuck

-- ---- jumps

unfoldable pub jumped_to : Bool → Config → ℕ → Course
jumped_to taken c off =
    goes (record { registers = c.registers; stack = c.stack; index = cond taken ((c.index + 1 + off) % 2 ^ 64) (c.index + 1) })

unfoldable pub forked : Width → Comparison → Config → ℕ → Cell → Cell → Course
forked w k c off unset y = stuck
forked w k c off (number a) unset = stuck
forked w k c off (number a) (number b) = jumped_to (compare (bits w) k a b) c off
forked w k c off (number a) (offset q u) = stuck
forked w k c off (offset p o) y = stuck

unfoldable pub exited : Cell → Course
exited unset = stuck
exited (number v) = ends v
exited (offset p o) = stuck

-- ---- each instruction
unfoldable pub free : List ℕ → Config → Instruction → Course
free rec c (Alu w op d s) = worked (role w op) (bits w) op c d (cell_of c d) (operand_cell c s)
free rec c (Neg w d) = calculated (bits w) operation.Neg c d (cell_of c d) (cell_of c d)
free rec c (Jump w k d s off) = forked w k c off (cell_of c d) (operand_cell c s)
free rec c (Always off) = jumped_to true c off
free rec c Exit = exited (cell_of c 0)
free rec c (Load z d s off) = loaded rec (bytes z) c d off (cell_of c s)
free rec c (Store z d off s) = stored (bytes z) c off (cell_of c d) (operand_cell c s)
free rec c NoInstruction = stuck

-- the stack that is left with no step more, and with some
unfoldable pub after : List ℕ → (ℕ → List ℕ) → ℕ → List ℕ
after now left zero = now
after now left (suc b) = left b

-- the run from c comes to the verdict v in k steps, and leaves these stacks where it is stopped after as many
pub data Comes (program rec : List ℕ) : Config → ℕ → ℕ → (ℕ → List ℕ) → Type 0 where
  at_once : {c : Config} {v : ℕ} → c.index < length program / 8 → free rec c (instruction program c.index) ≡ ends v
      → Comes program rec c v 1 (λ b. c.stack)
  later : {c : Config} {v k : ℕ} {left : ℕ → List ℕ} (c' : Config) → c.index < length program / 8
      → free rec c (instruction program c.index) ≡ goes c' → Comes program rec c' v k left
      → Comes program rec c v (suc k) (after c.stack left)

unfoldable pub start_config : Config
start_config =
    record {
      registers = unset ∷ offset Record 0 ∷ unset ∷ unset ∷ unset ∷ unset ∷ unset ∷ unset ∷ unset ∷ unset ∷ offset Stack 512 ∷ [];
      stack = replicate 512 0;
      index = 0;
    }
