-- How a table, the second operand and an instruction are found: None where the eight bytes are no instruction.
use Rattle.std.specs.Prelude.{Option, None, Some, List, ◌≡◌, ℕ}
use Rattle.machine.specs.declared.instruction.Fields.{Fields}
use Rattle.machine.specs.declared.instruction.Operand.{Operand}
use Rattle.machine.specs.declared.instruction.Instruction.{Instruction}
use Rattle.machine.specs.declared.instruction.Instruction.TheVariants.{NoInstruction}
use Rattle.machine.specs.Instruction.{Line, lookup, with_operand}

-- the instruction made of what was found
unfoldable pub made : {A : Type 0} → Option A → (A → Instruction) → Instruction
made None i = NoInstruction
made (Some a) i = i a

unfoldable pub or_none : Option Instruction → Instruction
or_none None = NoInstruction
or_none (Some i) = i

-- the table's line for the code, whatever is made of it
abbrev pub Found : {A : Type 0} → ℕ → List (Line A) → Option A → Type 0
Found {A} code lines r = (i : A → Instruction) → lookup code lines i ≡ made r i

-- the second operand, whatever is made of it
abbrev pub IsOperand : Fields → Option Operand → Type 0
IsOperand f r = (i : Operand → Instruction) → with_operand f i ≡ made r i
