-- What is known at an index: of a register there, and of what the instruction does. None where no path comes to it.
use Rattle.std.specs.Prelude.{Option, Some, None, ℕ}
use Rattle.machine.specs.declared.instruction.Instruction.{Instruction}
use Rattle.analysis.specs.declared.Value.{Value}
use Rattle.analysis.specs.declared.Effect.{Effect}
use Rattle.analysis.specs.Values.{Facts, value_of}
use Rattle.analysis.specs.Effects.{effect}

unfoldable pub known_of : Option Facts → ℕ → Option Value
known_of None r = None
known_of (Some a) r = Some (value_of a r)

-- for a record of R bytes
unfoldable pub deed_of : ℕ → ℕ → Option Facts → Instruction → Option Effect
deed_of R i None ins = None
deed_of R i (Some a) ins = Some (effect R i a ins)
