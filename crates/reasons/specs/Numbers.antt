-- A fault's number in docs/MACHINE.md, section 5. A reason's stands in analysis, because the order of the tests is told by it.
use Rattle.std.specs.Prelude.{ℕ}
use Rattle.machine.specs.declared.outcome.Cause.{Cause}
use Rattle.machine.specs.declared.outcome.Cause.TheVariants.{BadCode, OffEnd, Unset, WriteR10, BadAccess}

abbrev pub fault_number : Cause → ℕ
fault_number BadCode = 1
fault_number OffEnd = 2
fault_number Unset = 3
fault_number WriteR10 = 4
fault_number BadAccess = 5
