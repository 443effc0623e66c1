-- `alu` by its parts.
use Rattle.number.specs.Computed.{computed_range, computed}
use Rattle.calculator.proofs.operation.alu.Goals as goal

pub returns : goal.returns
unfolding computed computed_range
returns g c =
    rw (c.sharpen.ensures, c.alu-bits.ensures.value, c.low.ensures, c.ranged-range.ensures, c.operand.ensures, c.second.ensures)
