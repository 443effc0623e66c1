-- The table has no line, or the line's size is that of the instruction.
use Rattle.machine.specs.Instruction.{only, load}
use Rattle.machine.specs.Decoding.{or_none, made}
use Rattle.machine.proofs.instruction.Fields.load.Goals as goal

pub returns-in_err-size : goal.returns-in_err-size
unfolding load or_none made
returns-in_err-size c = rw (c.size_of_load.ensures _, c.in_err-size.was, c.from_residual.ensures)

pub returns : goal.returns
unfolding load only or_none made
returns c = rw (c.size_of_load.ensures _, c.in_ok-size.was, c.if-self-ne0.false, c.extend.ensures)
