-- The table has no line, or the line's size is that of the instruction.
use Rattle.machine.specs.Instruction.{only, store_of_imm}
use Rattle.machine.specs.Decoding.{or_none, made}
use Rattle.machine.proofs.instruction.Fields.store_of_imm.Goals as goal

pub returns-in_err-size : goal.returns-in_err-size
unfolding store_of_imm or_none made
returns-in_err-size c = rw (c.size_of_store_of_imm.ensures _, c.in_err-size.was, c.from_residual.ensures)

pub returns : goal.returns
unfolding store_of_imm only or_none made
returns c = rw (c.size_of_store_of_imm.ensures _, c.in_ok-size.was, c.if-self-ne0.false, c.extend.ensures, c.extend-2.ensures)
