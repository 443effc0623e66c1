-- The table has no line, the operand does not fit, or both are those of the instruction.
use Rattle.std.proofs.Common.{eq-eqb, ne_eqb}
use Rattle.machine.specs.Instruction.{only, arithmetic}
use Rattle.machine.specs.Decoding.{or_none, made}
use Rattle.machine.proofs.instruction.Fields.arithmetic.Goals as goal

pub returns-in_err-operation : goal.returns-in_err-operation
unfolding arithmetic only or_none made
returns-in_err-operation c =
    rw c.from_residual.ensures
    (simp (eq-eqb _ _ c.if-self-ne0.false, ne_eqb _ _ c.if-self-eq8.false) (rw (c.operation_of.ensures _, c.in_err-operation.was)))

pub returns-in_err-operand : goal.returns-in_err-operand
unfolding arithmetic only or_none made
returns-in_err-operand c =
    rw c.from_residual-in_err-operand.ensures
    (simp (eq-eqb _ _ c.if-self-ne0.false, ne_eqb _ _ c.if-self-eq8.false)
    (rw (c.operation_of.ensures _, c.in_ok-operation.was, c.operand.ensures _, c.in_err-operand.was)))

pub returns : goal.returns
unfolding arithmetic only or_none made
returns c =
    simp (eq-eqb _ _ c.if-self-ne0.false, ne_eqb _ _ c.if-self-eq8.false)
    (rw (c.operation_of.ensures _, c.in_ok-operation.was, c.operand.ensures _, c.in_ok-operand.was))
