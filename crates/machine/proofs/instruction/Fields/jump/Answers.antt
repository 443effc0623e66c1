-- The table has no line, the operand does not fit, or both are those of the instruction.
use Rattle.std.proofs.Common.{ne_eqb}
use Rattle.machine.specs.Instruction.{jump}
use Rattle.machine.specs.Decoding.{or_none, made}
use Rattle.machine.proofs.instruction.Fields.jump.Goals as goal

pub returns-in_err-comparison : goal.returns-in_err-comparison
unfolding jump or_none made
returns-in_err-comparison c =
    rw c.from_residual.ensures
    (simp (ne_eqb _ _ c.if-self-eq5.false, ne_eqb _ _ c.if-self-eq149.false) (rw (c.comparison_of.ensures _, c.in_err-comparison.was)))

pub returns-in_err-operand : goal.returns-in_err-operand
unfolding jump or_none made
returns-in_err-operand c =
    rw c.from_residual-in_err-operand.ensures
    (simp (ne_eqb _ _ c.if-self-eq5.false, ne_eqb _ _ c.if-self-eq149.false)
    (rw (c.comparison_of.ensures _, c.in_ok-comparison.was, c.operand.ensures _, c.in_err-operand.was)))

pub returns : goal.returns
unfolding jump or_none made
returns c =
    simp (ne_eqb _ _ c.if-self-eq5.false, ne_eqb _ _ c.if-self-eq149.false)
    (rw (c.comparison_of.ensures _, c.in_ok-comparison.was, c.operand.ensures _, c.in_ok-operand.was, c.extend.ensures))
