-- An arm is a class, but for the two of arithmetic and the two of jumps.
use Rattle.std.proofs.Common.{◌∙◌, arith}
use Rattle.machine.proofs.Classes.{arithmetic_of_either_width, jump_of_either_width, five_or_six}
use Rattle.machine.proofs.instruction.Fields.by_class.Goals as goal

pub returns-in-4 : goal.returns-in-4
returns-in-4 c = c.arithmetic.ensures ∙ arithmetic_of_either_width _ _ c.width.ensures c.in-4.is

pub returns-in_default : goal.returns-in_default
returns-in_default c =
    c.jump.ensures
    ∙ jump_of_either_width _ _ c.width-in_default.ensures
    (five_or_six _ (omega arith) (omega arith) (omega arith) (omega arith) (grind arith) (grind arith))
