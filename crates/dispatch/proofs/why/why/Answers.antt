-- `why`: off the end, or the cause that the instruction gives.
use Rattle.std.proofs.Common.{◌∙◌}
use Rattle.dispatch.proofs.Causes.{off_end, at_instruction}
use Rattle.dispatch.proofs.why.why.Goals as goal

pub returns-then-program-pc : goal.returns-then-program-pc
returns-then-program-pc c = λ w numbers stack k e. off_end _ _ _ c.requires w numbers stack k e c.if-program-pc.true

pub returns : goal.returns
returns c = λ w numbers stack k e. c.cause_of.ensures ∙ at_instruction _ _ _ c.requires w numbers stack k e c.if-program-pc.false _ c.decode.ensures
