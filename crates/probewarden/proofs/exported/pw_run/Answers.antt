-- `pw_run`: what the interpreter comes to is said.
use mathlib.Core.Path.{refl}
use mathlib.Core.List.{[]}
use Rattle.probewarden.specs.Encoding.{outcome_said, headed}
use Rattle.probewarden.proofs.Saying.{an_outcome_is_said}
use Rattle.probewarden.proofs.exported.pw_run.Goals as goal

pub returns-in-Verdict : goal.returns-in-Verdict
unfolding outcome_said
returns-in-Verdict c = an_outcome_is_said _ _ _ _ _ _ _ _ _ _ _ _ c.interpret.ensures (rw c.in-Verdict.is) c.if-answer-lt3.false c.store.ensures

pub returns-in-Fault : goal.returns-in-Fault
unfolding outcome_said
returns-in-Fault c = an_outcome_is_said _ _ _ _ _ _ _ _ _ _ _ _ c.interpret.ensures (rw (c.in-Fault.is, ← c.fault_number.ensures)) c.if-answer-lt3.false c.store-in-Fault.ensures

pub returns-in-Budget : goal.returns-in-Budget
unfolding outcome_said
returns-in-Budget c = an_outcome_is_said _ _ _ _ _ _ _ _ _ _ _ _ c.interpret.ensures (rw c.in-Budget.is) c.if-answer-lt3.false c.store-in-Budget.ensures

pub returns-in-Refused : goal.returns-in-Refused
unfolding outcome_said headed
returns-in-Refused c = an_outcome_is_said _ _ _ _ _ _ _ _ _ _ 3 [] c.interpret.ensures (rw c.in-Refused.is) c.if-answer-lt3.false refl
