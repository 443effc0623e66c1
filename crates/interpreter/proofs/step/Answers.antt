-- Off the end, or what `obey` leads to, on the fields that were fetched.
use Rattle.std.proofs.Common.{sym, rules}
use Rattle.dispatch.proofs.Answers.{leads_to, leads_fault}
use Rattle.interpreter.proofs.Runs.{step_off, step_at}
use Rattle.interpreter.proofs.step.Goals as goal

pub returns-then-program-pc : goal.returns-then-program-pc
returns-then-program-pc c = leads_to (step_off _ _ _ _ _ _ c.if-program-pc.true) (leads_fault _ _ _ _ _ (search rules) _)

pub returns : goal.returns
returns c = leads_to (step_at _ _ _ _ _ _ c.if-program-pc.false _ (sym c.fields_at-f.ensures.fields)) c.obey.ensures
