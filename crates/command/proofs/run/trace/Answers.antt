-- What goes on has few bits for what is live.
use Rattle.dispatch.proofs.Answers.{go_narrow}
use Rattle.command.proofs.run.trace.Goals as goal

pub steps-preserved : goal.steps-preserved
steps-preserved g c = go_narrow c.trace_step-traced.ensures.leads _ _ c.in-Go.is
