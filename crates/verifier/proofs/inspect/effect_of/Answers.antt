-- A jump is shortened, and any other instruction has an outcome.
use Rattle.std.proofs.Common.{sym, ap, ◌∙◌}
use Rattle.analysis.specs.Effects.{effect}
use Rattle.verifier.specs.Sending.{shortened}
use Rattle.verifier.proofs.Outcomes.{no_jump}
use Rattle.verifier.proofs.inspect.effect_of.Goals as goal

pub returns-in-Jump : goal.returns-in-Jump
unfolding effect shortened
returns-in-Jump c = rw (c.in-Jump.is, sym c.target-target.ensures) c.fork_of.ensures

pub returns-in-Always : goal.returns-in-Always
unfolding effect shortened
returns-in-Always c = rw (c.in-Always.is, c.target.ensures)

pub returns-in_default : goal.returns-in_default
unfolding effect shortened
returns-in_default c =
    let does = rw (c.state_at.ensures.0, c.state_at.ensures.1) at c.outcome_of.ensures in
    c.effect_of_outcome.ensures ∙ does _ ∙ ap (effect _ _ _) (no_jump _ _ c.in_default.not-Jump c.in_default.not-Always)
