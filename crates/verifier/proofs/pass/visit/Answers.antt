-- An index that no path reaches is passed over; at another a jump or an outcome goes on.
use Rattle.std.proofs.Common.{sym, ap, ◌∙◌, eqb-true}
use borrow.Author.Tests.{eqb-false}
use Rattle.analysis.specs.Effects.{effect}
use Rattle.verifier.proofs.Outcomes.{no_jump}
use Rattle.verifier.proofs.Tests.{an_instruction_is_decoded}
use Rattle.verifier.proofs.Steps.{an_index_that_no_path_reaches, an_index_that_a_path_reaches, a_jump_is_reached, a_way_is_reached}
use Rattle.verifier.proofs.pass.visit.Goals as goal

pub returns-then-not-waits_at : goal.returns-then-not-waits_at
returns-then-not-waits_at c = an_index_that_no_path_reaches _ _ _ _ _ _ (eqb-false _ _ (sym c.waits_at.ensures ∙ c.if-not-waits_at.true))

pub returns-in-Jump : goal.returns-in-Jump
returns-in-Jump c =
    a_jump_is_reached _ _ _ _ _ _ _ _ _ _ _ c.args.at.inside.0 c.requires.0 (eqb-true _ _ (sym c.waits_at.ensures ∙ c.if-not-waits_at.false))
    (c.decode.ensures ∙ an_instruction_is_decoded _ _ _ c.requires.0 c.args.at.inside.0) c.target-target.ensures _ _ _ _ c.in-Jump.is c.jump.ensures

pub returns-in-Always : goal.returns-in-Always
returns-in-Always c =
    a_way_is_reached _ _ _ _ _ _ _ _ _ _ _ c.args.at.inside.0 c.requires.0 (eqb-true _ _ (sym c.waits_at.ensures ∙ c.if-not-waits_at.false))
    (c.decode.ensures ∙ an_instruction_is_decoded _ _ _ c.requires.0 c.args.at.inside.0) c.target-target-in-Always.ensures c.in-Always.is c.send.ensures

pub returns-in_default : goal.returns-in_default
returns-in_default c =
    let does = rw (c.state_at.ensures.0, c.state_at.ensures.1) at c.outcome_of-outcome.ensures in
    an_index_that_a_path_reaches _ _ _ _ _ _ _ _ _ _ c.args.at.inside.0 c.requires.0 (eqb-true _ _ (sym c.waits_at.ensures ∙ c.if-not-waits_at.false))
    (c.decode.ensures ∙ an_instruction_is_decoded _ _ _ c.requires.0 c.args.at.inside.0)
    (does _ ∙ ap (effect _ _ _) (no_jump _ _ c.in_default.not-Jump c.in_default.not-Always)) c.proceed.ensures
