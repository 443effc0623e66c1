-- Each instruction is an equation of the definition.
use Rattle.std.proofs.Common.{sym, ◌∙◌}
use Rattle.analysis.specs.Effects.{effect}
use Rattle.verifier.specs.Outcome.{effect_in, without_jumps}
use Rattle.verifier.proofs.ByKind.{one_value_read_as_two}
use Rattle.verifier.proofs.Outcomes.{jumps_or_nothing}
use Rattle.verifier.proofs.effect.outcome_of.Goals as goal

pub returns-in-Alu : goal.returns-in-Alu
unfolding effect without_jumps
returns-in-Alu c = λ i. rw c.in-Alu.is c.arithmetic.ensures

pub returns-in-Neg : goal.returns-in-Neg
unfolding effect without_jumps
returns-in-Neg c = λ i. rw (c.in-Neg.is, sym c.register-x.ensures.value) (c.calculated.ensures ∙ sym (one_value_read_as_two _ _))

pub returns-in-Exit : goal.returns-in-Exit
unfolding effect without_jumps
returns-in-Exit c = λ i. rw (c.in-Exit.is, sym c.register.ensures.value) c.exited.ensures

pub returns-in-Load : goal.returns-in-Load
unfolding effect without_jumps
returns-in-Load c = λ i. rw (c.in-Load.is, sym c.register-in-Load.ensures.value) c.loaded.ensures

pub returns-in-Store : goal.returns-in-Store
unfolding effect without_jumps
returns-in-Store c = λ i. rw (c.in-Store.is, sym c.register-in-Store.ensures.value, sym c.operand_held.ensures) c.stored.ensures

pub returns-in_default : goal.returns-in_default
unfolding effect effect_in
returns-in_default c = λ i. rw (jumps_or_nothing _ c.in_default.not-Alu c.in_default.not-Neg c.in_default.not-Exit c.in_default.not-Load c.in_default.not-Store)
