-- `register`: five words for each register before it.
use Rattle.std.proofs.Common.{sym, ap, ◌∙◌}
use Rattle.waiting.specs.State.{of_kind, held_in, unset}
use Rattle.waiting.proofs.States.{register_in_range, register_out_of_range}
use Rattle.waiting.proofs.state.State.register.Goals as goal

pub returns-then-r-clause-value : goal.returns-then-r-clause-value
returns-then-r-clause-value c = ap held_in c.held_at.ensures ∙ sym (register_in_range _ _ _ c.if-r.true)

pub returns-else-r-clause-value : goal.returns-else-r-clause-value
unfolding held_in of_kind unset
returns-else-r-clause-value c = ap held_in c.unset.ensures ∙ sym (register_out_of_range _ _ _ c.if-r.false)
