-- Numbers are compared.
use Rattle.std.proofs.Common.{sym}
use Rattle.analysis.specs.Effects.{reading_both, is_never, is_mixed, fork}
use Rattle.waiting.specs.State.{held_in, of_kind}
use Rattle.verifier.proofs.ByKind.{they_may_not_be_compared}
use Rattle.verifier.proofs.inspect.fork_of.Goals as goal
use Rattle.verifier.proofs.inspect.fork_of.Goals.{in_default-via-in-Plain+in_default, in_default-via-in_default}

pub returns-in_default : goal.returns-in_default
returns-in_default c =
    let u = rw (c.state_at-state.ensures.0, c.state_at-state.ensures.1) at c.register-x.ensures.value in
    let v = rw (c.state_at-state.ensures.0, c.state_at-state.ensures.1) at c.operand_held-y.ensures in
    rw (sym u, sym v, c.unusable.ensures)
    (sym (they_may_not_be_compared _ _ _ _ _ _ _
    (λ p q. elim c.in_default.branch [ in_default-via-in-Plain+in_default w ↦ w.in_default.not-Plain-1 q | in_default-via-in_default w ↦ w.in_default.not-Plain-0 p ])))

pub returns : goal.returns
unfolding held_in of_kind reading_both is_never is_mixed fork
returns c =
    let u = rw (c.state_at-state.ensures.0, c.state_at-state.ensures.1) at c.register-x.ensures.value in
    let v = rw (c.state_at-state.ensures.0, c.state_at-state.ensures.1) at c.operand_held-y.ensures in
    rw (sym u, sym v, c.in-Plain-Plain.is-0, c.in-Plain-Plain.is-1, c.told-onward.ensures, c.told-taken.ensures)
