-- Numbers are compared; the first way leaves the state that the second sends.
use Rattle.std.proofs.Common.{arith}
use Rattle.std.proofs.lemmas.Result.{err_from_is_err_and}
use Rattle.waiting.specs.State.{held_in, of_kind}
use Rattle.verifier.proofs.Steps.{a_send_leaves, a_jump_on_no_numbers, a_jump_that_halts, a_jump_that_goes_on}
use Rattle.verifier.proofs.send.fork.Goals as goal
use Rattle.verifier.proofs.send.fork.Goals.{in_default-via-in-Plain+in_default, in_default-via-in_default}

pub returns-in_default : goal.returns-in_default
returns-in_default c =
    let is = c.state_at-state.ensures in
    rw c.unusable.ensures
    (a_jump_on_no_numbers _ _ _ _ _ _ _ _ _ _ _ (rw (is.0, is.1) at c.register-x.ensures.value) (rw (is.0, is.1) at c.operand_held-y.ensures)
    (λ p q. elim c.in_default.branch [ in_default-via-in-Plain+in_default w ↦ w.in_default.not-Plain-1 q | in_default-via-in_default w ↦ w.in_default.not-Plain-0 p ]))

pub returns-in_err-done : goal.returns-in_err-done
unfolding held_in of_kind
returns-in_err-done c =
    let is = c.state_at-state.ensures in
    let p = err_from_is_err_and c.from_residual.result c.from_residual.ensures.1 in
    rw (p.1, p.2)
    (a_jump_that_halts _ _ _ _ _ _ _ _ _ _ _ (rw (is.0, is.1) at c.register-x.ensures.value) (rw (is.0, is.1) at c.operand_held-y.ensures) _ _ (rw c.in-Plain-Plain.is-0, rw c.in-Plain-Plain.is-1) _
    c.told-onward.ensures _ _ _ (rw c.in_err-done.was at c.send_along.ensures))

pub send_along-requires-2 : goal.send_along-requires-2
send_along-requires-2 c =
    (c.requires.0, omega (arith, c.send_along.ensures.made.size, c.requires.1), omega (arith, a_send_leaves _ _ _ _ _ _ _ _ _ _ c.send_along.ensures c.in_ok-done.was, c.requires.2))

pub returns : goal.returns
unfolding held_in of_kind
returns c =
    let is = c.state_at-state.ensures in
    a_jump_that_goes_on _ _ _ _ _ _ _ _ _ _ _ (rw (is.0, is.1) at c.register-x.ensures.value) (rw (is.0, is.1) at c.operand_held-y.ensures) _ _ (rw c.in-Plain-Plain.is-0, rw c.in-Plain-Plain.is-1) _
    c.told-onward.ensures _ _ _ _ _ c.told-taken.ensures (rw c.in_ok-done.was at c.send_along.ensures) c.send_along-2.ensures
