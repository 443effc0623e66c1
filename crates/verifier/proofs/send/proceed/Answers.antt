-- Each outcome is an equation of the definition.
use Rattle.std.proofs.Common.{refl}
use Rattle.analysis.specs.Judged.{distribute, apply, and_then, send}
use Rattle.verifier.specs.Outcome.{effect_in}
use Rattle.verifier.proofs.Steps.{halting_changes_nothing, going_on_changes_nothing, a_step_with_no_second}
use Rattle.verifier.proofs.send.proceed.Goals as goal

pub returns-in-Put : goal.returns-in-Put
unfolding distribute apply effect_in
returns-in-Put c = rw (c.in-Ok.is, c.in-Put.is) (a_step_with_no_second _ _ _ _ _ _ c.put_next.ensures)

pub returns-in-Keep : goal.returns-in-Keep
unfolding distribute apply effect_in
returns-in-Keep c = rw (c.in-Ok.is, c.in-Keep.is) (a_step_with_no_second _ _ _ _ _ _ c.send.ensures)

pub returns-in-Stop : goal.returns-in-Stop
unfolding distribute apply effect_in and_then send
returns-in-Stop c = rw (c.in-Ok.is, c.in-Stop.is) (going_on_changes_nothing _ _ _ _ _ refl)

pub returns-in-Err : goal.returns-in-Err
unfolding distribute apply effect_in
returns-in-Err c = rw c.in-Err.is (halting_changes_nothing _ _ _ _ _)
