-- What is stored is what is said of each answer.
use Rattle.probewarden.specs.Encoding.{finding_said, answer_said}
use Rattle.probewarden.proofs.Saying.{is_said}
use Rattle.probewarden.proofs.exported.tell.Goals as goal

pub returns-in-Err : goal.returns-in-Err
unfolding answer_said finding_said
returns-in-Err c = is_said _ _ _ _ _ (rw c.in-Err.is) c.store.ensures

pub returns-in-Accepted : goal.returns-in-Accepted
unfolding answer_said finding_said
returns-in-Accepted c = is_said _ _ _ _ _ (rw (c.in-Ok.is, c.in-Accepted.is)) c.store-in-Accepted.ensures

pub returns-in-Refused : goal.returns-in-Refused
unfolding answer_said finding_said
returns-in-Refused c = is_said _ _ _ _ _ (rw (c.in-Ok.is, c.in-Refused.is, ← c.reason_number.ensures)) c.store-in-Refused.ensures
