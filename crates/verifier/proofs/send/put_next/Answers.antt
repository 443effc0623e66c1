-- Where nothing waits the state is changed at its new place.
use Rattle.verifier.proofs.Steps.{what_is_sent_arrives}
use Rattle.verifier.proofs.send.put_next.Goals as goal

pub returns-then-not-waits_at : goal.returns-then-not-waits_at
returns-then-not-waits_at c = what_is_sent_arrives _ _ _ _ _ _ _ c.if-at.true c.arrive_with.ensures
