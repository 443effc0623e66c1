-- A target outside is refused, and else the state arrives.
use Rattle.verifier.proofs.Steps.{what_leads_out_is_refused, what_is_sent_arrives}
use Rattle.verifier.proofs.send.send.Goals as goal

pub returns-then-n-j : goal.returns-then-n-j
returns-then-n-j c = what_leads_out_is_refused _ _ _ _ _ _ c.if-n-j.true

pub returns : goal.returns
returns c = what_is_sent_arrives _ _ _ _ _ _ _ c.if-n-j.false c.arrive.ensures
