-- One more letter.
use Rattle.text.proofs.Pages.{wrote_none, wrote_more, longer_wrote}
use Rattle.text.proofs.page.Page.text.Goals as goal

pub loop-b-init : goal.loop-b-init
loop-b-init c = wrote_none _

pub loop-b-preserved : goal.loop-b-preserved
loop-b-preserved c = wrote_more _ _ c.loop-b.invariant c.letter.ensures.text c.loop-b-test.true

pub returns-clause-longer : goal.returns-clause-longer
returns-clause-longer c = longer_wrote c.loop-b.invariant
