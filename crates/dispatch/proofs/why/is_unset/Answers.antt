-- `is_unset`: a bit of the mask; above its 64 bits there is none.
use Rattle.dispatch.proofs.Registers.{beyond_unset}
use Rattle.dispatch.proofs.why.is_unset.Goals as goal

pub returns : goal.returns
returns c = beyond_unset _ _ c.ranges.live.fits c.if-r-lt64.false
