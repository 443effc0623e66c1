-- `count` is what the range and the known bits tell.
use Rattle.number.specs.Compare.{common}
use Rattle.number.specs.Computed.{modulo}
use Rattle.calculator.proofs.operation.count.Goals as goal

pub returns : goal.returns
unfolding modulo common
returns g c = rw (c.share.ensures, c.counts.ensures, c.top.ensures, c.BITS.ensures, c.BITS-2.ensures)
