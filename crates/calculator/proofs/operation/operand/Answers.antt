-- `operand` is what the range and the known bits tell.
use Rattle.word.specs.Word.{cut}
use Rattle.number.specs.Compare.{common}
use Rattle.number.specs.Computed.{modulo}
use Rattle.calculator.proofs.operation.operand.Goals as goal

pub returns : goal.returns
unfolding modulo common cut
returns g c = rw (c.share.ensures, c.low.ensures, c.cut.ensures, c.cut-2.ensures, c.top.ensures)
