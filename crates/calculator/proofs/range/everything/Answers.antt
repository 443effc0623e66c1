-- All bits of a width are its greatest number.
use Rattle.number.specs.Sharpen.{everything}
use Rattle.bit_calculator.proofs.Words.{greatest_of_a_width}
use Rattle.calculator.proofs.range.everything.Goals as goal

pub returns : goal.returns
unfolding everything
returns g c =
    λ i. record { lo = 0; hi = greatest_of_a_width g.met.W.Width.one_of_three c.cut.ensures i }
