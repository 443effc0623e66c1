-- The low bits of a product are those of a word.
use Rattle.std.proofs.Common.{◌∙◌}
use Rattle.word.proofs.Widths.{fits_a_word}
use Rattle.known_bits.specs.Formula.{formula}
use Rattle.bit_calculator.proofs.Widths.{greatest_word}
use Rattle.bit_calculator.proofs.operation.formula.Goals as goal

pub returns-in-Mul : goal.returns-in-Mul
unfolding formula
returns-in-Mul g c =
    let three = g.met.W.Width.one_of_three in
    rw c.in-Mul.is (c.mul.ensures g.W.Width.BITS (fits_a_word three) (c.cut.ensures ∙ greatest_word three))
