-- `left_mask` is the formula: one shifted by a count is a power of two.
use Rattle.std.proofs.Common.{arith}
use Rattle.known_bits.specs.Formula.{highest_shifted, left_mask}
use Rattle.bit_calculator.proofs.Words.{one_shifted_is_the_power, saturated_product}
use Rattle.bit_calculator.proofs.counts.left_mask.Goals as goal

pub returns : goal.returns
unfolding left_mask highest_shifted
returns c =
    let a = c.args in
    rw (
      c.from_bit.ensures,
      c.trailing.ensures,
      c.up_to.ensures,
      c.saturating_mul.ensures,
      one_shifted_is_the_power a.most (omega arith),
      saturated_product,
    )
