-- Nothing of a pair with no value is lost by the cut of its mask.
use Rattle.std.proofs.Common.{◌^◌}
use native.Mathlib.Nat.{zero-mod}
use Rattle.word.specs.Word.{cut}
use Rattle.known_bits.specs.Formula.{low, among, shifted_unknown}
use Rattle.known_bits.specs.Shift.{operation}
use Rattle.bit_calculator.proofs.counts.unknown.Goals as goal

pub returns-in-Left : goal.returns-in-Left
unfolding operation shifted_unknown low among cut
returns-in-Left g c =
    rw (c.in-Left.is, c.among.ensures, c.cut.ensures, c.left_mask.ensures, c.top-in-Left.ensures, c.top.ensures, c.BITS.ensures, c.BITS-2.ensures, zero-mod (2 ^ g.W.Width.BITS))
