use Rattle.std.proofs.Common.{◌≡◌}
use Rattle.known_bits.specs.Formula.{low_digits}
use Rattle.bit_calculator.proofs.products.shift_and_add.Given as goal

abbrev pub invariant-loop-k : goal.invariant-loop-k
invariant-loop-k l = l.r ≡ low_digits 64 l.a l.b l.k
