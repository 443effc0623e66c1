-- `join` of the pairs, which are words, and of the ends.
use Rattle.std.proofs.Common.{rules}
use Rattle.known_bits.proofs.Class4.{low_same}
use Rattle.number.specs.Sharpen.{joined_range, joined_number}
use Rattle.calculator.proofs.sharpen.join.Goals as goal

pub returns : goal.returns
unfolding joined_number joined_range
returns c =
    let p = c.args.a.bits in
    let q = c.args.b.bits in
    rw (
      ← low_same 64 p (search rules) (search rules),
      ← low_same 64 q (search rules) (search rules),
      c.join.ensures.value,
      c.min.ensures,
      c.max.ensures,
    )
