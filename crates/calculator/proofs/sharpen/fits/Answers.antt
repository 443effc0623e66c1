-- `fits` by whether the size alone is too much.
use Rattle.std.proofs.Common.{◌+◌, ◌∙◌, sym, arith}
use borrow.Author.Tests.{lt-leb}
use Rattle.number.specs.Computed.{fits}
use Rattle.calculator.proofs.Fitting.{room_is_left}
use Rattle.calculator.proofs.sharpen.fits.Goals as goal

pub returns-then-size-limit : goal.returns-then-size-limit
unfolding fits
returns-then-size-limit c = room_is_left c.args.offset.range.hi c.args.size c.args.limit (omega arith)

pub returns-else-size-limit : goal.returns-else-size-limit
unfolding fits
returns-else-size-limit c =
    lt-leb c.args.size c.args.limit (omega arith) ∙ sym (lt-leb (c.args.offset.range.hi + c.args.size) c.args.limit (omega arith))
