-- `shift_fits` by whether the count is one of a word.
use Rattle.std.proofs.Common.{arith}
use Rattle.calculator.proofs.Fitting.{fits_if_shifted_back, only_zero_is_shifted_far}
use Rattle.calculator.proofs.range.shift_fits.Goals as goal

pub returns-then-n-lt64 : goal.returns-then-n-lt64
returns-then-n-lt64 c = fits_if_shifted_back c.args.x c.args.n

pub returns-else-n-lt64 : goal.returns-else-n-lt64
returns-else-n-lt64 c = only_zero_is_shifted_far c.args.x c.args.n (omega arith)
