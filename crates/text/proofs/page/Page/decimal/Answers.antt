-- The digits that `io::decimal` makes are the decimal's.
use mathlib.Core.Path.{◌∙◌}
use native.Mathlib.Omega.{arith}
use Rattle.text.proofs.Decimals.{decimal_digits}
use Rattle.text.proofs.page.Page.decimal.Goals as goal

pub returns : goal.returns
returns c = rw (c.decimal-k.ensures.digits ∙ decimal_digits _ _ c.decimal-k.ensures.len (omega arith)) at c.text.ensures
