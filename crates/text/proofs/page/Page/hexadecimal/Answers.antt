-- The digits that `io::hex` makes are the hexadecimal's.
use mathlib.Core.Path.{◌∙◌}
use native.Mathlib.Omega.{arith}
use Rattle.text.proofs.Hexadecimals.{hexadecimal_digits}
use Rattle.text.proofs.page.Page.hexadecimal.Goals as goal

pub returns : goal.returns
returns c = rw (c.hex-k.ensures.digits ∙ hexadecimal_digits _ _ c.hex-k.ensures.len (omega arith)) at c.text.ensures
