-- What is left of two numbers on a way out of their comparison: none goes it, or each is sharper.
use Rattle.std.specs.Prelude.{Option}
use Rattle.number.specs.declared.Number.{Number}

abbrev pub Refined : Type 0
Refined = Option (Number × Number)
