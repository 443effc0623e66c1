-- Which operation of the machine each of the three shifts is.
use Rattle.word.specs.declared.Operation.{Operation}
use Rattle.word.specs.declared.Operation.TheVariants.{Lsh, Rsh, Arsh}
use Rattle.known_bits.specs.declared.Shift.{Shift}
use Rattle.known_bits.specs.declared.Shift.TheVariants.{Left, Right, Signed}

unfoldable pub operation : Shift → Operation
operation Left = Lsh
operation Right = Rsh
operation Signed = Arsh
