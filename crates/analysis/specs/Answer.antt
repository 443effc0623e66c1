-- What a verifier says of a program that is given to it with memory to work in: what it finds, or how many words of memory it takes.
use Rattle.std.specs.Prelude.{Result}
use Rattle.analysis.specs.declared.Judged.{Judged}
use Rattle.analysis.specs.declared.ScratchTooSmall.{ScratchTooSmall}

abbrev pub Answer : Type 0
Answer = Result Judged ScratchTooSmall
