-- `put2` writes two bytes, lowest first.
use Rattle.word.specs.Word.{write_bytes}
use borrow.Author.Rules.{rules}
use Rattle.machine.proofs.memory.put2.Goals as goal

pub returns : goal.returns
unfolding write_bytes
returns c = search rules
