-- `fetch1` is the byte itself.
use Rattle.std.proofs.Common.{arith}
use Rattle.word.specs.Word.{read_bytes}
use Rattle.machine.proofs.memory.fetch1.Goals as goal

pub returns : goal.returns
unfolding read_bytes
returns c = omega arith
