-- `put8` is two writes of four bytes.
use Rattle.std.proofs.Common.{sym, ◌∙◌}
use Rattle.word.proofs.Bytes.{write_splits}
use Rattle.machine.proofs.memory.put8.Goals as goal

pub returns : goal.returns
returns c = c.put4-2.ensures ∙ rw c.put4.ensures (sym (write_splits 4 4 _ _ _))
