-- `put4` is two writes of two bytes.
use Rattle.std.proofs.Common.{sym, ◌∙◌}
use Rattle.word.proofs.Bytes.{write_splits}
use Rattle.machine.proofs.memory.put4.Goals as goal

pub returns : goal.returns
returns c = c.put2-2.ensures ∙ rw c.put2.ensures (sym (write_splits 2 2 _ _ _))
