-- `clear`: the first j marks are cleared.
use Rattle.std.proofs.Common.{arith}
use Rattle.waiting.proofs.Blocks.{all_is_cleared}
use Rattle.waiting.proofs.store.clear.Goals as goal

pub returns : goal.returns
returns c = all_is_cleared _ _ _ (omega arith) (λ x h. c.loop-j.invariant x (omega arith))
