-- `copy_state`: the first k words are copied.
use Rattle.std.proofs.Common.{arith}
use Rattle.waiting.proofs.States.{a_state_is_copied}
use Rattle.waiting.proofs.state.copy_state.Goals as goal

pub returns : goal.returns
returns c = a_state_is_copied _ _ _ _ c.loop-k.k (omega arith) c.loop-k.invariant
