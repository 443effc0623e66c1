-- `join_state`: the first r registers are joined.
use Rattle.std.proofs.Common.{arith}
use Rattle.waiting.proofs.States.{a_register_is_joined, a_join_keeps_the_length}
use Rattle.waiting.proofs.Words.{all_is_stored}
use Rattle.waiting.proofs.state.join_state.Goals as goal

pub loop-r-preserved : goal.loop-r-preserved
loop-r-preserved c =
    a_register_is_joined _ _ _ _ _ _ c.requires.0 (omega arith) c.loop-r.invariant c.join_register.ensures

pub returns : goal.returns
returns c = all_is_stored _ _ _ _ c.loop-r.r (a_join_keeps_the_length _ _ _) (omega arith) c.loop-r.invariant
