use Rattle.waiting.proofs.States.{Copying}
use Rattle.waiting.proofs.state.copy_state.Given as goal

abbrev pub invariant-loop-k : goal.invariant-loop-k
invariant-loop-k l = Copying l.initial.m l.m l.from l.to l.k
