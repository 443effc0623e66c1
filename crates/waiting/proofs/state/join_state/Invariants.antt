use Rattle.waiting.proofs.States.{joined_state}
use Rattle.waiting.proofs.Words.{Storing}
use Rattle.waiting.proofs.state.join_state.Given as goal

abbrev pub invariant-loop-r : goal.invariant-loop-r
invariant-loop-r l = Storing l.initial.m l.m l.to (joined_state l.initial.m l.from l.to).registers l.r
