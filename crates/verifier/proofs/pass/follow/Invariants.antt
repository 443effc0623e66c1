-- The pass from index i on ends as the whole does.
use Rattle.std.proofs.Common.{◌≡◌, length}
use Rattle.verifier.proofs.Steps.{Passing}
use Rattle.verifier.proofs.pass.follow.Given as goal

abbrev pub invariant-loop-i : goal.invariant-loop-i
invariant-loop-i l = record { size : length l.m ≡ length l.initial.m; passing : Passing l.program l.rlen l.n l.i l.m l.work }
