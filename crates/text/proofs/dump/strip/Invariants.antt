use Rattle.std.proofs.Common.{◌≤◌}
use Rattle.text.proofs.Dumps.{Stripping}
use Rattle.text.proofs.dump.strip.Given as goal

abbrev pub invariant-loop-b : goal.invariant-loop-b
invariant-loop-b l = (l.n ≤ l.b-index) × Stripping l.s l.bare l.comment l.n l.b-index
