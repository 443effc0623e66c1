-- The search from index i on finds what the whole does.
use Rattle.std.proofs.Common.{◌≡◌, ◌-◌}
use Rattle.analysis.specs.Paths.{reaching, connected}
use Rattle.verifier.specs.Targets.{targets_in}
use Rattle.verifier.proofs.paths.connected.Given as goal

abbrev pub invariant-loop-i : goal.invariant-loop-i
invariant-loop-i l = reaching l.program (l.n - l.i) l.i l.on (targets_in l.targets.words) ≡ connected l.program
