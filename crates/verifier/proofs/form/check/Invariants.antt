-- The tests from index i on give what all of them do.
use Rattle.std.proofs.Common.{◌≡◌, ◌-◌, ◌/◌, length}
use Rattle.analysis.specs.Judged.{formed}
use Rattle.verifier.proofs.form.check.Given as goal

abbrev pub invariant-loop-i : goal.invariant-loop-i
invariant-loop-i l = formed l.program (l.n - l.i) l.i ≡ formed l.program (length l.program / 8) 0
