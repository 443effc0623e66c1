-- The measure is what is left of the lines.
use Rattle.std.proofs.Common.{◌≤◌, length}
use Rattle.batch.proofs.Memory.answer_lines.Given as goal

abbrev pub invariant-loop-end : goal.invariant-loop-end
invariant-loop-end g l = length l.rest ≤ length l.lines

abbrev pub decreases-loop-end : goal.decreases-loop-end
decreases-loop-end g l = length l.rest
