-- What is read stays within the buffer. The measure is the room that is left.
use Rattle.std.proofs.Common.{◌-◌, ◌≤◌, length}
use Rattle.terminal.proofs.file.read_full.Given as goal

abbrev pub invariant-loop-done : goal.invariant-loop-done
invariant-loop-done g l = l.done ≤ length l.file

abbrev pub decreases-loop-done : goal.decreases-loop-done
decreases-loop-done g l = length l.file - l.done
