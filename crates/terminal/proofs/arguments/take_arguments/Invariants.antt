-- What is taken stays within the buffer.
use Rattle.std.proofs.Common.{◌≤◌, length}
use Rattle.terminal.proofs.arguments.take_arguments.Given as goal

abbrev pub invariant-loop-i : goal.invariant-loop-i
invariant-loop-i g l = l.at ≤ length l.args
