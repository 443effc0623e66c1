-- `trace`: what is live has few bits.
use Rattle.std.proofs.Common.{◌^◌, ◌<◌}
use Rattle.command.proofs.run.trace.Given as goal

abbrev pub invariant-steps : goal.invariant-steps
invariant-steps g l = l.live < 2 ^ 11
