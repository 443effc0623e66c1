-- What is left of the run from here is the whole run.
use Rattle.std.proofs.Common.{◌≡◌, ◌-◌, ◌^◌, ◌<◌}
use Rattle.machine.specs.Ground.{world_of}
use Rattle.machine.specs.Machine.{runs, start}
use Rattle.dispatch.specs.Represent.{state_of}
use Rattle.interpreter.proofs.run.Given as goal

abbrev pub invariant-loop-steps : goal.invariant-loop-steps
invariant-loop-steps l = record {
  narrow : l.live < 2 ^ 11;
  rest : runs l.program (world_of l.ground) (l.budget - l.steps) l.steps (state_of l.regs l.live l.stack l.pc)
      ≡ runs l.program (world_of l.ground) l.budget 0 (start (world_of l.ground));
}
