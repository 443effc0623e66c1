-- A traced step is a step of the machine, and the cause that it tells is that of the machine's fault.
use Rattle.std.specs.Prelude.{◌≡◌, List, ℕ, ◌≤◌}
use Rattle.machine.specs.declared.outcome.Cause.{Cause}
use Rattle.machine.specs.Machine.{World, faults, step}
use Rattle.dispatch.specs.Represent.{state_of, LeadsOn}
use Rattle.tracing.specs.declared.Traced.{Traced}

pub record Steps (program : List ℕ) (w : World) (pc live : ℕ) (regs regs' stack stack' : List ℕ) (room : ℕ) (r : Traced) : Type 0 where
  pub leads : LeadsOn r.next regs regs' stack stack' live pc (λ t. step program w t)
  pub fits : r.bytes ≤ room
  pub because : (c : Cause) → step program w (state_of regs live stack pc) ≡ faults c → r.cause ≡ c
