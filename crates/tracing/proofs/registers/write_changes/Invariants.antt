use Rattle.text.specs.Page.{Longer}
use Rattle.tracing.proofs.registers.write_changes.Given as goal

abbrev pub invariant-loop-k : goal.invariant-loop-k
invariant-loop-k l = Longer l.initial.page l.page
