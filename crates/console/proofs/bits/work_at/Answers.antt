-- `work_at` goes by the task, and each task has its law.
use Rattle.console.proofs.Serving.{serves_alu, serves_both, serves_cut}
use Rattle.console.proofs.bits.work_at.Goals as goal

pub returns-in-Alu : goal.returns-in-Alu
returns-in-Alu g c = rw c.in-Alu.is (serves_alu _ _ _ _ _ c.alu.ensures.computed)

pub returns-in-Join : goal.returns-in-Join
returns-in-Join g c = rw c.in-Join.is (serves_both _ _ _ _ _ _ c.join.ensures.sound c.join.ensures.best c.cut.ensures.best c.cut-in-Join.ensures.best)

pub returns-in-Cut : goal.returns-in-Cut
returns-in-Cut g c = rw c.in-Cut.is (serves_cut _ _ _ _ c.cut-in-Cut.ensures.best)
