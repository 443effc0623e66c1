use Rattle.std.proofs.Common.{take}
use Rattle.text.specs.Page.{Wrote}
use Rattle.text.proofs.page.Page.text.Given as goal

abbrev pub invariant-loop-b : goal.invariant-loop-b
invariant-loop-b l = Wrote l.initial.self (take l.b-index l.s) l.self
