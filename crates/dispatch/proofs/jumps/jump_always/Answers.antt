-- `jump_always`: a stop at a test, or what `go` leads to.
use Rattle.std.proofs.Common.{refl}
use Rattle.dispatch.proofs.Answers.{unfit, stops, passes}
use Rattle.dispatch.proofs.jumps.jump_always.Goals as goal

pub returns-then-not-f : goal.returns-then-not-f
returns-then-not-f c = λ g m e. stops _ _ _ (unfit c.if-not-f.true) _ _ m e _ _ _

pub returns : goal.returns
returns c = λ g m e. passes _ _ _ c.if-not-f.false refl refl (c.go.ensures g m e)
