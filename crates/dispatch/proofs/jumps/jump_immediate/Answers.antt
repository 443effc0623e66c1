-- `jump_immediate`: a stop at a test, or what `go` leads to.
use Rattle.std.proofs.Common.{refl, ap, not, ne_eqb, eq-eqb}
use Rattle.dispatch.proofs.Answers.{unfit, reading, stops, passes, told}
use Rattle.dispatch.proofs.jumps.jump_immediate.Goals as goal

pub returns-then-f-ne0 : goal.returns-then-f-ne0
returns-then-f-ne0 c = λ g m e. stops _ _ _ (unfit (ne_eqb _ _ c.if-f-ne0.true)) _ _ m e _ _ _

pub returns-then-not-has : goal.returns-then-not-has
returns-then-not-has c = λ g m e. stops _ _ _ (reading (told _ _ _ c.has.ensures (ap not c.if-not-has.true))) _ _ m e _ _ _

pub returns : goal.returns
returns c = λ g m e. passes _ _ _ (eq-eqb _ _ c.if-f-ne0.false) refl (told _ _ _ c.has.ensures (ap not c.if-not-has.false)) (c.go.ensures g m e)
