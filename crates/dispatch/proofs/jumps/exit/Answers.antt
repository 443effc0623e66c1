-- `exit`: a stop at a test, or the verdict.
use Rattle.std.proofs.Common.{refl, ap, not}
use Rattle.dispatch.proofs.Answers.{leads_end, unfit, reading, stops, passes, told}
use Rattle.dispatch.proofs.jumps.exit.Goals as goal

pub returns-then-not-f : goal.returns-then-not-f
returns-then-not-f c = λ pc g m e. stops _ _ _ (unfit c.if-not-f.true) _ _ m e _ _ _

pub returns-then-not-has : goal.returns-then-not-has
returns-then-not-has c = λ pc g m e. stops _ _ _ (reading (told _ _ _ c.has.ensures (ap not c.if-not-has.true))) _ _ m e _ _ _

pub returns : goal.returns
returns c = λ pc g m e. passes _ _ _ c.if-not-f.false refl (told _ _ _ c.has.ensures (ap not c.if-not-has.false)) (leads_end _ _ m _ _ e _)
