-- `move_immediate`: a stop at a test, or what `keep` leads to.
use Rattle.std.proofs.Common.{refl, rules, le-leb}
use borrow.Author.Tests.{lt-leb}
use Rattle.dispatch.proofs.Answers.{unfit, writing, stops, passes}
use Rattle.dispatch.proofs.arithmetic.move_immediate.Goals as goal

pub returns-then-not-f : goal.returns-then-not-f
returns-then-not-f c = λ m. stops _ _ _ (unfit c.if-not-f.true) _ _ m (search rules) _ _ _

pub returns-then-f-ge10 : goal.returns-then-f-ge10
returns-then-f-ge10 c = λ m. stops _ _ _ (writing (le-leb 10 _ c.if-f-ge10.true)) _ _ m (search rules) _ _ _

pub returns : goal.returns
returns c = λ m. passes _ _ _ c.if-not-f.false (lt-leb 10 _ c.if-f-ge10.false) refl (c.keep.ensures m)
