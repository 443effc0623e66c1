-- `negate`: a stop at a test, or what `change` leads to, since dst is set.
use Rattle.std.proofs.Common.{rules, le-leb, ap, not}
use borrow.Author.Tests.{lt-leb}
use Rattle.dispatch.proofs.Answers.{unfit, writing, reading, stops, passes, told}
use Rattle.dispatch.proofs.arithmetic.negate.Goals as goal

pub returns-then-not-f : goal.returns-then-not-f
returns-then-not-f c = λ m. stops _ _ _ (unfit c.if-not-f.true) _ _ m (search rules) _ _ _

pub returns-then-f-ge10 : goal.returns-then-f-ge10
returns-then-f-ge10 c = λ m. stops _ _ _ (writing (le-leb 10 _ c.if-f-ge10.true)) _ _ m (search rules) _ _ _

pub returns-then-not-has : goal.returns-then-not-has
returns-then-not-has c = λ m. stops _ _ _ (reading (told _ _ _ c.has.ensures (ap not c.if-not-has.true))) _ _ m (search rules) _ _ _

pub returns : goal.returns
returns c = λ m. passes _ _ _ c.if-not-f.false (lt-leb 10 _ c.if-f-ge10.false) (told _ _ _ c.has.ensures (ap not c.if-not-has.false)) (c.change.ensures m)
