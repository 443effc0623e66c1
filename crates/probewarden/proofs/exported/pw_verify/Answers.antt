-- `pw_verify`: what the verifier answers is said, unless there is no room or the rules are not known.
use Rattle.probewarden.proofs.Saying.{an_answer_is_said}
use Rattle.probewarden.proofs.exported.pw_verify.Goals as goal

pub returns : goal.returns
returns c = let found = c.verify-found.ensures in an_answer_is_said _ _ _ _ _ _ _ _ _ c.if-answer-lt4.false c.if-rules-ne0.false found.answer found.promise found.untouched c.tell.ensures
