-- The answer is that of `annotate`, and promises what the theorems say.
use Rattle.verifier.proofs.Promise.{the_answer_promises}
use Rattle.verifier.proofs.verify.verify.Goals as goal

pub returns : goal.returns
returns c = let a = c.annotate.ensures in record { answer = a.answer; promise = the_answer_promises _ _ _ _ a.answer; untouched = a.untouched }
