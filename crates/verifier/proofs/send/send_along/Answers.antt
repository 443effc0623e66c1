-- A way that is excluded sends nothing.
use Rattle.std.proofs.Common.{rules}
use Rattle.analysis.specs.Judged.{send, along}
use Rattle.verifier.proofs.send.send_along.Goals as goal

pub returns-in-None : goal.returns-in-None
unfolding send along
returns-in-None c = search rules

pub returns-in-Some : goal.returns-in-Some
unfolding send along
returns-in-Some c = rw c.in-Some.is c.send_with_both.ensures
