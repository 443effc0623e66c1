-- `fetch` is four bytes above four bytes.
use Rattle.machine.proofs.Access.{joined}
use lib.Dec.{lit≤}
use Rattle.machine.proofs.memory.fetch.Goals as goal

pub returns : goal.returns
returns c = rw (c.fetch4.ensures, c.fetch4-2.ensures) (joined 4 4 _ _ (λ j. (c.type_inv.m j).fits) (lit≤ tt))
