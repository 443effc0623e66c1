-- `fetch2` is a byte above a byte.
use Rattle.machine.proofs.Access.{joined}
use lib.Dec.{lit≤}
use Rattle.machine.proofs.memory.fetch2.Goals as goal

pub returns : goal.returns
returns c = rw (c.fetch1.ensures, c.fetch1-2.ensures) (joined 1 1 _ _ (λ j. (c.type_inv.m j).fits) (lit≤ tt))
