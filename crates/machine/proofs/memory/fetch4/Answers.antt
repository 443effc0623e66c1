-- `fetch4` is two bytes above two bytes.
use Rattle.machine.proofs.Access.{joined}
use lib.Dec.{lit≤}
use Rattle.machine.proofs.memory.fetch4.Goals as goal

pub returns : goal.returns
returns c = rw (c.fetch2.ensures, c.fetch2-2.ensures) (joined 2 2 _ _ (λ j. (c.type_inv.m j).fits) (lit≤ tt))
