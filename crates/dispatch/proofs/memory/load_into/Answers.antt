-- `load_into`: a stop at a test, what was found kept in dst, or a bad access.
use Rattle.std.proofs.Common.{rules, le-leb, ap, not, ne_eqb, eq-eqb}
use borrow.Author.Tests.{lt-leb}
use Rattle.machine.specs.Machine.{address}
use Rattle.dispatch.proofs.Answers.{leads_to, leads_fault, unfit, writing, reading, stops, passes, told, load_found, load_lost}
use Rattle.dispatch.proofs.memory.load_into.Goals as goal

pub returns-then-f-ne0 : goal.returns-then-f-ne0
returns-then-f-ne0 c = stops _ _ _ (unfit (ne_eqb _ _ c.if-f-ne0.true)) _ _ _ (search rules) _ _ _

pub returns-then-f-ge10 : goal.returns-then-f-ge10
returns-then-f-ge10 c = stops _ _ _ (writing (le-leb 10 _ c.if-f-ge10.true)) _ _ _ (search rules) _ _ _

pub returns-then-not-has : goal.returns-then-not-has
returns-then-not-has c = stops _ _ _ (reading (told _ _ _ c.has.ensures (ap not c.if-not-has.true))) _ _ _ (search rules) _ _ _

pub returns-in-Some : goal.returns-in-Some
unfolding address
returns-in-Some c =
    passes _ _ _ (eq-eqb _ _ c.if-f-ne0.false) (lt-leb 10 _ c.if-f-ge10.false) (told _ _ _ c.has.ensures (ap not c.if-not-has.false))
    (leads_to (load_found _ _ _ _ (rw (← c.extend.ensures, ← c.load.ensures) c.in-Some.is)) (c.keep.ensures _))

pub returns-in-None : goal.returns-in-None
unfolding address
returns-in-None c =
    passes _ _ _ (eq-eqb _ _ c.if-f-ne0.false) (lt-leb 10 _ c.if-f-ge10.false) (told _ _ _ c.has.ensures (ap not c.if-not-has.false))
    (leads_to (load_lost _ _ _ (rw (← c.extend.ensures, ← c.load.ensures) c.in-None.is)) (leads_fault _ _ _ _ _ (search rules) _))
