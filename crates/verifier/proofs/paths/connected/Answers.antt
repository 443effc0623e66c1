-- The search begins, goes on, and ends or finds dead code.
use Rattle.std.proofs.Common.{sym}
use Rattle.analysis.proofs.FormLaws.{passes_fine}
use Rattle.verifier.proofs.Targets.{the_search_begins, the_search_goes_on, dead_code_is_found, the_search_ends}
use Rattle.verifier.proofs.paths.connected.Goals as goal

pub loop-i-init : goal.loop-i-init
loop-i-init c = the_search_begins _ _ c.requires.1

pub returns-then-not-on-contains : goal.returns-then-not-on-contains
returns-then-not-on-contains c =
    dead_code_is_found _ _ _ _ _ _ c.loop-i-test.true c.loop-i.invariant (rw (sym c.contains.ensures) c.if-not-on-contains.true)

pub leave-on-requires-clause-fine : goal.leave-on-requires-clause-fine
leave-on-requires-clause-fine c = rw c.requires.1 (passes_fine _ c.requires.2 _ (rw (sym c.requires.1) c.loop-i-test.true))

pub loop-i-preserved : goal.loop-i-preserved
loop-i-preserved c =
    the_search_goes_on _ _ _ _ _ _ c.loop-i-test.true c.loop-i.invariant _ _ (rw (sym c.contains.ensures) c.if-not-on-contains.false) c.leave-on.ensures

pub returns : goal.returns
returns c = the_search_ends _ _ _ _ _ _ c.loop-i-test.false c.loop-i.invariant
