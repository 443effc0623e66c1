-- Little enough is done that no sum wraps.
use Rattle.std.proofs.Common.{refl, ◌∙◌}
use Rattle.verifier.proofs.Steps.{the_pass_begins, the_pass_goes_on, the_pass_halts, the_pass_ends}
use Rattle.verifier.proofs.pass.follow.Goals as goal

pub loop-i-init : goal.loop-i-init
loop-i-init c = record { size = refl; passing = the_pass_begins _ _ _ _ _ c.requires.0 c.requires.2 c.begin.ensures }

pub returns-in-Err : goal.returns-in-Err
returns-in-Err c =
    the_pass_halts _ _ _ _ _ _ _ _ _ _ c.loop-i-test.true (c.loop-i.invariant.size ∙ c.begin.ensures.size) c.loop-i.invariant.passing
    (rw c.in-Err.is at c.visit.ensures)

pub loop-i-preserved : goal.loop-i-preserved
loop-i-preserved c = record {
  size = c.visit.ensures.made.size ∙ c.loop-i.invariant.size;
  passing = the_pass_goes_on _ _ _ _ _ _ _ _ c.loop-i-test.true c.loop-i.invariant.passing (rw c.in-Ok.is at c.visit.ensures);
}

pub returns : goal.returns
returns c = the_pass_ends _ _ _ _ _ _ _ c.loop-i-test.false (c.loop-i.invariant.size ∙ c.begin.ensures.size) c.loop-i.invariant.passing
