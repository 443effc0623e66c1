-- A test is passed or not, and the tests go on or end there.
use Rattle.verifier.proofs.Tests.{the_tests_go_on, a_test_fails, the_tests_end}
use Rattle.verifier.proofs.form.check.Goals as goal

pub returns-in-Err : goal.returns-in-Err
returns-in-Err c = a_test_fails _ _ _ _ _ c.loop-i-test.true c.test_at.ensures c.loop-i.invariant _ c.in-Err.is

pub loop-i-preserved : goal.loop-i-preserved
loop-i-preserved c = the_tests_go_on _ _ _ _ _ c.loop-i-test.true c.test_at.ensures c.loop-i.invariant c.in_default.is

pub returns : goal.returns
returns c = the_tests_end _ _ _ _ c.loop-i-test.false c.loop-i.invariant
