-- The fields at an index are those of the instruction there.
use Rattle.std.proofs.Common.{sym}
use Rattle.verifier.proofs.Tests.{the_tests_at_an_index}
use Rattle.verifier.proofs.form.test_at.Goals as goal

pub returns : goal.returns
returns c = the_tests_at_an_index _ _ _ _ _ c.requires (sym c.fields_at.ensures.fields) c.test.ensures
