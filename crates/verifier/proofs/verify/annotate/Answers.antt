-- Each answer is a law of its own; a good length leaves no product and no sum to wrap.
use Rattle.std.proofs.Common.{refl, sym, ◌∙◌, arith}
use Rattle.verifier.proofs.Tests.{the_place_that_is_refused}
use Rattle.verifier.proofs.Answers.{a_bad_length, a_long_record, a_test_that_fails, a_good_length}
use Rattle.verifier.proofs.verify.annotate.Goals as goal

pub returns-then-bad_program : goal.returns-then-bad_program
returns-then-bad_program c = let a = a_bad_length c.args.program.now c.args.record_len c.args.scratch.now _ (sym c.bad_program.ensures ∙ c.if-bad_program.true) c.refusal.ensures in
    record { answer = a.0; values = a.1.0; untouched = a.1.1 }

pub returns-then-record_len-gt1024 : goal.returns-then-record_len-gt1024
returns-then-record_len-gt1024 c = let a = a_long_record c.args.program.now c.args.record_len c.args.scratch.now _ (sym c.bad_program.ensures ∙ c.if-bad_program.false) c.if-record_len-gt1024.true c.refusal-then-record_len-gt1024.ensures in
    record { answer = a.0; values = a.1.0; untouched = a.1.1 }

pub check-requires : goal.check-requires
check-requires c = ((a_good_length _ (sym c.bad_program.ensures ∙ c.if-bad_program.false)).1, refl)

pub overflow_add-result : goal.overflow_add-result
overflow_add-result c = omega (arith, the_place_that_is_refused _ _ _ _ _ (sym c.check.ensures ∙ c.in-Refused.is), a_good_length _ (sym c.bad_program.ensures ∙ c.if-bad_program.false))

pub returns-in-Refused : goal.returns-in-Refused
returns-in-Refused c = let a = a_test_that_fails c.args.program.now c.args.record_len c.args.scratch.now _ _ _ (sym c.bad_program.ensures ∙ c.if-bad_program.false) c.if-record_len-gt1024.false c.check.ensures c.in-Refused.is in
    record { answer = a.0; values = a.1.0; untouched = a.1.1 }
