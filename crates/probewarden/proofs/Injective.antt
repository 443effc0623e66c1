-- No two answers are said alike: the code and the words tell the answer.
use mathlib.Core.Path.{◌≡◌, refl, sym, ap, ◌∙◌}
use Prim.Native.Nat.{ℕ}
use mathlib.Core.Bool.{cond}
use lib.ListN.{get_or}
use lib.Dec.{eqb}
use Rattle.machine.specs.declared.outcome.Cause.{Cause}
use Rattle.machine.specs.declared.outcome.Cause.TheVariants.{BadCode, OffEnd, Unset, WriteR10, BadAccess}
use Rattle.machine.specs.declared.outcome.Outcome.{Outcome}
use Rattle.machine.specs.declared.outcome.Outcome.TheVariants.{Verdict, Fault, Budget, Refused}
use Rattle.analysis.specs.declared.Reason.{Reason}
use Rattle.analysis.specs.declared.Reason.TheVariants.{BadLength, LongRecord, NoCode, WritesR10, JumpsBack, JumpsOut, ReadsUnset, Outside, LeaksAddress, DeadCode}
use Rattle.analysis.specs.declared.Finding.{Finding}
use Rattle.analysis.specs.declared.Finding.TheVariants as finding
use Rattle.analysis.specs.Judged.{reason_number}
use Rattle.std.specs.Prelude.{Ok, Err}
use Rattle.analysis.specs.Answer.{Answer}
use Rattle.reasons.specs.Numbers.{fault_number}
use Rattle.probewarden.specs.Encoding.{Said, finding_said, answer_said, outcome_said}

-- ---- numbers tell reasons and faults

reason_numbered : ℕ → Reason
reason_numbered n =
    cond (eqb n 1) BadLength
    (cond (eqb n 2) LongRecord
    (cond (eqb n 3) NoCode
    (cond (eqb n 4) WritesR10
    (cond (eqb n 5) JumpsBack
    (cond (eqb n 6) JumpsOut
    (cond (eqb n 7) ReadsUnset
    (cond (eqb n 8) Outside
    (cond (eqb n 9) LeaksAddress
    DeadCode))))))))

a_reason_by_its_number : (reason : Reason) → reason_numbered (reason_number reason) ≡ reason
unfolding reason_numbered reason_number
a_reason_by_its_number BadLength = refl
a_reason_by_its_number LongRecord = refl
a_reason_by_its_number NoCode = refl
a_reason_by_its_number WritesR10 = refl
a_reason_by_its_number JumpsBack = refl
a_reason_by_its_number JumpsOut = refl
a_reason_by_its_number ReadsUnset = refl
a_reason_by_its_number Outside = refl
a_reason_by_its_number LeaksAddress = refl
a_reason_by_its_number DeadCode = refl

pub a_reason_has_its_own_number : (r s : Reason) → reason_number r ≡ reason_number s → r ≡ s
a_reason_has_its_own_number r s e = sym (a_reason_by_its_number r) ∙ ap reason_numbered e ∙ a_reason_by_its_number s

fault_numbered : ℕ → Cause
fault_numbered n = cond (eqb n 1) BadCode (cond (eqb n 2) OffEnd (cond (eqb n 3) Unset (cond (eqb n 4) WriteR10 BadAccess)))

a_fault_by_its_number : (cause : Cause) → fault_numbered (fault_number cause) ≡ cause
unfolding fault_numbered
a_fault_by_its_number BadCode = refl
a_fault_by_its_number OffEnd = refl
a_fault_by_its_number Unset = refl
a_fault_by_its_number WriteR10 = refl
a_fault_by_its_number BadAccess = refl

-- ---- and what is said tells the answer

word_of : Said → ℕ → ℕ
word_of s k = get_or s.words k 0

answer_from : ℕ → Said → Answer
answer_from code s =
    cond (eqb code 0) (Ok (record { finding = finding.Accepted; work = word_of s 2 }))
    (cond (eqb code 1) (Ok (record { finding = finding.Refused (reason_numbered (word_of s 0)) (word_of s 1); work = word_of s 2 }))
    (Err (record { words = word_of s 0 })))

a_judgement_from_what_is_said : (n : ℕ) (f : Finding) (work : ℕ)
    → answer_from (finding_said n f work).code (finding_said n f work) ≡ Ok (record { finding = f; work = work })
unfolding answer_from finding_said word_of
a_judgement_from_what_is_said n finding.Accepted work = refl
a_judgement_from_what_is_said n (finding.Refused reason place) work =
    ap (λ r. Ok (record { finding = finding.Refused r place; work = work })) (a_reason_by_its_number reason)

an_answer_from_what_is_said : (n : ℕ) (a : Answer) → answer_from (answer_said n a).code (answer_said n a) ≡ a
unfolding answer_from answer_said word_of
an_answer_from_what_is_said n (Ok j) = a_judgement_from_what_is_said n j.finding j.work
an_answer_from_what_is_said n (Err small) = refl

pub no_two_answers_are_said_alike : (n m : ℕ) (a b : Answer) → answer_said n a ≡ answer_said m b → a ≡ b
no_two_answers_are_said_alike n m a b e =
    sym (an_answer_from_what_is_said n a) ∙ ap (λ s. answer_from s.code s) e ∙ an_answer_from_what_is_said m b

outcome_from : ℕ → Said → Outcome
outcome_from code s =
    cond (eqb code 0) (Verdict (word_of s 0) (word_of s 1))
    (cond (eqb code 1) (Fault (fault_numbered (word_of s 0)) (word_of s 2) (word_of s 1))
    (cond (eqb code 2) (Budget (word_of s 1))
    Refused))

an_outcome_from_what_is_said : (o : Outcome) → outcome_from (outcome_said o).code (outcome_said o) ≡ o
unfolding outcome_from outcome_said word_of
an_outcome_from_what_is_said (Verdict value steps) = refl
an_outcome_from_what_is_said (Fault cause at steps) = ap (λ f. Fault f at steps) (a_fault_by_its_number cause)
an_outcome_from_what_is_said (Budget steps) = refl
an_outcome_from_what_is_said Refused = refl

pub no_two_outcomes_are_said_alike : (o p : Outcome) → outcome_said o ≡ outcome_said p → o ≡ p
no_two_outcomes_are_said_alike o p e =
    sym (an_outcome_from_what_is_said o) ∙ ap (λ s. outcome_from s.code s) e ∙ an_outcome_from_what_is_said p
