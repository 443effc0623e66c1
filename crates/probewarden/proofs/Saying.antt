-- What a C function promises, from what the routine that it calls promises.
use mathlib.Core.Path.{◌≡◌, refl, sym, ap}
use mathlib.Core.List.{List}
use Prim.Native.Nat.{ℕ, ◌/◌, ◌≤◌, ◌<◌}
use lib.ListN.{length}
use native.Mathlib.Omega.{arith}
use Rattle.machine.specs.declared.outcome.Outcome.{Outcome}
use Rattle.machine.specs.Machine.{Done, interpreted}
use Rattle.analysis.specs.declared.Finding.{Finding}
use Rattle.analysis.specs.declared.Finding.TheVariants.{Accepted, Refused}
use Rattle.analysis.specs.Answer.{Answer}
use Rattle.verifier.specs.Answered.{Promises, Untouched, answered}
use Rattle.verifier.proofs.Answers.{unchanged}
use Rattle.probewarden.specs.Encoding.{Said, answer_said, outcome_said, headed}
use Rattle.probewarden.specs.Exported.{Says, Taken, Tells, Means, Verified, Interpreted}
use Rattle.probewarden.proofs.Meaning.{an_answer_means}

pub is_said : (said : Said) (before after : List ℕ) (code : ℕ) (words : List ℕ) → said ≡ record { code = code; words = words }
    → after ≡ headed words before → Says said before after code
is_said said before after code words is stored = rw is (record { code_said = refl; words_said = stored })

-- ---- verify

no_finding_told : (f : Finding) (code : ℕ) (after : List ℕ) → 2 < code → Tells f code after → ⊥
no_finding_told Accepted code after high h = omega arith
no_finding_told (Refused reason place) code after high h = omega (arith, h.0)

-- a code above 2 is no answer of the verifier's, and means nothing
not_taken_means_nothing : (program : List ℕ) (R rules size : ℕ) (before : List ℕ) (code : ℕ) → (Taken rules before → ⊥) → 2 < code
    → Means program R rules size before before code
not_taken_means_nothing program R rules size before code other high = record {
  promised = λ f h. absurd (no_finding_told f code before high h);
  yes = (λ e. absurd (omega arith), λ h. absurd (other h.0));
  no = λ reason place v. (λ e. absurd (omega (arith, e.0)), λ h. absurd (other h.0));
  too_small = (λ e. absurd (omega arith), λ h. absurd (other h.0));
  yes_has_bound = λ e. absurd (omega arith);
}

pub no_room_to_verify : (program : List ℕ) (R rules : ℕ) (scratch before : List ℕ) → length before < 4
    → Verified program R rules scratch scratch before before 9
no_room_to_verify program R rules scratch before h = record {
  no_room = λ k. (refl, refl, refl);
  bad_rules = λ k l. absurd (omega arith);
  says = λ t. absurd (omega (arith, t.0));
  untouched = unchanged program R scratch;
  means = not_taken_means_nothing program R rules (length scratch) before 9 (λ t. omega (arith, t.0)) (omega arith);
}

pub unknown_rules : (program : List ℕ) (R rules : ℕ) (scratch before : List ℕ) → 4 ≤ length before → (rules ≡ 0 → ⊥)
    → Verified program R rules scratch scratch before before 11
unknown_rules program R rules scratch before room other = record {
  no_room = λ k. absurd (omega arith);
  bad_rules = λ k l. (refl, refl, refl);
  says = λ t. absurd (other t.1);
  untouched = unchanged program R scratch;
  means = not_taken_means_nothing program R rules (length scratch) before 11 (λ t. other t.1) (omega arith);
}

pub an_answer_is_said : (program : List ℕ) (R rules : ℕ) (scratch scratch' before after : List ℕ) (a : Answer) (code : ℕ)
    → 4 ≤ length before → rules ≡ 0 → a ≡ answered program R (length scratch) → Promises program R a → Untouched program R scratch scratch'
    → Says (answer_said (length program / 8) a) before after code → Verified program R rules scratch scratch' before after code
an_answer_is_said program R rules scratch scratch' before after a code room none is promises kept said = record {
  no_room = λ k. absurd (omega arith);
  bad_rules = λ k l. absurd (omega arith);
  says = λ t. rw (sym is) said;
  untouched = kept;
  means = an_answer_means program R (length scratch) a is promises before after rules code (room, none) said;
}

-- ---- run

pub no_room_to_run : (program rec : List ℕ) (P S : ℕ) (stack : List ℕ) (budget : ℕ) (before : List ℕ) → length before < 3
    → Interpreted program rec P S stack stack budget before before 9
no_room_to_run program rec P S stack budget before h =
    record { no_room = λ k. (refl, refl, refl); says = λ k. absurd (omega arith); stack_left = λ k. absurd (omega arith) }

pub an_outcome_is_said : (program rec : List ℕ) (P S : ℕ) (stack stack' : List ℕ) (budget : ℕ) (before after : List ℕ) (o : Outcome) (code : ℕ)
    (words : List ℕ) → record { outcome = o; stack = stack' } ≡ interpreted program rec P S stack budget
    → outcome_said o ≡ record { code = code; words = words } → 3 ≤ length before → after ≡ headed words before
    → Interpreted program rec P S stack stack' budget before after code
an_outcome_is_said program rec P S stack stack' budget before after o code words ran said room stored = record {
  no_room = λ k. absurd (omega arith);
  says = λ k. rw (sym ran) (is_said (outcome_said o) before after code words said stored);
  stack_left = λ k. ap (λ (d : Done). d.stack) ran;
}
