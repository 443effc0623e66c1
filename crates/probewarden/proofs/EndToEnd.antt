-- From a yes to the verdict: what a run of an accepted program comes to, by the definitions, and as the two C functions tell it.
use mathlib.Core.Path.{◌≡◌, refl, sym, ap, ◌∙◌, subst}
use mathlib.Core.Bool.{cond}
use mathlib.Core.Logic.{◌↔◌, ◌⊎◌, inl, inr, ⊎_elim}
use mathlib.Core.List.{List}
use Prim.Native.Nat.{ℕ, ◌≤◌}
use lib.ListN.{length, get_or}
use lib.Dec.{leb}
use native.Mathlib.Omega.{arith}
use borrow.Author.Tests.{le-leb}
use Rattle.machine.specs.declared.outcome.Outcome.{Outcome}
use Rattle.machine.specs.declared.outcome.Outcome.TheVariants.{Verdict, Fault, Budget, Refused}
use Rattle.machine.specs.Machine.{Done, interpreted}
use Rattle.machine.proofs.Refusals.{refused_broken, broken_refused}
use Rattle.analysis.specs.declared.Finding.TheVariants.{Accepted}
use Rattle.analysis.specs.Judged.{judged}
use Rattle.analysis.specs.Safe.{Bytes, Answer, Safe, Allowed}
use Rattle.analysis.proofs.Theorem.{accepted_safe}
use Rattle.analysis.proofs.Worlds.{not_refused_iff_allowed}
use Rattle.probewarden.specs.Encoding.{outcome_said}
use Rattle.probewarden.specs.Exported.{Verified, Interpreted}

-- an accepted program comes to one verdict after one number of steps, at most n, which `answer` has for every layout and every budget, or
-- to "budget"; it is refused exactly where the lengths or the addresses are not allowed, and then the stack is as it was
pub record Runs (program rec : List ℕ) (P S : ℕ) (stack : List ℕ) (budget : ℕ) (run : Done) : Type 0 where
  pub answer : Answer program rec
  pub outcome : Allowed program rec stack P S
      → run.outcome ≡ cond (leb answer.steps budget) (Verdict answer.verdict answer.steps) (Budget budget)
  pub left : Allowed program rec stack P S → run.stack ≡ answer.left budget
  pub refused : (run.outcome ≡ Refused) ↔ (Allowed program rec stack P S → ⊥)
  pub untouched : run.outcome ≡ Refused → run.stack ≡ stack

abbrev Ran : Outcome → Type 0
Ran (Verdict v k) = Unit {0}
Ran (Fault c i k) = Unit {0}
Ran (Budget k) = Unit {0}
Ran Refused = ⊥

refused_or_not : (o : Outcome) → (o ≡ Refused) ⊎ (o ≡ Refused → ⊥)
refused_or_not (Verdict v k) = inr (λ e. subst Ran e tt)
refused_or_not (Fault c i k) = inr (λ e. subst Ran e tt)
refused_or_not (Budget k) = inr (λ e. subst Ran e tt)
refused_or_not Refused = inl refl

module _ (program rec : List ℕ) (P S : ℕ) (stack : List ℕ) (budget : ℕ) where
  -- where memory is laid as it may be, this is the run of that layout
  laid_run : (a : Allowed program rec stack P S)
      → interpreted program rec P S stack budget ≡ interpreted program rec a.world.P a.world.S a.world.before budget
  laid_run a i = interpreted program rec (sym a.same_P i) (sym a.same_S i) (sym a.same_stack i) budget

  not_allowed_refused : (Allowed program rec stack P S → ⊥) → (interpreted program rec P S stack budget).outcome ≡ Refused
  not_allowed_refused n =
      ⊎_elim (λ h. h) (λ h. absurd (n ((not_refused_iff_allowed program rec stack P S budget).0 h)))
      (refused_or_not (interpreted program rec P S stack budget).outcome)

  refused_untouched : (interpreted program rec P S stack budget).outcome ≡ Refused → (interpreted program rec P S stack budget).stack ≡ stack
  refused_untouched r =
      ap (λ (d : Done). d.stack) (broken_refused program rec stack P S budget (refused_broken program rec stack P S budget r))

  safe_runs : Safe program (length rec) → Bytes rec → Runs program rec P S stack budget (interpreted program rec P S stack budget)
  unfolding Safe
  safe_runs safe bytes =
      record {
        answer = safe rec refl bytes;
        outcome = λ a. ap (λ (d : Done). d.outcome) (laid_run a ∙ (safe rec refl bytes).everywhere a.world budget);
        left = λ a. ap (λ (d : Done). d.stack) (laid_run a ∙ (safe rec refl bytes).everywhere a.world budget);
        refused = (λ r a. (not_refused_iff_allowed program rec stack P S budget).1 a r, not_allowed_refused);
        untouched = refused_untouched;
      }

  pub accepted_runs : (judged program (length rec)).finding ≡ Accepted → Bytes rec
      → Runs program rec P S stack budget (interpreted program rec P S stack budget)
  accepted_runs accepts bytes = safe_runs (accepted_safe program (length rec) accepts) bytes

  -- a unit that pw_verify told yes, and that runs with as many steps as the answer's bound has, is told a verdict by pw_run
  pub accepted_then_verdict : (rules : ℕ) (scratch scratch' before after : List ℕ)
      → Verified program (length rec) rules scratch scratch' before after 0
      → (stack' before' after' : List ℕ) (code : ℕ) → Interpreted program rec P S stack stack' budget before' after' code
      → 3 ≤ length before' → Bytes rec → Allowed program rec stack P S → get_or after 3 0 ≤ budget → code ≡ 0
  unfolding outcome_said
  accepted_then_verdict rules scratch scratch' before after told stack' before' after' code ran room bytes allowed lasts =
      let runs = safe_runs ((told.means.promised Accepted refl).yes_is_safe refl) bytes in
      let enough : runs.answer.steps ≤ budget = omega (arith, runs.answer.few, told.means.yes_has_bound refl) in
      (ran.says room).code_said ∙ rw (runs.outcome allowed, le-leb _ _ enough) refl
