-- What is refused before the first step: each rule that a length or an address can break, and nothing else.
use mathlib.Core.Path.{◌≡◌, refl, subst}
use mathlib.Core.Logic.{◌≢◌}
use mathlib.Core.Bool.{Bool, true, false, not, cond, ◌&&◌, ◌||◌, or-true, and-eq-true_iff}
use mathlib.Core.List.{List}
use Prim.Native.Nat.{ℕ, zero, suc, ◌+◌, ◌*◌, ◌%◌, ◌^◌, ◌≤◌, ◌<◌, max}
use native.Mathlib.Omega.{arith}
use lib.ListN.{length}
use lib.Dec.{ltb, eqb}
use borrow.Author.Tests.{ltb-true, eqb-true, eqb-false, not-true, lt-ltb, eq-eqb, ne_eqb}
use Rattle.machine.specs.declared.outcome.Outcome.{Outcome}
use Rattle.machine.specs.declared.outcome.Outcome.TheVariants.{Verdict, Fault, Budget, Refused}
use Rattle.machine.specs.Machine.{World, State, After, goes, ends, faults, Done, step, next, runs, start, bad_program, bad_record, bad_stack, bad_address, overlap, refused, interpreted}

-- the rules of docs/MACHINE.md, section 5, each with what breaks it; the two ranges overlap where an address lies in both
pub data Broken (program rec stack : List ℕ) (P S : ℕ) : Type 0 where
  program_empty : length program ≡ 0 → Broken program rec stack P S
  program_ragged : length program % 8 ≢ 0 → Broken program rec stack P S
  program_too_long : 32768 < length program → Broken program rec stack P S
  record_too_long : 1024 < length rec → Broken program rec stack P S
  stack_not_512 : length stack ≢ 512 → Broken program rec stack P S
  record_too_low : P < 2 ^ 16 → Broken program rec stack P S
  record_too_high : 2 ^ 47 < P → Broken program rec stack P S
  stack_too_low : S < 2 ^ 16 → Broken program rec stack P S
  stack_too_high : 2 ^ 47 < S → Broken program rec stack P S
  record_in_stack : (a : ℕ) → P ≤ a → a < P + length rec → S ≤ a → a < S + 512 → Broken program rec stack P S

-- ---- a run itself never answers that it is refused

abbrev Ran : Outcome → Type 0
Ran (Verdict v n) = Unit {0}
Ran (Fault c at n) = Unit {0}
Ran (Budget n) = Unit {0}
Ran Refused = ⊥

next_ran : (more : ℕ → State → Done) → ((n : ℕ) (t : State) → Ran (more n t).outcome) → (n : ℕ) (t : State) (after : After) → Ran (next more n t after).outcome
unfolding next
next_ran more ran n t (goes u) = ran (n + 1) u
next_ran more ran n t (ends v) = tt
next_ran more ran n t (faults c) = tt

runs_ran : (program : List ℕ) (w : World) (k n : ℕ) (t : State) → Ran (runs program w k n t).outcome
unfolding runs
runs_ran program w zero n t = tt
runs_ran program w (suc k) n t = next_ran (runs program w k) (λ m u. runs_ran program w k m u) n t (step program w t)

-- ---- the tests

either : {X : Type 0} (a b : Bool) → (a ≡ true → X) → (b ≡ true → X) → (a || b) ≡ true → X
either true b f g e = f refl
either false b f g e = g e

module _ (program rec stack : List ℕ) (P S : ℕ) where
  tests_broken : refused (length program) (length rec) (length stack) P S ≡ true → Broken program rec stack P S
  unfolding refused bad_program bad_record bad_stack bad_address overlap
  tests_broken =
      either _ (overlap P (length rec) S)
      (either _ (bad_address S)
      (either _ (bad_address P)
      (either _ (bad_stack (length stack))
      (either _ (bad_record (length rec))
      (either _ (ltb (8 * 4096) (length program))
      (either (eqb (length program) 0) (not (eqb (length program % 8) 0))
      (λ e. program_empty (eqb-true _ _ e))
      (λ e. program_ragged (eqb-false _ _ (not-true _ e))))
      (λ e. program_too_long (ltb-true _ _ e)))
      (λ e. record_too_long (ltb-true _ _ e)))
      (λ e. stack_not_512 (eqb-false _ _ (not-true _ e))))
      (either (ltb P (2 ^ 16)) (ltb (2 ^ 47) P) (λ e. record_too_low (ltb-true _ _ e)) (λ e. record_too_high (ltb-true _ _ e))))
      (either (ltb S (2 ^ 16)) (ltb (2 ^ 47) S) (λ e. stack_too_low (ltb-true _ _ e)) (λ e. stack_too_high (ltb-true _ _ e))))
      (λ e. let (e', z) = (and-eq-true_iff (ltb 0 (length rec) && ltb P (S + 512)) (ltb S (P + length rec))).0 e in
      let (x, y) = (and-eq-true_iff (ltb 0 (length rec)) (ltb P (S + 512))).0 e' in
      record_in_stack (max P S) (omega arith) (omega (arith, ltb-true)) (omega arith) (omega (arith, ltb-true)))

  broken_tests : Broken program rec stack P S → refused (length program) (length rec) (length stack) P S ≡ true
  unfolding refused bad_program bad_record bad_stack bad_address overlap
  broken_tests (program_empty h) = simp (eq-eqb _ _ h)
  broken_tests (program_ragged h) = simp (ne_eqb _ _ h, or-true)
  broken_tests (program_too_long h) = simp (lt-ltb _ _ h, or-true)
  broken_tests (record_too_long h) = simp (lt-ltb _ _ h, or-true)
  broken_tests (stack_not_512 h) = simp (ne_eqb _ _ h, or-true)
  broken_tests (record_too_low h) = simp (lt-ltb _ _ h, or-true)
  broken_tests (record_too_high h) = simp (lt-ltb _ _ h, or-true)
  broken_tests (stack_too_low h) = simp (lt-ltb _ _ h, or-true)
  broken_tests (stack_too_high h) = simp (lt-ltb _ _ h, or-true)
  broken_tests (record_in_stack a p q r s) =
      simp (lt-ltb 0 (length rec) (omega arith), lt-ltb P (S + 512) (omega arith), lt-ltb S (P + length rec) (omega arith), or-true)

  -- ---- the theorems

  tested_broken : (b : Bool) (ran : Done) → Ran ran.outcome → refused (length program) (length rec) (length stack) P S ≡ b → (cond b (record { outcome = Refused; stack = stack }) ran).outcome ≡ Refused → Broken program rec stack P S
  tested_broken true ran r e o = tests_broken e
  tested_broken false ran r e o = absurd (subst Ran o r)

  pub refused_broken : (budget : ℕ) → (interpreted program rec P S stack budget).outcome ≡ Refused → Broken program rec stack P S
  unfolding interpreted
  refused_broken budget o =
      let w : World = record { rec = rec; P = P; S = S } in
      tested_broken (refused (length program) (length rec) (length stack) P S) (runs program w budget 0 (start w)) (runs_ran program w budget 0 (start w)) refl o

  -- the stack is left as it was
  pub broken_refused : (budget : ℕ) → Broken program rec stack P S → interpreted program rec P S stack budget ≡ record { outcome = Refused; stack = stack }
  unfolding interpreted
  broken_refused budget h = rw (broken_tests h)
