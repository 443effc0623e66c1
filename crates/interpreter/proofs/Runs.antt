-- The laws of a step and of a run: what is fetched, how the next step goes on from an answer, and where a run starts and ends.
use mathlib.Core.Path.{◌≡◌, refl, ap, subst, ◌∙◌}
use mathlib.Core.Bool.{Bool, true, false, ◌||◌, true≢false}
use mathlib.Core.List.{List}
use Prim.Native.Nat.{ℕ, suc, ◌+◌, ◌-◌, ◌*◌, ◌/◌, ◌^◌, ◌≤◌, ◌<◌}
use native.Mathlib.Nat.{sub-zero}
use native.Mathlib.Omega.{arith}
use lib.ListN.{length, set, replicate}
use lib.Dec.{ltb}
use borrow.Author.Tests.{le-leb, lt-leb, ltb-false, eqb-true, not-false}
use Rattle.word.specs.Word.{bit}
use Rattle.machine.specs.declared.outcome.Cause.{Cause}
use Rattle.machine.specs.declared.outcome.Cause.TheVariants.{OffEnd}
use Rattle.machine.specs.declared.outcome.Outcome.TheVariants.{Verdict, Fault, Budget, Refused}
use Rattle.machine.specs.declared.instruction.Fields.{Fields}
use Rattle.machine.specs.Instruction.{fields, meaning, decode}
use Rattle.machine.specs.Machine.{World, State, faults, Done, obey, step, runs, start, bad_program, bad_record, bad_stack, bad_address, overlap, refused, interpreted}
use Rattle.dispatch.specs.declared.answer.Next.{Next}
use Rattle.dispatch.specs.declared.answer.Next.TheVariants.{Go, Exit, Stop}
use Rattle.dispatch.specs.Represent.{is_set, content_of, contents, state_of, cause_of, comes, Leads}
use Rattle.dispatch.proofs.Answers.{stopped}

-- ---- one step

module _ (program : List ℕ) (w : World) (regs : List ℕ) (live : ℕ) (stack : List ℕ) (pc : ℕ) where
  pub step_off : length program / 8 ≤ pc → faults OffEnd ≡ step program w (state_of regs live stack pc)
  unfolding step state_of
  step_off h = simp (le-leb _ _ h)

  pub step_at : pc < length program / 8 → (f : Fields) → fields program (pc * 8) ≡ f
      → obey w (state_of regs live stack pc) (meaning f) ≡ step program w (state_of regs live stack pc)
  unfolding step state_of decode
  step_at h f e = simp (lt-leb _ _ h) (rw e)

-- ---- from an answer to the rest of the run

one_less : (budget n : ℕ) → n < budget → budget - n ≡ suc (budget - (n + 1))
one_less budget n h = omega arith

module _ (program : List ℕ) (w : World) (budget n : ℕ) (t : State) (r : Next) (regs stack : List ℕ) (h : n < budget)
    (leads : Leads r regs stack t (step program w t)) where
  comes_of_run : comes (runs program w (budget - (n + 1))) n t.index (cause_of (step program w t)) r regs stack ≡ runs program w (budget - n) n t
  unfolding runs
  comes_of_run = rw (one_less budget n h) (leads.leads (runs program w (budget - (n + 1))) n)

  pub run_goes : (pc live : ℕ) → r ≡ Go pc live
      → runs program w (budget - (n + 1)) (n + 1) (state_of regs live stack pc) ≡ runs program w (budget - n) n t
  unfolding comes
  run_goes pc live e = rw e at comes_of_run

  pub run_ends : (v : ℕ) → r ≡ Exit v → record { outcome = Verdict v (n + 1); stack = stack } ≡ runs program w (budget - n) n t
  unfolding comes
  run_ends v e = rw e at comes_of_run

  -- c is the cause of the machine's fault, if it faults, and it does, since the answer is a stop
  pub run_faults : (c : Cause) → r ≡ Stop → ((k : Cause) → step program w t ≡ faults k → c ≡ k)
      → record { outcome = Fault c t.index n; stack = stack } ≡ runs program w (budget - n) n t
  unfolding comes
  run_faults c e told =
      let at-fault = stopped (step program w t) (subst (λ (x : Next). Leads x regs stack t (step program w t)) e leads) in
      ap (λ (k : Cause). record { outcome = Fault k t.index n; stack = stack }) (told _ at-fault) ∙ (rw e at comes_of_run)

pub run_spent : (program : List ℕ) (w : World) (budget n : ℕ) (regs : List ℕ) (live : ℕ) (stack : List ℕ) (pc : ℕ) → budget ≤ n
    → record { outcome = Budget n; stack = stack } ≡ runs program w (budget - n) n (state_of regs live stack pc)
unfolding runs state_of
run_spent program w budget n regs live stack pc h = let e : budget - n ≡ 0 = omega arith in rw e

-- registers 1 and 10 are set: the mask is 2 + 1024
pub run_starts : (program : List ℕ) (w : World) (budget : ℕ) (stack : List ℕ) → stack ≡ replicate 512 0
    → runs program w (budget - 0) 0 (state_of (set (set (replicate 16 0) 1 w.P) 10 (w.S + 512)) 1026 stack 0) ≡ runs program w budget 0 (start w)
unfolding start state_of contents content_of is_set bit
run_starts program w budget stack e = rw (e, sub-zero)

-- ---- what is refused, and what is not

either_false : (a b : Bool) → a || b ≡ false → (a ≡ false) × (b ≡ false)
either_false true b e = absurd (true≢false e)
either_false false b e = (refl, e)

pub address_low : (a : ℕ) → bad_address a ≡ false → a ≤ 2 ^ 47
unfolding bad_address
address_low a e = ltb-false (2 ^ 47) a (either_false (ltb a (2 ^ 16)) (ltb (2 ^ 47) a) e).1

not_refused : (a b c d e f : Bool) → a || b || c || d || e || f ≡ false → (c ≡ false) × (e ≡ false)
not_refused a b c d e f h =
    let first = (either_false (a || b || c || d || e) f h).0 in
    let fewer = either_false (a || b || c || d) e first in
    ((either_false (a || b) c (either_false (a || b || c) d fewer.0).0).1, fewer.1)

module _ (program R stack P S : ℕ) (e : refused program R stack P S ≡ false) where
  pub stack_accepted : stack ≡ 512
  unfolding refused bad_stack
  stack_accepted =
      eqb-true stack 512 (not-false _ (not_refused (bad_program program) (bad_record R) _ (bad_address P) (bad_address S) (overlap P R S) e).0)

  pub stack_low : S ≤ 2 ^ 47
  unfolding refused
  stack_low = address_low S (not_refused (bad_program program) (bad_record R) (bad_stack stack) (bad_address P) _ (overlap P R S) e).1

module _ (program rec : List ℕ) (P S : ℕ) (stack : List ℕ) (budget : ℕ) where
  pub refuses : refused (length program) (length rec) (length stack) P S ≡ true
      → record { outcome = Refused; stack = stack } ≡ interpreted program rec P S stack budget
  unfolding interpreted
  refuses e = rw e

  pub accepts : refused (length program) (length rec) (length stack) P S ≡ false → (d : Done)
      → d ≡ runs program (record { rec = rec; P = P; S = S }) budget 0 (start (record { rec = rec; P = P; S = S }))
      → d ≡ interpreted program rec P S stack budget
  unfolding interpreted
  accepts e d run = rw e run
