-- By `Leads` of each step.
use Rattle.std.proofs.Common.{◌≡◌, ℕ, List, ◌∙◌, arith, lit<}
use Rattle.machine.specs.declared.outcome.Outcome.TheVariants.{Budget}
use Rattle.machine.specs.Machine.{Done}
use Rattle.dispatch.specs.Represent.{state_of}
use Rattle.dispatch.proofs.Answers.{go_narrow}
use Rattle.interpreter.proofs.Runs.{run_goes, run_ends, run_faults, run_spent, run_starts}
use Rattle.interpreter.proofs.run.Goals as goal

pub loop-steps-init : goal.loop-steps-init
unfolding state_of
loop-steps-init c = record { narrow = lit< tt; rest = run_starts _ _ _ _ c.requires.cleared }

pub returns-in-Exit : goal.returns-in-Exit
returns-in-Exit c = run_ends _ _ _ _ _ _ _ _ c.loop-steps-test.true c.step.ensures _ c.in-Exit.is ∙ c.loop-steps.invariant.rest

pub returns-in-Stop : goal.returns-in-Stop
unfolding state_of
returns-in-Stop c =
    run_faults _ _ _ _ _ _ _ _ c.loop-steps-test.true c.step.ensures _ c.in-Stop.is (λ k e. c.why.ensures _ _ _ k e) ∙ c.loop-steps.invariant.rest

pub loop-steps-preserved : goal.loop-steps-preserved
loop-steps-preserved c =
    record {
      narrow = go_narrow c.step.ensures _ _ c.in-Go.is;
      rest = run_goes _ _ _ _ _ _ _ _ c.loop-steps-test.true c.step.ensures _ _ c.in-Go.is ∙ c.loop-steps.invariant.rest;
    }

at_the_end : (n b : ℕ) (m : List ℕ) {d : Done} → n ≡ b → record { outcome = Budget n; stack = m } ≡ d → record { outcome = Budget b; stack = m } ≡ d
at_the_end n b m e h = rw (← e) h

pub returns : goal.returns
returns c =
    at_the_end c.loop-steps.steps c.args.budget c.loop-steps.stack (omega arith)
    (run_spent _ _ _ _ _ _ _ _ c.loop-steps-test.false ∙ c.loop-steps.invariant.rest)
