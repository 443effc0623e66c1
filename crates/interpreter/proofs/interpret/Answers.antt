-- A refusal, or the run on the cleared stack.
use Rattle.std.proofs.Common.{ℕ, sym, ap, ◌∙◌, replicate}
use Rattle.interpreter.proofs.Runs.{refuses, accepts, stack_accepted, stack_low}
use Rattle.interpreter.proofs.interpret.Goals as goal

pub returns-then-refuses : goal.returns-then-refuses
returns-then-refuses c = refuses _ _ _ _ _ _ (sym c.refuses.ensures ∙ c.if-refuses.true)

pub run-requires-clause-low : goal.run-requires-clause-low
run-requires-clause-low c = stack_low _ _ _ _ _ (sym c.refuses.ensures ∙ c.if-refuses.false)

pub run-requires-clause-cleared : goal.run-requires-clause-cleared
run-requires-clause-cleared c =
    c.fill.ensures.after (λ y e. e) ∙ ap (λ (k : ℕ). replicate k 0) (stack_accepted _ _ _ _ _ (sym c.refuses.ensures ∙ c.if-refuses.false))

pub returns : goal.returns
returns c = accepts _ _ _ _ _ _ (sym c.refuses.ensures ∙ c.if-refuses.false) _ c.run.ensures
