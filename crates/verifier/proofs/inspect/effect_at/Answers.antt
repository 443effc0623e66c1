-- Scratch memory that is too short tells nothing; otherwise the mark says whether a path comes.
use Rattle.std.proofs.Common.{sym, ◌∙◌, arith, eqb-true}
use borrow.Author.Tests.{eqb-false}
use Rattle.waiting.specs.Layout.{words}
use Rattle.verifier.proofs.Inspecting.{outside_nothing_is_done, unmarked_nothing_is_done, marked_an_effect_is_done}
use Rattle.verifier.proofs.inspect.effect_at.Goals as goal

pub returns-then-scratch-n : goal.returns-then-scratch-n
unfolding words
returns-then-scratch-n c = λ h few. absurd (omega arith)

pub returns-then-n-i : goal.returns-then-n-i
unfolding words
returns-then-n-i c = λ h few. outside_nothing_is_done _ _ _ _ _ c.if-n-i.true

pub returns-then-not-waits_at : goal.returns-then-not-waits_at
unfolding words
returns-then-not-waits_at c = λ h few. unmarked_nothing_is_done _ _ _ _ _ (eqb-false _ _ (sym c.waits_at.ensures ∙ c.if-not-waits_at.true))

pub returns : goal.returns
unfolding words
returns c =
    λ h few. marked_an_effect_is_done c.args.program.now _ _ _ _ _ c.decode-ins.ensures c.effect_of.ensures c.if-n-i.false
    (eqb-true _ _ (sym c.waits_at.ensures ∙ c.if-not-waits_at.false))
