-- `arrive`: a marked block is joined to; another is written and marked.
use Rattle.std.proofs.Common.{sym, ◌∙◌}
use borrow.Author.Tests.{eqb-true, eqb-false}
use Rattle.waiting.proofs.Blocks.{a_state_comes_to_a_marked_block, a_state_comes_to_an_unmarked_block}
use Rattle.waiting.proofs.store.arrive.Goals as goal

pub returns-then-waits_at : goal.returns-then-waits_at
returns-then-waits_at c =
    a_state_comes_to_a_marked_block _ _ _ _ _ _ c.requires.0 c.requires.1 (eqb-true _ _ (sym c.waits_at.ensures ∙ c.if-waits_at.true))
    (rw (c.state_of-to.ensures, c.state_of.ensures) at c.join_state.ensures)

pub returns-else-waits_at : goal.returns-else-waits_at
returns-else-waits_at c =
    rw c.block_of.ensures
    (a_state_comes_to_an_unmarked_block _ _ _ _ _ _ c.requires.0 c.requires.1 c.requires.2
    (eqb-false _ _ (sym c.waits_at.ensures ∙ c.if-waits_at.false))
    (rw (c.state_of-to.ensures, c.state_of-else-waits_at.ensures) at c.copy_state.ensures))
