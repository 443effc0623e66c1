-- `arrive_with`: copied, changed and marked.
use Rattle.std.proofs.Common.{arith}
use Rattle.waiting.proofs.Blocks.{a_changed_state_comes_to_an_unmarked_block}
use Rattle.waiting.proofs.store.arrive_with.Goals as goal

pub returns : goal.returns
returns c =
    rw c.block_of.ensures
    (a_changed_state_comes_to_an_unmarked_block _ _ _ _ _ _ _ _ _ (omega arith) c.requires.next_within.0 c.requires.next_within.1
    c.requires.nothing_waits_there (rw (c.state_of-to.ensures, c.state_of.ensures) at c.copy_state.ensures)
    (rw c.state_of-to.ensures at c.put_register.ensures.changed))
