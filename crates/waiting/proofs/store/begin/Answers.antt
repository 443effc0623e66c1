-- `begin`: the marks are cleared, and the start is written to the first block and marked.
use Rattle.waiting.proofs.Blocks.{the_start_waits}
use Rattle.waiting.proofs.store.begin.Goals as goal

pub returns : goal.returns
returns c =
    rw c.block_of.ensures (the_start_waits _ _ _ _ c.requires.0 c.requires.1 c.clear.ensures (rw c.state_of.ensures at c.write_start.ensures))
