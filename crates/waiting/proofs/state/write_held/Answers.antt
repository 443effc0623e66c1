-- `write_held`: five stores.
use Rattle.waiting.proofs.Words.{writing_five_words}
use Rattle.waiting.proofs.state.write_held.Goals as goal

pub returns : goal.returns
returns c = rw c.from-word.ensures (writing_five_words _ _ _ c.requires)
