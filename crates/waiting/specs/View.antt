-- What a state in lent words stands for.
use Rattle.waiting.specs.declared.state.State.{State}
use Rattle.analysis.specs.Values.{Facts}
use Rattle.waiting.specs.State.{facts_at}

abbrev pub facts_of : State → Facts
facts_of state = facts_at state.words.now state.at
