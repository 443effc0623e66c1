-- `write_start`: two registers are put over a state of which nothing is known.
use Rattle.waiting.proofs.States.{the_start_is_written}
use Rattle.waiting.proofs.state.write_start.Goals as goal

pub returns : goal.returns
returns c = the_start_is_written _ _ _ _ _ _ _ c.forget.ensures c.put_register.ensures.changed c.put_register-2.ensures.changed c.exactly.ensures c.exactly-2.ensures
