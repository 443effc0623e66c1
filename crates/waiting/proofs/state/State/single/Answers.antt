-- `single`: the words say which number it is.
use Rattle.std.proofs.Common.{arith}
use Rattle.waiting.proofs.States.{one_number}
use Rattle.waiting.proofs.state.State.single.Goals as goal

pub returns-then-m-k-3 : goal.returns-then-m-k-3
returns-then-m-k-3 c = one_number _ _ _ (omega arith) c.if-m-k.true c.if-m-k-eq0.true c.if-m-k-2.true c.if-m-k-3.true
