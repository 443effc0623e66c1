-- `named` stops at the first name that is the word.
use Rattle.std.proofs.Common.{sym, ◌∙◌}
use Rattle.console.proofs.Tables.{named_here, named_later}
use Rattle.console.proofs.bits.named.Goals as goal

pub returns-then-eq : goal.returns-then-eq
returns-then-eq g c = sym (named_here _ _ _ _ c.loop-name-test.true c.loop-name-item.is _ c.eq.ensures c.if-eq.true) ∙ c.loop-name.invariant

pub loop-name-preserved : goal.loop-name-preserved
loop-name-preserved g c = sym (named_later _ _ _ _ c.loop-name-test.true c.loop-name-item.is _ c.eq.ensures c.if-eq.false) ∙ c.loop-name.invariant
