use Rattle.text.specs.Page.{Longer}
use Rattle.orders.proofs.message.quote.Given as goal

abbrev pub invariant-loop-b : goal.invariant-loop-b
invariant-loop-b l = Longer l.initial.page l.page
