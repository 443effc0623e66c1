-- Each piece so far stands in the arguments. The measure is what is left of them.
use Rattle.std.proofs.Common.{◌≡◌, ◌-◌, length}
use Rattle.orders.specs.Orders.{Sane}
use Rattle.orders.proofs.said.parse_words.Given as goal

abbrev pub invariant-loop-said : goal.invariant-loop-said
invariant-loop-said l = Sane l.words.args.now l.said × (l.words.args.now ≡ l.initial.words.args.now)

abbrev pub decreases-loop-said : goal.decreases-loop-said
decreases-loop-said l = length l.words.args.now - l.words.next
