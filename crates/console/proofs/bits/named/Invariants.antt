-- The names so far are others: what the word names stands in the rest of the table.
use Rattle.std.proofs.Common.{◌≡◌, drop}
use Rattle.console.specs.Naming.{named_in}
use Rattle.console.proofs.bits.named.Given as goal

abbrev pub invariant-loop-name : goal.invariant-loop-name
invariant-loop-name g l = named_in (drop l.name-index l.names) l.word ≡ named_in l.names l.word
