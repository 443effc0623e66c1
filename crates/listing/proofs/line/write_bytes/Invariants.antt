use Rattle.text.specs.Page.{Longer}
use Rattle.listing.proofs.line.write_bytes.Given as goal

abbrev pub invariant-loop-j : goal.invariant-loop-j
invariant-loop-j l = Longer l.initial.page l.page
