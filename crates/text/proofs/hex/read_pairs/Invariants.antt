use Rattle.text.proofs.Pairing.{Reading}
use Rattle.text.proofs.hex.read_pairs.Given as goal

abbrev pub invariant-loop-i : goal.invariant-loop-i
invariant-loop-i l = Reading l.s l.out l.i
