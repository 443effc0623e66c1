use Prim.Native.Nat.{◌<◌, ◌^◌}
use Rattle.text.proofs.Numbers.{Spelling}
use Rattle.text.proofs.number.read_in.Given as goal

abbrev pub invariant-loop-b : goal.invariant-loop-b
invariant-loop-b l = (l.n < 2 ^ 64) × Spelling l.base l.s l.b-index l.n
