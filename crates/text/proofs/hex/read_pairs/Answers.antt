-- The loop keeps the pairs passed, and that the rest is of digits if and only if the whole is.
use native.Mathlib.Omega.{arith}
use Rattle.text.proofs.Pairing.{reading_more, reading_end}
use Rattle.text.proofs.hex.read_pairs.Goals as goal

pub loop-i-preserved : goal.loop-i-preserved
loop-i-preserved c =
    reading_more _ _ _ c.loop-i.invariant (omega arith) c.in_ok-high.ensures.0 c.in_ok-low.ensures.0 (omega arith) _ (rw (c.in_ok-high.ensures.1, c.in_ok-low.ensures.1))

pub returns : goal.returns
returns c = reading_end _ _ _ _ c.loop-i.invariant (omega arith) (omega arith)
