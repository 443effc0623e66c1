-- Two known numbers go one way.
use Rattle.std.proofs.Common.{rules}
use Rattle.verifier.proofs.Singles.{both_are_told, a_decided_jump_is_sent}
use Rattle.verifier.proofs.send.jump.Goals as goal

pub returns-in-Some : goal.returns-in-Some
returns-in-Some c =
    let s = rw (c.state_at.ensures.0, c.state_at.ensures.1) at c.singles.ensures in
    a_decided_jump_is_sent _ _ _ _ _ _ _ _ _ _ _ _ _ _ (both_are_told _ _ c.in-Some.is s) c.is_taken-taken.ensures c.turn.ensures (search rules) (search rules)
