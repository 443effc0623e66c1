-- `join`: the kinds are joined, and the numbers where there are any.
use Rattle.waiting.specs.State.{held_in}
use Rattle.waiting.proofs.ByKind.{joined_with_no_number}
use Rattle.waiting.proofs.value.Held.join.Goals as goal

pub returns-in-Unset : goal.returns-in-Unset
unfolding held_in
returns-in-Unset c = joined_with_no_number _ _ _ _ _ _ c.joined_kind-kind.ensures c.in-Unset.is
