-- A bit is set.
use Rattle.std.proofs.Common.{refl, rules}
use Rattle.verifier.proofs.Targets.{a_bit_is_set}
use Rattle.verifier.proofs.paths.Targets.insert.Goals as goal

pub returns : goal.returns
returns c = a_bit_is_set _ _ _ (search rules) c.requires refl
