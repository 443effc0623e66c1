-- 0 has 64 zeros above its highest bit.
use Rattle.std.proofs.Common.{sym, ap, ◌∙◌}
use Rattle.known_bits.proofs.Covering.{up_to_none}
use Rattle.known_bits.specs.Formula.{up_to}
use Rattle.bit_calculator.proofs.masks.up_to.Goals as goal

pub returns-then-t-eq0 : goal.returns-then-t-eq0
returns-then-t-eq0 c = sym (ap up_to c.if-t-eq0.true ∙ up_to_none)
