-- The fields are fetched one by one.
use Rattle.machine.proofs.Fetch.{fields_by_parts, two_registers}
use Rattle.machine.proofs.instruction.fields_at.Goals as goal

pub returns-clause-fields : goal.returns-clause-fields
returns-clause-fields c = fields_by_parts _ _ (λ j. (c.type_inv.m j).fits) _ _ _ c.fetch1-registers.ensures c.fetch2.ensures c.fetch.ensures

pub returns-clause-registers : goal.returns-clause-registers
returns-clause-registers c = two_registers _ _ (λ j. (c.type_inv.m j).fits) _ c.fetch1-registers.ensures
