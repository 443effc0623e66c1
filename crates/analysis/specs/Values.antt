-- What is known of the registers at an index, and what covers two such states where paths meet.
use Rattle.std.specs.Prelude.{List, [], ◌∷◌, ℕ, get_or, Option, Some, None}
use Rattle.machine.specs.declared.instruction.Operand.{Operand}
use Rattle.machine.specs.declared.instruction.Operand.TheVariants.{Immediate, Register}
use Rattle.number.specs.declared.Number.{Number}
use Rattle.number.specs.Sharpen.{exact, joined_number}
use Rattle.analysis.specs.declared.Region.{Region}
use Rattle.analysis.specs.declared.Region.TheVariants.{Record, Stack}
use Rattle.analysis.specs.declared.Gone.{Gone}
use Rattle.analysis.specs.declared.Gone.TheVariants.{Never, Mixed}
use Rattle.analysis.specs.declared.Value.{Value}
use Rattle.analysis.specs.declared.Value.TheVariants.{Unusable, Plain, Address}

-- the values of r0 to r10
pub record Facts : Type 0 where
  pub registers : List Value

unfoldable pub value_of : Facts → ℕ → Value
value_of a r = get_or a.registers r (Unusable Never)

unfoldable pub operand_of : Facts → Operand → Value
operand_of a (Immediate n) = Plain (exact n)
operand_of a (Register r) = value_of a r

-- at the start r1 is the record's address and r10 the address of the stack's end
unfoldable pub start_facts : Facts
start_facts =
    record {
      registers = Unusable Never ∷ Address Record (exact 0) ∷ Unusable Never ∷ Unusable Never ∷ Unusable Never ∷ Unusable Never ∷ Unusable Never
          ∷ Unusable Never ∷ Unusable Never ∷ Unusable Never ∷ Address Stack (exact 512) ∷ [];
    }

-- ---- where paths meet: unset if either is, mixed if the kinds differ, and what covers both numbers or both offsets otherwise
unfoldable pub same_region : Region → Region → Number → Value
same_region Record Record n = Address Record n
same_region Record Stack n = Unusable Mixed
same_region Stack Record n = Unusable Mixed
same_region Stack Stack n = Address Stack n

-- unset absorbs mixed
unfoldable pub joined_gone : Gone → Gone → Gone
joined_gone Never h = Never
joined_gone Mixed h = h

unfoldable pub joined_value : Value → Value → Value
joined_value (Unusable g) (Unusable h) = Unusable (joined_gone g h)
joined_value (Unusable g) (Plain b) = Unusable g
joined_value (Unusable g) (Address q b) = Unusable g
joined_value (Plain a) (Unusable h) = Unusable h
joined_value (Plain a) (Plain b) = Plain (joined_number a b)
joined_value (Plain a) (Address q b) = Unusable Mixed
joined_value (Address p a) (Unusable h) = Unusable h
joined_value (Address p a) (Plain b) = Unusable Mixed
joined_value (Address p a) (Address q b) = same_region p q (joined_number a b)

unfoldable pub joined_values : List Value → List Value → List Value
joined_values [] ys = []
joined_values (x ∷ xs) [] = []
joined_values (x ∷ xs) (y ∷ ys) = joined_value x y ∷ joined_values xs ys

unfoldable pub joined_facts : Facts → Facts → Facts
joined_facts a b = record { registers = joined_values a.registers b.registers }

-- what waits for an index, if a path comes there, and what comes now
unfoldable pub meeting : Option Facts → Facts → Facts
meeting None b = b
meeting (Some a) b = joined_facts a b
