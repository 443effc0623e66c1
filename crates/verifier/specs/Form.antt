-- The tests on form on the fields of an instruction, without the instruction itself, and the answer of a test as the analysis has it.
use Rattle.std.specs.Prelude.{Bool, false, cond, ◌&&◌, ◌||◌, List, [], ◌∷◌, ℕ, ◌+◌, ◌/◌, ◌%◌, ◌^◌, eqb, leb, Option, Some, None, Result, Ok, Err}
use Rattle.word.specs.Word.{extend}
use Rattle.machine.specs.declared.instruction.Fields.{Fields}
use Rattle.machine.specs.Instruction.{Line, ◌means◌, operations, comparisons, loads, stores_of_imm, stores_of_src}
use Rattle.analysis.specs.declared.Reason.{Reason}
use Rattle.analysis.specs.declared.Reason.TheVariants.{NoCode, WritesR10, JumpsBack, JumpsOut}

-- why a test is not passed
unfoldable pub told : Result (Unit {0}) Reason → Option Reason
told (Ok u) = None
told (Err reason) = Some reason

-- ---- at index i of n: the tests of an instruction that goes on, that writes d, and that jumps by off

abbrev pub when_last : ℕ → ℕ → Option Reason
when_last n i = cond (eqb (i + 1) n) (Some JumpsOut) None

abbrev pub when_writing : ℕ → ℕ → ℕ → Option Reason
when_writing n i d = cond (eqb d 10) (Some WritesR10) (when_last n i)

abbrev pub when_jumping : ℕ → ℕ → ℕ → Option Reason
when_jumping n i off = cond (leb (2 ^ 63) off) (Some JumpsBack) (cond (leb n (i + 1 + off)) (Some JumpsOut) None)

-- ---- the fields

-- what must hold of the fields of an instruction
unfoldable pub coded : Bool → Option Reason → Option Reason
coded holds t = cond holds t (Some NoCode)

-- a table has a line for the code
unfoldable pub has_line : {A : Type 0} → ℕ → List (Line A) → Bool
has_line code [] = false
has_line code ((c means a) ∷ lines) = has_line code lines || eqb code c

-- by bit 3 of the opcode src or imm is unused, and is 0
unfoldable pub operand_fits : Fields → Bool
operand_fits f = cond (eqb (f.opcode / 8 % 2) 0) (eqb f.src 0) (eqb f.imm 0)

unfoldable pub with_operand_tests : Fields → Option Reason → Option Reason
with_operand_tests f t = cond (eqb (f.opcode / 8 % 2) 0) (coded (eqb f.src 0) t) (coded (eqb f.imm 0) t)

unfoldable pub arithmetic_tests : ℕ → ℕ → Fields → Option Reason
arithmetic_tests n i f =
    coded (eqb f.off 0)
    (cond (eqb (f.opcode / 16) 8)
    (coded (eqb (f.opcode / 8 % 2) 0 && eqb f.src 0 && eqb f.imm 0) (when_writing n i f.dst))
    (coded (has_line (f.opcode / 16) operations) (with_operand_tests f (when_writing n i f.dst))))

-- of either width
unfoldable pub jump_tests : ℕ → ℕ → Fields → Option Reason
jump_tests n i f =
    cond (eqb f.opcode 0x05) (coded (eqb f.dst 0 && eqb f.src 0 && eqb f.imm 0) (when_jumping n i (extend 16 f.off)))
    (cond (eqb f.opcode 0x95) (coded (eqb f.dst 0 && eqb f.src 0 && eqb f.imm 0 && eqb f.off 0) None)
    (coded (has_line (f.opcode / 16) comparisons) (with_operand_tests f (when_jumping n i (extend 16 f.off)))))

unfoldable pub load_tests : ℕ → ℕ → Fields → Option Reason
load_tests n i f = coded (has_line f.opcode loads) (coded (eqb f.imm 0) (when_writing n i f.dst))

unfoldable pub store_of_imm_tests : ℕ → ℕ → Fields → Option Reason
store_of_imm_tests n i f = coded (has_line f.opcode stores_of_imm) (coded (eqb f.src 0) (when_last n i))

unfoldable pub store_of_src_tests : ℕ → ℕ → Fields → Option Reason
store_of_src_tests n i f = coded (has_line f.opcode stores_of_src) (coded (eqb f.imm 0) (when_last n i))

unfoldable pub class_tests : ℕ → ℕ → Fields → Option Reason
class_tests n i f =
    cond (eqb (f.opcode % 8) 7 || eqb (f.opcode % 8) 4) (arithmetic_tests n i f)
    (cond (eqb (f.opcode % 8) 5 || eqb (f.opcode % 8) 6) (jump_tests n i f)
    (cond (eqb (f.opcode % 8) 1) (load_tests n i f)
    (cond (eqb (f.opcode % 8) 2) (store_of_imm_tests n i f)
    (cond (eqb (f.opcode % 8) 3) (store_of_src_tests n i f)
    (Some NoCode)))))

unfoldable pub field_tests : ℕ → ℕ → Fields → Option Reason
field_tests n i f = coded (leb f.dst 10 && leb f.src 10) (class_tests n i f)
