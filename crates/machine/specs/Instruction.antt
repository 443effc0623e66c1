-- An instruction of docs/MACHINE.md, sections 1 to 4: its eight bytes, what they mean, which registers it reads and writes.
use Rattle.std.specs.Prelude.{Bool, cond, ◌&&◌, List, [], ◌∷◌, ◌++◌, ℕ, ◌+◌, ◌/◌, ◌%◌, get_or, leb, eqb}
use Rattle.word.specs.Word.{extend, read_bytes}
use Rattle.word.specs.declared.Operation.{Operation}
use Rattle.word.specs.declared.Operation.TheVariants.{Add, Sub, Mul, Div, Or, And, Lsh, Rsh, Mod, Xor, Mov, Arsh}
use Rattle.word.specs.declared.Operation.TheVariants as operation
use Rattle.word.specs.declared.Comparison.{Comparison}
use Rattle.word.specs.declared.Comparison.TheVariants.{Eq, Gt, Ge, Set, Ne, Sgt, Sge, Lt, Le, Slt, Sle}
use Rattle.machine.specs.declared.instruction.Fields.{Fields}
use Rattle.machine.specs.declared.instruction.Width.{Width}
use Rattle.machine.specs.declared.instruction.Width.TheVariants.{Long, Short}
use Rattle.machine.specs.declared.instruction.Size.{Size}
use Rattle.machine.specs.declared.instruction.Size.TheVariants.{One, Two, Four, Eight}
use Rattle.machine.specs.declared.instruction.Operand.{Operand}
use Rattle.machine.specs.declared.instruction.Operand.TheVariants.{Immediate, Register}
use Rattle.machine.specs.declared.instruction.Instruction.{Instruction}
use Rattle.machine.specs.declared.instruction.Instruction.TheVariants.{Alu, Neg, Jump, Always, Exit, Load, Store, NoInstruction}

-- ---- section 1: an instruction is eight bytes

-- the fields of the eight bytes of m at i; off and imm as they stand, without their sign
unfoldable pub fields : List ℕ → ℕ → Fields
fields m i =
    record { opcode = get_or m i 0; dst = get_or m (i + 1) 0 % 16; src = get_or m (i + 1) 0 / 16; off = read_bytes 2 m (i + 2); imm = read_bytes 4 m (i + 4) }

-- i, where what must hold of the fields holds; else the eight bytes are no instruction
unfoldable pub only : Bool → Instruction → Instruction
only holds i = cond holds i NoInstruction

-- a line of a table: what a code means
infix 20 ◌means◌
pub data Line (A : Type 0) : Type 0 where
  ◌means◌ : ℕ → A → Line A

-- the instruction that a table's line for the code gives; a code without a line is no instruction
unfoldable pub lookup : {A : Type 0} → ℕ → List (Line A) → (A → Instruction) → Instruction
lookup code [] found = NoInstruction
lookup code ((c means a) ∷ lines) found = cond (eqb code c) (found a) (lookup code lines found)

-- the second operand, by bit 3 of the opcode: 0, it is imm, and src must be 0; 1, it is the register src, and imm must be 0
unfoldable pub with_operand : Fields → (Operand → Instruction) → Instruction
with_operand f found =
    cond (eqb (f.opcode / 8 % 2) 0)
    (only (eqb f.src 0) (found (Immediate (extend 32 f.imm))))
    (only (eqb f.imm 0) (found (Register f.src)))

-- ---- section 2: arithmetic, class 7 on 64 bits and class 4 on 32 bits; the high four bits of the opcode name the operation

unfoldable pub operations : List (Line Operation)
operations =
    (0 means Add) ∷ (1 means Sub) ∷ (2 means Mul) ∷ (3 means Div) ∷ (4 means Or) ∷ (5 means And) ∷ (6 means Lsh) ∷ (7 means Rsh)
    ∷ (9 means Mod) ∷ (10 means Xor) ∷ (11 means Mov) ∷ (12 means Arsh) ∷ []

-- off must be 0; NEG, which is 8, has bit 3 clear and neither src nor imm
unfoldable pub arithmetic : Width → Fields → Instruction
arithmetic w f =
    only (eqb f.off 0)
    (cond (eqb (f.opcode / 16) 8)
    (only (eqb (f.opcode / 8 % 2) 0 && eqb f.src 0 && eqb f.imm 0) (Neg w f.dst))
    (lookup (f.opcode / 16) operations (λ operation. with_operand f (λ operand. Alu w operation f.dst operand))))

-- ---- section 3: jumps, class 5 on 64 bits and class 6 on the low 32 bits; the high four bits name the comparison

unfoldable pub comparisons : List (Line Comparison)
comparisons =
    (1 means Eq) ∷ (2 means Gt) ∷ (3 means Ge) ∷ (4 means Set) ∷ (5 means Ne) ∷ (6 means Sgt) ∷ (7 means Sge) ∷ (10 means Lt)
    ∷ (11 means Le) ∷ (12 means Slt) ∷ (13 means Sle) ∷ []

-- JA is 0x05 and EXIT 0x95, both of class 5: they have bit 3 clear and use neither register nor imm, and EXIT no off
unfoldable pub jump : Width → Fields → Instruction
jump w f =
    cond (eqb f.opcode 0x05)
    (only (eqb f.dst 0 && eqb f.src 0 && eqb f.imm 0) (Always (extend 16 f.off)))
    (cond (eqb f.opcode 0x95)
    (only (eqb f.dst 0 && eqb f.src 0 && eqb f.imm 0 && eqb f.off 0) Exit)
    (lookup (f.opcode / 16) comparisons (λ comparison. with_operand f (λ operand. Jump w comparison f.dst operand (extend 16 f.off)))))

-- ---- section 4: memory, classes 1, 2 and 3; the whole opcode names the size

unfoldable pub loads : List (Line Size)
loads = (0x71 means One) ∷ (0x69 means Two) ∷ (0x61 means Four) ∷ (0x79 means Eight) ∷ []

unfoldable pub stores_of_imm : List (Line Size)
stores_of_imm = (0x72 means One) ∷ (0x6a means Two) ∷ (0x62 means Four) ∷ (0x7a means Eight) ∷ []

unfoldable pub stores_of_src : List (Line Size)
stores_of_src = (0x73 means One) ∷ (0x6b means Two) ∷ (0x63 means Four) ∷ (0x7b means Eight) ∷ []

-- LDX doesn't use imm
unfoldable pub load : Fields → Instruction
load f = lookup f.opcode loads (λ size. only (eqb f.imm 0) (Load size f.dst f.src (extend 16 f.off)))

-- ST stores imm and doesn't use src
unfoldable pub store_of_imm : Fields → Instruction
store_of_imm f =
    lookup f.opcode stores_of_imm
    (λ size. only (eqb f.src 0) (Store size f.dst (extend 16 f.off) (Immediate (extend 32 f.imm))))

-- STX stores the register src and doesn't use imm
unfoldable pub store_of_src : Fields → Instruction
store_of_src f =
    lookup f.opcode stores_of_src (λ size. only (eqb f.imm 0) (Store size f.dst (extend 16 f.off) (Register f.src)))

-- ---- what the fields mean: the low three bits of the opcode are its class; dst or src above 10 is no instruction

unfoldable pub by_class : Fields → Instruction
by_class f =
    cond (eqb (f.opcode % 8) 7) (arithmetic Long f)
    (cond (eqb (f.opcode % 8) 4) (arithmetic Short f)
    (cond (eqb (f.opcode % 8) 5) (jump Long f)
    (cond (eqb (f.opcode % 8) 6) (jump Short f)
    (cond (eqb (f.opcode % 8) 1) (load f)
    (cond (eqb (f.opcode % 8) 2) (store_of_imm f)
    (cond (eqb (f.opcode % 8) 3) (store_of_src f)
    NoInstruction))))))

unfoldable pub meaning : Fields → Instruction
meaning f = only (leb f.dst 10 && leb f.src 10) (by_class f)

-- the instruction that the eight bytes of m at i are
unfoldable pub decode : List ℕ → ℕ → Instruction
decode m i = meaning (fields m i)

-- ---- which registers an instruction reads and writes

unfoldable pub reads_operand : Operand → List ℕ
reads_operand (Immediate n) = []
reads_operand (Register r) = r ∷ []

-- only MOV doesn't read dst
unfoldable pub reads_dst : Operation → ℕ → List ℕ
reads_dst Add d = d ∷ []
reads_dst Sub d = d ∷ []
reads_dst Mul d = d ∷ []
reads_dst Div d = d ∷ []
reads_dst Or d = d ∷ []
reads_dst And d = d ∷ []
reads_dst Lsh d = d ∷ []
reads_dst Rsh d = d ∷ []
reads_dst operation.Neg d = d ∷ []
reads_dst Mod d = d ∷ []
reads_dst Xor d = d ∷ []
reads_dst Mov d = []
reads_dst Arsh d = d ∷ []

-- EXIT reads r0
unfoldable pub reads : Instruction → List ℕ
reads (Alu w op d s) = reads_dst op d ++ reads_operand s
reads (Neg w d) = d ∷ []
reads (Jump w c d s off) = d ∷ reads_operand s
reads (Always off) = []
reads Exit = 0 ∷ []
reads (Load z d s off) = s ∷ []
reads (Store z d off s) = d ∷ reads_operand s
reads NoInstruction = []

unfoldable pub writes : Instruction → List ℕ
writes (Alu w op d s) = d ∷ []
writes (Neg w d) = d ∷ []
writes (Jump w c d s off) = []
writes (Always off) = []
writes Exit = []
writes (Load z d s off) = d ∷ []
writes (Store z d off s) = []
writes NoInstruction = []
