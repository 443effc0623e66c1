-- The instructions that there are, and the way back from an instruction to its fields. Here are the definitions,
-- and what makes off and imm come back: a number is the extension of its own low bits.
use mathlib.Core.Path.{◌≡◌, refl, sym, ap, ◌∙◌}
use mathlib.Core.Logic.{◌≢◌}
use mathlib.Core.Bool.{Bool, true, false, cond}
use Prim.Native.Nat.{ℕ, ◌+◌, ◌-◌, ◌*◌, ◌%◌, ◌^◌, ◌≤◌}
use native.Mathlib.Nat.{mod-mod, add-mul-mod_self_left}
use lib.Dec.{ltb}
use Rattle.word.specs.Word.{cut, extend}
use Rattle.word.specs.declared.Operation.{Operation}
use Rattle.word.specs.declared.Operation.TheVariants.{Add, Sub, Mul, Div, Or, And, Lsh, Rsh, Mod, Xor, Mov, Arsh}
use Rattle.word.specs.declared.Operation.TheVariants as operation
use Rattle.word.specs.declared.Comparison.{Comparison}
use Rattle.word.specs.declared.Comparison.TheVariants.{Eq, Gt, Ge, Set, Ne, Sgt, Sge, Lt, Le, Slt, Sle}
use Rattle.machine.specs.declared.instruction.Width.{Width}
use Rattle.machine.specs.declared.instruction.Width.TheVariants.{Long, Short}
use Rattle.machine.specs.declared.instruction.Size.{Size}
use Rattle.machine.specs.declared.instruction.Size.TheVariants.{One, Two, Four, Eight}
use Rattle.machine.specs.declared.instruction.Operand.{Operand}
use Rattle.machine.specs.declared.instruction.Operand.TheVariants.{Immediate, Register}
use Rattle.machine.specs.declared.instruction.Instruction.{Instruction}
use Rattle.machine.specs.declared.instruction.Instruction.TheVariants.{Alu, Neg, Jump, Always, Exit, Load, Store, NoInstruction}
use Rattle.machine.specs.declared.instruction.Fields.{Fields}

-- ---- the fields of an instruction

unfoldable pub operation_code : Operation → ℕ
operation_code Add = 0
operation_code Sub = 1
operation_code Mul = 2
operation_code Div = 3
operation_code Or = 4
operation_code And = 5
operation_code Lsh = 6
operation_code Rsh = 7
operation_code operation.Neg = 8
operation_code Mod = 9
operation_code Xor = 10
operation_code Mov = 11
operation_code Arsh = 12

unfoldable pub comparison_code : Comparison → ℕ
comparison_code Eq = 1
comparison_code Gt = 2
comparison_code Ge = 3
comparison_code Set = 4
comparison_code Ne = 5
comparison_code Sgt = 6
comparison_code Sge = 7
comparison_code Lt = 10
comparison_code Le = 11
comparison_code Slt = 12
comparison_code Sle = 13

-- the opcode of a load or a store, but for its class
unfoldable pub size_code : Size → ℕ
size_code One = 0x70
size_code Two = 0x68
size_code Four = 0x60
size_code Eight = 0x78

unfoldable pub class : Width → ℕ
class Long = 7
class Short = 4

unfoldable pub jump_class : Width → ℕ
jump_class Long = 5
jump_class Short = 6

-- 1 where the operand is a register: bit 3 of an opcode of class 4 to 7, and what tells STX from ST
unfoldable pub is_register : Operand → ℕ
is_register (Immediate n) = 0
is_register (Register r) = 1

unfoldable pub src_of : Operand → ℕ
src_of (Immediate n) = 0
src_of (Register r) = r

unfoldable pub imm_of : Operand → ℕ
imm_of (Immediate n) = cut 32 n
imm_of (Register r) = 0

unfoldable pub unmeaning : Instruction → Fields
unmeaning (Alu w op d s) =
    record { opcode = 16 * operation_code op + 8 * is_register s + class w; dst = d; src = src_of s; off = 0; imm = imm_of s }
unmeaning (Neg w d) = record { opcode = 16 * 8 + class w; dst = d; src = 0; off = 0; imm = 0 }
unmeaning (Jump w c d s off) =
    record { opcode = 16 * comparison_code c + 8 * is_register s + jump_class w; dst = d; src = src_of s; off = cut 16 off; imm = imm_of s }
unmeaning (Always off) = record { opcode = 0x05; dst = 0; src = 0; off = cut 16 off; imm = 0 }
unmeaning Exit = record { opcode = 0x95; dst = 0; src = 0; off = 0; imm = 0 }
unmeaning (Load z d s off) = record { opcode = size_code z + 1; dst = d; src = s; off = cut 16 off; imm = 0 }
unmeaning (Store z d off s) =
    record { opcode = size_code z + 2 + is_register s; dst = d; src = src_of s; off = cut 16 off; imm = imm_of s }
unmeaning NoInstruction = record { opcode = 0; dst = 0; src = 0; off = 0; imm = 0 }

-- fields equal one by one
pub fields_equal : (f g : Fields) → f.opcode ≡ g.opcode → f.dst ≡ g.dst → f.src ≡ g.src → f.off ≡ g.off → f.imm ≡ g.imm → f ≡ g
fields_equal f g o d s u v = λ j. record { opcode = o j; dst = d j; src = s j; off = u j; imm = v j }

-- ---- the instructions that there are: n is the extension of 16 or 32 bits with their sign if it is that of its own low bits

abbrev pub Extended : ℕ → ℕ → Type 0
Extended w n = extend w n ≡ n

abbrev pub ProperOperand : Operand → Type 0
ProperOperand (Immediate n) = Extended 32 n
ProperOperand (Register r) = r ≤ 10

-- registers are r0 to r10, and NEG is never an operation with a second operand
abbrev pub Proper : Instruction → Type 0
Proper (Alu w op d s) = (op ≢ operation.Neg) × (d ≤ 10) × ProperOperand s
Proper (Neg w d) = d ≤ 10
Proper (Jump w c d s off) = (d ≤ 10) × ProperOperand s × Extended 16 off
Proper (Always off) = Extended 16 off
Proper Exit = Unit {0}
Proper (Load z d s off) = (d ≤ 10) × (s ≤ 10) × Extended 16 off
Proper (Store z d off s) = (d ≤ 10) × ProperOperand s × Extended 16 off
Proper NoInstruction = ⊥

-- ---- an extension and its low bits

pub extend_cut : (w x : ℕ) → extend w (cut w x) ≡ extend w x
unfolding extend cut
extend_cut w x = simp mod-mod

-- 2 ^ 64 - 2 ^ w, which the sign adds, is a multiple of 2 ^ w
cut_signed : (w k x : ℕ) (b : Bool) → 2 ^ 64 - 2 ^ w ≡ 2 ^ w * k → cond b (x % 2 ^ w) (x % 2 ^ w + (2 ^ 64 - 2 ^ w)) % 2 ^ w ≡ x % 2 ^ w
cut_signed w k x true e = mod-mod x (2 ^ w)
cut_signed w k x false e = rw e (add-mul-mod_self_left (x % 2 ^ w) (2 ^ w) k ∙ mod-mod x (2 ^ w))

cut_extend : (w k x : ℕ) → 2 ^ 64 - 2 ^ w ≡ 2 ^ w * k → cut w (extend w x) ≡ cut w x
unfolding cut extend
cut_extend w k x e = cut_signed w k x (ltb (x % 2 ^ w) (2 ^ (w - 1))) e

-- a field comes back from its extension, which is an extension
extend_extended : (w k x : ℕ) → 2 ^ 64 - 2 ^ w ≡ 2 ^ w * k → Extended w (extend w x)
extend_extended w k x e = sym (extend_cut w (extend w x)) ∙ ap (extend w) (cut_extend w k x e) ∙ extend_cut w x

pub imm_back : (x : ℕ) → cut 32 (extend 32 x) ≡ cut 32 x
imm_back x = cut_extend 32 (2 ^ 32 - 1) x refl

pub off_back : (x : ℕ) → cut 16 (extend 16 x) ≡ cut 16 x
off_back x = cut_extend 16 (2 ^ 48 - 1) x refl

pub imm_extended : (x : ℕ) → Extended 32 (extend 32 x)
imm_extended x = extend_extended 32 (2 ^ 32 - 1) x refl

pub off_extended : (x : ℕ) → Extended 16 (extend 16 x)
off_extended x = extend_extended 16 (2 ^ 48 - 1) x refl
