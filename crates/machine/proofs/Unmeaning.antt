-- The fields of a proper instruction mean that instruction, so no two proper instructions have the same fields.
use mathlib.Core.Path.{◌≡◌, refl, ap, ap₂, ◌∙◌}
use mathlib.Core.Logic.{◌≢◌}
use Prim.Native.Nat.{ℕ, ◌+◌, ◌/◌, ◌%◌, ◌≤◌, ◌<◌}
use native.Mathlib.Omega.{arith}
use borrow.Author.Tests.{le-leb, ne_eqb}
use Rattle.word.specs.Word.{cut, extend}
use Rattle.word.specs.declared.Operation.{Operation}
use Rattle.word.specs.declared.Operation.TheVariants.{Add, Sub, Mul, Div, Or, And, Lsh, Rsh, Mod, Xor, Mov, Arsh}
use Rattle.word.specs.declared.Operation.TheVariants as operation
use Rattle.word.specs.declared.Comparison.{Comparison}
use Rattle.word.specs.declared.Comparison.TheVariants.{Eq, Gt, Ge, Set, Ne, Sgt, Sge, Lt, Le, Slt, Sle}
use Rattle.machine.specs.declared.instruction.Width.{Width}
use Rattle.machine.specs.declared.instruction.Width.TheVariants.{Long, Short}
use Rattle.machine.specs.declared.instruction.Size.{Size}
use Rattle.machine.specs.declared.instruction.Size.TheVariants.{One, Two, Four, Eight}
use Rattle.machine.specs.declared.instruction.Operand.{Operand}
use Rattle.machine.specs.declared.instruction.Operand.TheVariants.{Immediate, Register}
use Rattle.machine.specs.declared.instruction.Instruction.{Instruction}
use Rattle.machine.specs.declared.instruction.Instruction.TheVariants.{Alu, Neg, Jump, Always, Exit, Load, Store, NoInstruction}
use Rattle.machine.specs.declared.instruction.Fields.{Fields}
use Rattle.machine.specs.Instruction.{only, lookup, with_operand, operations, arithmetic, comparisons, jump, loads, stores_of_imm, stores_of_src, load, store_of_imm, store_of_src, by_class, meaning}
use Rattle.machine.proofs.Proper.{operation_code, comparison_code, size_code, class, jump_class, is_register, src_of, imm_of, unmeaning, Extended, ProperOperand, Proper, extend_cut}

-- ---- each table has a line for what the way back gives a code

pub operation_found : (op : Operation) (found : Operation → Instruction) → op ≢ operation.Neg → (operation_code op ≢ 8) × (operation_code op < 16) × (lookup (operation_code op) operations found ≡ found op)
unfolding operation_code lookup operations
operation_found Add found n = (omega arith, omega arith, refl)
operation_found Sub found n = (omega arith, omega arith, refl)
operation_found Mul found n = (omega arith, omega arith, refl)
operation_found Div found n = (omega arith, omega arith, refl)
operation_found Or found n = (omega arith, omega arith, refl)
operation_found And found n = (omega arith, omega arith, refl)
operation_found Lsh found n = (omega arith, omega arith, refl)
operation_found Rsh found n = (omega arith, omega arith, refl)
operation_found operation.Neg found n = absurd (n refl)
operation_found Mod found n = (omega arith, omega arith, refl)
operation_found Xor found n = (omega arith, omega arith, refl)
operation_found Mov found n = (omega arith, omega arith, refl)
operation_found Arsh found n = (omega arith, omega arith, refl)

pub comparison_found : (c : Comparison) (found : Comparison → Instruction) → (comparison_code c ≢ 0) × (comparison_code c ≢ 9) × (comparison_code c < 16) × (lookup (comparison_code c) comparisons found ≡ found c)
unfolding comparison_code lookup comparisons
comparison_found Eq found = (omega arith, omega arith, omega arith, refl)
comparison_found Gt found = (omega arith, omega arith, omega arith, refl)
comparison_found Ge found = (omega arith, omega arith, omega arith, refl)
comparison_found Set found = (omega arith, omega arith, omega arith, refl)
comparison_found Ne found = (omega arith, omega arith, omega arith, refl)
comparison_found Sgt found = (omega arith, omega arith, omega arith, refl)
comparison_found Sge found = (omega arith, omega arith, omega arith, refl)
comparison_found Lt found = (omega arith, omega arith, omega arith, refl)
comparison_found Le found = (omega arith, omega arith, omega arith, refl)
comparison_found Slt found = (omega arith, omega arith, omega arith, refl)
comparison_found Sle found = (omega arith, omega arith, omega arith, refl)

load_found : (z : Size) (d s o : ℕ) → by_class (record { opcode = size_code z + 1; dst = d; src = s; off = o; imm = 0 }) ≡ Load z d s (extend 16 o)
unfolding by_class load loads lookup only size_code
load_found One d s o = refl
load_found Two d s o = refl
load_found Four d s o = refl
load_found Eight d s o = refl

store_of_imm_found : (z : Size) (d o v : ℕ) → by_class (record { opcode = size_code z + 2 + 0; dst = d; src = 0; off = o; imm = v }) ≡ Store z d (extend 16 o) (Immediate (extend 32 v))
unfolding by_class store_of_imm stores_of_imm lookup only size_code
store_of_imm_found One d o v = refl
store_of_imm_found Two d o v = refl
store_of_imm_found Four d o v = refl
store_of_imm_found Eight d o v = refl

store_of_src_found : (z : Size) (d s o : ℕ) → by_class (record { opcode = size_code z + 2 + 1; dst = d; src = s; off = o; imm = 0 }) ≡ Store z d (extend 16 o) (Register s)
unfolding by_class store_of_src stores_of_src lookup only size_code
store_of_src_found One d s o = refl
store_of_src_found Two d s o = refl
store_of_src_found Four d s o = refl
store_of_src_found Eight d s o = refl

-- ---- the fields of a proper instruction mean it

extended_back : (w n : ℕ) → Extended w n → extend w (cut w n) ≡ n
extended_back w n e = extend_cut w n ∙ e

pub src_of_small : (s : Operand) → ProperOperand s → src_of s ≤ 10
unfolding src_of
src_of_small (Immediate n) p = omega arith
src_of_small (Register r) p = p

pub is_register_small : (s : Operand) → is_register s ≤ 1
unfolding is_register
is_register_small (Immediate n) = omega arith
is_register_small (Register r) = omega arith

pub class_small : (w : Width) → class w < 8
unfolding class
class_small Long = omega arith
class_small Short = omega arith

pub jump_class_small : (w : Width) → jump_class w < 8
unfolding jump_class
jump_class_small Long = omega arith
jump_class_small Short = omega arith

registers_pass : (f : Fields) → f.dst ≤ 10 → f.src ≤ 10 → meaning f ≡ by_class f
unfolding meaning only
registers_pass f d s = simp (le-leb _ _ d, le-leb _ _ s)

operand_found : (f : Fields) (s : Operand) (found : Operand → Instruction) → is_register s ≡ f.opcode / 8 % 2 → src_of s ≡ f.src → imm_of s ≡ f.imm → ProperOperand s → with_operand f found ≡ found s
unfolding with_operand only is_register src_of imm_of
operand_found f (Immediate n) found b e v p = simp (← b, ← e, ← v) (ap (λ x. found (Immediate x)) (extended_back 32 n p))
operand_found f (Register r) found b e v p = simp (← b, ← e, ← v)

class_found : (w : Width) (f : Fields) → f.opcode % 8 ≡ class w → by_class f ≡ arithmetic w f
unfolding by_class class
class_found Long f c = simp c
class_found Short f c = simp c

jump_class_found : (w : Width) (f : Fields) → f.opcode % 8 ≡ jump_class w → by_class f ≡ jump w f
unfolding by_class jump_class
jump_class_found Long f c = simp c
jump_class_found Short f c = simp c

module _ (f : Fields) (s : Operand) (b : is_register s ≡ f.opcode / 8 % 2) (e : src_of s ≡ f.src) (v : imm_of s ≡ f.imm) (p : ProperOperand s) where
  arithmetic_found : (w : Width) (op : Operation) → op ≢ operation.Neg → f.off ≡ 0 → f.opcode / 16 ≡ operation_code op → arithmetic w f ≡ Alu w op f.dst s
  unfolding arithmetic only
  arithmetic_found w op n z o =
      let (ne, _, found) = operation_found op (λ op. with_operand f (λ s. Alu w op f.dst s)) n in
      simp (z, o, ne_eqb _ _ ne, found) (operand_found f s (λ s. Alu w op f.dst s) b e v p)

  jump_found : (w : Width) (c : Comparison) → f.opcode / 16 ≡ comparison_code c → jump w f ≡ Jump w c f.dst s (extend 16 f.off)
  unfolding jump only
  jump_found w c o =
      let (not-ja, not-exit, _, found) = comparison_found c (λ c. with_operand f (λ s. Jump w c f.dst s (extend 16 f.off))) in
      let ja : f.opcode ≢ 0x05 = omega arith in
      let exit : f.opcode ≢ 0x95 = omega arith in
      simp (o, ne_eqb _ _ ja, ne_eqb _ _ exit, found) (operand_found f s (λ s. Jump w c f.dst s (extend 16 f.off)) b e v p)

neg_found : (w : Width) (d : ℕ) → by_class (unmeaning (Neg w d)) ≡ Neg w d
unfolding by_class unmeaning class arithmetic only
neg_found Long d = refl
neg_found Short d = refl

always_found : (off : ℕ) → meaning (unmeaning (Always off)) ≡ Always (extend 16 (cut 16 off))
unfolding meaning by_class jump only unmeaning
always_found off = refl

exit_found : meaning (unmeaning Exit) ≡ Exit
unfolding meaning by_class jump only unmeaning
exit_found = refl

pub meaning_unmeaning : (i : Instruction) → Proper i → meaning (unmeaning i) ≡ i
unfolding unmeaning is_register src_of imm_of
meaning_unmeaning (Alu w op d s) p =
    let f = unmeaning (Alu w op d s) in
    let small = is_register_small s in
    let class_of = class_small w in
    registers_pass f p.1 (src_of_small s p.2)
    ∙ class_found w f (omega arith)
    ∙ arithmetic_found f s (omega arith) refl refl p.2 w op p.0 refl (omega arith)
meaning_unmeaning (Neg w d) p = registers_pass (unmeaning (Neg w d)) p (omega arith) ∙ neg_found w d
meaning_unmeaning (Jump w c d s off) p =
    let f = unmeaning (Jump w c d s off) in
    let small = is_register_small s in
    let class_of = jump_class_small w in
    registers_pass f p.0 (src_of_small s p.1)
    ∙ jump_class_found w f (omega arith)
    ∙ jump_found f s (omega arith) refl refl p.1 w c (omega arith)
    ∙ ap (Jump w c d s) (extended_back 16 off p.2)
meaning_unmeaning (Always off) p = always_found off ∙ ap Always (extended_back 16 off p)
meaning_unmeaning Exit p = exit_found
meaning_unmeaning (Load z d s off) p =
    registers_pass (unmeaning (Load z d s off)) p.0 p.1 ∙ load_found z d s (cut 16 off) ∙ ap (Load z d s) (extended_back 16 off p.2)
meaning_unmeaning (Store z d off (Immediate n)) p =
    registers_pass (unmeaning (Store z d off (Immediate n))) p.0 (omega arith)
    ∙ store_of_imm_found z d (cut 16 off) (cut 32 n)
    ∙ ap₂ (λ o n. Store z d o (Immediate n)) (extended_back 16 off p.2) (extended_back 32 n p.1)
meaning_unmeaning (Store z d off (Register r)) p =
    registers_pass (unmeaning (Store z d off (Register r))) p.0 p.1
    ∙ store_of_src_found z d r (cut 16 off)
    ∙ ap (λ o. Store z d o (Register r)) (extended_back 16 off p.2)
meaning_unmeaning NoInstruction p = absurd p
