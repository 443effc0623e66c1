-- Which opcodes decode: 108 of the 256, counted, and no other decodes whatever stands in the other seven bytes.
use mathlib.Core.Path.{◌≡◌, refl, sym, ap, ◌∙◌}
use mathlib.Core.Bool.{Bool, true, false, not, cond, ◌&&◌, ◌||◌}
use mathlib.Core.List.{List, [], ◌∷◌}
use Prim.Native.Nat.{ℕ, zero, suc, ◌+◌, ◌%◌}
use native.Mathlib.Omega.{arith}
use lib.ListN.{get_or}
use lib.Dec.{leb, eqb}
use Rattle.word.specs.Word.{cut, extend, read_bytes}
use Rattle.machine.specs.declared.instruction.Operand.{Operand}
use Rattle.machine.specs.declared.instruction.Operand.TheVariants.{Immediate, Register}
use Rattle.machine.specs.declared.instruction.Instruction.{Instruction}
use Rattle.machine.specs.declared.instruction.Instruction.TheVariants.{Alu, Neg, Jump, Always, Exit, Load, Store, NoInstruction}
use Rattle.machine.specs.declared.instruction.Fields.{Fields}
use Rattle.machine.specs.Instruction.{fields, only, lookup, with_operand, operations, arithmetic, comparisons, jump, loads, stores_of_imm, stores_of_src, load, store_of_imm, store_of_src, by_class, meaning, decode}
use Rattle.machine.specs.Machine.{is_no_instruction}
use Rattle.machine.proofs.Proper.{is_register, src_of, imm_of, unmeaning, ProperOperand, Proper}
use Rattle.machine.proofs.Meaning.{meaning_proper, opcode_kept}
use Rattle.machine.proofs.Unmeaning.{meaning_unmeaning}

-- ---- the count

-- the eight bytes k 0 0 0 0 0 0 0 are an instruction
unfoldable pub opcode_decodes : ℕ → Bool
opcode_decodes k = not (is_no_instruction (decode (k ∷ 0 ∷ 0 ∷ 0 ∷ 0 ∷ 0 ∷ 0 ∷ 0 ∷ []) 0))

-- how many numbers below n pass the test
abbrev pub count : ℕ → (ℕ → Bool) → ℕ
count zero test = 0
count (suc n) test = cond (test n) 1 0 + count n test

-- how many of the 256 opcodes decode and are of a class that passes the test
unfoldable pub opcodes_of : (ℕ → Bool) → ℕ
unfolding opcode_decodes read_bytes extend cut fields only lookup with_operand operations arithmetic comparisons jump loads stores_of_imm stores_of_src load store_of_imm store_of_src by_class meaning decode is_no_instruction
opcodes_of class = count 256 (λ k. class (k % 8) && opcode_decodes k)

pub opcodes_arithmetic : opcodes_of (λ class. eqb class 4 || eqb class 7) ≡ 50
unfolding opcodes_of
opcodes_arithmetic = refl

pub opcodes_jump : opcodes_of (λ class. eqb class 5 || eqb class 6) ≡ 46
unfolding opcodes_of
opcodes_jump = refl

pub opcodes_memory : opcodes_of (λ class. leb 1 class && leb class 3) ≡ 12
unfolding opcodes_of
opcodes_memory = refl

pub opcodes_all : opcodes_of (λ class. true) ≡ 108
unfolding opcodes_of
opcodes_all = refl

-- ---- an opcode that decodes with other fields decodes with all of them 0

blank_operand : Operand → Operand
blank_operand (Immediate n) = Immediate 0
blank_operand (Register r) = Register 0

-- the instruction with the same opcode, all of whose fields are 0
blank : Instruction → Instruction
blank (Alu w op d s) = Alu w op 0 (blank_operand s)
blank (Neg w d) = Neg w 0
blank (Jump w c d s off) = Jump w c 0 (blank_operand s) 0
blank (Always off) = Always 0
blank Exit = Exit
blank (Load z d s off) = Load z 0 0 0
blank (Store z d off s) = Store z 0 0 (blank_operand s)
blank NoInstruction = NoInstruction

unfoldable pub fields_of_opcode : ℕ → Fields
fields_of_opcode k = record { opcode = k; dst = 0; src = 0; off = 0; imm = 0 }

blank_fields : (i : Instruction) → unmeaning (blank i) ≡ fields_of_opcode (unmeaning i).opcode
unfolding unmeaning blank blank_operand fields_of_opcode is_register src_of imm_of cut
blank_fields (Alu w op d (Immediate n)) = refl
blank_fields (Alu w op d (Register r)) = refl
blank_fields (Neg w d) = refl
blank_fields (Jump w c d (Immediate n) off) = refl
blank_fields (Jump w c d (Register r) off) = refl
blank_fields (Always off) = refl
blank_fields Exit = refl
blank_fields (Load z d s off) = refl
blank_fields (Store z d off (Immediate n)) = refl
blank_fields (Store z d off (Register r)) = refl
blank_fields NoInstruction = refl

blank_operand_proper : (s : Operand) → ProperOperand (blank_operand s)
unfolding blank_operand extend cut
blank_operand_proper (Immediate n) = refl
blank_operand_proper (Register r) = omega arith

blank_proper : (i : Instruction) → Proper i → Proper (blank i)
unfolding blank extend cut
blank_proper (Alu w op d s) p = (p.0, omega arith, blank_operand_proper s)
blank_proper (Neg w d) p = omega arith
blank_proper (Jump w c d s off) p = (omega arith, blank_operand_proper s, refl)
blank_proper (Always off) p = refl
blank_proper Exit p = tt
blank_proper (Load z d s off) p = (omega arith, omega arith, refl)
blank_proper (Store z d off s) p = (omega arith, blank_operand_proper s, refl)
blank_proper NoInstruction p = p

proper_instruction : (i : Instruction) → Proper i → is_no_instruction i ≡ false
unfolding is_no_instruction
proper_instruction (Alu w op d s) p = refl
proper_instruction (Neg w d) p = refl
proper_instruction (Jump w c d s off) p = refl
proper_instruction (Always off) p = refl
proper_instruction Exit p = refl
proper_instruction (Load z d s off) p = refl
proper_instruction (Store z d off s) p = refl
proper_instruction NoInstruction p = absurd p

pub opcode_suffices : (f : Fields) → is_no_instruction (meaning f) ≡ false → is_no_instruction (meaning (fields_of_opcode f.opcode)) ≡ false
opcode_suffices f t =
    let i = meaning f in
    let proper = meaning_proper f t in
    let same : unmeaning (blank i) ≡ fields_of_opcode f.opcode = blank_fields i ∙ ap fields_of_opcode (opcode_kept f t) in
    ap is_no_instruction (ap meaning (sym same) ∙ meaning_unmeaning (blank i) (blank_proper i proper)) ∙ proper_instruction (blank i) (blank_proper i proper)

-- so these 108 are the opcodes that decode at all
pub only_these_decode : (b : List ℕ) → is_no_instruction (decode b 0) ≡ false → opcode_decodes (get_or b 0 0) ≡ true
unfolding opcode_decodes decode fields read_bytes fields_of_opcode
only_these_decode b t = ap not (opcode_suffices (fields b 0) t)
