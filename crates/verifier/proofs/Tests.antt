-- The tests on form, one instruction after the other: which tests each instruction is put to, and a turn of the loop.
use Prim.Native.Nat.{ℕ, zero, suc, ◌+◌, ◌-◌, ◌*◌, ◌/◌, ◌%◌, ◌^◌, ◌≤◌, ◌<◌}
use mathlib.Core.Path.{◌≡◌, refl, sym, ap, ap₂, ◌∙◌, subst}
use mathlib.Core.Bool.{Bool, true, false, cond, ◌&&◌, ◌||◌}
use mathlib.Core.List.{List, [], ◌∷◌}
use lib.ListN.{length}
use lib.Dec.{eqb, leb}
use native.Mathlib.Omega.{arith}
use borrow.Author.Tests.{le-leb, ne_eqb, leb-false}
use Rattle.std.specs.Prelude.{Option, Some, None, Result, Ok, Err}
use Rattle.word.specs.declared.Comparison.{Comparison}
use Rattle.word.specs.declared.Operation.{Operation}
use Rattle.machine.specs.declared.instruction.Width.{Width}
use Rattle.machine.specs.declared.instruction.Width.TheVariants.{Long, Short}
use Rattle.machine.specs.declared.instruction.Size.{Size}
use Rattle.machine.specs.declared.instruction.Operand.{Operand}
use Rattle.machine.specs.declared.instruction.Operand.TheVariants.{Immediate, Register}
use Rattle.machine.specs.declared.instruction.Instruction.{Instruction}
use Rattle.machine.specs.declared.instruction.Instruction.TheVariants.{Alu, Neg, Jump, Always, Exit, Load, Store, NoInstruction}
use Rattle.word.specs.Word.{extend}
use Rattle.machine.specs.declared.instruction.Fields.{Fields}
use Rattle.machine.specs.Instruction.{fields, only, Line, ◌means◌, lookup, with_operand, operations, arithmetic, comparisons, jump, loads, stores_of_imm, stores_of_src, load, store_of_imm, store_of_src, by_class, meaning, decode, writes}
use Rattle.machine.specs.Machine.{is_no_instruction, names10}
use Rattle.analysis.specs.declared.Reason.{Reason}
use Rattle.analysis.specs.declared.Reason.TheVariants.{NoCode, WritesR10, JumpsBack, JumpsOut}
use Rattle.analysis.specs.declared.Finding.{Finding}
use Rattle.analysis.specs.declared.Finding.TheVariants.{Accepted, Refused}
use Rattle.analysis.specs.Form.{instruction, off_of, goes_back, goes_out, may_be_last, failing}
use Rattle.analysis.specs.Judged.{or_else, formed}
use Rattle.verifier.specs.Form.{told, when_last, when_writing, when_jumping, coded, has_line, with_operand_tests, arithmetic_tests, jump_tests, load_tests, store_of_imm_tests, store_of_src_tests, class_tests, field_tests}

-- ---- which tests an instruction is put to

last_or_not : (b : Bool) → cond (b && true) (Some JumpsOut) None ≡ cond b (Some JumpsOut) None
last_or_not true = refl
last_or_not false = refl

writes_or_not : (a b : Bool) → cond (a || false) (Some WritesR10) (cond (b && true) (Some JumpsOut) None) ≡ cond a (Some WritesR10) (cond b (Some JumpsOut) None)
writes_or_not true b = refl
writes_or_not false b = last_or_not b

module _ (n i : ℕ) where
  pub tests_of_arithmetic : (w : Width) (op : Operation) (d : ℕ) (s : Operand) → when_writing n i d ≡ failing n i (Alu w op d s)
  unfolding failing is_no_instruction names10 writes goes_back off_of goes_out may_be_last
  tests_of_arithmetic w op d s = sym (writes_or_not (eqb d 10) (eqb (i + 1) n))

  pub tests_of_a_negation : (w : Width) (d : ℕ) → when_writing n i d ≡ failing n i (Neg w d)
  unfolding failing is_no_instruction names10 writes goes_back off_of goes_out may_be_last
  tests_of_a_negation w d = sym (writes_or_not (eqb d 10) (eqb (i + 1) n))

  pub tests_of_a_load : (z : Size) (d s off : ℕ) → when_writing n i d ≡ failing n i (Load z d s off)
  unfolding failing is_no_instruction names10 writes goes_back off_of goes_out may_be_last
  tests_of_a_load z d s off = sym (writes_or_not (eqb d 10) (eqb (i + 1) n))

  pub tests_of_a_store : (z : Size) (d off : ℕ) (s : Operand) → when_last n i ≡ failing n i (Store z d off s)
  unfolding failing is_no_instruction names10 writes goes_back off_of goes_out may_be_last
  tests_of_a_store z d off s = sym (last_or_not (eqb (i + 1) n))

  pub tests_of_an_exit : None ≡ failing n i Exit
  unfolding failing is_no_instruction names10 writes goes_back off_of goes_out may_be_last
  tests_of_an_exit = never (eqb (i + 1) n)
    where
      never : (b : Bool) → None ≡ cond (b && false) (Some JumpsOut) None
      never true = refl
      never false = refl

  pub tests_of_ja : (off : ℕ) → when_jumping n i off ≡ failing n i (Always off)
  unfolding failing is_no_instruction names10 writes goes_back off_of goes_out may_be_last
  tests_of_ja off = ap (λ x. cond (leb (2 ^ 63) off) (Some JumpsBack) x) (never (leb n (i + 1 + off)) (eqb (i + 1) n))
    where
      never : (a b : Bool) → cond a (Some JumpsOut) None ≡ cond (a || (b && false)) (Some JumpsOut) None
      never true b = refl
      never false true = refl
      never false false = refl

  -- a target within the program has an instruction before it
  pub tests_of_a_jump : (w : Width) (c : Comparison) (d : ℕ) (s : Operand) (off : ℕ) → when_jumping n i off ≡ failing n i (Jump w c d s off)
  unfolding failing is_no_instruction names10 writes goes_back off_of goes_out may_be_last
  tests_of_a_jump w c d s off = ap (λ x. cond (leb (2 ^ 63) off) (Some JumpsBack) x) (never (leb n (i + 1 + off)) refl)
    where
      never : (a : Bool) → leb n (i + 1 + off) ≡ a → cond a (Some JumpsOut) None ≡ cond (a || (eqb (i + 1) n && true)) (Some JumpsOut) None
      never true e = refl
      never false e = let q : i + 1 + off < n = leb-false _ _ e in rw (ne_eqb (i + 1) n (λ z. omega arith))

-- ---- the tests on the fields are those on the instruction

module _ (n i : ℕ) where
  code_or_none : (b : Bool) (ins : Instruction) → coded b (failing n i ins) ≡ failing n i (only b ins)
  unfolding coded only failing is_no_instruction
  code_or_none true ins = refl
  code_or_none false ins = refl

  one_of_two : (b : Bool) (x y : Instruction) → cond b (failing n i x) (failing n i y) ≡ failing n i (cond b x y)
  one_of_two true x y = refl
  one_of_two false x y = refl

  -- what every line of a table is put to
  tests_of_a_line : {A : Type 0} (code : ℕ) (lines : List (Line A)) (found : A → Instruction) (v : Option Reason) → ((a : A) → v ≡ failing n i (found a))
      → coded (has_line code lines) v ≡ failing n i (lookup code lines found)
  unfolding coded has_line lookup failing is_no_instruction
  tests_of_a_line code [] found v h = refl
  tests_of_a_line code ((c means a) ∷ lines) found v h = this_line (eqb code c) (tests_of_a_line code lines found v h)
    where
      found_here : (x : Bool) → cond (x || true) v (Some NoCode) ≡ v
      found_here true = refl
      found_here false = refl

      found_later : (x : Bool) → cond (x || false) v (Some NoCode) ≡ cond x v (Some NoCode)
      found_later true = refl
      found_later false = refl

      this_line : (b : Bool) → cond (has_line code lines) v (Some NoCode) ≡ failing n i (lookup code lines found)
          → cond (has_line code lines || b) v (Some NoCode) ≡ failing n i (cond b (found a) (lookup code lines found))
      this_line true later = found_here (has_line code lines) ∙ h a
      this_line false later = found_later (has_line code lines) ∙ later

  tests_of_either_operand : (f : Fields) (found : Operand → Instruction) (v : Option Reason) → ((s : Operand) → v ≡ failing n i (found s))
      → with_operand_tests f v ≡ failing n i (with_operand f found)
  unfolding with_operand_tests with_operand
  tests_of_either_operand f found v h =
      ap₂ (cond (eqb (f.opcode / 8 % 2) 0))
      (ap (coded (eqb f.src 0)) (h _) ∙ code_or_none (eqb f.src 0) _)
      (ap (coded (eqb f.imm 0)) (h _) ∙ code_or_none (eqb f.imm 0) _)
      ∙ one_of_two (eqb (f.opcode / 8 % 2) 0) _ _

  arithmetic_by_fields : (w : Width) (f : Fields) → arithmetic_tests n i f ≡ failing n i (arithmetic w f)
  unfolding arithmetic_tests arithmetic
  arithmetic_by_fields w f =
      ap (coded (eqb f.off 0))
      (ap₂ (cond (eqb (f.opcode / 16) 8))
      (ap (coded (eqb (f.opcode / 8 % 2) 0 && eqb f.src 0 && eqb f.imm 0)) (tests_of_a_negation n i w f.dst) ∙ code_or_none _ (Neg w f.dst))
      (tests_of_a_line (f.opcode / 16) operations (λ op. with_operand f (λ s. Alu w op f.dst s)) _
      (λ op. tests_of_either_operand f (λ s. Alu w op f.dst s) _ (λ s. tests_of_arithmetic n i w op f.dst s)))
      ∙ one_of_two (eqb (f.opcode / 16) 8) _ _)
      ∙ code_or_none (eqb f.off 0) _

  jumps_by_fields : (w : Width) (f : Fields) → jump_tests n i f ≡ failing n i (jump w f)
  unfolding jump_tests jump
  jumps_by_fields w f =
      ap₂ (cond (eqb f.opcode 0x05))
      (ap (coded _) (tests_of_ja n i (extend 16 f.off)) ∙ code_or_none _ (Always (extend 16 f.off)))
      (ap₂ (cond (eqb f.opcode 0x95))
      (ap (coded _) (tests_of_an_exit n i) ∙ code_or_none _ Exit)
      (tests_of_a_line (f.opcode / 16) comparisons (λ c. with_operand f (λ s. Jump w c f.dst s (extend 16 f.off))) _
      (λ c. tests_of_either_operand f (λ s. Jump w c f.dst s (extend 16 f.off)) _ (λ s. tests_of_a_jump n i w c f.dst s (extend 16 f.off))))
      ∙ one_of_two (eqb f.opcode 0x95) _ _)
      ∙ one_of_two (eqb f.opcode 0x05) _ _

  loads_by_fields : (f : Fields) → load_tests n i f ≡ failing n i (load f)
  unfolding load_tests load
  loads_by_fields f =
      tests_of_a_line f.opcode loads (λ z. only (eqb f.imm 0) (Load z f.dst f.src (extend 16 f.off))) _
      (λ z. ap (coded (eqb f.imm 0)) (tests_of_a_load n i z f.dst f.src (extend 16 f.off)) ∙ code_or_none (eqb f.imm 0) _)

  stores_of_imm_by_fields : (f : Fields) → store_of_imm_tests n i f ≡ failing n i (store_of_imm f)
  unfolding store_of_imm_tests store_of_imm
  stores_of_imm_by_fields f =
      tests_of_a_line f.opcode stores_of_imm
      (λ z. only (eqb f.src 0) (Store z f.dst (extend 16 f.off) (Immediate (extend 32 f.imm)))) _
      (λ z. ap (coded (eqb f.src 0)) (tests_of_a_store n i z f.dst (extend 16 f.off) _) ∙ code_or_none (eqb f.src 0) _)

  stores_of_src_by_fields : (f : Fields) → store_of_src_tests n i f ≡ failing n i (store_of_src f)
  unfolding store_of_src_tests store_of_src
  stores_of_src_by_fields f =
      tests_of_a_line f.opcode stores_of_src (λ z. only (eqb f.imm 0) (Store z f.dst (extend 16 f.off) (Register f.src))) _
      (λ z. ap (coded (eqb f.imm 0)) (tests_of_a_store n i z f.dst (extend 16 f.off) _) ∙ code_or_none (eqb f.imm 0) _)

  -- two classes with the same tests
  either_class : (a b : Bool) (x y others : Instruction) (v t : Option Reason) → v ≡ failing n i x → v ≡ failing n i y → t ≡ failing n i others
      → cond (a || b) v t ≡ failing n i (cond a x (cond b y others))
  either_class true b x y others v t p q r = p
  either_class false true x y others v t p q r = q
  either_class false false x y others v t p q r = r

  classes_by_fields : (f : Fields) → class_tests n i f ≡ failing n i (by_class f)
  unfolding class_tests by_class failing is_no_instruction
  classes_by_fields f =
      either_class (eqb (f.opcode % 8) 7) (eqb (f.opcode % 8) 4) _ _ _ _ _ (arithmetic_by_fields Long f) (arithmetic_by_fields Short f)
      (either_class (eqb (f.opcode % 8) 5) (eqb (f.opcode % 8) 6) _ _ _ _ _ (jumps_by_fields Long f) (jumps_by_fields Short f)
      (ap₂ (cond (eqb (f.opcode % 8) 1)) (loads_by_fields f)
      (ap₂ (cond (eqb (f.opcode % 8) 2)) (stores_of_imm_by_fields f)
      (ap (λ x. cond (eqb (f.opcode % 8) 3) x (Some NoCode)) (stores_of_src_by_fields f) ∙ one_of_two (eqb (f.opcode % 8) 3) (store_of_src f) NoInstruction)
      ∙ one_of_two (eqb (f.opcode % 8) 2) _ _)
      ∙ one_of_two (eqb (f.opcode % 8) 1) _ _))

  tests_by_fields : (f : Fields) → field_tests n i f ≡ failing n i (meaning f)
  unfolding field_tests meaning
  tests_by_fields f =
      ap (coded (leb f.dst 10 && leb f.src 10)) (classes_by_fields f) ∙ code_or_none (leb f.dst 10 && leb f.src 10) (by_class f)

-- ---- the instruction at an index

pub an_instruction_is_decoded : (program : List ℕ) (n i : ℕ) → n ≡ length program / 8 → i < n
    → cond (leb (i * 8 + 8) (length program)) (decode program (i * 8)) NoInstruction ≡ instruction program i
unfolding instruction
an_instruction_is_decoded program n i size l = rw (le-leb (i * 8 + 8) (length program) (omega arith))

pub the_tests_at_an_index : (program : List ℕ) (n i : ℕ) (f : Fields) (x : Option Reason) → n ≡ length program / 8 → fields program (i * 8) ≡ f
    → x ≡ field_tests n i f → x ≡ failing (length program / 8) i (instruction program i)
unfolding instruction decode
the_tests_at_an_index program n i f x size is e =
    e ∙ tests_by_fields n i f ∙ ap (λ g. failing n i (meaning g)) (sym is) ∙ ap (λ k. failing k i (meaning (fields program (i * 8)))) size

-- ---- a turn of the loop

one_less : (n i : ℕ) → i < n → n - i ≡ suc (n - (i + 1))
one_less n i l = omega arith

module _ (program : List ℕ) (n i : ℕ) (t : Result (Unit {0}) Reason) (whole : Finding) (l : i < n) (tests : told t ≡ failing (length program / 8) i (instruction program i))
    (left : formed program (n - i) i ≡ whole) where
  rest : formed program (suc (n - (i + 1))) i ≡ whole
  rest = ap (λ k. formed program k i) (sym (one_less n i l)) ∙ left

  pub the_tests_go_on : t ≡ Ok tt → formed program (n - (i + 1)) (i + 1) ≡ whole
  unfolding formed or_else told
  the_tests_go_on good = ap (λ o. or_else i o (formed program (n - (i + 1)) (i + 1))) (sym (ap told good) ∙ tests) ∙ rest

  pub a_test_fails : (reason : Reason) → t ≡ Err reason → Refused reason i ≡ whole
  unfolding formed or_else told
  a_test_fails reason bad = ap (λ o. or_else i o (formed program (n - (i + 1)) (i + 1))) (sym (ap told bad) ∙ tests) ∙ rest

pub the_tests_end : (program : List ℕ) (n i : ℕ) (whole : Finding) → n ≤ i → formed program (n - i) i ≡ whole → Accepted ≡ whole
unfolding formed
the_tests_end program n i whole l h = subst (λ k. formed program k i ≡ whole) (let z : n - i ≡ 0 = omega arith in z) h

this_or_later : (o : Option Reason) (i k : ℕ) (more : Finding) (reason : Reason) (place : ℕ) → (more ≡ Refused reason place → place < i + 1 + k)
    → or_else i o more ≡ Refused reason place → place < i + suc k
unfolding or_else
this_or_later None i k more reason place later e = let q = later e in omega arith
this_or_later (Some found) i k more reason place later e = let z : i ≡ place = cc in omega arith

pub the_place_that_is_refused : (program : List ℕ) (k i : ℕ) (reason : Reason) (place : ℕ) → formed program k i ≡ Refused reason place → place < i + k
unfolding formed
the_place_that_is_refused program zero i reason place h = absurd (let z : ◌≡◌ {A = ℕ} 0 1 = cc in omega arith)
the_place_that_is_refused program (suc k) i reason place h =
    this_or_later (failing (length program / 8) i (instruction program i)) i k (formed program k (i + 1)) reason place
    (the_place_that_is_refused program k (i + 1) reason place) h
