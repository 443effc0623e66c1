-- What fields mean is no instruction, or a proper one that leads back to the very same fields: a field that an instruction
-- doesn't use must be 0.
use mathlib.Core.Path.{◌≡◌, refl, sym, ap, ◌∙◌}
use mathlib.Core.Logic.{◌⊎◌, inl, inr}
use mathlib.Core.Bool.{Bool, true, false, cond, ◌&&◌, true≢false, and-eq-true_iff}
use mathlib.Core.List.{List, [], ◌∷◌}
use Prim.Native.Nat.{ℕ, ◌+◌, ◌/◌, ◌%◌, ◌^◌, ◌≤◌, ◌<◌}
use native.Mathlib.Nat.{mod-eq_of_lt}
use native.Mathlib.Omega.{arith}
use lib.Dec.{leb, eqb}
use borrow.Author.Tests.{eqb-true, eqb-false, leb-true}
use Rattle.word.specs.Word.{cut, extend}
use Rattle.machine.specs.declared.instruction.Width.{Width}
use Rattle.machine.specs.declared.instruction.Width.TheVariants.{Long, Short}
use Rattle.machine.specs.declared.instruction.Operand.{Operand}
use Rattle.machine.specs.declared.instruction.Operand.TheVariants.{Immediate, Register}
use Rattle.machine.specs.declared.instruction.Instruction.{Instruction}
use Rattle.machine.specs.declared.instruction.Instruction.TheVariants.{NoInstruction}
use Rattle.machine.specs.declared.instruction.Fields.{Fields}
use Rattle.machine.specs.Instruction.{only, Line, ◌means◌, lookup, with_operand, operations, arithmetic, comparisons, jump, loads, stores_of_imm, stores_of_src, load, store_of_imm, store_of_src, by_class, meaning}
use Rattle.machine.specs.Machine.{is_no_instruction}
use Rattle.machine.proofs.Proper.{operation_code, comparison_code, size_code, class, jump_class, is_register, src_of, imm_of, unmeaning, fields_equal, ProperOperand, Proper, imm_back, off_back, imm_extended, off_extended}

-- ---- what a table gives, what a test lets through

-- the lines of a table agree with the way back to the code: a test that antt computes
abbrev agrees : {A : Type 0} → (A → ℕ) → List (Line A) → Bool
agrees code [] = true
agrees code ((c means a) ∷ lines) = eqb c (code a) && agrees code lines

zeros : (k m n : ℕ) → (eqb k 0 && eqb m 0 && eqb n 0) ≡ true → (k ≡ 0) × (m ≡ 0) × (n ≡ 0)
zeros k m n e =
    let (km, zn) = (and-eq-true_iff (eqb k 0 && eqb m 0) (eqb n 0)).0 e in
    let (zk, zm) = (and-eq-true_iff (eqb k 0) (eqb m 0)).0 km in
    (eqb-true k 0 zk, eqb-true m 0 zm, eqb-true n 0 zn)

operations_agree : agrees operation_code operations ≡ true
unfolding operations operation_code
operations_agree = refl

comparisons_agree : agrees comparison_code comparisons ≡ true
unfolding comparisons comparison_code
comparisons_agree = refl

loads_agree : agrees (λ z. size_code z + 1) loads ≡ true
unfolding loads size_code
loads_agree = refl

stores_of_imm_agree : agrees (λ z. size_code z + 2) stores_of_imm ≡ true
unfolding stores_of_imm size_code
stores_of_imm_agree = refl

stores_of_src_agree : agrees (λ z. size_code z + 3) stores_of_src ≡ true
unfolding stores_of_src size_code
stores_of_src_agree = refl

-- ---- the instruction that fields mean is proper and leads back to them

-- the low 16 bits of off and the low 32 of imm; in eight bytes they have no more
trimmed : Fields → Fields
trimmed f = record { opcode = f.opcode; dst = f.dst; src = f.src; off = cut 16 f.off; imm = cut 32 f.imm }

abbrev Back : Fields → Instruction → Type 0
Back f i = (i ≡ NoInstruction) ⊎ ((unmeaning i ≡ trimmed f) × Proper i)

module _ (f : Fields) where
  cond_back : (b : Bool) (x y : Instruction) → (b ≡ true → Back f x) → (b ≡ false → Back f y) → Back f (cond b x y)
  cond_back true x y p q = p refl
  cond_back false x y p q = q refl

  only_back : (b : Bool) (x : Instruction) → (b ≡ true → Back f x) → Back f (only b x)
  unfolding only
  only_back b x p = cond_back b x NoInstruction p (λ _. inl refl)

  -- a table gives no instruction, or that of a line for the code
  lookup_back : {A : Type 0} (code : A → ℕ) (lines : List (Line A)) → agrees code lines ≡ true → (k : ℕ) (found : A → Instruction) → ((a : A) → k ≡ code a → Back f (found a)) → Back f (lookup k lines found)
  unfolding lookup
  lookup_back code [] t k found p = inl refl
  lookup_back code ((c means a) ∷ lines) t k found p =
      let (here, there) = (and-eq-true_iff (eqb c (code a)) (agrees code lines)).0 t in
      let below = lookup_back code lines there k found p in
      cond_back (eqb k c) (found a) (lookup k lines found) (λ e. p a (eqb-true k c e ∙ eqb-true c (code a) here)) (λ _. below)

  operand_back : (found : Operand → Instruction) → f.src ≤ 10 → ((s : Operand) → is_register s ≡ f.opcode / 8 % 2 → src_of s ≡ f.src → imm_of s ≡ cut 32 f.imm → ProperOperand s → Back f (found s)) → Back f (with_operand f found)
  unfolding with_operand is_register src_of imm_of cut
  operand_back found r p =
      cond_back (eqb (f.opcode / 8 % 2) 0) _ _
      (λ b. only_back _ _
      (λ e. p (Immediate (extend 32 f.imm)) (sym (eqb-true _ _ b)) (sym (eqb-true _ _ e)) (imm_back f.imm) (imm_extended f.imm)))
      (λ b. only_back _ _
      (λ e. p (Register f.src) (omega (arith, eqb-false)) refl (omega (arith, eqb-true)) r))

module _ (f : Fields) (d : f.dst ≤ 10) (s : f.src ≤ 10) where
  arithmetic_back : (w : Width) → f.opcode % 8 ≡ class w → Back f (arithmetic w f)
  unfolding arithmetic unmeaning operation_code trimmed cut
  arithmetic_back w c =
      only_back f _ _
      (λ z. cond_back f (eqb (f.opcode / 16) 8) _ _
      (λ n. only_back f _ _
      (λ e. let (e3, es, ei) = zeros (f.opcode / 8 % 2) f.src f.imm e in
      inr (fields_equal _ (trimmed f) (omega (arith, eqb-true)) refl (sym es) (omega (arith, eqb-true)) (omega arith), d)))
      (λ n. lookup_back f operation_code operations operations_agree (f.opcode / 16) _
      (λ op o. operand_back f _ s
      (λ x b xs xi px. inr (fields_equal _ (trimmed f) (omega arith) refl xs (omega (arith, eqb-true)) xi, (λ neg. eqb-false _ _ n (o ∙ ap operation_code neg), d, px))))))

  jump_back : (w : Width) → f.opcode % 8 ≡ jump_class w → Back f (jump w f)
  unfolding jump unmeaning trimmed cut
  jump_back w c =
      cond_back f (eqb f.opcode 0x05) _ _
      (λ n. only_back f _ _
      (λ e. let (ed, es, ei) = zeros f.dst f.src f.imm e in
      inr (fields_equal _ (trimmed f) (omega (arith, eqb-true)) (sym ed) (sym es) (off_back f.off) (omega arith), off_extended f.off)))
      (λ _. cond_back f (eqb f.opcode 0x95) _ _
      (λ n. only_back f _ _
      (λ e. let (e', eo) = (and-eq-true_iff (eqb f.dst 0 && eqb f.src 0 && eqb f.imm 0) (eqb f.off 0)).0 e in
      let (ed, es, ei) = zeros f.dst f.src f.imm e' in
      inr (fields_equal _ (trimmed f) (omega (arith, eqb-true)) (sym ed) (sym es) (omega (arith, eqb-true)) (omega arith), tt)))
      (λ _. lookup_back f comparison_code comparisons comparisons_agree (f.opcode / 16) _
      (λ k o. operand_back f _ s
      (λ x b xs xi px. inr (fields_equal _ (trimmed f) (omega arith) refl xs (off_back f.off) xi, (d, px, off_extended f.off))))))

  load_back : Back f (load f)
  unfolding load unmeaning trimmed cut
  load_back =
      lookup_back f (λ z. size_code z + 1) loads loads_agree f.opcode _
      (λ z o. only_back f _ _
      (λ e. inr (fields_equal _ (trimmed f) (sym o) refl refl (off_back f.off) (omega (arith, eqb-true)), (d, s, off_extended f.off))))

  store_of_imm_back : Back f (store_of_imm f)
  unfolding store_of_imm unmeaning is_register src_of imm_of trimmed cut
  store_of_imm_back =
      lookup_back f (λ z. size_code z + 2) stores_of_imm stores_of_imm_agree f.opcode _
      (λ z o. only_back f _ _
      (λ e. inr (fields_equal _ (trimmed f) (omega arith) refl (omega (arith, eqb-true)) (off_back f.off) (imm_back f.imm), (d, imm_extended f.imm, off_extended f.off))))

  store_of_src_back : Back f (store_of_src f)
  unfolding store_of_src unmeaning is_register src_of imm_of trimmed cut
  store_of_src_back =
      lookup_back f (λ z. size_code z + 3) stores_of_src stores_of_src_agree f.opcode _
      (λ z o. only_back f _ _
      (λ e. inr (fields_equal _ (trimmed f) (omega arith) refl refl (off_back f.off) (omega (arith, eqb-true)), (d, s, off_extended f.off))))

  by_class_back : Back f (by_class f)
  unfolding by_class class jump_class
  by_class_back =
      cond_back f (eqb (f.opcode % 8) 7) _ _ (λ c. arithmetic_back Long (eqb-true _ _ c))
      (λ _. cond_back f (eqb (f.opcode % 8) 4) _ _ (λ c. arithmetic_back Short (eqb-true _ _ c))
      (λ _. cond_back f (eqb (f.opcode % 8) 5) _ _ (λ c. jump_back Long (eqb-true _ _ c))
      (λ _. cond_back f (eqb (f.opcode % 8) 6) _ _ (λ c. jump_back Short (eqb-true _ _ c))
      (λ _. cond_back f (eqb (f.opcode % 8) 1) _ _ (λ _. load_back)
      (λ _. cond_back f (eqb (f.opcode % 8) 2) _ _ (λ _. store_of_imm_back)
      (λ _. cond_back f (eqb (f.opcode % 8) 3) _ _ (λ _. store_of_src_back)
      (λ _. inl refl)))))))

meaning_back : (f : Fields) → Back f (meaning f)
unfolding meaning
meaning_back f =
    only_back f _ _
    (λ e. let (d, s) = (and-eq-true_iff (leb f.dst 10) (leb f.src 10)).0 e in by_class_back f (leb-true _ _ d) (leb-true _ _ s))

instruction_back : (f : Fields) (i : Instruction) → Back f i → is_no_instruction i ≡ false → (unmeaning i ≡ trimmed f) × Proper i
unfolding is_no_instruction
instruction_back f i (inl e) t = absurd (true≢false (rw e at t))
instruction_back f i (inr p) t = p

module _ (f : Fields) (t : is_no_instruction (meaning f) ≡ false) where
  pub meaning_proper : Proper (meaning f)
  meaning_proper = (instruction_back f (meaning f) (meaning_back f) t).1

  pub opcode_kept : (unmeaning (meaning f)).opcode ≡ f.opcode
  unfolding trimmed
  opcode_kept = ap (λ g. g.opcode) (instruction_back f (meaning f) (meaning_back f) t).0

  pub unmeaning_meaning : f.off < 2 ^ 16 → f.imm < 2 ^ 32 → unmeaning (meaning f) ≡ f
  unfolding trimmed cut
  unmeaning_meaning u v = (instruction_back f (meaning f) (meaning_back f) t).0 ∙ fields_equal _ f refl refl refl (mod-eq_of_lt u) (mod-eq_of_lt v)
