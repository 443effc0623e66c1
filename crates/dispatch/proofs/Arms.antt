-- One law a format: the answer of its function leads to what the machine does with the instruction that the fields mean.
-- An arm of the match cites it with its opcode, and the table's line computes.
use Rattle.std.proofs.Common.{◌≡◌, ℕ, ◌^◌, ◌<◌, ◌≤◌, Bool, true, false, not, ◌&&◌, ◌||◌, eqb, leb, List, [], ◌∷◌, length, get_or, sym, refl, ap, ◌∙◌, ap₂, true≢false, arith, eq-eqb, ne_eqb, le-leb}
use mathlib.Core.Bool.{or-false, or-true, and-false}
use native.Mathlib.Decide.{dec_lt}
use borrow.Author.Tests.{lt-leb}
use Rattle.word.specs.Word.{extend, alu, compare}
use Rattle.word.specs.declared.Operation.{Operation}
use Rattle.word.specs.declared.Operation.TheVariants as operation
use Rattle.word.specs.declared.Comparison.{Comparison}
use Rattle.machine.specs.declared.instruction.Width.{Width}
use Rattle.machine.specs.declared.instruction.Size.{Size}
use Rattle.machine.specs.declared.instruction.Operand.TheVariants.{Immediate, Register}
use Rattle.machine.specs.declared.instruction.Instruction.{Instruction}
use Rattle.machine.specs.declared.instruction.Instruction.TheVariants.{Alu, Neg, Jump, Always, Exit, Load, Store}
use Rattle.machine.specs.declared.instruction.Fields.{Fields}
use Rattle.machine.specs.Instruction.{only, by_class, meaning, reads_operand, reads_dst, reads, writes}
use Rattle.machine.specs.Machine.{World, State, After, goes, ends, faults, value, operand_value, put, jumped, bits, address, loaded, after_load, after_store, effect, is_no_instruction, names10, any_unset, obey}
use Rattle.machine.specs.declared.outcome.Cause.TheVariants.{BadCode}
use Rattle.machine.proofs.Opcodes.{fields_of_opcode, opcode_suffices}
use Rattle.dispatch.specs.declared.answer.Next.{Next}
use Rattle.dispatch.specs.declared.answer.Next.TheVariants.{Stop}
use Rattle.dispatch.specs.Represent.{is_set, state_of, Leads, guarded}
use Rattle.dispatch.proofs.Registers.{above_unset, value_is, is_unset_lem, set_named}
use Rattle.dispatch.proofs.Answers.{leads_to, leads_fault, Barred, unfit, writing, reading, barred, not_unset, first_set, second_set}

-- ---- the tests of an instruction, as the code makes them

only_both : (a b : Bool) (i : Instruction) → only a (only b i) ≡ only (a && b) i
unfolding only
only_both true b i = refl
only_both false b i = refl

obey_only : (w : World) (t : State) (i : Instruction) → is_no_instruction i ≡ false → (fits : Bool)
    → guarded fits (names10 (writes i)) (any_unset t (reads i)) (effect w t i) ≡ obey w t (only fits i)
unfolding guarded obey only is_no_instruction
obey_only w t i e true = simp e
obey_only w t i e false = refl

guarded_where_set : (fits writes10 unset : Bool) (a b : After) → (unset ≡ false → a ≡ b) → guarded fits writes10 unset a ≡ guarded fits writes10 unset b
unfolding guarded
guarded_where_set fits writes10 true a b h = refl
guarded_where_set fits writes10 false a b h = ap (λ (x : After). guarded fits writes10 false x) (h refl)

-- what the fields mean, and what the machine does with it
abbrev meant : ℕ → ℕ → ℕ → ℕ → ℕ → Instruction
meant op dst src off imm = by_class (record { opcode = op; dst = dst; src = src; off = off; imm = imm })

abbrev obeyed : World → State → ℕ → ℕ → ℕ → ℕ → ℕ → After
obeyed w t op dst src off imm = obey w t (meaning (record { opcode = op; dst = dst; src = src; off = off; imm = imm }))

-- ---- an instruction: it means i where the fields name registers and those that i doesn't use are 0

module _ (w : World) (regs : List ℕ) (live : ℕ) (stack : List ℕ) (pc op dst src off imm : ℕ) (narrow : live < 2 ^ 11) where
  one_unset : (r : ℕ) → any_unset (state_of regs live stack pc) (r ∷ []) ≡ not (is_set live r)
  unfolding any_unset
  one_unset r = or-false _ ∙ is_unset_lem regs live narrow stack pc r

  two_unset : any_unset (state_of regs live stack pc) (dst ∷ src ∷ []) ≡ not (is_set live dst) || not (is_set live src)
  unfolding any_unset
  two_unset = rw (is_unset_lem regs live narrow stack pc dst, is_unset_lem regs live narrow stack pc src, or-false)

  set_value : (r : ℕ) → is_set live r ≡ true → value (state_of regs live stack pc) r ≡ get_or regs r 0
  set_value r e = value_is regs live stack pc r (set_named regs live narrow stack pc r e) e

  one_value : (r : ℕ) → not (is_set live r) ≡ false → value (state_of regs live stack pc) r ≡ get_or regs r 0
  one_value r e = set_value r (not_unset _ e)

  both_values : not (is_set live dst) || not (is_set live src) ≡ false
      → (value (state_of regs live stack pc) dst ≡ get_or regs dst 0) × (value (state_of regs live stack pc) src ≡ get_or regs src 0)
  both_values e = (set_value dst (first_set _ (is_set live src) e), set_value src (second_set (is_set live dst) _ e))

  -- of the registers that there are, only r10 is not below 10
  writes_ten : dst ≤ 10 → eqb dst 10 || false ≡ leb 10 dst
  writes_ten h = by_test (dec_lt dst 10)
    where
      by_test : Dec (dst < 10) → eqb dst 10 || false ≡ leb 10 dst
      by_test (yes l) = rw (ne_eqb dst 10 (λ e. omega arith), lt-leb 10 dst l)
      by_test (no l) = rw (eq-eqb dst 10 (omega arith), le-leb 10 dst (omega arith))

  -- ---- a register above 10 bars each format: it would be written, it is not set, or it must be 0

  above_nonzero : (r : ℕ) → 10 < r → eqb r 0 ≡ false
  above_nonzero r h = ne_eqb r 0 (λ e. omega arith)

  above_written : {fits unset : Bool} → 10 < dst → Barred fits (leb 10 dst) unset
  above_written h = writing (le-leb 10 dst (omega arith))

  above_read : {fits writes10 : Bool} (r : ℕ) → 10 < r → Barred fits writes10 (not (is_set live r))
  above_read r h = reading (rw (above_unset live r narrow h))

  above_dst_read : {fits writes10 : Bool} → 10 < dst → Barred fits writes10 (not (is_set live dst) || not (is_set live src))
  above_dst_read h = reading (rw (above_unset live dst narrow h))

  above_src_read : {fits writes10 : Bool} → 10 < src → Barred fits writes10 (not (is_set live dst) || not (is_set live src))
  above_src_read h = reading (rw (above_unset live src narrow h) (or-true (not (is_set live dst))))

  -- what a format owes where the fields name registers
  record Agrees (i : Instruction) (writes10 unset : Bool) (a : After) : Type 0 where
    ten : names10 (writes i) ≡ writes10
    set : any_unset (state_of regs live stack pc) (reads i) ≡ unset
    does : unset ≡ false → a ≡ effect w (state_of regs live stack pc) i

  as_named : (k : ℕ) (i : Instruction) (fits writes10 unset : Bool) (a : After) → op ≡ k → meant k dst src off imm ≡ only fits i
      → is_no_instruction i ≡ false → dst ≤ 10 → src ≤ 10 → Agrees i writes10 unset a
      → guarded fits writes10 unset a ≡ obeyed w (state_of regs live stack pc) op dst src off imm
  unfolding meaning only
  as_named k i fits writes10 unset a key shape is d s owed =
      guarded_where_set fits writes10 unset a _ owed.does
      ∙ ap₂ (λ (x y : Bool). guarded fits x y (effect w (state_of regs live stack pc) i)) (sym owed.ten) (sym owed.set)
      ∙ obey_only w (state_of regs live stack pc) i is fits
      ∙ ap (obey w (state_of regs live stack pc)) (sym shape ∙ simp (key, le-leb dst 10 d, le-leb src 10 s))

  no_register : leb dst 10 && leb src 10 ≡ false → faults BadCode ≡ obeyed w (state_of regs live stack pc) op dst src off imm
  unfolding meaning only obey is_no_instruction
  no_register e = simp e

  -- the law that the formats come down to
  means : (k : ℕ) (i : Instruction) (fits writes10 unset : Bool) (a : After) → op ≡ k → meant k dst src off imm ≡ only fits i
      → is_no_instruction i ≡ false
      → (10 < dst → Barred fits writes10 unset) → (10 < src → Barred fits writes10 unset)
      → (dst ≤ 10 → Agrees i writes10 unset a) → {r : Next} {regs' stack' : List ℕ}
      → Leads r regs' stack' (state_of regs live stack pc) (guarded fits writes10 unset a)
      → Leads r regs' stack' (state_of regs live stack pc) (obeyed w (state_of regs live stack pc) op dst src off imm)
  means k i fits writes10 unset a key shape is dst-bars src-bars owed {r} {regs'} {stack'} h = by_names (dec_lt 10 dst) (dec_lt 10 src)
    where
      by_names : Dec (10 < dst) → Dec (10 < src)
          → Leads r regs' stack' (state_of regs live stack pc) (obeyed w (state_of regs live stack pc) op dst src off imm)
      by_names (yes d) s = leads_to (no_register (rw (lt-leb dst 10 d))) (barred fits writes10 unset (dst-bars d) a BadCode h)
      by_names (no d) (yes s) =
          leads_to (no_register (rw (lt-leb src 10 s) (and-false (leb dst 10)))) (barred fits writes10 unset (src-bars s) a BadCode h)
      by_names (no d) (no s) =
          let d' : dst ≤ 10 = omega arith in
          let s' : src ≤ 10 = omega arith in
          leads_to (as_named k i fits writes10 unset a key shape is d' s' (owed d')) h

  -- ---- arithmetic

  pub alu_immediate : (k : ℕ) (width : Width) (operation : Operation) (v x : ℕ) → op ≡ k
      → meant k dst src off imm ≡ only (eqb off 0) (only (eqb src 0) (Alu width operation dst (Immediate (extend 32 imm))))
      → reads_dst operation dst ≡ dst ∷ [] → x ≡ extend 32 imm → v ≡ alu (bits width) operation (get_or regs dst 0) x
      → {r : Next} {regs' stack' : List ℕ}
      → Leads r regs' stack' (state_of regs live stack pc) (guarded (eqb off 0 && eqb src 0) (leb 10 dst) (not (is_set live dst)) (goes (put (state_of regs live stack pc) dst v)))
      → Leads r regs' stack' (state_of regs live stack pc) (obeyed w (state_of regs live stack pc) op dst src off imm)
  unfolding reads reads_operand writes names10 any_unset effect operand_value is_no_instruction
  alu_immediate k width operation v x key shape reads-dst x-is v-is =
      means k (Alu width operation dst (Immediate (extend 32 imm))) (eqb off 0 && eqb src 0) (leb 10 dst) (not (is_set live dst)) (goes (put (state_of regs live stack pc) dst v)) key (shape ∙ only_both _ _ _) refl above_written (λ h. unfit (rw (above_nonzero src h) (and-false (eqb off 0))))
      (λ d. record { ten = writes_ten d; set = rw reads-dst (one_unset dst); does = λ e. rw (one_value dst e, ← x-is) (ap (λ (y : ℕ). goes (put (state_of regs live stack pc) dst y)) v-is) })

  pub alu_register : (k : ℕ) (width : Width) (operation : Operation) (v : ℕ) → op ≡ k
      → meant k dst src off imm ≡ only (eqb off 0) (only (eqb imm 0) (Alu width operation dst (Register src)))
      → reads_dst operation dst ≡ dst ∷ [] → v ≡ alu (bits width) operation (get_or regs dst 0) (get_or regs src 0)
      → {r : Next} {regs' stack' : List ℕ}
      → Leads r regs' stack' (state_of regs live stack pc) (guarded (eqb off 0 && eqb imm 0) (leb 10 dst) (not (is_set live dst) || not (is_set live src)) (goes (put (state_of regs live stack pc) dst v)))
      → Leads r regs' stack' (state_of regs live stack pc) (obeyed w (state_of regs live stack pc) op dst src off imm)
  unfolding reads reads_operand writes names10 any_unset effect operand_value is_no_instruction
  alu_register k width operation v key shape reads-dst v-is =
      means k (Alu width operation dst (Register src)) (eqb off 0 && eqb imm 0) (leb 10 dst) (not (is_set live dst) || not (is_set live src)) (goes (put (state_of regs live stack pc) dst v)) key (shape ∙ only_both _ _ _) refl above_written above_src_read
      (λ d. record { ten = writes_ten d; set = rw reads-dst (two_unset); does = λ e. rw ((both_values e).0, (both_values e).1) (ap (λ (y : ℕ). goes (put (state_of regs live stack pc) dst y)) v-is) })

  pub move_immediate : (k : ℕ) (width : Width) (v x : ℕ) → op ≡ k
      → meant k dst src off imm ≡ only (eqb off 0) (only (eqb src 0) (Alu width operation.Mov dst (Immediate (extend 32 imm))))
      → x ≡ extend 32 imm → ((d : ℕ) → v ≡ alu (bits width) operation.Mov d x)
      → {r : Next} {regs' stack' : List ℕ}
      → Leads r regs' stack' (state_of regs live stack pc) (guarded (eqb off 0 && eqb src 0) (leb 10 dst) (false) (goes (put (state_of regs live stack pc) dst v)))
      → Leads r regs' stack' (state_of regs live stack pc) (obeyed w (state_of regs live stack pc) op dst src off imm)
  unfolding reads reads_operand writes names10 any_unset effect operand_value is_no_instruction reads_dst
  move_immediate k width v x key shape x-is v-is =
      means k (Alu width operation.Mov dst (Immediate (extend 32 imm))) (eqb off 0 && eqb src 0) (leb 10 dst) (false) (goes (put (state_of regs live stack pc) dst v)) key (shape ∙ only_both _ _ _) refl above_written (λ h. unfit (rw (above_nonzero src h) (and-false (eqb off 0))))
      (λ d. record { ten = writes_ten d; set = refl; does = λ e. rw (← x-is) (ap (λ (y : ℕ). goes (put (state_of regs live stack pc) dst y)) (v-is _)) })

  pub move_register : (k : ℕ) (width : Width) (v : ℕ) → op ≡ k
      → meant k dst src off imm ≡ only (eqb off 0) (only (eqb imm 0) (Alu width operation.Mov dst (Register src)))
      → ((d : ℕ) → v ≡ alu (bits width) operation.Mov d (get_or regs src 0))
      → {r : Next} {regs' stack' : List ℕ}
      → Leads r regs' stack' (state_of regs live stack pc) (guarded (eqb off 0 && eqb imm 0) (leb 10 dst) (not (is_set live src)) (goes (put (state_of regs live stack pc) dst v)))
      → Leads r regs' stack' (state_of regs live stack pc) (obeyed w (state_of regs live stack pc) op dst src off imm)
  unfolding reads reads_operand writes names10 any_unset effect operand_value is_no_instruction reads_dst
  move_register k width v key shape v-is =
      means k (Alu width operation.Mov dst (Register src)) (eqb off 0 && eqb imm 0) (leb 10 dst) (not (is_set live src)) (goes (put (state_of regs live stack pc) dst v)) key (shape ∙ only_both _ _ _) refl above_written (above_read src)
      (λ d. record { ten = writes_ten d; set = one_unset src; does = λ e. rw (one_value src e) (ap (λ (y : ℕ). goes (put (state_of regs live stack pc) dst y)) (v-is _)) })

  pub negation : (k : ℕ) (width : Width) (v : ℕ) → op ≡ k
      → meant k dst src off imm ≡ only (eqb off 0) (only (eqb src 0 && eqb imm 0) (Neg width dst))
      → ((s : ℕ) → v ≡ alu (bits width) operation.Neg (get_or regs dst 0) s)
      → {r : Next} {regs' stack' : List ℕ}
      → Leads r regs' stack' (state_of regs live stack pc) (guarded (eqb off 0 && (eqb src 0 && eqb imm 0)) (leb 10 dst) (not (is_set live dst)) (goes (put (state_of regs live stack pc) dst v)))
      → Leads r regs' stack' (state_of regs live stack pc) (obeyed w (state_of regs live stack pc) op dst src off imm)
  unfolding reads reads_operand writes names10 any_unset effect operand_value is_no_instruction
  negation k width v key shape v-is =
      means k (Neg width dst) (eqb off 0 && (eqb src 0 && eqb imm 0)) (leb 10 dst) (not (is_set live dst)) (goes (put (state_of regs live stack pc) dst v)) key (shape ∙ only_both _ _ _) refl above_written (λ h. unfit (rw (above_nonzero src h) (and-false (eqb off 0))))
      (λ d. record { ten = writes_ten d; set = one_unset dst; does = λ e. rw (one_value dst e) (ap (λ (y : ℕ). goes (put (state_of regs live stack pc) dst y)) (v-is 0)) })

  -- ---- jumps

  pub jump_immediate : (k : ℕ) (width : Width) (comparison : Comparison) (b : Bool) (x : ℕ) → op ≡ k
      → meant k dst src off imm ≡ only (eqb src 0) (Jump width comparison dst (Immediate (extend 32 imm)) (extend 16 off))
      → x ≡ extend 32 imm → b ≡ compare (bits width) comparison (get_or regs dst 0) x
      → {r : Next} {regs' stack' : List ℕ}
      → Leads r regs' stack' (state_of regs live stack pc) (guarded (eqb src 0) false (not (is_set live dst)) (goes (jumped b (state_of regs live stack pc) (extend 16 off))))
      → Leads r regs' stack' (state_of regs live stack pc) (obeyed w (state_of regs live stack pc) op dst src off imm)
  unfolding reads reads_operand writes names10 any_unset effect operand_value is_no_instruction
  jump_immediate k width comparison b x key shape x-is b-is =
      means k (Jump width comparison dst (Immediate (extend 32 imm)) (extend 16 off)) (eqb src 0) false (not (is_set live dst)) (goes (jumped b (state_of regs live stack pc) (extend 16 off))) key shape refl (above_read dst) (λ h. unfit (above_nonzero src h))
      (λ d. record { ten = refl; set = one_unset dst; does = λ e. rw (one_value dst e, ← x-is) (ap (λ (y : Bool). goes (jumped y (state_of regs live stack pc) (extend 16 off))) b-is) })

  pub jump_register : (k : ℕ) (width : Width) (comparison : Comparison) (b : Bool) → op ≡ k
      → meant k dst src off imm ≡ only (eqb imm 0) (Jump width comparison dst (Register src) (extend 16 off))
      → b ≡ compare (bits width) comparison (get_or regs dst 0) (get_or regs src 0)
      → {r : Next} {regs' stack' : List ℕ}
      → Leads r regs' stack' (state_of regs live stack pc) (guarded (eqb imm 0) false (not (is_set live dst) || not (is_set live src)) (goes (jumped b (state_of regs live stack pc) (extend 16 off))))
      → Leads r regs' stack' (state_of regs live stack pc) (obeyed w (state_of regs live stack pc) op dst src off imm)
  unfolding reads reads_operand writes names10 any_unset effect operand_value is_no_instruction
  jump_register k width comparison b key shape b-is =
      means k (Jump width comparison dst (Register src) (extend 16 off)) (eqb imm 0) false (not (is_set live dst) || not (is_set live src)) (goes (jumped b (state_of regs live stack pc) (extend 16 off))) key shape refl above_dst_read above_src_read
      (λ d. record { ten = refl; set = two_unset; does = λ e. rw ((both_values e).0, (both_values e).1) (ap (λ (y : Bool). goes (jumped y (state_of regs live stack pc) (extend 16 off))) b-is) })

  pub always : (k : ℕ) → op ≡ k
      → meant k dst src off imm ≡ only (eqb dst 0 && eqb src 0 && eqb imm 0) (Always (extend 16 off))
      → {r : Next} {regs' stack' : List ℕ}
      → Leads r regs' stack' (state_of regs live stack pc) (guarded (eqb dst 0 && eqb src 0 && eqb imm 0) false (false) (goes (jumped true (state_of regs live stack pc) (extend 16 off))))
      → Leads r regs' stack' (state_of regs live stack pc) (obeyed w (state_of regs live stack pc) op dst src off imm)
  unfolding reads reads_operand writes names10 any_unset effect operand_value is_no_instruction
  always k key shape =
      means k (Always (extend 16 off)) (eqb dst 0 && eqb src 0 && eqb imm 0) false (false) (goes (jumped true (state_of regs live stack pc) (extend 16 off))) key shape refl (λ h. unfit (rw (above_nonzero dst h))) (λ h. unfit (rw (above_nonzero src h) (simp and-false)))
      (λ d. record { ten = refl; set = refl; does = λ e. refl })

  pub ending : (k : ℕ) → op ≡ k
      → meant k dst src off imm ≡ only (eqb dst 0 && eqb src 0 && eqb imm 0 && eqb off 0) Exit
      → {r : Next} {regs' stack' : List ℕ}
      → Leads r regs' stack' (state_of regs live stack pc) (guarded (eqb dst 0 && eqb src 0 && eqb imm 0 && eqb off 0) false (not (is_set live 0)) (ends (get_or regs 0 0)))
      → Leads r regs' stack' (state_of regs live stack pc) (obeyed w (state_of regs live stack pc) op dst src off imm)
  unfolding reads reads_operand writes names10 any_unset effect operand_value is_no_instruction
  ending k key shape =
      means k (Exit) (eqb dst 0 && eqb src 0 && eqb imm 0 && eqb off 0) false (not (is_set live 0)) (ends (get_or regs 0 0)) key shape refl (λ h. unfit (rw (above_nonzero dst h))) (λ h. unfit (rw (above_nonzero src h) (simp and-false)))
      (λ d. record { ten = refl; set = one_unset 0; does = λ e. ap ends (sym (one_value 0 e)) })

  -- ---- memory

  pub loading : (k : ℕ) (size : Size) → op ≡ k
      → meant k dst src off imm ≡ only (eqb imm 0) (Load size dst src (extend 16 off))
      → {r : Next} {regs' stack' : List ℕ}
      → Leads r regs' stack' (state_of regs live stack pc) (guarded (eqb imm 0) (leb 10 dst) (not (is_set live src)) (after_load (state_of regs live stack pc) dst (loaded w stack (address (get_or regs src 0) (extend 16 off)) size)))
      → Leads r regs' stack' (state_of regs live stack pc) (obeyed w (state_of regs live stack pc) op dst src off imm)
  unfolding reads reads_operand writes names10 any_unset effect operand_value is_no_instruction state_of
  loading k size key shape =
      means k (Load size dst src (extend 16 off)) (eqb imm 0) (leb 10 dst) (not (is_set live src)) (after_load (state_of regs live stack pc) dst (loaded w stack (address (get_or regs src 0) (extend 16 off)) size)) key shape refl above_written (above_read src)
      (λ d. record { ten = writes_ten d; set = one_unset src; does = λ e. ap (λ (y : ℕ). after_load (state_of regs live stack pc) dst (loaded w stack (address y (extend 16 off)) size)) (sym (one_value src e)) })

  pub storing_immediate : (k : ℕ) (size : Size) (x : ℕ) → op ≡ k
      → meant k dst src off imm ≡ only (eqb src 0) (Store size dst (extend 16 off) (Immediate (extend 32 imm)))
      → x ≡ extend 32 imm
      → {r : Next} {regs' stack' : List ℕ}
      → Leads r regs' stack' (state_of regs live stack pc) (guarded (eqb src 0) false (not (is_set live dst)) (after_store w (state_of regs live stack pc) (address (get_or regs dst 0) (extend 16 off)) size x))
      → Leads r regs' stack' (state_of regs live stack pc) (obeyed w (state_of regs live stack pc) op dst src off imm)
  unfolding reads reads_operand writes names10 any_unset effect operand_value is_no_instruction
  storing_immediate k size x key shape x-is =
      means k (Store size dst (extend 16 off) (Immediate (extend 32 imm))) (eqb src 0) false (not (is_set live dst)) (after_store w (state_of regs live stack pc) (address (get_or regs dst 0) (extend 16 off)) size x) key shape refl (above_read dst) (λ h. unfit (above_nonzero src h))
      (λ d. record { ten = refl; set = one_unset dst; does = λ e. rw (one_value dst e, ← x-is) refl })

  pub storing_register : (k : ℕ) (size : Size) → op ≡ k
      → meant k dst src off imm ≡ only (eqb imm 0) (Store size dst (extend 16 off) (Register src))
      → {r : Next} {regs' stack' : List ℕ}
      → Leads r regs' stack' (state_of regs live stack pc) (guarded (eqb imm 0) false (not (is_set live dst) || not (is_set live src)) (after_store w (state_of regs live stack pc) (address (get_or regs dst 0) (extend 16 off)) size (get_or regs src 0)))
      → Leads r regs' stack' (state_of regs live stack pc) (obeyed w (state_of regs live stack pc) op dst src off imm)
  unfolding reads reads_operand writes names10 any_unset effect operand_value is_no_instruction
  storing_register k size key shape =
      means k (Store size dst (extend 16 off) (Register src)) (eqb imm 0) false (not (is_set live dst) || not (is_set live src)) (after_store w (state_of regs live stack pc) (address (get_or regs dst 0) (extend 16 off)) size (get_or regs src 0)) key shape refl above_dst_read above_src_read
      (λ d. record { ten = refl; set = two_unset; does = λ e. rw ((both_values e).0, (both_values e).1) refl })

-- ---- an opcode without an arm

no_meaning : (i : Instruction) → (is_no_instruction i ≡ false → ⊥) → is_no_instruction i ≡ true
no_meaning i h = only_true (is_no_instruction i) h
  where
    only_true : (b : Bool) → (b ≡ false → ⊥) → b ≡ true
    only_true true n = refl
    only_true false n = absurd (n refl)

-- no fields with this opcode are an instruction, since none are with all others 0
pub no_arm : (w : World) (regs : List ℕ) (live : ℕ) (stack : List ℕ) (pc op dst src off imm : ℕ) → length regs ≡ 16
    → is_no_instruction (meaning (fields_of_opcode op)) ≡ true
    → Leads Stop regs stack (state_of regs live stack pc) (obeyed w (state_of regs live stack pc) op dst src off imm)
unfolding obey
no_arm w regs live stack pc op dst src off imm sixteen none =
    let f : Fields = record { opcode = op; dst = dst; src = src; off = off; imm = imm } in
    let e = no_meaning (meaning f) (λ some. true≢false (sym none ∙ opcode_suffices f some)) in
    leads_to (sym (simp e)) (leads_fault regs regs stack live pc sixteen BadCode)
