-- The test for dead code: what opcode and off alone say of an instruction that is one, bits as targets, and a turn of the loop.
use Prim.Native.Nat.{ℕ, zero, suc, ◌+◌, ◌-◌, ◌*◌, ◌/◌, ◌%◌, ◌^◌, ◌≤◌, ◌<◌, max}
use mathlib.Core.Path.{◌≡◌, refl, sym, ap, ◌∙◌, subst}
use mathlib.Core.Bool.{Bool, true, false, cond, not, ◌&&◌, ◌||◌, true≢false}
use mathlib.Core.Logic.{◌⊎◌, inl, inr}
use mathlib.Core.List.{List, [], ◌∷◌}
use lib.ListN.{length, get_or, set, replicate, length-set}
use lib.Seq.{get_or-set_same, get_or-set_other}
use lib.Dec.{eqb, leb, lit<}
use lib.Pow.{shl_exact}
use lib.Bits.{bit_or}
use native.Mathlib.Nat.{sub-zero}
use native.Mathlib.Omega.{arith}
use borrow.Author.Tests.{eqb-true, eqb-false, eq-eqb, ne_eqb, leb-false}
use Rattle.std.specs.Prelude.{Option, Some, None}
use Rattle.word.specs.Word.{bit, extend}
use Rattle.word.proofs.Bit.{bit_lt, bit_or_lem, bit_zero, bit_pow, bit_pow_other}
use Rattle.machine.specs.declared.instruction.Width.{Width}
use Rattle.machine.specs.declared.instruction.Width.TheVariants.{Long, Short}
use Rattle.machine.specs.declared.instruction.Operand.{Operand}
use Rattle.machine.specs.declared.instruction.Operand.TheVariants.{Immediate, Register}
use Rattle.machine.specs.declared.instruction.Instruction.{Instruction}
use Rattle.machine.specs.declared.instruction.Instruction.TheVariants.{NoInstruction}
use Rattle.machine.specs.declared.instruction.Fields.{Fields}
use Rattle.machine.specs.Instruction.{fields, only, Line, ◌means◌, lookup, with_operand, operations, arithmetic, comparisons, jump, loads, stores_of_imm, stores_of_src, load, store_of_imm, store_of_src, by_class, meaning, decode}
use Rattle.machine.specs.Machine.{is_no_instruction}
use Rattle.analysis.specs.declared.Reason.TheVariants.{DeadCode}
use Rattle.analysis.specs.declared.Finding.{Finding}
use Rattle.analysis.specs.declared.Finding.TheVariants.{Accepted, Refused}
use Rattle.analysis.specs.Form.{instruction, off_of, goes_out, may_be_last, goes_on, Fine}
use Rattle.analysis.specs.Paths.{no_target, aimed, reaching, connected}
use Rattle.verifier.specs.Targets.{targets_in, Marked, Left}

-- ---- one of two classes, or neither

not_the_first : (a b : Bool) → (not a && not b) ≡ true → a ≡ true → ⊥
not_the_first true b h e = true≢false (sym h)
not_the_first false b h e = true≢false (sym e)

not_the_second : (a b : Bool) → (not a && not b) ≡ true → b ≡ true → ⊥
not_the_second true b h e = true≢false (sym h)
not_the_second false true h e = true≢false (sym h)
not_the_second false false h e = true≢false (sym e)

one_of_both : (a b : Bool) → (not a && not b) ≡ false → (a ≡ true) ⊎ (b ≡ true)
one_of_both true b h = inl refl
one_of_both false true h = inr refl
one_of_both false false h = absurd (true≢false h)

-- ---- by opcode and off

-- if it is an instruction, it goes on or not, and has this off or none
record Shaped (on : Bool) (off : Option ℕ) (ins : Instruction) : Type 0 where
  shape : is_no_instruction ins ≡ false → (goes_on ins ≡ on) × (off_of ins ≡ off)

module _ {on : Bool} {off : Option ℕ} where
  no_shape : Shaped on off NoInstruction
  unfolding is_no_instruction
  no_shape = record { shape = λ e. absurd (true≢false e) }

  shape_only : (b : Bool) {ins : Instruction} → Shaped on off ins → Shaped on off (only b ins)
  unfolding only
  shape_only true h = h
  shape_only false h = no_shape

  shape_either : (b : Bool) {x y : Instruction} → (b ≡ true → Shaped on off x) → (b ≡ false → Shaped on off y) → Shaped on off (cond b x y)
  shape_either true p q = p refl
  shape_either false p q = q refl

  shape_line : {A : Type 0} (code : ℕ) (lines : List (Line A)) (found : A → Instruction) → ((a : A) → Shaped on off (found a)) → Shaped on off (lookup code lines found)
  unfolding lookup
  shape_line code [] found h = no_shape
  shape_line code ((c means a) ∷ lines) found h = shape_either (eqb code c) (λ e. h a) (λ e. shape_line code lines found h)

  shape_operand : (f : Fields) (found : Operand → Instruction) → ((s : Operand) → Shaped on off (found s)) → Shaped on off (with_operand f found)
  unfolding with_operand
  shape_operand f found h =
      shape_either (eqb (f.opcode / 8 % 2) 0) (λ e. shape_only (eqb f.src 0) (h (Immediate (extend 32 f.imm)))) (λ e. shape_only (eqb f.imm 0) (h (Register f.src)))

module _ (f : Fields) where
  arithmetic_goes_on : (w : Width) → Shaped true None (arithmetic w f)
  unfolding arithmetic goes_on may_be_last off_of
  arithmetic_goes_on w =
      shape_only (eqb f.off 0) (shape_either (eqb (f.opcode / 16) 8)
      (λ e. shape_only (eqb (f.opcode / 8 % 2) 0 && eqb f.src 0 && eqb f.imm 0) (record { shape = λ i. (refl, refl) }))
      (λ e. shape_line (f.opcode / 16) operations _ (λ op. shape_operand f _ (λ s. record { shape = λ i. (refl, refl) }))))

  load_goes_on : Shaped true None (load f)
  unfolding load goes_on may_be_last off_of
  load_goes_on = shape_line f.opcode loads _ (λ z. shape_only (eqb f.imm 0) (record { shape = λ i. (refl, refl) }))

  store_of_imm_goes_on : Shaped true None (store_of_imm f)
  unfolding store_of_imm goes_on may_be_last off_of
  store_of_imm_goes_on = shape_line f.opcode stores_of_imm _ (λ z. shape_only (eqb f.src 0) (record { shape = λ i. (refl, refl) }))

  store_of_src_goes_on : Shaped true None (store_of_src f)
  unfolding store_of_src goes_on may_be_last off_of
  store_of_src_goes_on = shape_line f.opcode stores_of_src _ (λ z. shape_only (eqb f.imm 0) (record { shape = λ i. (refl, refl) }))

  -- an instruction of a class other than 5 and 6 goes on, and is no jump
  other_shape : (not (eqb (f.opcode % 8) 5) && not (eqb (f.opcode % 8) 6)) ≡ true → Shaped true None (meaning f)
  unfolding meaning by_class
  other_shape neither =
      shape_only (leb f.dst 10 && leb f.src 10)
      (shape_either (eqb (f.opcode % 8) 7) (λ e. arithmetic_goes_on Long)
      (λ e. shape_either (eqb (f.opcode % 8) 4) (λ e. arithmetic_goes_on Short)
      (λ e. shape_either (eqb (f.opcode % 8) 5) (λ e. absurd (not_the_first (eqb (f.opcode % 8) 5) (eqb (f.opcode % 8) 6) neither e))
      (λ e. shape_either (eqb (f.opcode % 8) 6) (λ e. absurd (not_the_second (eqb (f.opcode % 8) 5) (eqb (f.opcode % 8) 6) neither e))
      (λ e. shape_either (eqb (f.opcode % 8) 1) (λ e. load_goes_on)
      (λ e. shape_either (eqb (f.opcode % 8) 2) (λ e. store_of_imm_goes_on)
      (λ e. shape_either (eqb (f.opcode % 8) 3) (λ e. store_of_src_goes_on)
      (λ e. no_shape))))))))

  jump_class_lem : {on : Bool} {off : Option ℕ} → (not (eqb (f.opcode % 8) 5) && not (eqb (f.opcode % 8) 6)) ≡ false
      → ((w : Width) → Shaped on off (jump w f)) → Shaped on off (meaning f)
  unfolding meaning by_class
  jump_class_lem {on} {off} jumps h = shape_only (leb f.dst 10 && leb f.src 10) (of_class (one_of_both _ _ jumps))
    where
      of_class : (eqb (f.opcode % 8) 5 ≡ true) ⊎ (eqb (f.opcode % 8) 6 ≡ true) → Shaped on off (by_class f)
      of_class (inl e) = rw (eqb-true (f.opcode % 8) 5 e) (h Long)
      of_class (inr e) = rw (eqb-true (f.opcode % 8) 6 e) (h Short)

  exit_shape : f.opcode ≡ 0x95 → Shaped false None (meaning f)
  unfolding jump goes_on may_be_last off_of
  exit_shape is =
      jump_class_lem (rw is refl) (λ w. shape_either (eqb f.opcode 0x05) (λ e. absurd (let z : f.opcode ≡ 5 = eqb-true _ _ e in omega arith))
      (λ e. shape_either (eqb f.opcode 0x95)
      (λ e. shape_only (eqb f.dst 0 && eqb f.src 0 && eqb f.imm 0 && eqb f.off 0) (record { shape = λ i. (refl, refl) }))
      (λ e. absurd (eqb-false _ _ e is))))

  -- any other of these classes jumps, and goes on unless it is JA
  jump_shape : (not (eqb (f.opcode % 8) 5) && not (eqb (f.opcode % 8) 6)) ≡ false → (f.opcode ≡ 0x95 → ⊥) → Shaped (not (eqb f.opcode 0x05)) (Some (extend 16 f.off)) (meaning f)
  unfolding jump goes_on may_be_last off_of
  jump_shape jumps no_exit =
      jump_class_lem jumps (λ w. shape_either (eqb f.opcode 0x05)
      (λ e. shape_only (eqb f.dst 0 && eqb f.src 0 && eqb f.imm 0) (record { shape = λ i. (rw e refl, refl) }))
      (λ e. shape_either (eqb f.opcode 0x95) (λ x. absurd (no_exit (eqb-true _ _ x)))
      (λ x. shape_line (f.opcode / 16) comparisons _ (λ c. shape_operand f _ (λ s. record { shape = λ i. (rw e refl, refl) })))))

-- ---- bits as targets

nothing_in_zeros : (n x : ℕ) → ◌≡◌ {A = ℕ} (get_or (replicate n 0) x 0) 0
nothing_in_zeros zero x = refl
nothing_in_zeros (suc n) zero = refl
nothing_in_zeros (suc n) (suc x) = nothing_in_zeros n x

no_bit_is_set : targets_in (replicate 64 0) ≡ no_target
unfolding targets_in no_target
no_bit_is_set i x = ap (λ b. eqb b 1) (ap (bit (x % 64)) (nothing_in_zeros 64 (x / 64)) ∙ bit_zero (x % 64)) i

module _ (m : List ℕ) (j v : ℕ) (size : length m ≡ 64) (low : j < 4096) (is : v ≡ bit_or (get_or m (j / 64) 0) (1 * 2 ^ (j % 64) % 2 ^ 64)) where
  one_shifted : 1 * 2 ^ (j % 64) % 2 ^ 64 ≡ 2 ^ (j % 64)
  one_shifted = shl_exact 1 (j % 64) 64 (lit< tt) (omega arith) ∙ omega arith

  -- the word of the index, and any other
  this_word : (x : ℕ) → x / 64 ≡ j / 64 → get_or (set m (j / 64) v) (x / 64) 0 ≡ bit_or (get_or m (x / 64) 0) (2 ^ (j % 64))
  this_word x e = rw e (get_or-set_same m (j / 64) v 0 (omega (arith, size)) ∙ is ∙ ap (bit_or (get_or m (j / 64) 0)) one_shifted)

  in_this_word : (x : ℕ) → x / 64 ≡ j / 64 → (b : Bool) → eqb (x % 64) (j % 64) ≡ b → targets_in (set m (j / 64) v) x ≡ (eqb x j || targets_in m x)
  unfolding targets_in
  in_this_word x e true p =
      let q : x % 64 ≡ j % 64 = eqb-true _ _ p in
      let s : x ≡ j = omega arith in
      let z : max (bit (j % 64) (get_or m (x / 64) 0)) 1 ≡ 1 = omega (arith, bit_lt (j % 64) (get_or m (x / 64) 0)) in
      rw (this_word x e, q, bit_or_lem (j % 64) (get_or m (x / 64) 0) (2 ^ (j % 64)), bit_pow (j % 64), eq-eqb x j s) (eq-eqb _ _ z)
  in_this_word x e false p =
      let q : x % 64 ≡ j % 64 → ⊥ = eqb-false _ _ p in
      rw (this_word x e, bit_or_lem (x % 64) (get_or m (x / 64) 0) (2 ^ (j % 64)), bit_pow_other (x % 64) (j % 64) q, ne_eqb x j (λ s. q (ap (λ y. y % 64) s)))
      (let z : max (bit (x % 64) (get_or m (x / 64) 0)) 0 ≡ bit (x % 64) (get_or m (x / 64) 0) = omega arith in ap (λ b. eqb b 1) z)

  at_index : (x : ℕ) (b : Bool) → eqb (x / 64) (j / 64) ≡ b → targets_in (set m (j / 64) v) x ≡ (eqb x j || targets_in m x)
  unfolding targets_in
  at_index x true p = in_this_word x (eqb-true _ _ p) (eqb (x % 64) (j % 64)) refl
  at_index x false p =
      let q : x / 64 ≡ j / 64 → ⊥ = eqb-false _ _ p in
      rw (get_or-set_other m (j / 64) (x / 64) v 0 q, ne_eqb x j (λ s. q (ap (λ y. y / 64) s))) refl

  pub a_bit_is_set : Marked j m (set m (j / 64) v)
  a_bit_is_set = record { size = length-set m (j / 64) v ∙ size; targets = λ i x. at_index x (eqb (x / 64) (j / 64)) refl i }

-- ---- an instruction is left

module _ (program : List ℕ) (n i : ℕ) (f : Fields) (is : fields program (i * 8) ≡ f) (fine : Fine n i (instruction program i)) where
  shaped : (on : Bool) (off : Option ℕ) → Shaped on off (meaning f) → (goes_on (instruction program i) ≡ on) × (off_of (instruction program i) ≡ off)
  unfolding instruction decode
  shaped on off h = (subst (λ g. Shaped on off (meaning g)) (sym is) h).shape fine.instructs

  module _ (m : List ℕ) (size : length m ≡ 64) where
    nothing_is_marked : (on : Bool) → Shaped on None (meaning f) → Left i (instruction program i) on m m
    unfolding aimed
    nothing_is_marked on h = let s = shaped on None h in record { size = size; on = sym s.0; targets = rw s.1 refl }

    pub no_jump : (not (eqb (f.opcode % 8) 5) && not (eqb (f.opcode % 8) 6)) ≡ true → Left i (instruction program i) true m m
    no_jump neither = nothing_is_marked true (other_shape f neither)

    pub an_exit : f.opcode ≡ 0x95 → Left i (instruction program i) false m m
    an_exit e = nothing_is_marked false (exit_shape f e)

  module _ (jumps : (not (eqb (f.opcode % 8) 5) && not (eqb (f.opcode % 8) 6)) ≡ false) (no_exit : f.opcode ≡ 0x95 → ⊥) where
    pub the_target_is_inside : i + 1 + extend 16 f.off < n
    unfolding goes_out
    the_target_is_inside =
        leb-false n (i + 1 + extend 16 f.off) (subst (λ o. goes_out n i o ≡ false) (shaped _ _ (jump_shape f jumps no_exit)).1 fine.stays_in)

    pub a_jump : (m m' : List ℕ) → Marked (i + 1 + extend 16 f.off) m m' → Left i (instruction program i) (not (eqb f.opcode 0x05)) m m'
    unfolding aimed
    a_jump m m' h = let s = shaped _ _ (jump_shape f jumps no_exit) in record { size = h.size; on = sym s.0; targets = rw s.1 h.targets }

-- ---- a turn of the loop

pub the_search_begins : (program : List ℕ) (n : ℕ) → n ≡ length program / 8 → reaching program (n - 0) 0 true (targets_in (replicate 64 0)) ≡ connected program
unfolding connected
the_search_begins program n size = rw (sub-zero n, size, no_bit_is_set) refl

module _ (program : List ℕ) (n i : ℕ) (on : Bool) (m : List ℕ) (whole : Finding) (l : i < n) (left : reaching program (n - i) i on (targets_in m) ≡ whole) where
  rest : reaching program (suc (n - (i + 1))) i on (targets_in m) ≡ whole
  rest = ap (λ k. reaching program k i on (targets_in m)) (let z : suc (n - (i + 1)) ≡ n - i = omega arith in z) ∙ left

  pub the_search_goes_on : (r : Bool) (m' : List ℕ) → (on || targets_in m i) ≡ true → Left i (instruction program i) r m m'
      → reaching program (n - (i + 1)) (i + 1) r (targets_in m') ≡ whole
  unfolding reaching
  the_search_goes_on r m' met h = rw (h.on, h.targets) (sym (rw met refl) ∙ rest)

  pub dead_code_is_found : (on || targets_in m i) ≡ false → Refused DeadCode i ≡ whole
  unfolding reaching
  dead_code_is_found unmet = sym (rw unmet refl) ∙ rest

pub the_search_ends : (program : List ℕ) (n i : ℕ) (on : Bool) (m : List ℕ) (whole : Finding) → n ≤ i → reaching program (n - i) i on (targets_in m) ≡ whole → Accepted ≡ whole
unfolding reaching
the_search_ends program n i on m whole l h = subst (λ k. reaching program k i on (targets_in m) ≡ whole) (let z : n - i ≡ 0 = omega arith in z) h
