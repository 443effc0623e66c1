-- What a step depends on and what it changes: no more than the registers of `reads`, and no register but that of `writes`.
use Rattle.std.proofs.Common.{ℕ, Option, None, Some}
use mathlib.Core.Path.{◌≡◌, refl, ap, ap₂, ◌∙◌}
use mathlib.Core.Bool.{Bool, true, false, cond, ◌||◌}
use mathlib.Core.List.Memᴰ
use mathlib.Core.List.{List, [], ◌∷◌, Memᴰ}
use Prim.Native.Nat.{ℕ, zero, suc, ◌+◌}
use native.Mathlib.Omega.{arith}
use lib.ListN.{length, get_or, set, length-set}
use lib.Seq.{get_or-set_other}
use Rattle.word.specs.Word.{alu, compare}
use Rattle.word.specs.declared.Operation.{Operation}
use Rattle.word.specs.declared.Operation.TheVariants.{Add, Sub, Mul, Div, Or, And, Lsh, Rsh, Mod, Xor, Mov, Arsh}
use Rattle.word.specs.declared.Operation.TheVariants as operation
use Rattle.machine.specs.declared.instruction.Size.{Size}
use Rattle.machine.specs.declared.instruction.Operand.{Operand}
use Rattle.machine.specs.declared.instruction.Operand.TheVariants.{Immediate, Register}
use Rattle.machine.specs.declared.instruction.Instruction.{Instruction}
use Rattle.machine.specs.declared.instruction.Instruction.TheVariants.{Alu, Neg, Jump, Always, Exit, Load, Store, NoInstruction}
use Rattle.machine.specs.declared.outcome.Cause.{Cause}
use Rattle.machine.specs.declared.outcome.Cause.TheVariants as cause
use Rattle.machine.specs.Instruction.{reads, writes, reads_operand, reads_dst}
use Rattle.machine.specs.Machine.{World, Content, Unset, Holds, State, After, goes, ends, faults, content, held, value, operand_value, put, jumped, bits, bytes, address, within, loaded, after_load, after_store, effect, is_no_instruction, names10, is_unset, any_unset, obey}

-- the two states have the same in each register of the list
abbrev pub Agree : List ℕ → State → State → Type 0
Agree rs s t = (r : ℕ) → Memᴰ r rs → content s r ≡ content t r

-- the states that a step looks at: they may differ in what the registers have
pub record Alike (s t : State) : Type 0 where
  pub stack : s.stack ≡ t.stack
  pub index : s.index ≡ t.index
  pub size : length s.registers ≡ length t.registers

-- two steps come to the same, as far as the stack, the index and the registers of the list go
unfoldable pub Same : List ℕ → After → After → Type 0
Same ws (goes s) (goes t) = (s.stack ≡ t.stack) × (s.index ≡ t.index) × Agree ws s t
Same ws (goes s) (ends v) = ⊥
Same ws (goes s) (faults c) = ⊥
Same ws (ends u) (goes t) = ⊥
Same ws (ends u) (ends v) = u ≡ v
Same ws (ends u) (faults c) = ⊥
Same ws (faults b) (goes t) = ⊥
Same ws (faults b) (ends v) = ⊥
Same ws (faults b) (faults c) = b ≡ c

-- ---- what an instruction comes to is one fault or another, or its effect; the order of the tests is no matter here

module _ (w : World) (s t : State) (i : Instruction) (P : After → After → Type 0) (fault : (c : Cause) → P (faults c) (faults c)) where
  obey_tested : (a b c : Bool) → is_no_instruction i ≡ a → names10 (writes i) ≡ b → any_unset s (reads i) ≡ c → any_unset t (reads i) ≡ c → P (effect w s i) (effect w t i) → P (obey w s i) (obey w t i)
  unfolding obey
  obey_tested true b c p q r r' x = simp p (fault _)
  obey_tested false true true p q r r' x = simp (p, q, r, r') (fault _)
  obey_tested false true false p q r r' x = simp (p, q, r, r') (fault _)
  obey_tested false false true p q r r' x = simp (p, q, r, r') (fault _)
  obey_tested false false false p q r r' x = simp (p, q, r, r') x

  obey_by_effect : any_unset s (reads i) ≡ any_unset t (reads i) → P (effect w s i) (effect w t i) → P (obey w s i) (obey w t i)
  obey_by_effect e = obey_tested (is_no_instruction i) (names10 (writes i)) (any_unset t (reads i)) refl refl e refl

-- ---- what is read is the same

first : {r : ℕ} {rs : List ℕ} → Memᴰ r (r ∷ rs)
first = Memᴰ.head refl

module _ (s t : State) where
  any_unset_same : (rs : List ℕ) → Agree rs s t → any_unset s rs ≡ any_unset t rs
  unfolding any_unset
  any_unset_same [] a = refl
  any_unset_same (r ∷ rs) a = ap₂ (λ c b. is_unset c || b) (a r first) (any_unset_same rs (λ q m. a q (Memᴰ.tail m)))

  value_same : (r : ℕ) → content s r ≡ content t r → value s r ≡ value t r
  unfolding value
  value_same r e = ap held e

  operand_same : (o : Operand) → Agree (reads_operand o) s t → operand_value s o ≡ operand_value t o
  unfolding operand_value reads_operand
  operand_same (Immediate n) a = refl
  operand_same (Register r) a = value_same r (a r first)

  -- MOV's result doesn't hold dst's value, every other operation reads it
  dst_same : (n : ℕ) (op : Operation) (d v : ℕ) → Agree (reads_dst op d) s t → alu n op (value s d) v ≡ alu n op (value t d) v
  unfolding alu reads_dst
  dst_same n Add d v a = rw (value_same d (a d first))
  dst_same n Sub d v a = rw (value_same d (a d first))
  dst_same n Mul d v a = rw (value_same d (a d first))
  dst_same n Div d v a = rw (value_same d (a d first))
  dst_same n Or d v a = rw (value_same d (a d first))
  dst_same n And d v a = rw (value_same d (a d first))
  dst_same n Lsh d v a = rw (value_same d (a d first))
  dst_same n Rsh d v a = rw (value_same d (a d first))
  dst_same n operation.Neg d v a = rw (value_same d (a d first))
  dst_same n Mod d v a = rw (value_same d (a d first))
  dst_same n Xor d v a = rw (value_same d (a d first))
  dst_same n Mov d v a = refl
  dst_same n Arsh d v a = rw (value_same d (a d first))

-- ---- what is written is the same

-- a register out of range is unset in both
set_same : (k l : List Content) (r : ℕ) (x : Content) → length k ≡ length l → get_or (set k r x) r Unset ≡ get_or (set l r x) r Unset
set_same [] [] r x e = refl
set_same [] (b ∷ l) r x e = absurd (omega arith)
set_same (a ∷ k) [] r x e = absurd (omega arith)
set_same (a ∷ k) (b ∷ l) zero x e = refl
set_same (a ∷ k) (b ∷ l) (suc r) x e = set_same k l r x (omega arith)

fault_same : (ws : List ℕ) (c : Cause) → Same ws (faults c) (faults c)
unfolding Same
fault_same ws c = refl

same_cond : (ws : List ℕ) (b : Bool) (x x' y y' : After) → Same ws x x' → Same ws y y' → Same ws (cond b x y) (cond b x' y')
same_cond ws true x x' y y' p q = p
same_cond ws false x x' y y' p q = q

module _ (w : World) (s t : State) (alike : Alike s t) where
  put_same : (d u v : ℕ) → u ≡ v → Same (d ∷ []) (goes (put s d u)) (goes (put t d v))
  unfolding Same put content
  put_same d u v e =
      (alike.stack, ap (λ (n : ℕ). n + 1) alike.index, λ r m. rw (Memᴰ.eq_of_singleton m, e) (set_same s.registers t.registers d (Holds v) alike.size))

  jumped_same : (a b : Bool) (off : ℕ) → a ≡ b → Same [] (goes (jumped a s off)) (goes (jumped b t off))
  unfolding Same jumped
  jumped_same a b off e = (alike.stack, rw (e, alike.index), λ r m. absurd (Memᴰ.not-nil m))

  load_same : (d : ℕ) (m : Option ℕ) → Same (d ∷ []) (after_load s d m) (after_load t d m)
  unfolding after_load
  load_same d (Some v) = put_same d v v refl
  load_same d None = fault_same (d ∷ []) cause.BadAccess

  store_same : (a : ℕ) (z : Size) (v : ℕ) → Same [] (after_store w s a z v) (after_store w t a z v)
  unfolding Same after_store
  store_same a z v =
      rw alike.stack (same_cond [] (within w.S (length t.stack) a (bytes z)) _ _ _ _ (refl, ap (λ (n : ℕ). n + 1) alike.index, λ r m. absurd (Memᴰ.not-nil m)) refl)

  effect_same : (i : Instruction) → Agree (reads i) s t → Same (writes i) (effect w s i) (effect w t i)
  unfolding Same effect reads writes
  effect_same (Alu b op d o) a =
      put_same d _ _
      (dst_same s t (bits b) op d (operand_value s o) (λ r m. a r (Memᴰ.append_left (reads_operand o) m))
      ∙ ap (alu (bits b) op (value t d)) (operand_same s t o (λ r m. a r (Memᴰ.append_right (reads_dst op d) m))))
  effect_same (Neg b d) a = put_same d _ _ (rw (value_same s t d (a d first)))
  effect_same (Jump b c d o off) a =
      jumped_same _ _ off (ap₂ (compare (bits b) c) (value_same s t d (a d first)) (operand_same s t o (λ r m. a r (Memᴰ.tail m))))
  effect_same (Always off) a = jumped_same true true off refl
  effect_same Exit a = value_same s t 0 (a 0 first)
  effect_same (Load z d r off) a =
      rw (ap₂ (λ m v. loaded w m (address v off) z) alike.stack (value_same s t r (a r first)))
      (load_same d (loaded w t.stack (address (value t r) off) z))
  effect_same (Store z d off o) a =
      rw (value_same s t d (a d first), operand_same s t o (λ r m. a r (Memᴰ.tail m)))
      (store_same (address (value t d) off) z (operand_value t o))
  effect_same NoInstruction a = refl

  -- from states that agree on what it reads, an instruction comes to the same
  pub reads_determine : (i : Instruction) → Agree (reads i) s t → Same (writes i) (obey w s i) (obey w t i)
  reads_determine i a =
      obey_by_effect w s t i (Same (writes i)) (fault_same (writes i)) (any_unset_same s t (reads i) a) (effect_same i a)

-- ---- nothing else is written

-- what a step leaves as it was: how many registers there are, and what each has that isn't in the list
unfoldable pub Keeps : List ℕ → State → After → Type 0
Keeps ws t (goes u) = (length u.registers ≡ length t.registers) × ((r : ℕ) → ¬ Memᴰ r ws → content u r ≡ content t r)
Keeps ws t (ends v) = Unit {0}
Keeps ws t (faults c) = Unit {0}

fault_keeps : (ws : List ℕ) (t : State) (c : Cause) → Keeps ws t (faults c)
unfolding Keeps
fault_keeps ws t c = tt

keeps_cond : (ws : List ℕ) (t : State) (b : Bool) (x y : After) → Keeps ws t x → Keeps ws t y → Keeps ws t (cond b x y)
keeps_cond ws t true x y p q = p
keeps_cond ws t false x y p q = q

put_keeps : (t : State) (d v : ℕ) → Keeps (d ∷ []) t (goes (put t d v))
unfolding Keeps put content
put_keeps t d v =
    (length-set t.registers d (Holds v), λ r n. get_or-set_other t.registers d r (Holds v) Unset (λ e. n (Memᴰ.head e)))

load_keeps : (t : State) (d : ℕ) (m : Option ℕ) → Keeps (d ∷ []) t (after_load t d m)
unfolding after_load
load_keeps t d (Some v) = put_keeps t d v
load_keeps t d None = fault_keeps (d ∷ []) t cause.BadAccess

effect_keeps : (w : World) (t : State) (i : Instruction) → Keeps (writes i) t (effect w t i)
unfolding Keeps effect writes content jumped after_store
effect_keeps w t (Alu b op d o) = put_keeps t d _
effect_keeps w t (Neg b d) = put_keeps t d _
effect_keeps w t (Jump b c d o off) = (refl, λ r n. refl)
effect_keeps w t (Always off) = (refl, λ r n. refl)
effect_keeps w t Exit = tt
effect_keeps w t (Load z d r off) = load_keeps t d _
effect_keeps w t (Store z d off o) =
    keeps_cond [] t (within w.S (length t.stack) (address (value t d) off) (bytes z)) _ _ (refl, λ r n. refl) tt
effect_keeps w t NoInstruction = tt

obey_keeps : (w : World) (t : State) (i : Instruction) → Keeps (writes i) t (obey w t i)
obey_keeps w t i = obey_by_effect w t t i (λ _ after. Keeps (writes i) t after) (fault_keeps (writes i) t) refl (effect_keeps w t i)

module _ (w : World) (t u : State) (i : Instruction) (e : obey w t i ≡ goes u) where
  pub writes_only : (r : ℕ) → ¬ Memᴰ r (writes i) → content u r ≡ content t r
  unfolding Keeps
  writes_only = (rw e at (obey_keeps w t i)).1

  pub registers_as_many : length u.registers ≡ length t.registers
  unfolding Keeps
  registers_as_many = (rw e at (obey_keeps w t i)).0
