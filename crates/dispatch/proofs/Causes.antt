-- The laws of the cause: what the mask says of the registers that an instruction reads, and that a fault of the machine has
-- the cause that they give.
use Rattle.std.proofs.Common.{◌≡◌, ℕ, ◌+◌, ◌*◌, ◌/◌, ◌^◌, ◌<◌, ◌≤◌, Bool, true, false, cond, ◌||◌, leb, List, [], ◌∷◌, length, refl, ap, ◌∙◌, ap₂, arith, le-leb, Option, None, Some}
use borrow.Author.Tests.{lt-leb}
use Rattle.machine.specs.declared.instruction.Size.{Size}
use Rattle.machine.specs.declared.instruction.Instruction.{Instruction}
use Rattle.machine.specs.declared.instruction.Instruction.TheVariants.{Alu, Neg, Jump, Always, Exit, Load, Store, NoInstruction}
use Rattle.machine.specs.declared.outcome.Cause.{Cause}
use Rattle.machine.specs.declared.outcome.Cause.TheVariants.{BadCode, OffEnd, Unset, WriteR10, BadAccess}
use Rattle.machine.specs.Instruction.{decode, reads, writes}
use Rattle.machine.specs.Machine.{World, State, After, goes, faults, value, operand_value, address, loaded, after_load, after_store, within, bytes, effect, is_no_instruction, names10, any_unset, obey, step}
use Rattle.dispatch.specs.Represent.{state_of, unset_in, cause_at}
use Rattle.dispatch.proofs.Registers.{is_unset_lem}

-- ---- what is read

module _ (live : ℕ) where
  -- the machine finds unset what the mask does
  pub unset_in_lem : (numbers stack : List ℕ) (index : ℕ) → live < 2 ^ 11 → (rs : List ℕ) → any_unset (state_of numbers live stack index) rs ≡ unset_in live rs
  unfolding any_unset unset_in
  unset_in_lem numbers stack index narrow [] = refl
  unset_in_lem numbers stack index narrow (r ∷ rs) =
      ap₂ (λ (x y : Bool). x || y) (is_unset_lem numbers live narrow stack index r) (unset_in_lem numbers stack index narrow rs)

-- ---- an instruction that passes the tests and faults misses the memory

load_misses : (t : State) (dst : ℕ) (found : Option ℕ) (c : Cause) → after_load t dst found ≡ faults c → BadAccess ≡ c
unfolding after_load
load_misses t dst (Some v) c e = cc
load_misses t dst None c e = cc

barred_or_made : (b : Bool) (t : State) (c : Cause) → cond b (goes t) (faults BadAccess) ≡ faults c → BadAccess ≡ c
barred_or_made true t c e = cc
barred_or_made false t c e = cc

store_misses : (w : World) (t : State) (a : ℕ) (size : Size) (x : ℕ) (c : Cause) → after_store w t a size x ≡ faults c → BadAccess ≡ c
unfolding after_store
store_misses w t a size x c e = barred_or_made (within w.S (length t.stack) a (bytes size)) _ c e

misses : (w : World) (t : State) (i : Instruction) (c : Cause) → is_no_instruction i ≡ false → effect w t i ≡ faults c → BadAccess ≡ c
unfolding effect is_no_instruction
misses w t (Alu width op d s) c is e = cc
misses w t (Neg width d) c is e = cc
misses w t (Jump width comparison d s off) c is e = cc
misses w t (Always off) c is e = cc
misses w t Exit c is e = cc
misses w t (Load z d s off) c is e = load_misses t d (loaded w t.stack (address (value t s) off) z) c e
misses w t (Store z d off s) c is e = store_misses w t (address (value t d) off) z (operand_value t s) c e
misses w t NoInstruction c is e = cc

-- the tests one after the other
by_tests : (none writes10 unset : Bool) (after : After) (c : Cause) → (none ≡ false → after ≡ faults c → BadAccess ≡ c)
    → cond none (faults BadCode) (cond writes10 (faults WriteR10) (cond unset (faults Unset) after)) ≡ faults c
    → cond none BadCode (cond writes10 WriteR10 (cond unset Unset BadAccess)) ≡ c
by_tests true writes10 unset after c h e = cc
by_tests false true unset after c h e = cc
by_tests false false true after c h e = cc
by_tests false false false after c h e = h refl e

module _ (program : List ℕ) (live pc : ℕ) (narrow : live < 2 ^ 11) (w : World) (numbers stack : List ℕ) (c : Cause)
    (e : step program w (state_of numbers live stack pc) ≡ faults c) where
  pub off_end : length program / 8 ≤ pc → OffEnd ≡ c
  unfolding step state_of
  off_end h = let f : faults OffEnd ≡ faults c = simp (le-leb _ _ h) at e in cc

  at_decoded : pc < length program / 8 → cause_at live (decode program (pc * 8)) ≡ c
  unfolding step state_of obey cause_at
  at_decoded h =
      rw (← unset_in_lem live numbers stack pc narrow (reads (decode program (pc * 8))))
      (by_tests (is_no_instruction (decode program (pc * 8))) (names10 (writes (decode program (pc * 8)))) (any_unset (state_of numbers live stack pc) (reads (decode program (pc * 8)))) _ c (misses w (state_of numbers live stack pc) (decode program (pc * 8)) c) (simp (lt-leb _ _ h) at e))

  -- i as `decode` of the code gives it, which tests that there are eight bytes
  pub at_instruction : pc < length program / 8 → (i : Instruction)
      → i ≡ cond (leb (pc * 8 + 8) (length program)) (decode program (pc * 8)) NoInstruction → cause_at live i ≡ c
  at_instruction h i is =
      let there : pc * 8 + 8 ≤ length program = omega arith in
      let found : i ≡ decode program (pc * 8) = simp (le-leb _ _ there) at is in
      ap (cause_at live) found ∙ at_decoded h
