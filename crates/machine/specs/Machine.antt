-- The machine of docs/MACHINE.md, section 5: what one step does, how a run goes, and what is refused before the first step.
use Rattle.std.specs.Prelude.{Bool, true, false, not, cond, Option, None, Some, ◌&&◌, ◌||◌, List, [], ◌∷◌, ℕ, zero, suc, ◌+◌, ◌-◌, ◌*◌, ◌/◌, ◌%◌, ◌^◌, length, get_or, set, replicate, leb, ltb, eqb}
use Rattle.word.specs.Word.{alu, compare, read_bytes, write_bytes}
use Rattle.word.specs.declared.Operation.TheVariants as operation
use Rattle.machine.specs.declared.instruction.Width.{Width}
use Rattle.machine.specs.declared.instruction.Width.TheVariants.{Long, Short}
use Rattle.machine.specs.declared.instruction.Size.{Size}
use Rattle.machine.specs.declared.instruction.Size.TheVariants.{One, Two, Four, Eight}
use Rattle.machine.specs.declared.instruction.Operand.{Operand}
use Rattle.machine.specs.declared.instruction.Operand.TheVariants.{Immediate, Register}
use Rattle.machine.specs.declared.instruction.Instruction.{Instruction}
use Rattle.machine.specs.declared.instruction.Instruction.TheVariants.{Alu, Neg, Jump, Always, Exit, Load, Store, NoInstruction}
use Rattle.machine.specs.declared.outcome.Cause.{Cause}
use Rattle.machine.specs.declared.outcome.Cause.TheVariants as cause
use Rattle.machine.specs.declared.outcome.Outcome.{Outcome}
use Rattle.machine.specs.declared.outcome.Outcome.TheVariants.{Verdict, Fault, Budget, Refused}
use Rattle.machine.specs.Instruction.{decode, reads, writes}

-- ---- what a run has before it: the record's bytes, the address P at which they lie, the address S of the stack's 512

pub record World : Type 0 where
  pub rec : List ℕ
  pub P : ℕ
  pub S : ℕ

-- ---- a state

-- what a register has
pub data Content : Type 0 where
  Unset : Content
  Holds : ℕ → Content

-- r0 to r10, the 512 bytes of the stack, and the index of the instruction that comes next
pub record State : Type 0 where
  pub registers : List Content
  pub stack : List ℕ
  pub index : ℕ

unfoldable pub content : State → ℕ → Content
content t r = get_or t.registers r Unset

-- no instruction that reads an unset register gets as far as its value
unfoldable pub held : Content → ℕ
held Unset = 0
held (Holds n) = n

unfoldable pub value : State → ℕ → ℕ
value t r = held (content t r)

unfoldable pub operand_value : State → Operand → ℕ
operand_value t (Immediate n) = n
operand_value t (Register r) = value t r

-- ---- what an instruction does. A step leads to the next state, to the verdict, or to a fault, which changes nothing

pub data After : Type 0 where
  goes : State → After
  ends : ℕ → After
  faults : Cause → After

-- dst becomes v, and the next instruction comes next
unfoldable pub put : State → ℕ → ℕ → State
put t dst v = record { registers = set t.registers dst (Holds v); stack = t.stack; index = t.index + 1 }

-- the index becomes i + 1 + off where the jump is taken; one before 0 is 2 ^ 63 or more, and so off the end
unfoldable pub jumped : Bool → State → ℕ → State
jumped taken t off =
    record { registers = t.registers; stack = t.stack; index = cond taken ((t.index + 1 + off) % 2 ^ 64) (t.index + 1) }

unfoldable pub bits : Width → ℕ
bits Long = 64
bits Short = 32

unfoldable pub bytes : Size → ℕ
bytes One = 1
bytes Two = 2
bytes Four = 4
bytes Eight = 8

-- addresses are modulo 2 ^ 64
unfoldable pub address : ℕ → ℕ → ℕ
address base off = (base + off) % 2 ^ 64

-- the n bytes at the address a lie wholly in the len bytes at base
unfoldable pub within : ℕ → ℕ → ℕ → ℕ → Bool
within base len a n = leb base a && leb (a + n) (base + len)

-- a load reads the record or the stack, lowest byte first; None where it lies in neither
unfoldable pub loaded : World → List ℕ → ℕ → Size → Option ℕ
loaded w stack a size =
    cond (within w.P (length w.rec) a (bytes size)) (Some (read_bytes (bytes size) w.rec (a - w.P)))
    (cond (within w.S (length stack) a (bytes size)) (Some (read_bytes (bytes size) stack (a - w.S)))
    None)

unfoldable pub after_load : State → ℕ → Option ℕ → After
after_load t dst (Some v) = goes (put t dst v)
after_load t dst None = faults cause.BadAccess

-- a store writes the stack alone
unfoldable pub after_store : World → State → ℕ → Size → ℕ → After
after_store w t a size v =
    cond (within w.S (length t.stack) a (bytes size))
    (goes (record { registers = t.registers; stack = write_bytes (bytes size) t.stack (a - w.S) v; index = t.index + 1 }))
    (faults cause.BadAccess)

unfoldable pub effect : World → State → Instruction → After
effect w t (Alu width op dst s) = goes (put t dst (alu (bits width) op (value t dst) (operand_value t s)))
effect w t (Neg width dst) = goes (put t dst (alu (bits width) operation.Neg (value t dst) 0))
effect w t (Jump width comparison dst s off) = goes (jumped (compare (bits width) comparison (value t dst) (operand_value t s)) t off)
effect w t (Always off) = goes (jumped true t off)
effect w t Exit = ends (value t 0)
effect w t (Load size dst src off) = after_load t dst (loaded w t.stack (address (value t src) off) size)
effect w t (Store size dst off s) = after_store w t (address (value t dst) off) size (operand_value t s)
effect w t NoInstruction = faults cause.BadCode

-- ---- one step, in the order of section 5

unfoldable pub is_no_instruction : Instruction → Bool
is_no_instruction NoInstruction = true
is_no_instruction (Alu w op d s) = false
is_no_instruction (Neg w d) = false
is_no_instruction (Jump w c d s off) = false
is_no_instruction (Always off) = false
is_no_instruction Exit = false
is_no_instruction (Load z d s off) = false
is_no_instruction (Store z d off s) = false

unfoldable pub names10 : List ℕ → Bool
names10 [] = false
names10 (r ∷ rs) = eqb r 10 || names10 rs

unfoldable pub is_unset : Content → Bool
is_unset Unset = true
is_unset (Holds n) = false

unfoldable pub any_unset : State → List ℕ → Bool
any_unset t [] = false
any_unset t (r ∷ rs) = is_unset (content t r) || any_unset t rs

unfoldable pub obey : World → State → Instruction → After
obey w t i =
    cond (is_no_instruction i) (faults cause.BadCode)
    (cond (names10 (writes i)) (faults cause.WriteR10)
    (cond (any_unset t (reads i)) (faults cause.Unset)
    (effect w t i)))

unfoldable pub step : List ℕ → World → State → After
step program w t = cond (leb (length program / 8) t.index) (faults cause.OffEnd) (obey w t (decode program (t.index * 8)))

-- ---- a run

-- the outcome, and the stack as it is left
pub record Done : Type 0 where
  pub outcome : Outcome
  pub stack : List ℕ

-- what comes of a step from t, made after n steps; more says what comes of later ones
unfoldable pub next : (ℕ → State → Done) → ℕ → State → After → Done
next more n t (goes t') = more (n + 1) t'
next more n t (ends v) = record { outcome = Verdict v (n + 1); stack = t.stack }
next more n t (faults c) = record { outcome = Fault c t.index n; stack = t.stack }

-- k steps more may be made, n have been made
unfoldable pub runs : List ℕ → World → ℕ → ℕ → State → Done
runs program w zero n t = record { outcome = Budget n; stack = t.stack }
runs program w (suc k) n t = next (runs program w k) n t (step program w t)

-- r1 = P, r10 = S + 512, the other registers are unset, the stack is 0
unfoldable pub start : World → State
start w =
    record { registers = Unset ∷ Holds w.P ∷ Unset ∷ Unset ∷ Unset ∷ Unset ∷ Unset ∷ Unset ∷ Unset ∷ Unset ∷ Holds (w.S + 512) ∷ []; stack = replicate 512 0; index = 0 }

-- ---- what is refused before the first step, by the lengths of the program, the record and the stack and the two addresses

-- the program's length isn't 8 n with n from 1 to 4,096
unfoldable pub bad_program : ℕ → Bool
bad_program length = eqb length 0 || not (eqb (length % 8) 0) || ltb (8 * 4096) length

unfoldable pub bad_record : ℕ → Bool
bad_record R = ltb 1024 R

unfoldable pub bad_stack : ℕ → Bool
bad_stack length = not (eqb length 512)

unfoldable pub bad_address : ℕ → Bool
bad_address a = ltb a (2 ^ 16) || ltb (2 ^ 47) a

-- the R bytes at P and the 512 at S overlap; an empty record overlaps nothing
unfoldable pub overlap : ℕ → ℕ → ℕ → Bool
overlap P R S = ltb 0 R && ltb P (S + 512) && ltb S (P + R)

unfoldable pub refused : ℕ → ℕ → ℕ → ℕ → ℕ → Bool
refused program R stack P S =
    bad_program program || bad_record R || bad_stack stack || bad_address P || bad_address S || overlap P R S

-- the interpreter's answer: a refusal leaves the stack as it was
unfoldable pub interpreted : List ℕ → List ℕ → ℕ → ℕ → List ℕ → ℕ → Done
interpreted program rec P S stack budget =
    cond (refused (length program) (length rec) (length stack) P S) (record { outcome = Refused; stack = stack })
    (let w : World = record { rec = rec; P = P; S = S } in runs program w budget 0 (start w))
