-- The tests on form of docs/VERIFIER.md, section 1: what a program of good form is, and the first test that fails.
use Rattle.std.specs.Prelude.{◌≡◌, ◌⊎◌, Bool, true, false, cond, not, ◌&&◌, ◌||◌, List, ℕ, ◌+◌, ◌*◌, ◌/◌, ◌^◌, ◌<◌, length, eqb, leb, Option, Some, None}
use Rattle.machine.specs.declared.instruction.Instruction.{Instruction}
use Rattle.machine.specs.declared.instruction.Instruction.TheVariants.{Alu, Neg, Jump, Always, Exit, Load, Store, NoInstruction}
use Rattle.machine.specs.Instruction.{decode, writes}
use Rattle.machine.specs.Machine.{is_no_instruction, names10, bad_program, bad_record}
use Rattle.analysis.specs.declared.Reason.{Reason}
use Rattle.analysis.specs.declared.Reason.TheVariants.{BadLength, LongRecord, NoCode, WritesR10, JumpsBack, JumpsOut, ReadsUnset, Outside, LeaksAddress, DeadCode}

-- ---- a reason's number

unfoldable pub reason_number : Reason → ℕ
reason_number BadLength = 1
reason_number LongRecord = 2
reason_number NoCode = 3
reason_number WritesR10 = 4
reason_number JumpsBack = 5
reason_number JumpsOut = 6
reason_number ReadsUnset = 7
reason_number Outside = 8
reason_number LeaksAddress = 9
reason_number DeadCode = 12

unfoldable pub instruction : List ℕ → ℕ → Instruction
instruction program i = decode program (i * 8)

-- the off of a jump; EXIT is no jump here
unfoldable pub off_of : Instruction → Option ℕ
off_of (Jump w c d s off) = Some off
off_of (Always off) = Some off
off_of (Alu w op d s) = None
off_of (Neg w d) = None
off_of Exit = None
off_of (Load z d s off) = None
off_of (Store z d off s) = None
off_of NoInstruction = None

-- off is kept extended with its sign to 64 bits
unfoldable pub goes_back : Option ℕ → Bool
goes_back None = false
goes_back (Some off) = leb (2 ^ 63) off

unfoldable pub goes_out : ℕ → ℕ → Option ℕ → Bool
goes_out n i None = false
goes_out n i (Some off) = leb n (i + 1 + off)

-- a program may end in EXIT or JA
unfoldable pub may_be_last : Instruction → Bool
may_be_last Exit = true
may_be_last (Always off) = true
may_be_last (Alu w op d s) = false
may_be_last (Neg w d) = false
may_be_last (Jump w c d s off) = false
may_be_last (Load z d s off) = false
may_be_last (Store z d off s) = false
may_be_last NoInstruction = false

-- and any other instruction goes on to the next one
unfoldable pub goes_on : Instruction → Bool
goes_on ins = not (may_be_last ins)

-- ---- the tests at an index of n, the lower reason first
unfoldable pub failing : ℕ → ℕ → Instruction → Option Reason
failing n i ins =
    cond (is_no_instruction ins) (Some NoCode)
    (cond (names10 (writes ins)) (Some WritesR10)
    (cond (goes_back (off_of ins)) (Some JumpsBack)
    (cond (goes_out n i (off_of ins) || (eqb (i + 1) n && not (may_be_last ins))) (Some JumpsOut)
    None)))

-- ---- a program of good form, as a proposition
pub record Fine (n i : ℕ) (ins : Instruction) : Type 0 where
  pub instructs : is_no_instruction ins ≡ false
  pub keeps_r10 : names10 (writes ins) ≡ false
  pub forward : goes_back (off_of ins) ≡ false
  pub stays_in : goes_out n i (off_of ins) ≡ false
  pub ends_well : i + 1 ≡ n → may_be_last ins ≡ true

-- the tests with the reasons 1 to 6 are passed
pub record Orderly (program : List ℕ) (R : ℕ) : Type 0 where
  pub good_length : bad_program (length program) ≡ false
  pub good_record : bad_record R ≡ false
  pub fine : (i : ℕ) → i < length program / 8 → Fine (length program / 8) i (instruction program i)

-- a path of the jump graph leads from index 0 to this one, whatever the values are
pub data Reached (program : List ℕ) : ℕ → Type 0 where
  at_the_start : Reached program 0
  by_going_on : (i : ℕ) → Reached program i → goes_on (instruction program i) ≡ true → Reached program (i + 1)
  by_a_jump : (i off : ℕ) → Reached program i → off_of (instruction program i) ≡ Some off → Reached program (i + 1 + off)

-- they are passed, and there is no dead code
pub record HasForm (program : List ℕ) (R : ℕ) : Type 0 where
  pub orderly : Orderly program R
  pub all_reached : (i : ℕ) → i < length program / 8 → Reached program i

-- ---- what a refusal for form says

-- a reason at an index, in the words of docs/VERIFIER.md
abbrev pub Fails : Reason → ℕ → ℕ → Instruction → Type 0
Fails BadLength n i ins = ⊥
Fails LongRecord n i ins = ⊥
Fails NoCode n i ins = is_no_instruction ins ≡ true
Fails WritesR10 n i ins = names10 (writes ins) ≡ true
Fails JumpsBack n i ins = goes_back (off_of ins) ≡ true
Fails JumpsOut n i ins = (goes_out n i (off_of ins) ≡ true) ⊎ ((i + 1 ≡ n) × (may_be_last ins ≡ false))
Fails ReadsUnset n i ins = ⊥
Fails Outside n i ins = ⊥
Fails LeaksAddress n i ins = ⊥
Fails DeadCode n i ins = ⊥

-- it fails there with this reason and with no lower one
pub record FailsFirst (reason : Reason) (n i : ℕ) (ins : Instruction) : Type 0 where
  pub fails : Fails reason n i ins
  pub no_lower : (r : Reason) → reason_number r < reason_number reason → Fails r n i ins → ⊥

-- the lowest index that fails, with the lowest reason there
pub record FirstFailure (program : List ℕ) (reason : Reason) (place : ℕ) : Type 0 where
  pub inside : place < length program / 8
  pub fails_first : FailsFirst reason (length program / 8) place (instruction program place)
  pub fine_before : (x : ℕ) → x < place → Fine (length program / 8) x (instruction program x)

-- the lowest index that no path leads to
pub record Dead (program : List ℕ) (place : ℕ) : Type 0 where
  pub inside : place < length program / 8
  pub unreached : Reached program place → ⊥
  pub lowest : (x : ℕ) → x < place → Reached program x
