-- How the interpreter keeps a state, and what its answers stand for: numbers in an array, the registers that are set
-- as the bits of a mask, the index in a number.
use Rattle.std.specs.Prelude.{◌≡◌, ℕ, zero, suc, ◌+◌, ◌^◌, ◌<◌, Bool, false, cond, not, ◌||◌, List, [], ◌∷◌, length, ◌==◌, slice_index}
use Rattle.word.specs.Word.{bit}
use Rattle.machine.specs.declared.instruction.Instruction.{Instruction}
use Rattle.machine.specs.declared.outcome.Cause.{Cause}
use Rattle.machine.specs.declared.outcome.Cause.TheVariants as cause
use Rattle.machine.specs.declared.outcome.Outcome.TheVariants.{Verdict, Fault}
use Rattle.machine.specs.Instruction.{reads, writes}
use Rattle.machine.specs.Machine.{Content, Unset, Holds, State, After, goes, ends, faults, is_no_instruction, names10, Done}
use Rattle.machine.specs.Machine.{next as following}
use Rattle.dispatch.specs.declared.answer.Next.{Next}
use Rattle.dispatch.specs.declared.answer.Next.TheVariants.{Go, Stop}
use Rattle.dispatch.specs.declared.answer.Next.TheVariants as next

-- register r is set where bit r of the mask live is
unfoldable pub is_set : ℕ → ℕ → Bool
is_set live r = bit r live == 1

unfoldable pub content_of : List ℕ → ℕ → ℕ → Content
content_of numbers live r = cond (is_set live r) (Holds (slice_index numbers r)) Unset

-- the contents of n registers from r on
unfoldable pub contents : ℕ → ℕ → List ℕ → ℕ → List Content
contents zero r numbers live = []
contents (suc n) r numbers live = content_of numbers live r ∷ contents n (r + 1) numbers live

unfoldable pub state_of : List ℕ → ℕ → List ℕ → ℕ → State
state_of numbers live stack index = record { registers = contents 11 0 numbers live; stack = stack; index = index }

-- the cause of a fault; nothing asks for that of what is none
unfoldable pub cause_of : After → Cause
cause_of (goes t) = cause.BadCode
cause_of (ends v) = cause.BadCode
cause_of (faults c) = c

-- what comes of an answer to the instruction at index, obeyed after n steps, with the numbers and the stack as it left them;
-- c is the cause that a stop stands for, more says what comes of later steps
unfoldable pub comes : (ℕ → State → Done) → ℕ → ℕ → Cause → Next → List ℕ → List ℕ → Done
comes more n index c (Go index' live) numbers stack = more (n + 1) (state_of numbers live stack index')
comes more n index c (next.Exit v) numbers stack = record { outcome = Verdict v (n + 1); stack = stack }
comes more n index c Stop numbers stack = record { outcome = Fault c index n; stack = stack }

-- the mask that an answer hands on
unfoldable pub mask_of : Next → ℕ
mask_of (Go index live) = live
mask_of (next.Exit v) = 0
mask_of Stop = 0

-- the answer r, with the numbers and the stack as it left them, says what comes after the state t, however the run goes on;
-- the numbers are still sixteen, so that four bits name one, and those above 10 are never set
pub record Leads (r : Next) (numbers : List ℕ) (stack : List ℕ) (t : State) (after : After) : Type 0 where
  pub leads : (more : ℕ → State → Done) (n : ℕ) → comes more n t.index (cause_of after) r numbers stack ≡ following more n t after
  pub sixteen : length numbers ≡ 16
  pub narrow : mask_of r < 2 ^ 11

-- the tests before an effect, in the order of docs/MACHINE.md, section 5: the unused fields are 0, r10 is not written, what is read is set
unfoldable pub guarded : Bool → Bool → Bool → After → After
guarded fits writes10 unset after =
    cond fits (cond writes10 (faults cause.WriteR10) (cond unset (faults cause.Unset) after)) (faults cause.BadCode)

-- the answer r leads on to what `after` makes of the state, which the code keeps in these numbers, this mask and this index; ' marks
-- what it left
abbrev pub LeadsOn : Next → List ℕ → List ℕ → List ℕ → List ℕ → ℕ → ℕ → (State → After) → Type 0
LeadsOn r numbers numbers' stack stack' live index after =
    Leads r numbers' stack' (state_of numbers live stack index) (after (state_of numbers live stack index))

-- it does so whatever the stack is, of which it sees nothing
abbrev pub Puts : Next → List ℕ → List ℕ → ℕ → ℕ → (State → After) → Type 0
Puts r numbers numbers' live index after = (stack : List ℕ) → LeadsOn r numbers numbers' stack stack live index after

-- whatever the numbers are
abbrev pub Stores : Next → List ℕ → List ℕ → ℕ → ℕ → (State → After) → Type 0
Stores r stack stack' live index after = (numbers : List ℕ) → length numbers ≡ 16 → LeadsOn r numbers numbers stack stack' live index after

-- whatever either is
abbrev pub Turns : Next → ℕ → ℕ → (State → After) → Type 0
Turns r live index after = (numbers stack : List ℕ) → length numbers ≡ 16 → LeadsOn r numbers numbers stack stack live index after

-- what a run keeps to: only r0 to r10 are ever set, and the index of an instruction is one of a program
pub record Kept (live index : ℕ) : Type 0 where
  pub mask_low : live < 2 ^ 11
  pub index_low : index < 2 ^ 63

-- ---- the cause of a fault, by the mask alone

-- one of these registers is unset
unfoldable pub unset_in : ℕ → List ℕ → Bool
unset_in live [] = false
unset_in live (r ∷ rs) = not (is_set live r) || unset_in live rs

-- where an instruction faults, in the order of docs/MACHINE.md, section 5: after all tests, only memory is left
unfoldable pub cause_at : ℕ → Instruction → Cause
cause_at live i =
    cond (is_no_instruction i) cause.BadCode
    (cond (names10 (writes i)) cause.WriteR10
    (cond (unset_in live (reads i)) cause.Unset
    cause.BadAccess))
