-- The analysis: the tests on form, dead code among them, then one pass that follows the values. Jumps go forward, so each index is looked at once, after all
-- that comes there. The answer is a reason and a place, and how much was done.
use Rattle.std.specs.Prelude.{Bool, true, false, cond, List, ℕ, zero, suc, ◌+◌, ◌*◌, ◌/◌, length, set, eqb, ltb, Some, None, Option}
use Rattle.machine.specs.declared.instruction.Operand.{Operand}
use Rattle.machine.specs.declared.instruction.Operand.TheVariants.{Immediate, Register}
use Rattle.machine.specs.Machine.{bad_program, bad_record}
use Rattle.number.specs.Refined.{Refined}
use Rattle.analysis.specs.declared.Reason.{Reason}
use Rattle.analysis.specs.declared.Reason.TheVariants.{BadLength, LongRecord, NoCode, WritesR10, JumpsBack, JumpsOut, ReadsUnset, Outside, LeaksAddress, DeadCode}
use Rattle.analysis.specs.declared.Finding.{Finding}
use Rattle.analysis.specs.declared.Finding.TheVariants.{Accepted, Refused}
use Rattle.analysis.specs.declared.Judged.{Judged}
use Rattle.analysis.specs.declared.Value.{Value}
use Rattle.analysis.specs.declared.Value.TheVariants.{Plain}
use Rattle.analysis.specs.declared.Effect.{Effect}
use Rattle.analysis.specs.declared.Effect.TheVariants.{Refuse, Put, Keep, Fork, Goto, Stop}
use Rattle.analysis.specs.Values.{Facts, start_facts, meeting}
use Rattle.analysis.specs.Effects.{effect}
unfoldable pub use Rattle.analysis.specs.Form.{reason_number}
use Rattle.analysis.specs.Form.{instruction, failing}
use Rattle.analysis.specs.Paths.{connected}

-- ---- reasons

-- a refusal is for the program's values, or for its form
unfoldable pub on_values : Reason → Bool
on_values BadLength = false
on_values LongRecord = false
on_values NoCode = false
on_values WritesR10 = false
on_values JumpsBack = false
on_values JumpsOut = false
on_values ReadsUnset = true
on_values Outside = true
on_values LeaksAddress = true
on_values DeadCode = false

-- the pair of numbers: 0 and 0 where the program is accepted
unfoldable pub pair : Finding → ℕ × ℕ
pair Accepted = (0, 0)
pair (Refused reason place) = (reason_number reason, place)

-- ---- states

unfoldable pub having : Facts → ℕ → Value → Facts
having a d v = record { registers = set a.registers d v }

unfoldable pub with_operand : Facts → Operand → Value → Facts
with_operand a (Immediate n) v = a
with_operand a (Register r) v = having a r v

-- what is known on a way out of a jump; where both operands are one register, what the second tells is kept
unfoldable pub along : Facts → ℕ → Operand → Refined → Option Facts
along a d s None = None
along a d s (Some (x, y)) = Some (with_operand (having a d (Plain x)) s (Plain y))

-- a refusal; or the facts that go on to the next index, and those that go to a target
pub data Flow : Type 0 where
  refuses : Reason → Flow
  flows : Option Facts → Option Facts → ℕ → Flow

unfoldable pub apply : Facts → Effect → Flow
apply a (Refuse reason) = refuses reason
apply a (Put d v) = flows (Some (having a d v)) None 0
apply a Keep = flows (Some a) None 0
apply a (Fork d s onward taken target) = flows (along a d s onward) (along a d s taken) target
apply a (Goto target) = flows None (Some a) target
apply a Stop = flows None None 0

-- ---- the pass

-- the facts that wait for each index; none where no path has come
abbrev pub Waiting : Type 0
Waiting = ℕ → Option Facts

unfoldable pub nobody : Waiting
nobody = λ x. None

unfoldable pub arrive : Waiting → ℕ → Facts → Waiting
arrive p j a = λ x. cond (eqb x j) (Some (meeting (p x) a)) (p x)

-- a refusal, or more to do; what waits then, and what has been done
pub data Progress : Type 0 where
  halted : Reason → Waiting → ℕ → Progress
  onward : Waiting → ℕ → Progress

-- eleven values are copied or joined. A place outside of the program is refused, so that what follows needs no test on form
unfoldable pub send : ℕ → ℕ → Option Facts → Waiting → ℕ → Progress
send n j None p work = onward p work
send n j (Some a) p work = cond (ltb j n) (onward (arrive p j a) (work + 11)) (halted JumpsOut p work)

unfoldable pub and_then : Progress → (Waiting → ℕ → Progress) → Progress
and_then (halted reason p work) more = halted reason p work
and_then (onward p work) more = more p work

unfoldable pub distribute : ℕ → ℕ → Waiting → ℕ → Flow → Progress
distribute n i p work (refuses reason) = halted reason p work
distribute n i p work (flows next there target) = and_then (send n (i + 1) next p work) (send n target there)

-- an instruction to which every way is excluded is not looked at
unfoldable pub visit : List ℕ → ℕ → ℕ → Waiting → ℕ → Option Facts → Progress
visit program R i p work None = onward p work
visit program R i p work (Some a) = distribute (length program / 8) i p (work + 1) (apply a (effect R i a (instruction program i)))

-- how the pass ends, and what waits at each index then: nothing comes to an index any more that has been looked at
pub record Walk : Type 0 where
  pub finding : Finding
  pub work : ℕ
  pub waiting : Waiting

unfoldable pub conclude : Progress → ℕ → (Waiting → ℕ → Walk) → Walk
conclude (halted reason p work) i more = record { finding = Refused reason i; work = work; waiting = p }
conclude (onward p work) i more = more p work

-- k instructions from index i on
unfoldable pub pass : List ℕ → ℕ → ℕ → ℕ → Waiting → ℕ → Walk
pass program R zero i p work = record { finding = Accepted; work = work; waiting = p }
pass program R (suc k) i p work = conclude (visit program R i p work (p i)) i (pass program R k (i + 1))

-- ---- the whole

unfoldable pub or_else : ℕ → Option Reason → Finding → Finding
or_else i None more = more
or_else i (Some reason) more = Refused reason i

-- the tests on form of k instructions from index i on: the lowest index that fails is refused
unfoldable pub formed : List ℕ → ℕ → ℕ → Finding
formed program zero i = Accepted
formed program (suc k) i = or_else i (failing (length program / 8) i (instruction program i)) (formed program k (i + 1))

-- the start waits at index 0. The tests on each instruction, and the one for dead code, have looked at each
unfoldable pub followed : List ℕ → ℕ → Walk
followed program R =
    conclude (send (length program / 8) 0 (Some start_facts) nobody (2 * (length program / 8))) 0 (pass program R (length program / 8) 0)

unfoldable pub on_paths : List ℕ → ℕ → Finding → Judged
on_paths program R Accepted = record { finding = (followed program R).finding; work = (followed program R).work }
on_paths program R (Refused reason place) = record { finding = Refused reason place; work = length program / 8 + (place + 1) }

unfoldable pub on_form : List ℕ → ℕ → Finding → Judged
on_form program R Accepted = on_paths program R (connected program)
on_form program R (Refused reason place) = record { finding = Refused reason place; work = place + 1 }

unfoldable pub judged : List ℕ → ℕ → Judged
judged program R =
    cond (bad_program (length program)) (record { finding = Refused BadLength 0; work = 0 })
    (cond (bad_record R) (record { finding = Refused LongRecord 0; work = 0 })
    (on_form program R (formed program (length program / 8) 0)))
