-- All that is promised of the verifier's answer, with no word on how it goes about it. A yes is safe. The tests on form are exact. What is
-- known at an index is the join, register by register, of what flows there from the indices below, in their order; a program is refused at
-- the lowest index that refuses what is known there, and accepted if there is none. What flows out of an instruction is held to sentences.
-- And little work is done.
use Rattle.std.specs.Prelude.{◌≡◌, ◌⊎◌, ◌↔◌, Bool, true, false, cond, List, ℕ, zero, suc, ◌+◌, ◌*◌, ◌/◌, ◌^◌, ◌≤◌, ◌<◌, length, eqb, Some, None, Option}
use Rattle.word.specs.declared.Operation.{Operation}
use Rattle.word.specs.declared.Operation.TheVariants.{Add, Sub, Mov}
use Rattle.word.specs.declared.Operation.TheVariants as operation
use Rattle.word.specs.declared.Comparison.{Comparison}
use Rattle.machine.specs.declared.instruction.Width.{Width}
use Rattle.machine.specs.declared.instruction.Width.TheVariants.{Long, Short}
use Rattle.machine.specs.declared.instruction.Size.{Size}
use Rattle.machine.specs.declared.instruction.Operand.{Operand}
use Rattle.machine.specs.declared.instruction.Operand.TheVariants.{Immediate, Register}
use Rattle.machine.specs.declared.instruction.Instruction.TheVariants.{Alu, Neg, Jump, Always, Exit, Load, Store}
use Rattle.machine.specs.Instruction.{decode}
use Rattle.machine.specs.Machine.{bits, bytes, bad_program, bad_record}
use Rattle.number.specs.declared.Number.{Number}
use Rattle.number.specs.Sharpen.{exact, loaded, joined_number}
use Rattle.number.specs.Computed.{computed}
use Rattle.number.specs.Compare.{refined}
use Rattle.number.specs.Halves.{refined32}
use Rattle.number.specs.Demanded.{Demanded}
use Rattle.analysis.specs.declared.Reason.{Reason}
use Rattle.analysis.specs.declared.Reason.TheVariants.{BadLength, LongRecord, NoCode, WritesR10, JumpsBack, JumpsOut, ReadsUnset, Outside, LeaksAddress, DeadCode}
use Rattle.analysis.specs.declared.Finding.{Finding}
use Rattle.analysis.specs.declared.Finding.TheVariants.{Accepted, Refused}
use Rattle.analysis.specs.declared.Judged.{Judged}
use Rattle.analysis.specs.declared.Region.{Region}
use Rattle.analysis.specs.declared.Region.TheVariants.{Record, Stack}
use Rattle.analysis.specs.declared.Gone.TheVariants.{Never, Mixed}
use Rattle.analysis.specs.declared.Value.{Value}
use Rattle.analysis.specs.declared.Value.TheVariants.{Unusable, Plain, Address}
use Rattle.analysis.specs.declared.Effect.{Effect}
use Rattle.analysis.specs.declared.Effect.TheVariants.{Refuse, Put, Keep, Stop}
use Rattle.analysis.specs.Values.{Facts, value_of, operand_of, start_facts, joined_value, joined_facts}
use Rattle.analysis.specs.Effects.{told, effect}
use Rattle.analysis.specs.Form.{reason_number, instruction, off_of, goes_back, goes_out, may_be_last, goes_on, Orderly, HasForm, FirstFailure, Dead}
use Rattle.analysis.specs.Judged.{on_values, having, along, Flow, refuses, flows, apply}
use Rattle.analysis.specs.Safe.{Safe}

-- ---- what flows, and where

-- what is known already, and what comes by one way more: where nothing comes, nothing is forgotten
unfoldable pub together : Option Facts → Option Facts → Option Facts
together w None = w
together None (Some b) = Some b
together (Some a) (Some b) = Some (joined_facts a b)

-- what comes to index j out of index i, joined to what is known: by the way on to i + 1, and by the way to the target
unfoldable pub flowing : ℕ → ℕ → Flow → Option Facts → Option Facts
flowing i j (refuses reason) w = w
flowing i j (flows next there target) w = together (together w (cond (eqb j (i + 1)) next None)) (cond (eqb j target) there None)

-- the flow out of index i, where a is known; nothing flows out of an index that nothing flows to
unfoldable pub flow : List ℕ → ℕ → ℕ → Option Facts → ℕ → Option Facts → Option Facts
flow program R i None j w = w
flow program R i (Some a) j w = flowing i j (apply a (effect R i a (instruction program i))) w

-- what is known at index j of all that flows there from the indices below i: the run starts at index 0
unfoldable pub known_from : List ℕ → ℕ → ℕ → ℕ → Option Facts
known_from program R zero j = cond (eqb j 0) (Some start_facts) None
known_from program R (suc i) j = flow program R i (known_from program R i i) j (known_from program R i j)

-- what is known at index j: all flows go forward
unfoldable pub known : List ℕ → ℕ → ℕ → Option Facts
known program R j = known_from program R j j

-- ---- the answer

-- the instruction at index j refuses what is known there; and it does not, or nothing flows there
pub record Refuses (program : List ℕ) (R : ℕ) (reason : Reason) (j : ℕ) : Type 0 where
  pub facts : Facts
  pub knows : known program R j ≡ Some facts
  pub refuses_it : effect R j facts (instruction program j) ≡ Refuse reason

abbrev pub Allows : List ℕ → ℕ → ℕ → Type 0
Allows program R j = (reason : Reason) → Refuses program R reason j → ⊥

-- the lowest index that refuses
pub record LowestRefusal (program : List ℕ) (R : ℕ) (reason : Reason) (place : ℕ) : Type 0 where
  pub inside : place < length program / 8
  pub refusal : Refuses program R reason place
  pub lower_allow : (j : ℕ) → j < place → Allows program R j

-- the answer, for the form: 1, 2, then the lowest index that fails a test, with the lowest reason there, then dead code
pub record OnForm (program : List ℕ) (R : ℕ) (answer : Finding) : Type 0 where
  pub bad_length : (answer ≡ Refused BadLength 0) ↔ (bad_program (length program) ≡ true)
  pub long_record : (answer ≡ Refused LongRecord 0) ↔ ((bad_program (length program) ≡ false) × (bad_record R ≡ true))
  pub test_fails : (reason : Reason) (place : ℕ) → reason_number reason ≤ 6 → 3 ≤ reason_number reason
      → (answer ≡ Refused reason place) ↔ ((bad_program (length program) ≡ false) × (bad_record R ≡ false) × FirstFailure program reason place)
  pub dead_code : (place : ℕ) → (answer ≡ Refused DeadCode place) ↔ (Orderly program R × Dead program place)

-- the answer, for the values: yes if and only if the program has the form and no index refuses what is known there; no, with a reason for
-- values and a place, if and only if it has the form and this is the lowest index that refuses
pub record Whole (program : List ℕ) (R : ℕ) (answer : Finding) : Type 0 where
  pub yes : (answer ≡ Accepted) ↔ (HasForm program R × ((j : ℕ) → j < length program / 8 → Allows program R j))
  pub no : (reason : Reason) (place : ℕ) → on_values reason ≡ true → (answer ≡ Refused reason place) ↔ (HasForm program R × LowestRefusal program R reason place)

-- ---- what an instruction tells, at index i of a program for records of R bytes, where a is known

-- a way out of a jump that is possible is followed: with what is told of both operands, and every other register as it was
pub record WayOut (a : Facts) (d : ℕ) (s : Operand) (x y : Number) (o : Option Facts) : Type 0 where
  pub facts : Facts
  pub followed_on : o ≡ Some facts
  pub others : (r : ℕ) → (r ≡ d → ⊥) → (s ≡ Register r → ⊥) → value_of facts r ≡ value_of a r
  pub second : (r : ℕ) → s ≡ Register r → r < length a.registers → value_of facts r ≡ Plain y
  pub first : d < length a.registers → (s ≡ Register d → ⊥) → value_of facts d ≡ Plain x
  pub as_many : length facts.registers ≡ length a.registers

-- what the tests on form see of an instruction: the bytes decoded, its jump, and whether it goes on to the next; and what they answer
pub record OfForm : Type 0 where
  pub decoded : (program : List ℕ) (i : ℕ) → instruction program i ≡ decode program (i * 8)
  pub conditional_jumps : (w : Width) (c : Comparison) (d : ℕ) (s : Operand) (off : ℕ)
      → (off_of (Jump w c d s off) ≡ Some off) × (goes_on (Jump w c d s off) ≡ true) × (may_be_last (Jump w c d s off) ≡ false)
  pub always_jumps : (off : ℕ) → (off_of (Always off) ≡ Some off) × (goes_on (Always off) ≡ false) × (may_be_last (Always off) ≡ true)
  pub exit_ends : (off_of Exit ≡ None) × (goes_on Exit ≡ false) × (may_be_last Exit ≡ true)
  pub calculation_goes_on : (w : Width) (op : Operation) (d : ℕ) (s : Operand)
      → (off_of (Alu w op d s) ≡ None) × (goes_on (Alu w op d s) ≡ true) × (may_be_last (Alu w op d s) ≡ false)
  pub negation_goes_on : (w : Width) (d : ℕ) → (off_of (Neg w d) ≡ None) × (goes_on (Neg w d) ≡ true) × (may_be_last (Neg w d) ≡ false)
  pub load_goes_on : (z : Size) (d s off : ℕ)
      → (off_of (Load z d s off) ≡ None) × (goes_on (Load z d s off) ≡ true) × (may_be_last (Load z d s off) ≡ false)
  pub store_goes_on : (z : Size) (d off : ℕ) (s : Operand)
      → (off_of (Store z d off s) ≡ None) × (goes_on (Store z d off s) ≡ true) × (may_be_last (Store z d off s) ≡ false)
  -- back is an off with its sign set; out is a target that is no index of n
  pub back : (off : ℕ) → (goes_back (Some off) ≡ true) ↔ (2 ^ 63 ≤ off)
  pub out : (n i off : ℕ) → (goes_out n i (Some off) ≡ true) ↔ (n ≤ i + 1 + off)
  pub nowhere : (n i : ℕ) → (goes_back None ≡ false) × (goes_out n i None ≡ false)
  -- the numbers of the reasons, and those that are for values
  pub numbers_of_form : (reason_number BadLength ≡ 1) × (reason_number LongRecord ≡ 2) × (reason_number NoCode ≡ 3) × (reason_number WritesR10 ≡ 4)
      × (reason_number JumpsBack ≡ 5) × (reason_number JumpsOut ≡ 6) × (reason_number DeadCode ≡ 12)
  pub numbers_of_values : (reason_number ReadsUnset ≡ 7) × (reason_number Outside ≡ 8) × (reason_number LeaksAddress ≡ 9)
  pub for_values : (on_values ReadsUnset ≡ true) × (on_values Outside ≡ true) × (on_values LeaksAddress ≡ true)

-- plain numbers: each operation gives what `number` has of it, at its width
pub record OfArithmetic (R i : ℕ) (a : Facts) (d : ℕ) (s : Operand) : Type 0 where
  pub calculates : (w : Width) (op : Operation) (x y : Number) → ¬ (op ≡ Mov) → value_of a d ≡ Plain x → operand_of a s ≡ Plain y
      → effect R i a (Alu w op d s) ≡ Put d (Plain (computed (bits w) op x y))
  pub moves : (y : Number) → operand_of a s ≡ Plain y → effect R i a (Alu Long Mov d s) ≡ Put d (Plain y)
  pub moves_low : (y : Number) → operand_of a s ≡ Plain y → effect R i a (Alu Short Mov d s) ≡ Put d (Plain (computed 32 Mov y y))
  pub negates : (w : Width) (x : Number) → value_of a d ≡ Plain x → effect R i a (Neg w d) ≡ Put d (Plain (computed (bits w) operation.Neg x x))
  -- addresses: a number is added in either order and subtracted, and they are moved
  pub address_plus_number : (p : Region) (o n : Number) → value_of a d ≡ Address p o → operand_of a s ≡ Plain n
      → effect R i a (Alu Long Add d s) ≡ Put d (Address p (computed 64 Add o n))
  pub number_plus_address : (p : Region) (o n : Number) → value_of a d ≡ Plain n → operand_of a s ≡ Address p o
      → effect R i a (Alu Long Add d s) ≡ Put d (Address p (computed 64 Add o n))
  pub address_less_number : (p : Region) (o n : Number) → value_of a d ≡ Address p o → operand_of a s ≡ Plain n
      → effect R i a (Alu Long Sub d s) ≡ Put d (Address p (computed 64 Sub o n))
  pub address_moves : (p : Region) (o : Number) → operand_of a s ≡ Address p o → effect R i a (Alu Long Mov d s) ≡ Put d (Address p o)

-- memory: an access at an address plus o is refused if and only if the highest offset and the size go past the limit
pub record OfMemory (R i : ℕ) (a : Facts) (z : Size) (o : Number) (off : ℕ) : Type 0 where
  pub load_of_record : (d s : ℕ) → eqb d 10 ≡ false → value_of a s ≡ Address Record o → (computed 64 Add o (exact off)).range.hi + bytes z ≤ R
      → effect R i a (Load z d s off) ≡ Put d (Plain (loaded (bytes z)))
  pub load_past_record : (d s : ℕ) → value_of a s ≡ Address Record o → R < (computed 64 Add o (exact off)).range.hi + bytes z
      → effect R i a (Load z d s off) ≡ Refuse Outside
  pub load_of_stack : (d s : ℕ) → eqb d 10 ≡ false → value_of a s ≡ Address Stack o → (computed 64 Add o (exact off)).range.hi + bytes z ≤ 512
      → effect R i a (Load z d s off) ≡ Put d (Plain (loaded (bytes z)))
  pub load_past_stack : (d s : ℕ) → value_of a s ≡ Address Stack o → 512 < (computed 64 Add o (exact off)).range.hi + bytes z
      → effect R i a (Load z d s off) ≡ Refuse Outside
  pub store_into_stack : (d : ℕ) (s : Operand) (n : Number) → value_of a d ≡ Address Stack o → operand_of a s ≡ Plain n
      → (computed 64 Add o (exact off)).range.hi + bytes z ≤ 512 → effect R i a (Store z d off s) ≡ Keep

-- ---- why an instruction is refused: 7 (unset) comes before 9 (address), and 9 before 8 (access)

-- what reads x and y is refused if one of them may not be used
pub record OfReading (x y : Value) (e : Effect) : Type 0 where
  pub first_unset : x ≡ Unusable Never → e ≡ Refuse ReadsUnset
  pub second_unset : y ≡ Unusable Never → e ≡ Refuse ReadsUnset
  pub first_mixed : x ≡ Unusable Mixed → ¬ (y ≡ Unusable Never) → e ≡ Refuse LeaksAddress
  pub second_mixed : y ≡ Unusable Mixed → ¬ (x ≡ Unusable Never) → e ≡ Refuse LeaksAddress

abbrev pub Usable : Value → Type 0
Usable (Unusable g) = ⊥
Usable (Plain n) = Unit {0}
Usable (Address p o) = Unit {0}

abbrev pub IsAddress : Value → Type 0
IsAddress (Unusable g) = ⊥
IsAddress (Plain n) = ⊥
IsAddress (Address p o) = Unit {0}

-- all but MOV read both operands; all but 64-bit MOV, ADD and SUB of a number refuse an address
pub record OfRefusals (R i : ℕ) (a : Facts) : Type 0 where
  pub calculating_reads : (w : Width) (op : Operation) (d : ℕ) (s : Operand) → ¬ (op ≡ Mov)
      → OfReading (value_of a d) (operand_of a s) (effect R i a (Alu w op d s))
  pub moving_reads : (w : Width) (d : ℕ) (s : Operand) → OfReading (operand_of a s) (operand_of a s) (effect R i a (Alu w Mov d s))
  pub negating_reads : (w : Width) (d : ℕ) → OfReading (value_of a d) (value_of a d) (effect R i a (Neg w d))
  pub jumping_reads : (w : Width) (c : Comparison) (d : ℕ) (s : Operand) (off : ℕ)
      → OfReading (value_of a d) (operand_of a s) (effect R i a (Jump w c d s off))
  pub returning_reads : OfReading (value_of a 0) (value_of a 0) (effect R i a Exit)
  pub loading_reads : (z : Size) (d s off : ℕ) → OfReading (value_of a s) (value_of a s) (effect R i a (Load z d s off))
  pub storing_reads : (z : Size) (d off : ℕ) (s : Operand) → OfReading (value_of a d) (operand_of a s) (effect R i a (Store z d off s))
  pub address_calculated_with : (w : Width) (op : Operation) (d : ℕ) (s : Operand) → ¬ (op ≡ Mov) → (w ≡ Short) ⊎ (¬ (op ≡ Add) × ¬ (op ≡ Sub))
      → Usable (value_of a d) → Usable (operand_of a s) → IsAddress (value_of a d) ⊎ IsAddress (operand_of a s)
      → effect R i a (Alu w op d s) ≡ Refuse LeaksAddress
  pub addresses_added : (d : ℕ) (s : Operand) → IsAddress (value_of a d) → IsAddress (operand_of a s)
      → effect R i a (Alu Long Add d s) ≡ Refuse LeaksAddress
  pub address_subtracted : (d : ℕ) (s : Operand) → Usable (value_of a d) → IsAddress (operand_of a s)
      → effect R i a (Alu Long Sub d s) ≡ Refuse LeaksAddress
  pub address_cut : (d : ℕ) (s : Operand) → IsAddress (operand_of a s) → effect R i a (Alu Short Mov d s) ≡ Refuse LeaksAddress
  pub address_negated : (w : Width) (d : ℕ) → IsAddress (value_of a d) → effect R i a (Neg w d) ≡ Refuse LeaksAddress
  pub address_compared : (w : Width) (c : Comparison) (d : ℕ) (s : Operand) (off : ℕ) → Usable (value_of a d) → Usable (operand_of a s)
      → IsAddress (value_of a d) ⊎ IsAddress (operand_of a s) → effect R i a (Jump w c d s off) ≡ Refuse LeaksAddress
  pub address_returned : IsAddress (value_of a 0) → effect R i a Exit ≡ Refuse LeaksAddress
  pub address_stored : (z : Size) (d off : ℕ) (s : Operand) → Usable (value_of a d) → IsAddress (operand_of a s)
      → effect R i a (Store z d off s) ≡ Refuse LeaksAddress
  pub load_at_number : (z : Size) (d s off : ℕ) (x : Number) → value_of a s ≡ Plain x → effect R i a (Load z d s off) ≡ Refuse Outside
  pub store_at_number : (z : Size) (d off : ℕ) (s : Operand) (x n : Number) → value_of a d ≡ Plain x → operand_of a s ≡ Plain n
      → effect R i a (Store z d off s) ≡ Refuse Outside
  pub store_into_record : (z : Size) (d off : ℕ) (s : Operand) (o n : Number) → value_of a d ≡ Address Record o → operand_of a s ≡ Plain n
      → effect R i a (Store z d off s) ≡ Refuse Outside
  pub store_past_stack : (z : Size) (d off : ℕ) (s : Operand) (o n : Number) → value_of a d ≡ Address Stack o → operand_of a s ≡ Plain n
      → 512 < (computed 64 Add o (exact off)).range.hi + bytes z → effect R i a (Store z d off s) ≡ Refuse Outside

-- which ways lead out, and with what
pub record OfWays (R i : ℕ) (a : Facts) : Type 0 where
  pub put_flows : (d : ℕ) (v : Value) → apply a (Put d v) ≡ flows (Some (having a d v)) None 0
  pub keep_flows : apply a Keep ≡ flows (Some a) None 0
  pub stop_flows : apply a Stop ≡ flows None None 0
  pub goto_flows : (off : ℕ) → apply a (effect R i a (Always off)) ≡ flows None (Some a) (i + 1 + off)
  pub number_may_be_returned : (x : Number) → value_of a 0 ≡ Plain x → effect R i a Exit ≡ Stop
  pub jump_flows : (w : Width) (c : Comparison) (d : ℕ) (s : Operand) (off : ℕ) (x y : Number) → value_of a d ≡ Plain x → operand_of a s ≡ Plain y
      → apply a (effect R i a (Jump w c d s off)) ≡ flows (along a d s (told w c false x y)) (along a d s (told w c true x y)) (i + 1 + off)
  -- a comparison at 64 bits tells of the numbers, one at 32 bits of their low halves; an excluded way is not followed
  pub told_long : (c : Comparison) (way : Bool) (x y : Number) → told Long c way x y ≡ refined c way x y
  pub told_short : (c : Comparison) (way : Bool) (x y : Number) → told Short c way x y ≡ refined32 c way x y
  pub excluded_not_followed : (d : ℕ) (s : Operand) → along a d s None ≡ None
  pub possible_followed : (d : ℕ) (s : Operand) (x y : Number) → WayOut a d s x y (along a d s (Some (x, y)))

-- what is known of a register, after it is written and where paths meet
pub record OfRegisters (a : Facts) : Type 0 where
  pub written : (d : ℕ) (v : Value) → d < length a.registers → value_of (having a d v) d ≡ v
  pub others : (d r : ℕ) (v : Value) → (r ≡ d → ⊥) → value_of (having a d v) r ≡ value_of a r
  pub immediate_is_exact : (n : ℕ) → operand_of a (Immediate n) ≡ Plain (exact n)
  pub register_as_known : (r : ℕ) → operand_of a (Register r) ≡ value_of a r
  pub joins : (b : Facts) → length a.registers ≡ length b.registers → (r : ℕ) → value_of (joined_facts a b) r ≡ joined_value (value_of a r) (value_of b r)
  pub numbers_join : (x y : Number) → joined_value (Plain x) (Plain y) ≡ Plain (joined_number x y)
  pub offsets_join : (p : Region) (x y : Number) → joined_value (Address p x) (Address p y) ≡ Address p (joined_number x y)
  -- what is unset on either path is unset; a number and an address mix, and so do addresses into both
  pub unset_joins : (v : Value) → (joined_value (Unusable Never) v ≡ Unusable Never) × (joined_value v (Unusable Never) ≡ Unusable Never)
  pub mixed_joins : (v : Value) → ¬ (v ≡ Unusable Never)
      → (joined_value (Unusable Mixed) v ≡ Unusable Mixed) × (joined_value v (Unusable Mixed) ≡ Unusable Mixed)
  pub kinds_mix : (p : Region) (x y : Number)
      → (joined_value (Plain x) (Address p y) ≡ Unusable Mixed) × (joined_value (Address p x) (Plain y) ≡ Unusable Mixed)
  pub regions_mix : (x y : Number)
      → (joined_value (Address Record x) (Address Stack y) ≡ Unusable Mixed) × (joined_value (Address Stack x) (Address Record y) ≡ Unusable Mixed)

-- all of it, with what is demanded of Numbers
pub record Sentences : Type 0 where
  pub form : OfForm
  pub arithmetic : (R i : ℕ) (a : Facts) (d : ℕ) (s : Operand) → eqb d 10 ≡ false → OfArithmetic R i a d s
  pub memory : (R i : ℕ) (a : Facts) (z : Size) (o : Number) (off : ℕ) → OfMemory R i a z o off
  pub refusals : (R i : ℕ) (a : Facts) → OfRefusals R i a
  pub ways : (R i : ℕ) (a : Facts) → OfWays R i a
  pub registers : (a : Facts) → OfRegisters a
  pub r1_is_the_record : value_of start_facts 1 ≡ Address Record (exact 0)
  pub r10_is_the_end_of_the_stack : value_of start_facts 10 ≡ Address Stack (exact 512)
  -- the states have eleven registers, so that their joins are register by register
  pub eleven : (program : List ℕ) (R j : ℕ) (a : Facts) → known program R j ≡ Some a → length a.registers ≡ 11
  pub numbers : Demanded

-- ---- the promise
pub record Promise (program : List ℕ) (R : ℕ) (answer : Judged) : Type 0 where
  pub yes_is_safe : answer.finding ≡ Accepted → Safe program R
  pub form : OnForm program R answer.finding
  pub whole : Whole program R answer.finding
  pub tells : Sentences
  pub work_is_linear : answer.work ≤ 25 * (length program / 8) + 11
