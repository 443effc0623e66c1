-- What the routines of the pass say and leave, by how the definition goes on.
use Rattle.std.specs.Prelude.{Result, Ok, Err, ◌≡◌, List, ℕ, ◌+◌, ◌*◌, ◌<◌, min, length, get_or}
use Rattle.machine.specs.declared.instruction.Instruction.{Instruction}
use Rattle.machine.specs.declared.instruction.Instruction.TheVariants.{Alu, Neg, Jump, Always, Exit, Load, Store, NoInstruction}
use Rattle.analysis.specs.declared.Judged.{Judged}
use Rattle.analysis.specs.Judged.{Progress, halted, onward, followed}
use Rattle.verifier.specs.declared.Halt.{Halt}
use Rattle.waiting.specs.Layout.{block_words}
use Rattle.waiting.specs.Store.{waiting_in}

-- how much has been done, or why the pass halts
abbrev pub Step : Type 0
Step = Result ℕ Halt

-- a routine's answer r and the scratch memory m' after it say how the analysis goes on
abbrev pub Says : Progress → ℕ → Step → List ℕ → Type 0
Says (halted reason p work) n r m' = (r ≡ Err (record { reason = reason; work = work })) × (waiting_in n m' ≡ p)
Says (onward p work) n r m' = (r ≡ Ok work) × (waiting_in n m' ≡ p)

pub record Made (progress : Progress) (n : ℕ) (r : Step) (m m' : List ℕ) : Type 0 where
  pub size : length m' ≡ length m
  pub says : Says progress n r m'

-- ---- steps of the pass

-- a jump's off no longer than the program: it leads out of the program as before, and its target is a word
unfoldable pub shortened : ℕ → Instruction → Instruction
shortened n (Jump w c d s off) = Jump w c d s (min off n)
shortened n (Always off) = Always (min off n)
shortened n (Alu w op d s) = Alu w op d s
shortened n (Neg w d) = Neg w d
shortened n Exit = Exit
shortened n (Load z d s off) = Load z d s off
shortened n (Store z d off s) = Store z d off s
shortened n NoInstruction = NoInstruction

-- an answer that goes on says no less of the words up to the block of index i, and of that block: they are as they were
pub record Sent (progress : Progress) (n i : ℕ) (r : Step) (m m' : List ℕ) : Type 0 where
  pub made : Made progress n r m m'
  pub kept : (k : ℕ) → k < block_words * i + block_words → get_or m' k 0 ≡ get_or m k 0

-- the pass over n instructions is made: what was found, and what waits at each index then
pub record Followed (program : List ℕ) (R n : ℕ) (r : Judged) (m m' : List ℕ) : Type 0 where
  pub size : length m' ≡ length m
  pub found : r ≡ record { finding = (followed program R).finding; work = (followed program R).work }
  pub waits : waiting_in n m' ≡ (followed program R).waiting
