-- What the C functions answer: a code, and the words at the start of the caller's answer.
use Rattle.std.specs.Prelude.{Ok, Err, List, [], ◌∷◌, ◌++◌, ℕ, length, drop}
use Rattle.machine.specs.declared.outcome.Outcome.{Outcome}
use Rattle.machine.specs.declared.outcome.Outcome.TheVariants.{Verdict, Fault, Budget, Refused}
use Rattle.analysis.specs.declared.Finding.{Finding}
use Rattle.analysis.specs.declared.Finding.TheVariants as finding
use Rattle.analysis.specs.Judged.{reason_number}
use Rattle.reasons.specs.Numbers.{fault_number}
use Rattle.analysis.specs.Answer.{Answer}

pub record Said : Type 0 where
  pub code : ℕ
  pub words : List ℕ

-- of a program of n instructions: accepted, with the steps that are enough for every run, n; refused, with the reason's number and the
-- place; both with the work done; the scratch memory that would be enough
unfoldable pub finding_said : ℕ → Finding → ℕ → Said
finding_said n finding.Accepted work = record { code = 0; words = 0 ∷ 0 ∷ work ∷ n ∷ [] }
finding_said n (finding.Refused reason place) work = record { code = 1; words = reason_number reason ∷ place ∷ work ∷ 0 ∷ [] }

unfoldable pub answer_said : ℕ → Answer → Said
answer_said n (Ok j) = finding_said n j.finding j.work
answer_said n (Err e) = record { code = 2; words = e.words ∷ 0 ∷ 0 ∷ 0 ∷ [] }

-- a verdict; a fault with its number and the index; a spent budget; all with the steps made. A refusal says no more
unfoldable pub outcome_said : Outcome → Said
outcome_said (Verdict value steps) = record { code = 0; words = value ∷ steps ∷ 0 ∷ [] }
outcome_said (Fault cause at steps) = record { code = 1; words = fault_number cause ∷ steps ∷ at ∷ [] }
outcome_said (Budget steps) = record { code = 2; words = 0 ∷ steps ∷ 0 ∷ [] }
outcome_said Refused = record { code = 3; words = [] }

-- the caller's words with others in place of the first
unfoldable pub headed : List ℕ → List ℕ → List ℕ
headed words before = words ++ drop (length words) before

-- a text as C has it
unfoldable pub ended : List ℕ → List ℕ
ended t = t ++ (0 ∷ [])
