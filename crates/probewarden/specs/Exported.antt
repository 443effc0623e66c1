-- What the C functions promise: a code and what each lent buffer holds then, by the definitions of the analysis and of the machine; and
-- what the codes and words of pw_verify mean of the program.
use Rattle.std.specs.Prelude.{◌≡◌, ◌↔◌, true, cond, List, ℕ, ◌/◌, ◌≤◌, ◌<◌, length, get_or, leb}
use Rattle.machine.specs.Machine.{interpreted}
use Rattle.analysis.specs.declared.Reason.{Reason}
use Rattle.analysis.specs.declared.Finding.{Finding}
use Rattle.analysis.specs.declared.Finding.TheVariants.{Accepted, Refused}
use Rattle.analysis.specs.Form.{Orderly, HasForm}
use Rattle.analysis.specs.Judged.{reason_number, on_values}
use Rattle.analysis.specs.Promise.{Allows, LowestRefusal, Promise}
use Rattle.waiting.specs.Layout.{words}
use Rattle.verifier.specs.Answered.{answered, Untouched}
use Rattle.probewarden.specs.Encoding.{Said, answer_said, outcome_said, headed}

-- the words of scratch memory for n instructions; none where there are too many, for that is refused before
unfoldable pub enough : ℕ → ℕ
enough n = cond (leb n 4096) (words n) 0

-- the code is said, and the words stand in place of the first of the caller's
pub record Says (said : Said) (before after : List ℕ) (code : ℕ) : Type 0 where
  pub code_said : code ≡ said.code
  pub words_said : after ≡ headed said.words before

-- ---- pw_verify

-- the answer has room, and the rules are known
abbrev pub Taken : ℕ → List ℕ → Type 0
Taken rules before = (4 ≤ length before) × (rules ≡ 0)

-- the code and the words of the answer tell this finding
abbrev pub Tells : Finding → ℕ → List ℕ → Type 0
Tells Accepted code after = code ≡ 0
Tells (Refused reason place) code after = (code ≡ 1) × (get_or after 0 0 ≡ reason_number reason) × (get_or after 1 0 ≡ place)

-- what they mean: a finding that is told, with its work, has all that `Promise` has. So it is yes if and only if, in enough scratch memory, the form
-- is good and no index refuses what flows there; no, for values, if and only if this is the lowest index that does. The bound of a yes is
-- the number of instructions, which Safe says is enough for every run
pub record Means (program : List ℕ) (R rules size : ℕ) (before after : List ℕ) (code : ℕ) : Type 0 where
  pub promised : (f : Finding) → Tells f code after → Promise program R (record { finding = f; work = get_or after 2 0 })
  pub yes : (code ≡ 0)
      ↔ (Taken rules before × (words (length program / 8) ≤ size) × HasForm program R
      × ((j : ℕ) → j < length program / 8 → Allows program R j))
  pub no : (reason : Reason) (place : ℕ) → on_values reason ≡ true → Tells (Refused reason place) code after
      ↔ (Taken rules before × (words (length program / 8) ≤ size) × HasForm program R × LowestRefusal program R reason place)
  pub too_small : (code ≡ 2) ↔ (Taken rules before × Orderly program R × (size < words (length program / 8)))
  pub yes_has_bound : code ≡ 0 → get_or after 3 0 ≡ length program / 8

-- fewer than four words take no answer, which is looked at first, and rules other than 0 are not known: nothing is done then, and all is as
-- it was. Elsewhere scratch memory is as the verifier leaves it
pub record Verified (program : List ℕ) (R rules : ℕ) (scratch scratch' before after : List ℕ) (code : ℕ) : Type 0 where
  pub no_room : length before < 4 → (code ≡ 9) × (after ≡ before) × (scratch' ≡ scratch)
  pub bad_rules : 4 ≤ length before → 0 < rules → (code ≡ 11) × (after ≡ before) × (scratch' ≡ scratch)
  pub says : Taken rules before → Says (answer_said (length program / 8) (answered program R (length scratch))) before after code
  pub untouched : Untouched program R scratch scratch'
  pub means : Means program R rules (length scratch) before after code

-- ---- pw_run

-- fewer than three words take no answer: nothing is done then, and all is as it was
pub record Interpreted (program rec : List ℕ) (P S : ℕ) (stack stack' : List ℕ) (budget : ℕ) (before after : List ℕ) (code : ℕ) : Type 0 where
  pub no_room : length before < 3 → (code ≡ 9) × (after ≡ before) × (stack' ≡ stack)
  pub says : 3 ≤ length before → Says (outcome_said (interpreted program rec P S stack budget).outcome) before after code
  pub stack_left : 3 ≤ length before → stack' ≡ (interpreted program rec P S stack budget).stack
