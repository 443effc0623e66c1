-- The verifier's answer: what is judged, but for scratch memory that is too small, which is answered after the tests with the reasons
-- 1 to 6 and before that for dead code and any test on values.
use Rattle.std.specs.Prelude.{Ok, Err, ◌≡◌, Bool, true, false, cond, not, ◌&&◌, List, ℕ, ◌/◌, length, ltb}
use Rattle.machine.specs.Machine.{bad_program, bad_record}
use Rattle.analysis.specs.declared.Finding.{Finding}
use Rattle.analysis.specs.declared.Finding.TheVariants.{Accepted, Refused}
use Rattle.analysis.specs.Paths.{connected}
use Rattle.analysis.specs.Judged.{formed, followed, judged}
use Rattle.analysis.specs.Promise.{Promise}
use Rattle.analysis.specs.Answer.{Answer}
use Rattle.waiting.specs.Layout.{words}
use Rattle.waiting.specs.Store.{waiting_in}

unfoldable pub is_accepted : Finding → Bool
is_accepted Accepted = true
is_accepted (Refused reason place) = false

-- the tests with the reasons 1 to 6 are passed
unfoldable pub is_orderly : List ℕ → ℕ → Bool
is_orderly program R = not (bad_program (length program)) && not (bad_record R) && is_accepted (formed program (length program / 8) 0)

-- and that for dead code: all tests on form
unfoldable pub passes_form : List ℕ → ℕ → Bool
passes_form program R = is_orderly program R && is_accepted (connected program)

unfoldable pub answered : List ℕ → ℕ → ℕ → Answer
answered program R size =
    cond (is_orderly program R && ltb size (words (length program / 8))) (Err (record { words = words (length program / 8) }))
    (Ok (judged program R))

-- where the values were followed, scratch memory holds what waits at each index
pub record Annotates (program : List ℕ) (R size : ℕ) (after : List ℕ) : Type 0 where
  pub holds : passes_form program R ≡ true → ltb size (words (length program / 8)) ≡ false
      → (j : ℕ) → waiting_in (length program / 8) after j ≡ (followed program R).waiting j

-- where they were not, it is as it was: a test on form fails, or scratch memory is too small
pub record Untouched (program : List ℕ) (R : ℕ) (before after : List ℕ) : Type 0 where
  pub order : is_orderly program R ≡ false → after ≡ before
  pub paths : is_accepted (connected program) ≡ false → after ≡ before
  pub small : ltb (length before) (words (length program / 8)) ≡ true → after ≡ before

-- all of this: m is scratch memory before, m' after
abbrev pub Answers : List ℕ → ℕ → List ℕ → List ℕ → Answer → Type 0
Answers program R m m' r = (r ≡ answered program R (length m)) × (Annotates program R (length m) m' × Untouched program R m m')

-- ---- what an answer promises

-- what is judged is promised all that `Promise` has; that scratch memory is too small promises nothing
abbrev pub Promises : List ℕ → ℕ → Answer → Type 0
Promises program R (Ok j) = Promise program R j
Promises program R (Err w) = Unit {0}
