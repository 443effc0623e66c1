-- The test for dead code of docs/VERIFIER.md, section 1: one pass over the jump graph. Jumps go forward, so that all that leads to an index
-- has been seen before it is looked at.
use Rattle.std.specs.Prelude.{Bool, true, false, cond, ◌||◌, List, ℕ, zero, suc, ◌+◌, ◌/◌, length, eqb, Option, Some, None}
use Rattle.analysis.specs.declared.Reason.TheVariants.{DeadCode}
use Rattle.analysis.specs.declared.Finding.{Finding}
use Rattle.analysis.specs.declared.Finding.TheVariants.{Accepted, Refused}
use Rattle.analysis.specs.Form.{instruction, off_of, goes_on}

-- the indices that a jump seen so far goes to
abbrev pub Targets : Type 0
Targets = ℕ → Bool

unfoldable pub no_target : Targets
no_target = λ x. false

-- and that of the instruction at index i, by its off
unfoldable pub aimed : ℕ → Option ℕ → Targets → Targets
aimed i None t = t
aimed i (Some off) t = λ x. eqb x (i + 1 + off) || t x

-- k instructions from index i on: whether the one before goes on to i, and where those before jump. The first that nothing leads to is dead
unfoldable pub reaching : List ℕ → ℕ → ℕ → Bool → Targets → Finding
reaching program zero i on t = Accepted
reaching program (suc k) i on t =
    cond (on || t i) (reaching program k (i + 1) (goes_on (instruction program i)) (aimed i (off_of (instruction program i)) t)) (Refused DeadCode i)

-- a run starts at index 0, as if an instruction before went on to it
unfoldable pub connected : List ℕ → Finding
connected program = reaching program (length program / 8) 0 true no_target
