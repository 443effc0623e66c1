-- Where jumps go to, as bits of words: that of index j is bit j % 64 of word j / 64.
use Rattle.std.specs.Prelude.{◌≡◌, Bool, ◌||◌, List, ℕ, ◌/◌, ◌%◌, length, get_or, eqb}
use Rattle.word.specs.Word.{bit}
use Rattle.machine.specs.declared.instruction.Instruction.{Instruction}
use Rattle.analysis.specs.Form.{off_of, goes_on}
use Rattle.analysis.specs.Paths.{Targets, aimed}

unfoldable pub targets_in : List ℕ → Targets
targets_in m j = eqb (bit (j % 64) (get_or m (j / 64) 0)) 1

-- ---- what routines on 64 such words do: m before, m' after

-- index j is a target too
pub record Marked (j : ℕ) (m m' : List ℕ) : Type 0 where
  pub size : length m' ≡ 64
  pub targets : targets_in m' ≡ (λ x. eqb x j || targets_in m x)

-- the instruction at index i has been looked at: r says whether it goes on to the next one, and where it jumps to is a target too
pub record Left (i : ℕ) (ins : Instruction) (r : Bool) (m m' : List ℕ) : Type 0 where
  pub size : length m' ≡ 64
  pub on : r ≡ goes_on ins
  pub targets : targets_in m' ≡ aimed i (off_of ins) (targets_in m)
