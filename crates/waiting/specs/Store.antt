-- What waits for each index: a block of words an index, a mark and a state.
use Rattle.std.specs.Prelude.{◌≡◌, cond, List, ℕ, ◌+◌, ◌*◌, ◌<◌, length, get_or, eqb, ltb, Some, None}
use Rattle.analysis.specs.Values.{Facts, start_facts}
use Rattle.analysis.specs.Judged.{Waiting, nobody, arrive}
use Rattle.waiting.specs.Layout.{block_words, state_of}
use Rattle.waiting.specs.State.{facts_at}

-- for each of n indices: a block is marked by 1
unfoldable pub waiting_in : ℕ → List ℕ → Waiting
waiting_in n m j = cond (ltb j n) (cond (eqb (get_or m (block_words * j) 0) 1) (Some (facts_at m (state_of j))) None) None

-- nothing waits for any of n indices
pub record Cleared (n : ℕ) (m m' : List ℕ) : Type 0 where
  pub size : length m' ≡ length m
  pub waits : waiting_in n m' ≡ nobody

-- the start waits at index 0 of n, and nothing elsewhere
pub record Begun (n : ℕ) (m m' : List ℕ) : Type 0 where
  pub size : length m' ≡ length m
  pub waits : waiting_in n m' ≡ arrive nobody 0 start_facts

-- the facts a have come to index j of n; the words up to the block of index i, and that block, are as they were
pub record Arrived (n i : ℕ) (m m' : List ℕ) (j : ℕ) (a : Facts) : Type 0 where
  pub size : length m' ≡ length m
  pub waits : waiting_in n m' ≡ arrive (waiting_in n m) j a
  pub kept : (k : ℕ) → k < block_words * i + block_words → get_or m' k 0 ≡ get_or m k 0
