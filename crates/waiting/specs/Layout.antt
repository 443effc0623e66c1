-- How many words each thing takes.
use Rattle.std.specs.Prelude.{ℕ, ◌+◌, ◌*◌}

-- a value: its kind, the value and mask of its known bits, the ends of its range
abbrev pub value_words : ℕ
value_words = 5

-- a state: the values of eleven registers
abbrev pub state_words : ℕ
state_words = 55

-- a block: whether a state waits in it, and the state
abbrev pub block_words : ℕ
block_words = 56

-- where the block of index i starts, and the state in it
abbrev pub block_of : ℕ → ℕ
block_of i = block_words * i

abbrev pub state_of : ℕ → ℕ
state_of i = block_words * i + 1

-- the words that a program of n instructions needs
unfoldable pub words : ℕ → ℕ
words n = block_words * n
