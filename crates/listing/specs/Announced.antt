-- What a reader sees of a line that found no room.
use Rattle.std.specs.Prelude.{List, ◌≡◌, ℕ, ◌-◌, ◌≤◌, length, drop}
use Rattle.text.specs.Buffer.{chars}

-- text in out up to the index r, where r is the buffer's length, may be cut: then out, if it has four characters, ends in three dots and the line's end
pub record Announced (out : List ℕ) (r : ℕ) : Type 0 where
  pub inside : r ≤ length out
  pub told : length out ≤ r → 4 ≤ length out → drop (length out - 4) out ≡ chars "...\n"
