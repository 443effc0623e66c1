-- The two numbers that a word spells, with a stroke between them.
use Rattle.std.specs.Prelude.{cond, List, ℕ, ◌+◌, length, take, drop, ltb, Option, Some, None}
use Rattle.text.specs.Number.{number}
use Rattle.text.specs.Scan.{other}

-- the numbers where both are
unfoldable pub joined : Option ℕ → Option ℕ → Option (ℕ × ℕ)
joined None b = None
joined (Some a) None = None
joined (Some a) (Some b) = Some (a, b)

-- the hexadecimal numbers before and after the first /, and none where there is no /
unfoldable pub pair : List ℕ → Option (ℕ × ℕ)
pair s = cond (ltb (other 47 s) (length s)) (joined (number 16 (take (other 47 s) s)) (number 16 (drop (other 47 s + 1) s))) None
