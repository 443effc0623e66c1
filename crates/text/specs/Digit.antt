-- The value of a digit.
use Rattle.std.specs.Prelude.{Bool, cond, ◌&&◌, ℕ, ◌-◌, leb}

-- b is one of the characters from a to z
unfoldable pub among : ℕ → ℕ → ℕ → Bool
among a z b = leb a b && leb b z

-- 0 to 9, A to F, a to f; 16 for any other character
unfoldable pub digit : ℕ → ℕ
digit b = cond (among 48 57 b) (b - 48) (cond (among 65 70 b) (b - 55) (cond (among 97 102 b) (b - 87) 16))
