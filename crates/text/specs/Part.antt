-- A piece of a text.
use Rattle.std.specs.Prelude.{List, ℕ, ◌≡◌, ◌++◌}

-- the piece stands in the whole
pub record Part (whole piece : List ℕ) : Type 0 where
  pub before : List ℕ
  pub behind : List ℕ
  pub split : whole ≡ before ++ (piece ++ behind)
