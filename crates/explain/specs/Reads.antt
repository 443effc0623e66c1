-- The registers that an instruction reads, as a list.
use Rattle.std.specs.Prelude.{List, [], ◌∷◌, ℕ, Option, Some, None}

unfoldable pub registers : Option (ℕ × Option ℕ) → List ℕ
registers None = []
registers (Some (r, None)) = r ∷ []
registers (Some (r, Some s)) = r ∷ s ∷ []
