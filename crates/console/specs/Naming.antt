-- What a word names, in a table of names with a value behind each.
use Rattle.std.specs.Prelude.{cond, List, [], ◌∷◌, ℕ, Option, Some, None}
use Rattle.std.specs.Borrow.{Bor}
use Rattle.text.specs.Scan.{equal}

-- the value behind the first name that is the word
abbrev pub named_in : {T : Type 0} → List (Bor (List ℕ) × T) → List ℕ → Option T
named_in [] w = None
named_in (p ∷ ps) w = cond (equal w p.0.now) (Some p.1) (named_in ps w)
