-- Runs of a character at the start of a text, and when two texts are the same.
use Rattle.std.specs.Prelude.{Bool, true, false, cond, ◌&&◌, List, [], ◌∷◌, ℕ, suc, eqb}

-- how many characters stand before the first that is b: all of them where none is
unfoldable pub other : ℕ → List ℕ → ℕ
other b [] = 0
other b (x ∷ s) = cond (eqb x b) 0 (suc (other b s))

-- how many characters at the start are b
unfoldable pub leading : ℕ → List ℕ → ℕ
leading b [] = 0
leading b (x ∷ s) = cond (eqb x b) (suc (leading b s)) 0

-- the same characters in the same order
unfoldable pub equal : List ℕ → List ℕ → Bool
equal [] [] = true
equal [] (y ∷ b) = false
equal (x ∷ a) [] = false
equal (x ∷ a) (y ∷ b) = eqb x y && equal a b
