-- Text put into a buffer, and numbers written in decimal and in hexadecimal.
use Rattle.std.specs.Prelude.{cond, List, [], ◌∷◌, ◌++◌, ◌≡◌, ℕ, zero, suc, ◌+◌, ◌/◌, ◌%◌, min, max, length, ltb}
use Prim.Native.Char.{code}
use Prim.Native.String.{String, [] as []ˢ, ◌∷◌ as ◌∷ˢ◌}
use Rattle.std.proofs.lemmas.List.Edits.{sets}

-- the characters of a text
abbrev pub chars : String → List ℕ
chars []ˢ = []
chars (c ∷ˢ s) = code c ∷ chars s

-- n in decimal, the highest digit first; of more than k digits the last k
unfoldable pub last_digits : ℕ → ℕ → List ℕ
last_digits zero n = []
last_digits (suc k) n = cond (ltb n 10) [] (last_digits k (n / 10)) ++ ((48 + n % 10) ∷ [])

-- n in decimal, where it is below 10 ^ 20
unfoldable pub decimal : ℕ → List ℕ
decimal n = last_digits 20 n

-- the character of a digit below 16: 0 to 9, then a to f
unfoldable pub glyph : ℕ → ℕ
glyph d = cond (ltb d 10) (48 + d) (87 + d)

-- n in hexadecimal, the highest digit first; of more than k digits the last k
unfoldable pub last_sixteens : ℕ → ℕ → List ℕ
last_sixteens zero n = []
last_sixteens (suc k) n = cond (ltb n 16) [] (last_sixteens k (n / 16)) ++ (glyph (n % 16) ∷ [])

-- n in hexadecimal, where it is below 2 ^ 64
unfoldable pub hexadecimal : ℕ → List ℕ
hexadecimal n = last_sixteens 16 n

-- out' is out with the text t from the index at on, as far as there is room: sets stores a character after the other, and
-- changes nothing outside out. r is the index after what was put, at itself where at is beyond out
pub record Put (out : List ℕ) (at : ℕ) (t out' : List ℕ) (r : ℕ) : Type 0 where
  pub text : out' ≡ sets out at t
  pub end : r ≡ max at (min (at + length t) (length out))
