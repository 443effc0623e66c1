-- The bytes that hexadecimal text spells.
use Rattle.std.specs.Prelude.{Bool, cond, ◌&&◌, List, [], ◌∷◌, ◌≡◌, ℕ, ◌+◌, ◌*◌, ◌/◌, ◌≤◌, length, get_or, take, ltb, leb, eqb, Option, Some, None}
use Rattle.text.specs.Digit.{digit}
use Rattle.text.specs.Number.{digits}

-- there are characters, they go in pairs, and their bytes have room
unfoldable pub fitting : List ℕ → ℕ → Bool
fitting s room = ltb 0 (length s) && (eqb (length s) (length s / 2 * 2) && leb (length s / 2) room)

-- half as many bytes as characters, if they fit and all are hexadecimal digits
unfoldable pub paired : List ℕ → ℕ → Option ℕ
paired s room = cond (fitting s room && digits 16 s) (Some (length s / 2)) None

-- s is the character -
unfoldable pub dash : List ℕ → Bool
dash s = eqb (length s) 1 && eqb (get_or s 0 0) 45

-- how many bytes a word spells
unfoldable pub spelled : List ℕ → ℕ → Option ℕ
spelled s room = cond (dash s) (Some 0) (paired s room)

-- the bytes that a word spells, two digits each; the one character - spells none
unfoldable pub bytes_of : List ℕ → List ℕ
bytes_of [] = []
bytes_of (h ∷ []) = []
bytes_of (h ∷ l ∷ s) = (digit h * 16 + digit l) ∷ bytes_of s

-- so many bytes have room in k
abbrev pub Room : Option ℕ → ℕ → Type 0
Room (Some n) k = n ≤ k
Room None k = Unit {0}

-- so many bytes at the start of out are those that s spells
abbrev pub Holds : List ℕ → List ℕ → Option ℕ → Type 0
Holds s out (Some n) = take n out ≡ bytes_of s
Holds s out None = Unit {0}

-- the answer r on the word s is the one expected, and so many bytes stand in out, which has k
pub record Spelled (s out : List ℕ) (k : ℕ) (expected r : Option ℕ) : Type 0 where
  pub count : r ≡ expected
  pub room : Room r k
  pub held : Holds s out r
