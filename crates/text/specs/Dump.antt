-- Hexadecimal text with blanks and comments, and the digits that are left without them.
use Rattle.std.specs.Prelude.{Bool, true, false, cond, ◌||◌, List, [], ◌∷◌, ◌++◌, ◌≡◌, ℕ, ◌+◌, ◌≤◌, ◌<◌, length, take, eqb, Some, None, Result, Ok, Err}
use Rattle.text.specs.declared.dump.DumpError.{DumpError}
use Rattle.text.specs.declared.dump.DumpError.TheVariants.{BadLetter, OddDigits, TooLong, Empty}
use Rattle.text.specs.Hex.{paired, Spelled}

-- whether a comment goes on after the character b: # starts one, and a line end ends it
unfoldable pub commented : Bool → ℕ → Bool
commented c b = cond (eqb b 10) false (cond (eqb b 35) true c)

-- space, tab, line end or carriage return
unfoldable pub blank : ℕ → Bool
blank b = ((eqb b 32 || eqb b 9) || eqb b 10) || eqb b 13

-- how many characters are left of b, where c says that it is in a comment
unfoldable pub kept : Bool → ℕ → ℕ
kept c b = cond (c || blank b) 0 1

-- the characters of s that are neither blank nor in a comment, where c says that s starts in one
unfoldable pub bare_from : Bool → List ℕ → List ℕ
bare_from c [] = []
bare_from c (b ∷ s) = take (kept (commented c b) b) (b ∷ []) ++ bare_from (commented c b) s

unfoldable pub bare_of : List ℕ → List ℕ
bare_of s = bare_from false s

-- the first r characters of bare are what is left of s
pub record Bare (s bare : List ℕ) (r : ℕ) : Type 0 where
  pub room : r ≤ length bare
  pub left : take r bare ≡ bare_of s

-- the digits spell no bytes that have room, or the scratch memory is shorter than the text
pub record Unspelled (s : List ℕ) (scratch room : ℕ) : Type 0 where
  pub none : length s ≤ scratch → paired (bare_of s) room ≡ None

-- a bad letter is one of the text's
abbrev pub Inside : List ℕ → DumpError → Type 0
Inside s (BadLetter at) = at < length s
Inside s OddDigits = Unit {0}
Inside s TooLong = Unit {0}
Inside s Empty = Unit {0}

-- the bytes of out are those that the text spells; otherwise there are none, and a bad letter is one of the text's
abbrev pub Answers : List ℕ → List ℕ → ℕ → ℕ → Result ℕ DumpError → Type 0
Answers s out scratch room (Ok n) = Spelled (bare_of s) out room (paired (bare_of s) room) (Some n)
Answers s out scratch room (Err e) = Inside s e × Unspelled s scratch room

pub record Dumped (s out : List ℕ) (scratch room : ℕ) (r : Result ℕ DumpError) : Type 0 where
  pub answers : Answers s out scratch room r

-- how many lines end in s
unfoldable pub line_ends : List ℕ → ℕ
line_ends [] = 0
line_ends (b ∷ s) = cond (eqb b 10) 1 0 + line_ends s
