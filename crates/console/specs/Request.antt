-- What a request line says: its words, the numbers and the bytes of `run`.
use Rattle.std.specs.Prelude.{Bool, cond, List, ◌≡◌, ℕ, ◌≤◌, length, take, drop, eqb, Option, Some, None}
use Rattle.text.specs.Scan.{other, leading}
use Rattle.text.specs.Number.{number, numeral}
use Rattle.text.specs.Hex.{spelled, bytes_of}
use Rattle.console.specs.declared.request.Numbers.{Numbers}

-- s without the spaces before its first word
unfoldable pub ink : List ℕ → List ℕ
ink s = drop (leading 32 s) s

-- the first word of s, up to a space; empty where there is none
unfoldable pub word : List ℕ → List ℕ
word s = take (other 32 (ink s)) (ink s)

-- what stands after the first word
unfoldable pub after : List ℕ → List ℕ
after s = drop (other 32 (ink s)) (ink s)

-- s has no word
unfoldable pub blank : List ℕ → Bool
blank s = eqb (leading 32 s) (length s)

-- the numbers where all four are
unfoldable pub four : Option ℕ → Option ℕ → Option ℕ → Option ℕ → Option Numbers
four None p s budget = None
four (Some a) None s budget = None
four (Some a) (Some b) None budget = None
four (Some a) (Some b) (Some c) None = None
four (Some a) (Some b) (Some c) (Some d) = Some (record { size = a; p = b; s = c; budget = d })

-- R P S BUDGET at the start of s: R and BUDGET are decimal, P and S decimal or hexadecimal after 0x
unfoldable pub numbers_of : List ℕ → Option Numbers
numbers_of s =
    four (number 10 (word s)) (numeral (word (after s))) (numeral (word (after (after s)))) (number 10 (word (after (after (after s)))))

-- the sizes where both are
unfoldable pub two : Option ℕ → Option ℕ → Option (ℕ × ℕ)
two None b = None
two (Some n) None = None
two (Some n) (Some k) = Some (n, k)

-- PROGRAM RECORD at the start of s, with room for n and k bytes, and no word after them
unfoldable pub sizes_of : List ℕ → ℕ → ℕ → Option (ℕ × ℕ)
sizes_of s n k = cond (blank (after (after s))) (two (spelled (word s) n) (spelled (word (after s)) k)) None

-- a program and a record of these sizes have room in n and k
abbrev pub Fit : Option (ℕ × ℕ) → ℕ → ℕ → Type 0
Fit (Some (a, b)) n k = (a ≤ n) × (b ≤ k)
Fit None n k = Unit {0}

-- so many bytes of the program and of the record are those that the words v and w spell
abbrev pub Kept : List ℕ → List ℕ → List ℕ → List ℕ → Option (ℕ × ℕ) → Type 0
Kept v w program rec (Some (a, b)) = (take a program ≡ bytes_of v) × (take b rec ≡ bytes_of w)
Kept v w program rec None = Unit {0}

-- the answer r on PROGRAM RECORD at the start of s, and the bytes as they are left in a program of n and a record of k
pub record Filled (s program rec : List ℕ) (n k : ℕ) (r : Option (ℕ × ℕ)) : Type 0 where
  pub count : r ≡ sizes_of s n k
  pub room : Fit r n k
  pub held : Kept (word s) (word (after s)) program rec r
