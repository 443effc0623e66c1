-- The numbers that a text spells.
use Rattle.std.specs.Prelude.{Bool, true, cond, ◌&&◌, List, [], ◌∷◌, ℕ, ◌+◌, ◌*◌, ◌^◌, length, get_or, drop, ltb, leb, eqb, Option, Some, None}
use Rattle.text.specs.Digit.{digit}

-- every character is a digit of the base
unfoldable pub digits : ℕ → List ℕ → Bool
digits base [] = true
digits base (b ∷ s) = ltb (digit b) base && digits base s

-- the value of the digits s behind digits of the value n, the highest first
unfoldable pub value : ℕ → ℕ → List ℕ → ℕ
value base n [] = n
value base n (b ∷ s) = value base (n * base + digit b) s

-- the number that s spells behind digits of the value n, if s is of digits and the number is below 2^64
unfoldable pub number_from : ℕ → ℕ → List ℕ → Option ℕ
number_from base n s = cond (digits base s && ltb (value base n s) (2 ^ 64)) (Some (value base n s)) None

-- the number that s spells: there is a digit, all are digits, and the value is below 2^64
unfoldable pub number : ℕ → List ℕ → Option ℕ
number base s = cond (eqb (length s) 0) None (number_from base 0 s)

-- s begins with 0x
unfoldable pub marked : List ℕ → Bool
marked s = leb 2 (length s) && (eqb (get_or s 0 0) 48 && eqb (get_or s 1 0) 120)

-- a decimal number, or a hexadecimal one after 0x
unfoldable pub numeral : List ℕ → Option ℕ
numeral s = cond (marked s) (number 16 (drop 2 s)) (number 10 s)
