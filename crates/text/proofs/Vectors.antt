-- The definitions computed on short texts: what is a number, what are bytes, what is neither, and a number written.
use mathlib.Core.List.{List, [], ◌∷◌}
use mathlib.Core.Path.{◌≡◌, refl}
use Prim.Native.Nat.{ℕ, ◌-◌, ◌^◌}
use Rattle.std.proofs.Common.{Some, None}
use Rattle.text.specs.Digit.{among, digit}
use Rattle.text.specs.Number.{digits, value, number_from, number, marked, numeral}
use Rattle.text.specs.Hex.{fitting, paired, dash, spelled, bytes_of}
use Rattle.text.specs.Scan.{other}
use Rattle.text.specs.Pair.{joined, pair}
use Rattle.text.specs.Dump.{commented, blank, kept, bare_from, bare_of, line_ends}
use Rattle.text.specs.Buffer.{chars, last_digits, decimal, glyph, last_sixteens, hexadecimal}

-- 18446744073709551615 and the number after it, without their last digit
most : ℕ → List ℕ
most last =
    49 ∷ 56 ∷ 52 ∷ 52 ∷ 54 ∷ 55 ∷ 52 ∷ 52 ∷ 48 ∷ 55 ∷ 51 ∷ 55 ∷ 48 ∷ 57 ∷ 53 ∷ 53 ∷ 49 ∷ 54 ∷ 49 ∷ last ∷ []

largest : number 10 (most 53) ≡ Some (2 ^ 64 - 1)
unfolding most number number_from digits value digit among
largest = refl

too_large : number 10 (most 54) ≡ None
unfolding most number number_from digits value digit among
too_large = refl

no_digit : number 10 [] ≡ None
unfolding number
no_digit = refl

-- 12a, in the two bases
bad_digit : number 10 (49 ∷ 50 ∷ 97 ∷ []) ≡ None
unfolding number number_from digits value digit among
bad_digit = refl

good_digit : number 16 (49 ∷ 50 ∷ 97 ∷ []) ≡ Some 298
unfolding number number_from digits value digit among
good_digit = refl

-- 0xfF, 0x and 00010
after_mark : numeral (48 ∷ 120 ∷ 102 ∷ 70 ∷ []) ≡ Some 255
unfolding numeral marked number number_from digits value digit among
after_mark = refl

mark_alone : numeral (48 ∷ 120 ∷ []) ≡ None
unfolding numeral marked number
mark_alone = refl

zeros_before : numeral (48 ∷ 48 ∷ 48 ∷ 49 ∷ 48 ∷ []) ≡ Some 10
unfolding numeral marked number number_from digits value digit among
zeros_before = refl

-- aB07 in two bytes of room and in one, -, aB0, a- and nothing
two_bytes : spelled (97 ∷ 66 ∷ 48 ∷ 55 ∷ []) 2 ≡ Some 2
unfolding spelled dash paired fitting digits digit among
two_bytes = refl

no_room : spelled (97 ∷ 66 ∷ 48 ∷ 55 ∷ []) 1 ≡ None
unfolding spelled dash paired fitting
no_room = refl

no_bytes : spelled (45 ∷ []) 0 ≡ Some 0
unfolding spelled dash
no_bytes = refl

odd : spelled (97 ∷ 66 ∷ 48 ∷ []) 2 ≡ None
unfolding spelled dash paired fitting
odd = refl

dash_inside : spelled (97 ∷ 45 ∷ []) 2 ≡ None
unfolding spelled dash paired fitting digits digit among
dash_inside = refl

no_word : spelled [] 2 ≡ None
unfolding spelled dash paired fitting
no_word = refl

-- the bytes themselves, highest digit first
its_bytes : bytes_of (chars "aB07") ≡ 171 ∷ 7 ∷ []
unfolding bytes_of digit among
its_bytes = refl

dash_is_empty : bytes_of (chars "-") ≡ []
unfolding bytes_of
dash_is_empty = refl

zero_in_decimal : decimal 0 ≡ chars "0"
unfolding decimal last_digits
zero_in_decimal = refl

largest_in_decimal : decimal (2 ^ 64 - 1) ≡ chars "18446744073709551615"
unfolding decimal last_digits
largest_in_decimal = refl

zero_is_one_digit : hexadecimal 0 ≡ chars "0"
unfolding hexadecimal last_sixteens glyph
zero_is_one_digit = refl

fifteen_digits : hexadecimal 81985529216486895 ≡ chars "123456789abcdef"
unfolding hexadecimal last_sixteens glyph
fifteen_digits = refl

two_numbers : pair (chars "0F/a0") ≡ Some (15, 160)
unfolding pair joined other number number_from digits value digit among
two_numbers = refl

three_numbers : pair (chars "1/2/3") ≡ None
unfolding pair joined other number number_from digits value digit among
three_numbers = refl

no_second_number : pair (chars "1/") ≡ None
unfolding pair joined other number number_from digits value digit among
no_second_number = refl

-- blanks go, and a comment up to its line end, with the # and the digits in it
stripped : bare_of (chars "a B#7#\n0\t7\r\n#") ≡ chars "aB07"
unfolding bare_of bare_from kept commented blank
stripped = refl

bad_letter_kept : bare_of (chars "0x1 # x\nz") ≡ chars "0x1z"
unfolding bare_of bare_from kept commented blank
bad_letter_kept = refl

third_line : line_ends (chars "\n1\n2") ≡ 2
unfolding line_ends
third_line = refl
