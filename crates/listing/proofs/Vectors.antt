-- The text of a value computed on examples.
use mathlib.Core.Path.{◌≡◌, refl}
use Prim.Native.Nat.{ℕ}
use lib.Count.{count_leading_zeros}
use Rattle.text.specs.Buffer.{chars, last_digits, decimal, glyph, last_sixteens, hexadecimal}
use Rattle.known_bits.specs.Formula.{up_to}
use Rattle.number.specs.declared.Number.{Number}
use Rattle.analysis.specs.declared.Region.TheVariants.{Record, Stack}
use Rattle.analysis.specs.declared.Gone.TheVariants.{Never, Mixed}
use Rattle.analysis.specs.declared.Value.TheVariants.{Unusable, Plain, Address}
use Rattle.listing.specs.Signed.{sign, magnitude, signed_text}
use Rattle.listing.specs.ValueText.{end_text, signed_end_text, signed_range_text, is_everything, aside_text, range_text, left_open, bits_text, number_text, offset_text, back_text, inside_text, stack_text, address_text, gone_text, value_text}

-- the numbers from lo to hi with these known bits
abbrev from_to : ℕ → ℕ → ℕ → ℕ → Number
from_to lo hi value mask = record { bits = record { value = value; mask = mask }; range = record { lo = lo; hi = hi } }

one_number : value_text (Plain (from_to 5 5 5 0)) ≡ chars "5"
unfolding value_text number_text range_text is_everything end_text aside_text bits_text left_open up_to count_leading_zeros decimal last_digits
one_number = refl

a_negative_number : value_text (Plain (from_to 18446744073709551615 18446744073709551615 18446744073709551615 0)) ≡ chars "18446744073709551615 (-1)"
unfolding value_text number_text range_text is_everything end_text aside_text signed_range_text signed_end_text signed_text sign magnitude bits_text left_open up_to count_leading_zeros decimal last_digits
a_negative_number = refl

negative_numbers : value_text (Plain (from_to 18446744073709551612 18446744073709551615 18446744073709551612 3)) ≡ chars "18446744073709551612..18446744073709551615 (-4..-1)"
unfolding value_text number_text range_text is_everything end_text aside_text signed_range_text signed_end_text signed_text sign magnitude bits_text left_open up_to count_leading_zeros decimal last_digits
negative_numbers = refl

a_byte : value_text (Plain (from_to 0 255 0 255)) ≡ chars "0..255"
unfolding value_text number_text range_text is_everything end_text aside_text bits_text left_open up_to count_leading_zeros decimal last_digits
a_byte = refl

a_masked_byte : value_text (Plain (from_to 0 60 0 60)) ≡ chars "0..60 bits 0/3c"
unfolding value_text number_text range_text is_everything end_text aside_text bits_text left_open up_to count_leading_zeros decimal last_digits hexadecimal last_sixteens glyph
a_masked_byte = refl

any_number : value_text (Plain (from_to 0 18446744073709551615 0 18446744073709551615)) ≡ chars "any number"
unfolding value_text number_text range_text is_everything bits_text left_open up_to count_leading_zeros
any_number = refl

any_odd_number : value_text (Plain (from_to 0 18446744073709551615 1 18446744073709551614)) ≡ chars "any number bits 1/fffffffffffffffe"
unfolding value_text number_text range_text is_everything bits_text left_open up_to count_leading_zeros hexadecimal last_sixteens glyph
any_odd_number = refl

in_the_record : (value_text (Address Record (from_to 8 8 8 0)) ≡ chars "record+8") × (value_text (Address Record (from_to 0 60 0 60)) ≡ chars "record+0..60")
unfolding value_text address_text offset_text is_everything signed_range_text signed_end_text signed_text sign magnitude decimal last_digits
in_the_record = (refl, refl)

before_the_record : (value_text (Address Record (from_to 18446744073709551612 18446744073709551612 0 0)) ≡ chars "record-4") × (value_text (Address Record (from_to 18446744073709551608 18446744073709551612 0 0)) ≡ chars "record-8..-4")
unfolding value_text address_text offset_text is_everything signed_range_text signed_end_text signed_text sign magnitude decimal last_digits
before_the_record = (refl, refl)

anywhere : value_text (Address Record (from_to 0 18446744073709551615 0 18446744073709551615)) ≡ chars "record+any"
unfolding value_text address_text offset_text is_everything
anywhere = refl

in_the_stack : (value_text (Address Stack (from_to 512 512 512 0)) ≡ chars "stack") × (value_text (Address Stack (from_to 504 504 504 0)) ≡ chars "stack-8") × (value_text (Address Stack (from_to 448 504 0 0)) ≡ chars "stack-64..-8")
unfolding value_text address_text stack_text inside_text back_text decimal last_digits
in_the_stack = (refl, refl, refl)

outside_the_stack : (value_text (Address Stack (from_to 600 700 0 0)) ≡ chars "stack start+600..700") × (value_text (Address Stack (from_to 18446744073709551608 18446744073709551608 0 0)) ≡ chars "stack start-8")
unfolding value_text address_text stack_text offset_text is_everything signed_range_text signed_end_text signed_text sign magnitude decimal last_digits
outside_the_stack = (refl, refl)

unusable : (value_text (Unusable Never) ≡ chars "unset") × (value_text (Unusable Mixed) ≡ chars "mixed")
unfolding value_text gone_text
unusable = (refl, refl)
