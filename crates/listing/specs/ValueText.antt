-- What is known of a value, as text.
use Rattle.std.specs.Prelude.{Bool, cond, ◌&&◌, List, [], ◌++◌, ℕ, ◌-◌, ◌^◌, eqb, ltb, leb}
use Rattle.std.specs.Int.Bits.{bit_and, bit_xor}
use Rattle.text.specs.Buffer.{chars, decimal, hexadecimal}
use Rattle.known_bits.specs.Formula.{up_to}
use Rattle.number.specs.declared.Number.{Number}
use Rattle.analysis.specs.declared.Region.{Region}
use Rattle.analysis.specs.declared.Region.TheVariants.{Record, Stack}
use Rattle.analysis.specs.declared.Gone.{Gone}
use Rattle.analysis.specs.declared.Gone.TheVariants.{Never, Mixed}
use Rattle.analysis.specs.declared.Value.{Value}
use Rattle.analysis.specs.declared.Value.TheVariants.{Unusable, Plain, Address}
use Rattle.listing.specs.Signed.{signed_text}

-- ---- the end of a range, after its start: nothing where both are one

unfoldable pub end_text : ℕ → ℕ → List ℕ
end_text lo hi = cond (eqb lo hi) [] (chars ".." ++ decimal hi)

-- with signs, where the start is negative
unfoldable pub signed_end_text : ℕ → ℕ → List ℕ
signed_end_text lo hi = cond (eqb lo hi) [] (chars ".." ++ cond (ltb lo (2 ^ 63)) (decimal hi) (signed_text hi))

unfoldable pub signed_range_text : ℕ → ℕ → List ℕ
signed_range_text lo hi = signed_text lo ++ signed_end_text lo hi

-- all words of 64 bits
unfoldable pub is_everything : ℕ → ℕ → Bool
is_everything lo hi = eqb lo 0 && eqb hi (2 ^ 64 - 1)

-- ---- plain numbers

-- as signed numbers too, where all are negative as such
unfoldable pub aside_text : ℕ → ℕ → List ℕ
aside_text lo hi = cond (ltb lo (2 ^ 63)) [] (chars " (" ++ signed_range_text lo hi ++ chars ")")

unfoldable pub range_text : ℕ → ℕ → List ℕ
range_text lo hi = cond (is_everything lo hi) (chars "any number") (decimal lo ++ end_text lo hi ++ aside_text lo hi)

-- the bits that a range leaves open: all from the highest one on in which its ends differ
unfoldable pub left_open : ℕ → ℕ → ℕ
left_open lo hi = up_to (bit_xor lo hi)

-- known bits, where one of those that the range leaves open is known
unfoldable pub bits_text : ℕ → ℕ → ℕ → ℕ → List ℕ
bits_text value mask lo hi =
    cond (eqb (bit_and mask (left_open lo hi)) (left_open lo hi)) [] (chars " bits " ++ hexadecimal value ++ chars "/" ++ hexadecimal mask)

unfoldable pub number_text : Number → List ℕ
number_text n = range_text n.range.lo n.range.hi ++ bits_text n.bits.value n.bits.mask n.range.lo n.range.hi

-- ---- addresses, as distances

-- from where a region starts
unfoldable pub offset_text : ℕ → ℕ → List ℕ
offset_text lo hi = cond (is_everything lo hi) (chars "+any") (signed_range_text lo hi)

-- back from the stack's end
unfoldable pub back_text : ℕ → List ℕ
back_text k = chars "-" ++ decimal (512 - k)

-- back from the stack's end, where r10 is; the end itself is no distance
unfoldable pub inside_text : ℕ → ℕ → List ℕ
inside_text lo hi = cond (eqb lo hi) (cond (eqb lo 512) [] (back_text lo)) (back_text lo ++ chars ".." ++ back_text hi)

-- offsets that are not all inside the stack or at its end are told from its start
unfoldable pub stack_text : ℕ → ℕ → List ℕ
stack_text lo hi = cond (leb lo 512 && leb hi 512) (inside_text lo hi) (chars " start" ++ offset_text lo hi)

unfoldable pub address_text : Region → ℕ → ℕ → List ℕ
address_text Record lo hi = chars "record" ++ offset_text lo hi
address_text Stack lo hi = chars "stack" ++ stack_text lo hi

-- ---- values

unfoldable pub gone_text : Gone → List ℕ
gone_text Never = chars "unset"
gone_text Mixed = chars "mixed"

unfoldable pub value_text : Value → List ℕ
value_text (Unusable g) = gone_text g
value_text (Plain n) = number_text n
value_text (Address p n) = address_text p n.range.lo n.range.hi
