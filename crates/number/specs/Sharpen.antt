-- A Number from a pair and a range: each half sharpens the other.
use Rattle.std.specs.Prelude.{ℕ, ◌*◌, ◌-◌, ◌^◌, min, max}
use Rattle.std.specs.Int.Bits.{bit_and, bit_or, bit_xor}
use Rattle.known_bits.specs.declared.Bits.{Bits}
use Rattle.known_bits.specs.Pair.{top, exactly}
use Rattle.known_bits.specs.Formula.{low, up_to, among, joined}
use Rattle.number.specs.declared.Range.{Range}
use Rattle.number.specs.declared.Number.{Number}

-- the part of a range between the least and the greatest number of a pair
unfoldable pub narrowed : Bits → Range → Range
narrowed p s = record { lo = max s.lo p.value; hi = min s.hi (top p) }

-- the bits that stay unknown: those of p from the first bit on in which the ends of s differ
unfoldable pub still_unknown : Bits → Range → ℕ
still_unknown p s = bit_and p.mask (up_to (bit_xor s.lo s.hi))

-- a pair with the leading bits that the ends of a range have in common. Only bits that were unknown are taken from the range
unfoldable pub learnt : Bits → Range → Bits
learnt p s =
    record {
      value = bit_or p.value (bit_and s.lo (bit_xor p.mask (still_unknown p s)));
      mask = still_unknown p s;
    }

unfoldable pub sharpened : Bits → Range → Number
sharpened p s =
    record {
      bits = learnt p (narrowed p s);
      range = narrowed (learnt p (narrowed p s)) (narrowed p s);
    }

-- ---- Numbers that are known without a calculation
unfoldable pub just : ℕ → Range
just x = record { lo = x; hi = x }

-- the number x
unfoldable pub exact : ℕ → Number
exact x = record { bits = exactly x; range = just x }

-- all numbers of w bits
unfoldable pub everything : ℕ → Range
everything w = record { lo = 0; hi = 2 ^ w - 1 }

-- what a load of k bytes gives
unfoldable pub loaded : ℕ → Number
loaded k = record { bits = among (2 ^ (8 * k) - 1); range = everything (8 * k) }

-- where paths join: from the smaller lo to the larger hi
unfoldable pub joined_range : Range → Range → Range
joined_range a b = record { lo = min a.lo b.lo; hi = max a.hi b.hi }

-- the cut to 64 bits changes no pair of words; it is here so that the join covers a Number whatever the other one is
unfoldable pub joined_number : Number → Number → Number
joined_number a b = record { bits = joined (low 64 a.bits) (low 64 b.bits); range = joined_range a.range b.range }
