-- What a way out of a comparison tells of the two numbers compared: that no pair of them goes it, or a sharper pair.
use Rattle.std.specs.Prelude.{Bool, true, false, cond, ◌&&◌, ℕ, ◌+◌, ◌-◌, ◌^◌, min, max, eqb, leb, ltb, Option, Some, None}
use Rattle.std.specs.Int.Bits.{bit_and}
use Rattle.word.specs.declared.Comparison.{Comparison}
use Rattle.word.specs.declared.Comparison.TheVariants.{Eq, Gt, Ge, Set, Ne, Sgt, Sge, Lt, Le, Slt, Sle}
use Rattle.word.specs.declared.Operation.TheVariants.{Add}
use Rattle.known_bits.specs.declared.Bits.{Bits}
use Rattle.known_bits.specs.Pair.{top}
use Rattle.known_bits.specs.Formula.{cleared, met}
use Rattle.number.specs.declared.Range.{Range}
use Rattle.number.specs.declared.Number.{Number}
use Rattle.number.specs.Refined.{Refined}
use Rattle.number.specs.Sharpen.{narrowed, sharpened, exact}
use Rattle.number.specs.Computed.{computed}

-- a way on which a range is empty is excluded
unfoldable pub settled : Number → Number → Refined
settled d s = cond (leb d.range.lo d.range.hi && leb s.range.lo s.range.hi) (Some (d, s)) None

-- the range of a Number, as far as its known bits allow
unfoldable pub bounds : Number → Range
bounds n = narrowed n.bits n.range

-- ---- x + gap ≤ y serves all orders: x is at most the greatest y less gap, y at least the least x and gap
unfoldable pub ordered_in : ℕ → Number → Number → Range → Range → Refined
ordered_in gap d s u v =
    cond (ltb v.hi (u.lo + gap)) None
    (settled (sharpened d.bits (record { lo = u.lo; hi = min u.hi (v.hi - gap) }))
    (sharpened s.bits (record { lo = max v.lo (u.lo + gap); hi = v.hi })))

unfoldable pub ordered : ℕ → Number → Number → Refined
ordered gap d s = ordered_in gap d s (bounds d) (bounds s)

-- the two numbers exchanged
unfoldable pub exchanged : Refined → Refined
exchanged None = None
exchanged (Some (d, s)) = Some (s, d)

unfoldable pub above : ℕ → Number → Number → Refined
above gap d s = exchanged (ordered gap s d)

-- ---- x ≡ y: both are what the two have in common
unfoldable pub common : Range → Range → Range
common u v = record { lo = max u.lo v.lo; hi = min u.hi v.hi }

unfoldable pub equal_by : Option Bits → Range → Refined
equal_by None t = None
equal_by (Some p) t = settled (sharpened p t) (sharpened p t)

unfoldable pub equal : Number → Number → Refined
equal d s = equal_by (met d.bits s.bits) (common d.range s.range)

-- ---- x is not y: a number that is known is no end of the other's range any more
unfoldable pub empty : Range
empty = record { lo = 1; hi = 0 }

unfoldable pub without : ℕ → Range → Range
without k u =
    cond (eqb u.lo k) (cond (ltb k u.hi) (record { lo = k + 1; hi = u.hi }) empty)
    (cond (eqb u.hi k) (cond (ltb u.lo k) (record { lo = u.lo; hi = k - 1 }) empty) u)

unfoldable pub apart_from : Range → Range → Range
apart_from u v = cond (eqb v.lo v.hi) (without v.lo u) u

unfoldable pub unequal : Number → Number → Refined
unequal d s = settled (sharpened d.bits (apart_from (bounds d) (bounds s))) (sharpened s.bits (apart_from (bounds s) (bounds d)))

-- ---- JSET. A Number's own halves sharpen each other first
unfoldable pub resharpened : Number → Number
resharpened n = sharpened n.bits n.range

-- not taken: neither has a bit that the other is known to have
unfoldable pub disjoint_by : Option Bits → Option Bits → Number → Number → Refined
disjoint_by None q d s = None
disjoint_by (Some p) None d s = None
disjoint_by (Some p) (Some q) d s = settled (sharpened p d.range) (sharpened q s.range)

unfoldable pub disjoint_of : Number → Number → Refined
disjoint_of d s = disjoint_by (cleared d.bits s.bits.value) (cleared s.bits d.bits.value) d s

unfoldable pub disjoint : Number → Number → Refined
disjoint d s = disjoint_of (resharpened d) (resharpened s)

-- taken: some bit in common is possible
unfoldable pub overlapping_of : Number → Number → Refined
overlapping_of d s = cond (eqb (bit_and (top d.bits) (top s.bits)) 0) None (settled d s)

unfoldable pub overlapping : Number → Number → Refined
overlapping d s = overlapping_of (resharpened d) (resharpened s)

-- ---- signed orders: they are the orders of the numbers moved by 2 ^ 63; what these tell is moved back
unfoldable pub turned : Number → Number
turned n = computed 64 Add n (exact (2 ^ 63))

-- the first of each
unfoldable pub firsts : Refined → Refined → Refined
firsts None q = None
firsts (Some (m, _)) None = None
firsts (Some (m, _)) (Some (n, _)) = Some (m, n)

unfoldable pub turned_back : Number → Number → Refined → Refined
turned_back d s None = None
turned_back d s (Some (u, v)) = firsts (equal d (turned u)) (equal s (turned v))

unfoldable pub signed_ordered : ℕ → Number → Number → Refined
signed_ordered gap d s = turned_back d s (ordered gap (turned d) (turned s))

unfoldable pub signed_above : ℕ → Number → Number → Refined
signed_above gap d s = exchanged (signed_ordered gap s d)

-- ---- the way of each comparison that is taken, and the one that is not
unfoldable pub taken : Comparison → Number → Number → Refined
taken Eq d s = equal d s
taken Gt d s = above 1 d s
taken Ge d s = above 0 d s
taken Set d s = overlapping d s
taken Ne d s = unequal d s
taken Sgt d s = signed_above 1 d s
taken Sge d s = signed_above 0 d s
taken Lt d s = ordered 1 d s
taken Le d s = ordered 0 d s
taken Slt d s = signed_ordered 1 d s
taken Sle d s = signed_ordered 0 d s

unfoldable pub not_taken : Comparison → Number → Number → Refined
not_taken Eq d s = unequal d s
not_taken Gt d s = ordered 0 d s
not_taken Ge d s = ordered 1 d s
not_taken Set d s = disjoint d s
not_taken Ne d s = equal d s
not_taken Sgt d s = signed_ordered 0 d s
not_taken Sge d s = signed_ordered 1 d s
not_taken Lt d s = above 0 d s
not_taken Le d s = above 1 d s
not_taken Slt d s = signed_above 0 d s
not_taken Sle d s = signed_above 1 d s

unfoldable pub refined : Comparison → Bool → Number → Number → Refined
refined c true d s = taken c d s
refined c false d s = not_taken c d s
