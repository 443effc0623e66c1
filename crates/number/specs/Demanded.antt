-- What docs/VERIFIER.md demands to be known of a number, in its order: a formula that forgets more, or that is wrong, makes one of these
-- sentences false. The verifier's promise has all of them.
use Rattle.std.specs.Prelude.{◌≡◌, Bool, true, false, not, ◌⊎◌, ◌↔◌, ℕ, ◌+◌, ◌-◌, ◌*◌, ◌/◌, ◌%◌, ◌^◌, ◌≤◌, ◌<◌, min, max, Some, None}
use Rattle.std.specs.Int.Bits.{bit_and, bit_xor}
use Rattle.word.specs.Word.{bit, cut, alu, compare}
use Rattle.word.specs.declared.Operation.{Operation}
use Rattle.word.specs.declared.Operation.TheVariants.{Add, Sub, Mul, Div, Or, And, Lsh, Rsh, Neg, Mod, Xor, Mov, Arsh}
use Rattle.word.specs.declared.Comparison.{Comparison}
use Rattle.word.specs.declared.Comparison.TheVariants.{Eq, Ne, Gt, Ge, Lt, Le, Set, Sgt, Sge, Slt, Sle}
use Rattle.known_bits.specs.declared.Bits.{Bits}
use Rattle.known_bits.specs.KnownBits.{Well, Mem, Best, Results, Either}
use Rattle.known_bits.specs.Pair.{top}
use Rattle.known_bits.specs.Computed.{Computed}
use Rattle.known_bits.specs.Formula.{low, shift_and_add, calculated}
use Rattle.number.specs.declared.Range.{Range}
use Rattle.number.specs.declared.Number.{Number}
use Rattle.number.specs.Refined.{Refined}
use Rattle.number.specs.Meaning.{Within, In, RangeWithin, BitsWithin, Narrower, Tightest, Image, Kept, Left, Going}
use Rattle.number.specs.Sharpen.{exact, loaded, everything, joined_number}
use Rattle.number.specs.Ranges.{product_range, quotient_range, left_range, crossed}
use Rattle.number.specs.Computed.{modulo, computed_range, computed, fits}
use Rattle.number.specs.Compare.{refined}
use Rattle.number.specs.Halves.{refined32, UpperKept}

-- ---- the words

-- the widths of the machine
abbrev pub Wide : ℕ → Type 0
Wide w = (w ≡ 64) ⊎ (w ≡ 32)

-- the comparisons of whole numbers without a sign
pub data Unsigned : Comparison → Type 0 where
  eq : Unsigned Eq
  ne : Unsigned Ne
  gt : Unsigned Gt
  ge : Unsigned Ge
  lt : Unsigned Lt
  le : Unsigned Le

-- the shifts
pub data IsShift : Operation → Type 0 where
  lsh : IsShift Lsh
  rsh : IsShift Rsh
  arsh : IsShift Arsh

-- both ends are below m
pub record Below (m : ℕ) (r : Range) : Type 0 where
  pub low : r.lo < m
  pub high : r.hi < m

-- ADD of u and v at w bits: the exact ends where no pair wraps and where every pair does, otherwise all numbers
pub record SumEnds (w : ℕ) (u v r : Range) : Type 0 where
  pub exact : u.hi + v.hi < 2 ^ w → r ≡ record { lo = u.lo + v.lo; hi = u.hi + v.hi }
  pub wraps : 2 ^ w ≤ u.lo + v.lo → r ≡ record { lo = u.lo + v.lo - 2 ^ w; hi = u.hi + v.hi - 2 ^ w }
  pub unknown : u.lo + v.lo < 2 ^ w → 2 ^ w ≤ u.hi + v.hi → r ≡ everything w

pub record DifferenceEnds (w : ℕ) (u v r : Range) : Type 0 where
  pub exact : v.hi ≤ u.lo → r ≡ record { lo = u.lo - v.hi; hi = u.hi - v.lo }
  pub wraps : u.hi < v.lo → r ≡ record { lo = u.lo + 2 ^ w - v.hi; hi = u.hi + 2 ^ w - v.lo }
  pub unknown : u.lo < v.hi → v.lo ≤ u.hi → r ≡ everything w

-- the numbers of a range whose low halves go a way out of their comparison with k
abbrev pub Going32 : Comparison → Bool → Range → ℕ → ℕ → Type 0
Going32 c way d k x = Within d x × (compare 32 c x k ≡ way)

-- the low half of every number of n is one that the pair of l has
abbrev pub LowBitsWithin : Number → Number → Type 0
LowBitsWithin n l = (x : ℕ) → Mem 64 n.bits x → Mem 64 l.bits (cut 32 x)

-- something is left of the low halves too, and it bounds what is left of the whole numbers
abbrev pub BoundedBy : Refined → Number → Number → Type 0
BoundedBy None d s = ⊥
BoundedBy (Some (l, m)) d s = LowBitsWithin d l × LowBitsWithin s m

-- a number below 2 ^ 32 is its low half: of n is left n', whose range l has
abbrev pub LowRangeWithin : Number → Number → Number → Type 0
LowRangeWithin n n' l = n.range.hi < 2 ^ 32 → RangeWithin n'.range l.range

-- so of the ranges of d and s
abbrev pub RangesBoundedBy : Number → Number → Refined → Number → Number → Type 0
RangesBoundedBy d s None d' s' = ⊥
RangesBoundedBy d s (Some (l, m)) d' s' = LowRangeWithin d d' l × LowRangeWithin s s' m

-- a low half moved by 2 ^ 31, so that signs are in order
abbrev pub raised_half : Number → Number
raised_half n = computed 32 Add n (exact (2 ^ 31))

-- something is left of the moved halves too, and moved back it bounds what is left of the whole numbers
abbrev pub HalvesRaisedBy : Number → Number → Refined → Number → Number → Type 0
HalvesRaisedBy d s None d' s' = ⊥
HalvesRaisedBy d s (Some (u, v)) d' s' =
    LowBitsWithin d' (raised_half u) × LowBitsWithin s' (raised_half v) × LowRangeWithin d d' (raised_half u) × LowRangeWithin s s' (raised_half v)

-- the signed orders, each with the order of the same name
pub data Signed : Comparison → Comparison → Type 0 where
  sgt : Signed Sgt Gt
  sge : Signed Sge Ge
  slt : Signed Slt Lt
  sle : Signed Sle Le

-- a number moved by 2 ^ 63, so that signs are in order
abbrev pub raised : Number → Number
raised n = computed 64 Add n (exact (2 ^ 63))

-- something is left of the moved numbers too, and moved back it bounds what is left of the numbers
abbrev pub RaisedBy : Refined → Number → Number → Type 0
RaisedBy None d s = ⊥
RaisedBy (Some (u, v)) d s = Narrower d (raised u) × Narrower s (raised v)

-- x + gap ≤ y: of d and s are left d' and s', which reach no further than the other's ends allow
pub record Ordered (gap : ℕ) (d s d' s' : Number) : Type 0 where
  pub highest : d'.range.hi + gap ≤ s.range.hi
  pub lowest : d.range.lo + gap ≤ s'.range.lo

-- ---- operations, at 64 bits (class 7) and at 32 (class 4)
pub record OfOperations : Type 0 where
  pub sound : (w : ℕ) → Wide w → (op : Operation) (a b : Number) (x y : ℕ) → In a x → In b y → In (computed w op a b) (alu w op x y)
  pub exact_of_exact : (w : ℕ) → Wide w → (op : Operation) (x y : ℕ) → x < 2 ^ 64 → y < 2 ^ 64
      → computed w op (exact x) (exact y) ≡ exact (alu w op x y)
  -- the known bits: within those of `known_bits`, which are the best where that is demanded
  pub bits_within : (w : ℕ) (op : Operation) (a b : Number) → BitsWithin (computed w op a b).bits (calculated w op a.bits b.bits)
  pub bits_best : (w : ℕ) → Wide w → (op : Operation) (a b : Number) → Computed w op a.bits b.bits (calculated w op a.bits b.bits)
  -- a product knows no less than shift and add over the digits of either operand, and that multiples give a multiple
  pub product_bits : (w : ℕ) → Wide w → (a b : Bits) → Well 64 a → Well 64 b
      → BitsWithin (calculated w Mul a b) (shift_and_add w (low w a) (low w b)) × BitsWithin (calculated w Mul a b) (shift_and_add w (low w b) (low w a))
  pub product_of_multiples : (w : ℕ) → Wide w → (a b : Bits) → Well 64 a → Well 64 b → (i j : ℕ)
      → ((x : ℕ) → Mem 64 a x → x % 2 ^ i ≡ 0) → ((y : ℕ) → Mem 64 b y → y % 2 ^ j ≡ 0) → (z : ℕ) → Mem 64 (calculated w Mul a b) z → z % 2 ^ (i + j) ≡ 0
  -- by a known power of two: the pair shifted, and cut
  pub quotient_by_power : (w : ℕ) → Wide w → (a b : Bits) (n : ℕ) → n < w → b.value % 2 ^ w ≡ 2 ^ n → b.mask % 2 ^ w ≡ 0
      → calculated w Div a b ≡ record { value = a.value % 2 ^ w / 2 ^ n; mask = a.mask % 2 ^ w / 2 ^ n }
  pub rest_by_power : (w : ℕ) → Wide w → (a b : Bits) (n : ℕ) → n < w → b.value % 2 ^ w ≡ 2 ^ n → b.mask % 2 ^ w ≡ 0
      → calculated w Mod a b ≡ record { value = a.value % 2 ^ w % 2 ^ n; mask = a.mask % 2 ^ w % 2 ^ n }
  -- a shift by a count that is one of two: the best pair
  pub shift_by_one_of_two : (w : ℕ) → Wide w → (op : Operation) → IsShift op → (a b : Bits) → Well 64 a → Well 64 b
      → ¬ (b.mask % w ≡ 0) → bit_and (b.mask % w) (b.mask % w - 1) ≡ 0 → Best 64 (Results w op a b) (calculated w op a b)
  -- by any other count: the low zeros of the number, and as many as the least count
  pub left_by_more : (w : ℕ) → Wide w → (a b : Bits) (i k : ℕ) → ¬ ((low w b).mask % w ≡ 0) → ¬ (bit_and ((low w b).mask % w) ((low w b).mask % w - 1) ≡ 0)
      → top (low w a) % 2 ^ i ≡ 0 → k < i + (low w b).value % w → k < 64
      → (bit k (calculated w Lsh a b).value ≡ 0) × (bit k (calculated w Lsh a b).mask ≡ 0)
  -- the range of a sum and of a difference that cannot wrap: the exact sum and difference of the ends
  pub sum_within : (w : ℕ) → Wide w → (a b : Number) (x y : ℕ) → In a x → In b y → a.range.hi + b.range.hi < 2 ^ w
      → RangeWithin (computed w Add a b).range (record { lo = a.range.lo + b.range.lo; hi = a.range.hi + b.range.hi })
  pub difference_within : (w : ℕ) → Wide w → (a b : Number) (x y : ℕ) → In a x → In b y → a.range.hi < 2 ^ w → b.range.hi ≤ a.range.lo
      → RangeWithin (computed w Sub a b).range (record { lo = a.range.lo - b.range.hi; hi = a.range.hi - b.range.lo })
  -- and of operands cut to w bits, whether they wrap or not
  pub range_within : (w : ℕ) (op : Operation) (a b : Number) → RangeWithin (computed w op a b).range (computed_range w op a b)
  pub sum_ends : (w : ℕ) → Wide w → (a b : Number) → (modulo (2 ^ w) a).lo ≤ (modulo (2 ^ w) a).hi → (modulo (2 ^ w) b).lo ≤ (modulo (2 ^ w) b).hi
      → SumEnds w (modulo (2 ^ w) a) (modulo (2 ^ w) b) (computed_range w Add a b)
  pub difference_ends : (w : ℕ) → Wide w → (a b : Number) → (modulo (2 ^ w) a).lo ≤ (modulo (2 ^ w) a).hi → (modulo (2 ^ w) b).lo ≤ (modulo (2 ^ w) b).hi
      → DifferenceEnds w (modulo (2 ^ w) a) (modulo (2 ^ w) b) (computed_range w Sub a b)
  -- a rest is below its divisor, AND is at most either
  pub rest_below_the_divisor : (w : ℕ) → Wide w → (a b : Number) → 0 < (modulo (2 ^ w) b).lo → (modulo (2 ^ w) b).lo ≤ (modulo (2 ^ w) b).hi
      → (computed w Mod a b).range.hi < (modulo (2 ^ w) b).hi
  pub and_at_most_the_first : (w : ℕ) → Wide w → (a b : Number) → (computed w And a b).range.hi ≤ (modulo (2 ^ w) a).hi
  pub and_at_most_the_second : (w : ℕ) → Wide w → (a b : Number) → (computed w And a b).range.hi ≤ (modulo (2 ^ w) b).hi

-- the ranges of all other operations, where u and v are the operands cut to w bits, and n is the second one as a count
pub record OfRanges (w : ℕ) (a b : Number) (u v n : Range) : Type 0 where
  pub product : u.hi * v.hi < 2 ^ w → computed_range w Mul a b ≡ record { lo = u.lo * v.lo; hi = u.hi * v.hi }
  pub quotient : 0 < v.lo → computed_range w Div a b ≡ record { lo = u.lo / v.hi; hi = u.hi / v.lo }
  pub quotient_at_most_the_dividend : v.lo ≡ 0 → (computed_range w Div a b).hi ≤ u.hi
  pub rest_of_less : u.hi < v.lo → computed_range w Mod a b ≡ u
  pub rest_at_most_the_dividend : (computed w Mod a b).range.hi ≤ u.hi
  pub or_from_the_larger : max u.lo v.lo ≤ (computed w Or a b).range.lo
  pub or_no_longer : (k : ℕ) → u.hi < 2 ^ k → v.hi < 2 ^ k → (computed w Or a b).range.hi < 2 ^ k
  pub xor_no_longer : (k : ℕ) → u.hi < 2 ^ k → v.hi < 2 ^ k → (computed w Xor a b).range.hi < 2 ^ k
  pub left : u.hi * 2 ^ n.hi < 2 ^ w → computed_range w Lsh a b ≡ record { lo = u.lo * 2 ^ n.lo; hi = u.hi * 2 ^ n.hi }
  pub right : computed_range w Rsh a b ≡ record { lo = u.lo / 2 ^ n.hi; hi = u.hi / 2 ^ n.lo }
  pub signed_right_lem : u.hi < 2 ^ (w - 1) → computed_range w Arsh a b ≡ record { lo = u.lo / 2 ^ n.hi; hi = u.hi / 2 ^ n.lo }
  pub signed_right_of_negative : 2 ^ (w - 1) ≤ u.lo
      → computed_range w Arsh a b ≡ record { lo = alu w Arsh u.lo n.lo; hi = alu w Arsh u.hi n.hi }
  pub negative : computed w Neg a b ≡ computed w Sub (exact 0) a
  pub move : computed_range w Mov a b ≡ v

-- what a cut to numbers below m leaves: all of a range that lies there, and what the known bits say of it
pub record OfCuts (m : ℕ) (n : Number) : Type 0 where
  pub of_small : Below m n.range → RangeWithin (modulo m n) n.range
  pub of_bits : RangeWithin (modulo m n) (record { lo = n.bits.value % m; hi = top n.bits % m })

-- a pair p and a range r that have sharpened each other
pub record OfSharpening (p : Bits) (r : Range) (n : Number) : Type 0 where
  pub above_least : p.value ≤ n.range.lo
  pub below_top : n.range.hi ≤ top p
  -- bit k is known if the ends have it in common, and all above it
  pub common_lead : (j k : ℕ) → bit_xor (max r.lo p.value) (min r.hi (top p)) < 2 ^ j → j ≤ k → bit k n.bits.mask ≡ 0

-- of two ranges with numbers in them: no less wide range has all results
pub record LeastRanges (a b : Range) : Type 0 where
  pub product : a.hi * b.hi < 2 ^ 64 → Tightest (Image (alu 64 Mul) a b) (product_range a b)
  pub quotient : 0 < b.lo → Tightest (Image (alu 64 Div) a b) (quotient_range a b)
  pub left : a.hi * 2 ^ b.hi < 2 ^ 64 → Tightest (Image (alu 64 Lsh) a b) (left_range a b)
  pub right : Tightest (Image (alu 64 Rsh) a b) (crossed 64 Rsh a b)

-- ---- loads, accesses and joins
pub record OfMemory : Type 0 where
  pub loaded_range : (k : ℕ) → (loaded k).range ≡ record { lo = 0; hi = 2 ^ (8 * k) - 1 }
  pub loaded_bits : (k : ℕ) → (loaded k).bits ≡ record { value = 0; mask = 2 ^ (8 * k) - 1 }
  pub exact_range : (n : ℕ) → (exact n).range ≡ record { lo = n; hi = n }
  pub exact_bits : (n : ℕ) → (exact n).bits ≡ record { value = n; mask = 0 }
  -- an access fits if and only if its last byte at the highest offset lies below the limit
  pub fits_exactly : (offset : Number) (size limit : ℕ) → (fits offset size limit ≡ true) ↔ (offset.range.hi + size ≤ limit)

pub record OfJoins (a b : Number) : Type 0 where
  pub covers_left : (x : ℕ) → In a x → In (joined_number a b) x
  pub covers_right : (x : ℕ) → In b x → In (joined_number a b) x
  pub range : (joined_number a b).range ≡ record { lo = min a.range.lo b.range.lo; hi = max a.range.hi b.range.hi }
  pub bits : Well 64 a.bits → Well 64 b.bits → Best 64 (Either a.bits b.bits) (joined_number a b).bits

-- ---- either way out of a comparison
pub record OfJumps (c : Comparison) (way : Bool) : Type 0 where
  -- what goes the way is kept, and nothing is forgotten
  pub sound : (d s : Number) (x y : ℕ) → In d x → In s y → compare 64 c x y ≡ way → Kept (refined c way d s) x y
  pub narrower : (d s : Number) → Well 64 d.bits → Well 64 s.bits → Left (refined c way d s) (λ d' s'. Narrower d' d × Narrower s' s)
  -- against a number that is known: the least range of those that go it, and excluded if none does
  pub tightest : Unsigned c → (d : Number) (k : ℕ) → d.range.hi < 2 ^ 64 → k < 2 ^ 64
      → Left (refined c way d (exact k)) (λ d' s'. Tightest (Going c way d.range k) d'.range)
  pub excluded_if_none_goes : Unsigned c → (d : Number) (k : ℕ) → d.range.hi < 2 ^ 64 → k < 2 ^ 64
      → ((x : ℕ) → Going c way d.range k x → ⊥) → refined c way d (exact k) ≡ None
  -- excluded if no pair of the ranges, or of the known bits, goes it; with a sign too
  pub excluded_by_ranges : ¬ (c ≡ Set) → (d s : Number) → Well 64 d.bits → Well 64 s.bits → d.range.hi < 2 ^ 64 → s.range.hi < 2 ^ 64
      → ((x y : ℕ) → Within d.range x → Within s.range y → compare 64 c x y ≡ way → ⊥) → refined c way d s ≡ None
  pub excluded_by_bits : ¬ (c ≡ Set) → (d s : Number) → Well 64 d.bits → Well 64 s.bits
      → ((x y : ℕ) → Mem 64 d.bits x → Mem 64 s.bits y → compare 64 c x y ≡ way → ⊥) → refined c way d s ≡ None
  pub exact_excluded : (x y : ℕ) → x < 2 ^ 64 → y < 2 ^ 64 → compare 64 c x y ≡ not way → refined c way (exact x) (exact y) ≡ None

-- what a way tells of both operands, if neither is known
pub record OfBoth (d s : Number) : Type 0 where
  pub gt_taken : Left (refined Gt true d s) (λ d' s'. Ordered 1 s d s' d')
  pub ge_taken : Left (refined Ge true d s) (λ d' s'. Ordered 0 s d s' d')
  pub lt_taken : Left (refined Lt true d s) (Ordered 1 d s)
  pub le_taken : Left (refined Le true d s) (Ordered 0 d s)
  pub gt_not_taken : Left (refined Gt false d s) (Ordered 0 d s)
  pub ge_not_taken : Left (refined Ge false d s) (Ordered 1 d s)
  pub lt_not_taken : Left (refined Lt false d s) (λ d' s'. Ordered 0 s d s' d')
  pub le_not_taken : Left (refined Le false d s) (λ d' s'. Ordered 1 s d s' d')
  -- equal numbers are each what is known of either
  pub eq_taken : Left (refined Eq true d s) (λ d' s'. Narrower d' s × Narrower s' d)
  pub ne_not_taken : Left (refined Ne false d s) (λ d' s'. Narrower d' s × Narrower s' d)
  -- a signed order is that of the moved numbers
  pub signed : (c o : Comparison) → Signed c o → (way : Bool)
      → Left (refined c way d s) (RaisedBy (refined o way (raised d) (raised s)))
  -- JSET not taken: neither has a bit that the other is known to have
  pub jset_not_taken : Left (refined Set false d s) (λ d' s'. (x : ℕ) → Mem 64 d'.bits x → bit_and x s.bits.value ≡ 0)
  pub jset_excluded : (way : Bool) → ((x y : ℕ) → Mem 64 d.bits x → Mem 64 s.bits y → compare 64 Set x y ≡ way → ⊥)
      → refined Set way d s ≡ None

-- the same of low halves (class 6), and nothing about the upper ones
pub record OfLowHalves (c : Comparison) (way : Bool) : Type 0 where
  pub sound : (d s : Number) (x y : ℕ) → In d x → In s y → compare 32 c x y ≡ way → Kept (refined32 c way d s) x y
  pub narrower : (d s : Number) → Well 64 d.bits → Well 64 s.bits → Left (refined32 c way d s) (λ d' s'. Narrower d' d × Narrower s' s)
  pub upper : (d s : Number) → Left (refined32 c way d s) (λ d' s'. UpperKept d' d × UpperKept s' s)
  -- without a sign: what class 5 leaves of the low halves is what is known of the low 32 bits
  pub low_bits : Unsigned c ⊎ (c ≡ Set) → (d s : Number) → Well 64 d.bits → Well 64 s.bits
      → Left (refined32 c way d s) (BoundedBy (refined c way (computed 32 Mov d d) (computed 32 Mov s s)))
  pub low_ranges : Unsigned c ⊎ (c ≡ Set) → (d s : Number) → Well 64 d.bits → Well 64 s.bits
      → Left (refined32 c way d s) (RangesBoundedBy d s (refined c way (computed 32 Mov d d) (computed 32 Mov s s)))
  -- with a sign: what the order of the moved halves leaves
  pub signed : (o : Comparison) → Signed c o → (d s : Number) → Well 64 d.bits → Well 64 s.bits
      → Left (refined32 c way d s) (HalvesRaisedBy d s (refined o way (raised_half d) (raised_half s)))
  pub tightest : Unsigned c → (d : Number) (k : ℕ) → Below (2 ^ 32) d.range → k < 2 ^ 64
      → Left (refined32 c way d (exact k)) (λ d' s'. Tightest (Going32 c way d.range k) d'.range)
  pub excluded_if_none_goes : Unsigned c → (d : Number) (k : ℕ) → Below (2 ^ 32) d.range → k < 2 ^ 64
      → ((x : ℕ) → Going32 c way d.range k x → ⊥) → refined32 c way d (exact k) ≡ None
  pub excluded_by_bits : ¬ (c ≡ Set) → (d s : Number) → Well 64 d.bits → Well 64 s.bits
      → ((x y : ℕ) → Mem 64 d.bits x → Mem 64 s.bits y → compare 32 c x y ≡ way → ⊥) → refined32 c way d s ≡ None
  pub exact_excluded : (x y : ℕ) → x < 2 ^ 64 → y < 2 ^ 64 → compare 32 c x y ≡ not way → refined32 c way (exact x) (exact y) ≡ None

-- JSET not taken: what is left has none of the operand's bits
pub record OfJset (d : Number) (k : ℕ) : Type 0 where
  pub clears : Left (refined Set false d (exact k)) (λ d' s'. (x : ℕ) → Mem 64 d'.bits x → bit_and x k ≡ 0)
  pub clears32 : Left (refined32 Set false d (exact k)) (λ d' s'. (x : ℕ) → Mem 64 d'.bits x → bit_and (cut 32 x) (cut 32 k) ≡ 0)

-- ---- all of it
pub record Demanded : Type 0 where
  pub operations : OfOperations
  pub ranges : (w : ℕ) → Wide w → (a b : Number) → (modulo (2 ^ w) a).lo ≤ (modulo (2 ^ w) a).hi → (modulo (2 ^ w) b).lo ≤ (modulo (2 ^ w) b).hi
      → (modulo w b).lo ≤ (modulo w b).hi → OfRanges w a b (modulo (2 ^ w) a) (modulo (2 ^ w) b) (modulo w b)
  pub cuts : (m : ℕ) (n : Number) → OfCuts m n
  pub sharpening : (w : ℕ) (op : Operation) (a b : Number)
      → OfSharpening (calculated w op a.bits b.bits) (computed_range w op a b) (computed w op a b)
  pub least_ranges : (a b : Range) → a.lo ≤ a.hi → b.lo ≤ b.hi → LeastRanges a b
  pub memory : OfMemory
  pub joins : (a b : Number) → OfJoins a b
  pub jumps : (c : Comparison) (way : Bool) → OfJumps c way
  pub both : (d s : Number) → Well 64 d.bits → Well 64 s.bits → OfBoth d s
  pub low_halves : (c : Comparison) (way : Bool) → OfLowHalves c way
  pub jset : (d : Number) (k : ℕ) → Well 64 d.bits → k < 2 ^ 64 → OfJset d k
