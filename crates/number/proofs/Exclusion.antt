-- A way that is not excluded could be gone, by the ranges alone and by the known bits alone: so a way on which no pair of the ranges goes is
-- excluded, and so is one on which no pair of the known bits goes.
use mathlib.Core.Path.{◌≡◌, refl, ◌∙◌}
use mathlib.Core.Bool.{Bool, true, false}
use Prim.Native.Nat.{ℕ, ◌^◌, ◌<◌, max}
use native.Mathlib.Nat.{lt_of_le_of_lt}
use native.Mathlib.Omega.{arith}
use Rattle.std.specs.Prelude.{None}
use Rattle.word.specs.Word.{compare}
use Rattle.word.specs.declared.Comparison.{Comparison}
use Rattle.word.specs.declared.Comparison.TheVariants.{Set}
use Rattle.known_bits.specs.KnownBits.{Well, Mem}
use Rattle.known_bits.specs.Pair.{top}
use Rattle.known_bits.proofs.Tight.{mem_least, mem_top}
use Rattle.number.specs.declared.Range.{Range}
use Rattle.number.specs.declared.Number.{Number}
use Rattle.number.specs.Meaning.{Within, Left}
use Rattle.number.specs.Compare.{common, equal, ordered, unequal, disjoint, overlapping, signed_ordered, resharpened, refined}
use Rattle.number.proofs.Outcomes.{NotEmpty, Sharper, left_map, nothing_left, exchanged_leaves}
use Rattle.number.proofs.Relations.{Relation, Below, SignedBelow, Exchanged, Same, Different, Disjoint, Overlapping, Holds, Ordering, told, relation, refined_is_told, all_but_set_are_orderings}
use Rattle.number.proofs.WordsGo.{goes_if_it_holds}
use Rattle.number.proofs.Orders.{OrderLeft, ordered_leaves, bounds_within_range, bounds_within_ends, ends}
use Rattle.number.proofs.Equality.{equal_leaves_ranges, equal_leaves_bits, RangesLeft, BitsLeft, unequal_leaves, unequal_ends, UnequalLeft}
use Rattle.number.proofs.SharedBits.{disjoint_leaves, DisjointLeft, overlapping_leaves, OverlapLeft, resharpened_form}
use Rattle.number.proofs.Signs.{signed_ordered_leaves, SignedLeft, turned_ends_of_bits, turned_ends_of_range, signed_ends_go}

-- some number of S stands in the relation to one of T
abbrev pub Possibly : Relation → (ℕ → Type 0) → (ℕ → Type 0) → Type 0
Possibly r S T = (x : ℕ) × (y : ℕ) × S x × T y × Holds r x y

exchanged_possibly : (r : Relation) (S T : ℕ → Type 0) → Possibly r S T → Possibly (Exchanged r) T S
exchanged_possibly r S T h = (h.1, h.0, h.3, h.2, h.4)

-- ---- by ranges
ends_of_some : (r : Range) → NotEmpty r → Within r r.lo × Within r r.hi
ends_of_some r s = (record { low = omega arith; high = s }, record { low = s; high = omega arith })

-- what is left is not empty, so what was there is not
some_before : (d s d' s' : Number) → Sharper d s d' s' → NotEmpty d.range × NotEmpty s.range
some_before d s d' s' h =
    let a = h.first.range in
    let b = h.second.range in
    let u = h.some_first in
    let v = h.some_second in
    (omega arith, omega arith)

-- equal numbers: the greater of the two lower ends
in_common : (u v : Range) (d' s' : Number) → RangesLeft (common u v) d' s' → Possibly Same (Within u) (Within v)
unfolding common
in_common u v d' s' h =
    let a = h.first in
    let b = h.some_first in
    let w : Within u (max u.lo v.lo) = record { low = omega arith; high = omega arith } in
    let z : Within v (max u.lo v.lo) = record { low = omega arith; high = omega arith } in
    (max u.lo v.lo, max u.lo v.lo, w, z, refl)

pub possible_by_ranges : (r : Relation) → Ordering r → (d s : Number) → Well 64 d.bits → Well 64 s.bits → d.range.hi < 2 ^ 64 → s.range.hi < 2 ^ 64
    → Left (told r d s) (λ d' s'. Possibly r (Within d.range) (Within s.range))
possible_by_ranges (Below gap) o d s gd gs hd hs =
    left_map (ordered gap d s) (OrderLeft gap d s) (λ d' s'. Possibly (Below gap) (Within d.range) (Within s.range))
    (λ d' s' h.
    let e = some_before d s d' s' h.sharper in
    let a = h.allowed in
    let i = bounds_within_range d in
    let j = bounds_within_range s in
    (d.range.lo, s.range.hi, (ends_of_some d.range e.0).0, (ends_of_some s.range e.1).1, omega arith))
    (ordered_leaves gap d s)
possible_by_ranges (SignedBelow gap) o d s gd gs hd hs =
    left_map (signed_ordered gap d s) (SignedLeft gap d s) (λ d' s'. Possibly (SignedBelow gap) (Within d.range) (Within s.range))
    (λ d' s' h. signed_ends_go gap d s (Within d.range) (Within s.range)
    (turned_ends_of_range d gd h.some_bounds_first hd) (turned_ends_of_range s gs h.some_bounds_second hs) h.allowed)
    (signed_ordered_leaves gap d s gd gs)
possible_by_ranges (Exchanged r) o d s gd gs hd hs =
    exchanged_leaves (told r s d) (λ d' s'. Possibly (Exchanged r) (Within d.range) (Within s.range))
    (left_map (told r s d) (λ s' d'. Possibly r (Within s.range) (Within d.range)) (λ s' d'. Possibly (Exchanged r) (Within d.range) (Within s.range))
    (λ s' d'. exchanged_possibly r (Within s.range) (Within d.range))
    (possible_by_ranges r o s d gs gd hs hd))
possible_by_ranges Same o d s gd gs hd hs =
    left_map (equal d s) (RangesLeft (common d.range s.range)) (λ d' s'. Possibly Same (Within d.range) (Within s.range))
    (λ d' s' h. in_common d.range s.range d' s' h) (equal_leaves_ranges d s)
possible_by_ranges Different o d s gd gs hd hs =
    left_map (unequal d s) (UnequalLeft d s) (λ d' s'. Possibly Different (Within d.range) (Within s.range))
    (λ d' s' h.
    let e = some_before d s d' s' h.sharper in
    let p = ends_of_some d.range e.0 in
    let q = ends_of_some s.range e.1 in
    unequal_ends d s d' s' d.range s.range (bounds_within_range d) (bounds_within_range s) h
    (Within d.range) (Within s.range) p.0 p.1 q.0 q.1)
    (unequal_leaves d s)
possible_by_ranges Disjoint o d s gd gs hd hs = absurd o
possible_by_ranges Overlapping o d s gd gs hd hs = absurd o

pub excluded_by_ranges : (c : Comparison) (way : Bool) (d s : Number) → ¬ (c ≡ Set) → Well 64 d.bits → Well 64 s.bits
    → d.range.hi < 2 ^ 64 → s.range.hi < 2 ^ 64
    → ((x y : ℕ) → Within d.range x → Within s.range y → compare 64 c x y ≡ way → ⊥) → refined c way d s ≡ None
excluded_by_ranges c way d s n gd gs hd hs none =
    refined_is_told c way d s
    ∙ nothing_left (told (relation c way) d s) _
    (possible_by_ranges (relation c way) (all_but_set_are_orderings c way n) d s gd gs hd hs)
    (λ p. none p.0 p.1 p.2 p.3
    ((goes_if_it_holds c way p.0 p.1 (lt_of_le_of_lt p.2.high hd) (lt_of_le_of_lt p.3.high hs)).1 p.4))

-- ---- by known bits
pub possible_by_bits : (r : Relation) → Ordering r → (d s : Number) → Well 64 d.bits → Well 64 s.bits
    → Left (told r d s) (λ d' s'. Possibly r (Mem 64 d.bits) (Mem 64 s.bits))
possible_by_bits (Below gap) o d s gd gs =
    left_map (ordered gap d s) (OrderLeft gap d s) (λ d' s'. Possibly (Below gap) (Mem 64 d.bits) (Mem 64 s.bits))
    (λ d' s' h.
    let a = h.allowed in
    let i = bounds_within_ends d in
    let j = bounds_within_ends s in
    (d.bits.value, top s.bits, mem_least 64 d.bits gd, mem_top 64 s.bits gs, omega arith))
    (ordered_leaves gap d s)
possible_by_bits (SignedBelow gap) o d s gd gs =
    left_map (signed_ordered gap d s) (SignedLeft gap d s) (λ d' s'. Possibly (SignedBelow gap) (Mem 64 d.bits) (Mem 64 s.bits))
    (λ d' s' h. signed_ends_go gap d s (Mem 64 d.bits) (Mem 64 s.bits) (turned_ends_of_bits d gd) (turned_ends_of_bits s gs) h.allowed)
    (signed_ordered_leaves gap d s gd gs)
possible_by_bits (Exchanged r) o d s gd gs =
    exchanged_leaves (told r s d) (λ d' s'. Possibly (Exchanged r) (Mem 64 d.bits) (Mem 64 s.bits))
    (left_map (told r s d) (λ s' d'. Possibly r (Mem 64 s.bits) (Mem 64 d.bits)) (λ s' d'. Possibly (Exchanged r) (Mem 64 d.bits) (Mem 64 s.bits))
    (λ s' d'. exchanged_possibly r (Mem 64 s.bits) (Mem 64 d.bits))
    (possible_by_bits r o s d gs gd))
possible_by_bits Same o d s gd gs =
    left_map (equal d s) (BitsLeft d.bits s.bits) (λ d' s'. Possibly Same (Mem 64 d.bits) (Mem 64 s.bits))
    (λ d' s' h. let e = h.some in (e.0, e.0, e.1.0, e.1.1, refl)) (equal_leaves_bits d s gd gs)
possible_by_bits Different o d s gd gs =
    left_map (unequal d s) (UnequalLeft d s) (λ d' s'. Possibly Different (Mem 64 d.bits) (Mem 64 s.bits))
    (λ d' s' h. unequal_ends d s d' s' (ends d.bits) (ends s.bits) (bounds_within_ends d) (bounds_within_ends s) h
    (Mem 64 d.bits) (Mem 64 s.bits) (mem_least 64 d.bits gd) (mem_top 64 d.bits gd) (mem_least 64 s.bits gs) (mem_top 64 s.bits gs))
    (unequal_leaves d s)
possible_by_bits Disjoint o d s gd gs = absurd o
possible_by_bits Overlapping o d s gd gs = absurd o

pub excluded_by_bits : (c : Comparison) (way : Bool) (d s : Number) → ¬ (c ≡ Set) → Well 64 d.bits → Well 64 s.bits
    → ((x y : ℕ) → Mem 64 d.bits x → Mem 64 s.bits y → compare 64 c x y ≡ way → ⊥) → refined c way d s ≡ None
excluded_by_bits c way d s n gd gs none =
    refined_is_told c way d s
    ∙ nothing_left (told (relation c way) d s) _ (possible_by_bits (relation c way) (all_but_set_are_orderings c way n) d s gd gs)
    (λ p. none p.0 p.1 p.2 p.3 ((goes_if_it_holds c way p.0 p.1 p.2.fits p.3.fits).1 p.4))

-- ---- JSET, by the known bits that ranges have sharpened
pub possible_by_sharpened_bits : (way : Bool) (d s : Number) → Well 64 d.bits → Well 64 s.bits
    → Left (told (relation Set way) d s) (λ d' s'. Possibly (relation Set way) (Mem 64 (resharpened d).bits) (Mem 64 (resharpened s).bits))
possible_by_sharpened_bits true d s gd gs =
    left_map (overlapping d s) (OverlapLeft (resharpened d) (resharpened s))
    (λ d' s'. Possibly Overlapping (Mem 64 (resharpened d).bits) (Mem 64 (resharpened s).bits))
    (λ d' s' h. (
      top (resharpened d).bits,
      top (resharpened s).bits,
      mem_top 64 (resharpened d).bits (resharpened_form d gd),
      mem_top 64 (resharpened s).bits (resharpened_form s gs),
      h.some,
    ))
    (overlapping_leaves d s)
possible_by_sharpened_bits false d s gd gs =
    left_map (disjoint d s) (DisjointLeft (resharpened d) (resharpened s))
    (λ d' s'. Possibly Disjoint (Mem 64 (resharpened d).bits) (Mem 64 (resharpened s).bits)) (λ d' s' h. h.some) (disjoint_leaves d s gd gs)

pub set_excluded_by_bits : (way : Bool) (d s : Number) → Well 64 d.bits → Well 64 s.bits
    → ((x y : ℕ) → Mem 64 (resharpened d).bits x → Mem 64 (resharpened s).bits y → compare 64 Set x y ≡ way → ⊥) → refined Set way d s ≡ None
set_excluded_by_bits way d s gd gs none =
    refined_is_told Set way d s
    ∙ nothing_left (told (relation Set way) d s) _ (possible_by_sharpened_bits way d s gd gs)
    (λ p. none p.0 p.1 p.2 p.3 ((goes_if_it_holds Set way p.0 p.1 p.2.fits p.3.fits).1 p.4))
