-- How sharp `refined` is against a number that is known: the new range is the least that covers what goes the way, JSET leaves no bit of
-- the number, and two known numbers stay as they are.
use mathlib.Core.Path.{◌≡◌, refl, sym, ap₂, ◌∙◌, subst}
use mathlib.Core.Bool.{Bool, true, false, not, false≢true, true≢false}
use Prim.Native.Nat.{ℕ, ◌+◌, ◌-◌, ◌^◌, ◌≤◌, ◌<◌}
use native.Mathlib.Nat.{lt_of_le_of_lt}
use native.Mathlib.Decide.{ℕ_discrete}
use native.Mathlib.Omega.{arith}
use lib.Bits.{bit_and, or_zero_r}
use Rattle.std.specs.Prelude.{Some, None}
use Rattle.word.specs.Word.{compare}
use Rattle.word.specs.declared.Comparison.{Comparison}
use Rattle.word.specs.declared.Comparison.TheVariants.{Set}
use Rattle.known_bits.specs.declared.Bits.{Bits}
use Rattle.known_bits.specs.KnownBits.{Well, Mem, Best}
use Rattle.known_bits.specs.Pair.{exactly}
use Rattle.known_bits.proofs.Laws.{unique, exact_mem}
use Rattle.number.specs.declared.Range.{Range}
use Rattle.number.specs.declared.Number.{Number}
use Rattle.number.specs.Refined.{Refined}
use Rattle.number.specs.Meaning.{Within, In, Narrower, Tightest, Kept, Left, Going}
use Rattle.number.specs.Sharpen.{narrowed, exact, just}
use Rattle.number.specs.Compare.{bounds, common, equal, ordered, unequal, disjoint, resharpened, refined}
use Rattle.number.proofs.Sharpening.{sharpened_exact}
use Rattle.number.proofs.Outcomes.{left_map, nothing_left, exchanged_leaves}
use Rattle.number.proofs.Relations.{Relation, Below, SignedBelow, Exchanged, Same, Different, Disjoint, Overlapping, Holds, Ordering, told, relation, refined_is_told, Unsigned, Plain, below, above, same, different, unsigned_is_plain}
use Rattle.number.proofs.WordsGo.{goes_if_it_holds}
use Rattle.number.proofs.Orders.{OrderLeft, ordered_leaves, bounds_within_range}
use Rattle.number.proofs.Equality.{equal_leaves_ranges, RangesLeft, unequal_leaves, UnequalLeft}
use Rattle.number.proofs.SharedBits.{disjoint_leaves, DisjointLeft}
use Rattle.number.proofs.Signs.{exact_has}
use Rattle.number.proofs.Compare.{refined_sound, refined_narrower}
use Rattle.number.proofs.Exclusion.{Possibly, possible_by_ranges, possible_by_sharpened_bits}

-- ---- a range that lies between two numbers of a set is within any range that has the set
record Reached (S : ℕ → Type 0) (t : Range) : Type 0 where
  least : ℕ
  greatest : ℕ
  least_in : S least
  greatest_in : S greatest
  low : least ≤ t.lo
  high : t.hi ≤ greatest

reached_is_tightest : (S : ℕ → Type 0) (t : Range) → Reached S t → Tightest S t
reached_is_tightest S t h q covers =
    record { low = omega (arith, (covers h.least h.least_in).low, h.low); high = omega (arith, (covers h.greatest h.greatest_in).high, h.high) }

own_ends_reach : (S : ℕ → Type 0) (t : Range) → S t.lo → S t.hi → Reached S t
own_ends_reach S t l h = record { least = t.lo; greatest = t.hi; least_in = l; greatest_in = h; low = omega arith; high = omega arith }

-- the numbers of a range that stand in a relation to k
abbrev Standing : Relation → Range → ℕ → ℕ → Type 0
Standing r u k x = Within u x × Holds r x k

exact_bounds : (k : ℕ) → ((bounds (exact k)).lo ≡ k) × ((bounds (exact k)).hi ≡ k)
unfolding bounds narrowed exact just
exact_bounds k = (omega arith, omega (arith, or_zero_r k))

-- ---- what each relation reaches
below_reaches : (gap : ℕ) (d d' s' : Number) (k : ℕ) → OrderLeft gap d (exact k) d' s' → Reached (Standing (Below gap) d.range k) d'.range
unfolding exact just
below_reaches gap d d' s' k h =
    let a = h.sharper.first.range in
    let b = h.sharper.some_first in
    let c = h.highest in
    own_ends_reach (Standing (Below gap) d.range k) d'.range
    (record { low = omega arith; high = omega arith }, omega arith) (record { low = omega arith; high = omega arith }, omega arith)

above_reaches : (gap : ℕ) (d d' s' : Number) (k : ℕ) → OrderLeft gap (exact k) d s' d' → Reached (Standing (Exchanged (Below gap)) d.range k) d'.range
unfolding exact just
above_reaches gap d d' s' k h =
    let a = h.sharper.second.range in
    let b = h.sharper.some_second in
    let c = h.lowest in
    own_ends_reach (Standing (Exchanged (Below gap)) d.range k) d'.range
    (record { low = omega arith; high = omega arith }, omega arith) (record { low = omega arith; high = omega arith }, omega arith)

same_reaches : (d d' s' : Number) (k : ℕ) → RangesLeft (common d.range (just k)) d' s' → Reached (Standing Same d.range k) d'.range
unfolding common just
same_reaches d d' s' k h =
    let a = h.first in
    let b = h.some_first in
    own_ends_reach (Standing Same d.range k) d'.range
    (record { low = omega arith; high = omega arith }, omega arith) (record { low = omega arith; high = omega arith }, omega arith)

same_reaches_exact : (d d' s' : Number) (k : ℕ) → RangesLeft (common d.range (exact k).range) d' s' → Reached (Standing Same d.range k) d'.range
unfolding exact
same_reaches_exact d d' s' k h = same_reaches d d' s' k h

module _ (d d' s' : Number) (k : ℕ) (h : UnequalLeft d (exact k) d' s') where
  -- k is no end of what is left
  above_lower_end : d.range.lo ≡ k → k < d'.range.lo
  above_lower_end e = go (ℕ_discrete (bounds d).lo k)
    where
      go : Dec ((bounds d).lo ≡ k) → k < d'.range.lo
      go (yes i) =
          let b = exact_bounds k in
          omega (arith, b.0, h.first.no_lower_end (omega (arith, b.0, b.1)) (omega (arith, i, b.0)))
      go (no i) =
          let w = h.first.within in
          let v = bounds_within_range d in
          omega arith

  below_upper_end : d.range.hi ≡ k → d'.range.hi < k
  below_upper_end e = go (ℕ_discrete (bounds d).hi k)
    where
      go : Dec ((bounds d).hi ≡ k) → d'.range.hi < k
      go (yes i) =
          let b = exact_bounds k in
          omega (arith, b.0, h.first.no_upper_end (omega (arith, b.0, b.1)) (omega (arith, i, b.0)))
      go (no i) =
          let w = h.first.within in
          let v = bounds_within_range d in
          omega arith

  lower_end : (l : ℕ) × Standing Different d.range k l × (l ≤ d'.range.lo)
  lower_end = go (ℕ_discrete d.range.lo k)
    where
      go : Dec (d.range.lo ≡ k) → (l : ℕ) × Standing Different d.range k l × (l ≤ d'.range.lo)
      go (yes e) =
          let a = h.sharper.first.range in
          let b = h.sharper.some_first in
          let c = above_lower_end e in
          (k + 1, (record { low = omega arith; high = omega arith }, λ i. omega arith), omega arith)
      go (no e) =
          let a = h.sharper.first.range in
          let b = h.sharper.some_first in
          (d.range.lo, (record { low = omega arith; high = omega arith }, e), omega arith)

  upper_end : (u : ℕ) × Standing Different d.range k u × (d'.range.hi ≤ u)
  upper_end = go (ℕ_discrete d.range.hi k)
    where
      go : Dec (d.range.hi ≡ k) → (u : ℕ) × Standing Different d.range k u × (d'.range.hi ≤ u)
      go (yes e) =
          let a = h.sharper.first.range in
          let b = h.sharper.some_first in
          let c = below_upper_end e in
          (k - 1, (record { low = omega arith; high = omega arith }, λ i. omega arith), omega arith)
      go (no e) =
          let a = h.sharper.first.range in
          let b = h.sharper.some_first in
          (d.range.hi, (record { low = omega arith; high = omega arith }, e), omega arith)

  different_reaches : Reached (Standing Different d.range k) d'.range
  different_reaches =
      record { least = lower_end.0; greatest = upper_end.0; least_in = lower_end.1; greatest_in = upper_end.1; low = lower_end.2; high = upper_end.2 }

told_reaches : {r : Relation} → Plain r → (d : Number) (k : ℕ) → Left (told r d (exact k)) (λ d' s'. Reached (Standing r d.range k) d'.range)
told_reaches (below gap) d k =
    left_map (ordered gap d (exact k)) (OrderLeft gap d (exact k)) (λ d' s'. Reached (Standing (Below gap) d.range k) d'.range)
    (λ d' s'. below_reaches gap d d' s' k) (ordered_leaves gap d (exact k))
told_reaches (above gap) d k =
    exchanged_leaves (ordered gap (exact k) d) (λ d' s'. Reached (Standing (Exchanged (Below gap)) d.range k) d'.range)
    (left_map (ordered gap (exact k) d) (OrderLeft gap (exact k) d) (λ s' d'. Reached (Standing (Exchanged (Below gap)) d.range k) d'.range)
    (λ s' d'. above_reaches gap d d' s' k) (ordered_leaves gap (exact k) d))
told_reaches same d k =
    left_map (equal d (exact k)) (RangesLeft (common d.range (exact k).range)) (λ d' s'. Reached (Standing Same d.range k) d'.range)
    (λ d' s'. same_reaches_exact d d' s' k) (equal_leaves_ranges d (exact k))
told_reaches different d k =
    left_map (unequal d (exact k)) (UnequalLeft d (exact k)) (λ d' s'. Reached (Standing Different d.range k) d'.range)
    (λ d' s'. different_reaches d d' s' k) (unequal_leaves d (exact k))

-- ---- against a number that is known
module _ (c : Comparison) (way : Bool) (unsigned : Unsigned c) (d : Number) (k : ℕ) (words : d.range.hi < 2 ^ 64) (word : k < 2 ^ 64) where
  standing_goes : (x : ℕ) → Standing (relation c way) d.range k x → Going c way d.range k x
  standing_goes x h = (h.0, (goes_if_it_holds c way x k (lt_of_le_of_lt h.0.high words) word).1 h.1)

  reached : Left (told (relation c way) d (exact k)) (λ d' s'. Reached (Standing (relation c way) d.range k) d'.range)
  reached = told_reaches (unsigned_is_plain way unsigned) d k

  -- where no number of the range goes the way, the way is excluded
  pub excluded_if_none_goes : ((x : ℕ) → Going c way d.range k x → ⊥) → refined c way d (exact k) ≡ None
  excluded_if_none_goes none =
      refined_is_told c way d (exact k)
      ∙ nothing_left (told (relation c way) d (exact k)) ((x : ℕ) × Standing (relation c way) d.range k x)
      (left_map (told (relation c way) d (exact k)) (λ d' s'. Reached (Standing (relation c way) d.range k) d'.range)
      (λ d' s'. (x : ℕ) × Standing (relation c way) d.range k x) (λ d' s' h. (h.least, h.least_in)) reached)
      (λ p. none p.0 (standing_goes p.0 p.1))

  -- otherwise the new range is within any that has all numbers of the range that go it
  pub refined_tightest : Left (refined c way d (exact k)) (λ d' s'. Tightest (Going c way d.range k) d'.range)
  refined_tightest =
      rw (refined_is_told c way d (exact k))
      (left_map (told (relation c way) d (exact k)) (λ d' s'. Reached (Standing (relation c way) d.range k) d'.range)
      (λ d' s'. Tightest (Going c way d.range k) d'.range)
      (λ d' s' h q covers. reached_is_tightest (Standing (relation c way) d.range k) d'.range h q (λ x i. covers x (standing_goes x i)))
      reached)

-- ---- JSET not taken
resharpened_exact : (k : ℕ) → resharpened (exact k) ≡ exact k
unfolding resharpened exact just
resharpened_exact k = sharpened_exact (exactly k) (just k) k refl (record { low = omega arith; high = omega arith })

pub set_not_taken_clears : (d : Number) (k : ℕ) → Well 64 d.bits → k < 2 ^ 64
    → Left (refined Set false d (exact k)) (λ d' s'. (x : ℕ) → Mem 64 d'.bits x → bit_and x k ≡ 0)
unfolding exact
set_not_taken_clears d k g l =
    rw (refined_is_told Set false d (exact k))
    (left_map (disjoint d (exact k)) (DisjointLeft (resharpened d) (resharpened (exact k))) (λ d' s'. (x : ℕ) → Mem 64 d'.bits x → bit_and x k ≡ 0)
    (λ d' s' h x m. subst (λ (n : Number). bit_and x n.bits.value ≡ 0) (resharpened_exact k) (h.none_shared x m))
    (disjoint_leaves d (exact k) g (exact_has k l).form))

-- ---- two numbers that are known
one_number_is_best : (p : Bits) (x : ℕ) → Well 64 p → Mem 64 p x → ((z : ℕ) → Mem 64 p z → z ≡ x) → Best 64 (λ z. z ≡ x) p
one_number_is_best p x g m only =
    record { well = g; sound = λ z e. subst (λ (n : ℕ). Mem 64 p n) (sym e) m; least = λ q gq hq z mz. hq z (only z mz) }

-- what is left of a known number is that number
left_of_exact : (n : Number) (x : ℕ) → Narrower n (exact x) → In n x → n ≡ exact x
unfolding exact just
left_of_exact n x h i =
    λ j. record {
      bits = unique 64 (λ z. z ≡ x) n.bits (exactly x)
          (one_number_is_best n.bits x i.form i.bits (λ z m. only z (h.bits z m))) (one_number_is_best (exactly x) x form (exact_has x fits).bits only) j;
      range = record { lo = low_end j; hi = high_end j };
    }
  where
    fits : x < 2 ^ 64
    fits = i.bits.fits

    form : Well 64 (exactly x)
    form = (exact_has x fits).form

    only : (z : ℕ) → Mem 64 (exactly x) z → z ≡ x
    only z m = (exact_mem 64 (exactly x) form refl z).0 m

    low_end : n.range.lo ≡ x
    low_end = omega (arith, h.range, i.range)

    high_end : n.range.hi ≡ x
    high_end = omega (arith, h.range, i.range)

pub refined_exact : (c : Comparison) (way : Bool) (x y : ℕ) → x < 2 ^ 64 → y < 2 ^ 64 → compare 64 c x y ≡ way
    → refined c way (exact x) (exact y) ≡ Some (exact x, exact y)
refined_exact c way x y hx hy e =
    both (refined c way (exact x) (exact y)) (refined_sound c way (exact x) (exact y) x y (exact_has x hx) (exact_has y hy) e)
    (refined_narrower c way (exact x) (exact y) (exact_has x hx).form (exact_has y hy).form)
  where
    both : (r : Refined) → Kept r x y → Left r (λ d' s'. Narrower d' (exact x) × Narrower s' (exact y)) → r ≡ Some (exact x, exact y)
    both None k h = absurd k
    both (Some (d', s')) k h = ap₂ (λ (m n : Number). Some (m, n)) (left_of_exact d' x h.0 k.0) (left_of_exact s' y h.1 k.1)

at_exact : (r : Relation) (S T : ℕ → Type 0) (x y : ℕ) → ((z : ℕ) → S z → z ≡ x) → ((z : ℕ) → T z → z ≡ y) → Possibly r S T → Holds r x y
at_exact r S T x y is_x is_y p =
    subst (λ (z : ℕ). Holds r z y) (is_x p.0 p.2) (subst (λ (z : ℕ). Holds r p.0 z) (is_y p.1 p.3) p.4)

only_exact : (x z : ℕ) → Within (exact x).range z → z ≡ x
unfolding exact just
only_exact x z w = omega arith

only_exact_bits : (x : ℕ) → x < 2 ^ 64 → (z : ℕ) → Mem 64 (resharpened (exact x)).bits z → z ≡ x
unfolding exact
only_exact_bits x h z m =
    (exact_mem 64 (exactly x) (exact_has x h).form refl z).0 (subst (λ (n : Number). Mem 64 n.bits z) (resharpened_exact x) m)

-- a way that is left for two known numbers is the one that they go
module _ (x y : ℕ) (hx : x < 2 ^ 64) (hy : y < 2 ^ 64) where
  exact_orderings : (r : Relation) → Ordering r → Left (told r (exact x) (exact y)) (λ d' s'. Holds r x y)
  unfolding exact just
  exact_orderings r o =
      left_map (told r (exact x) (exact y)) (λ d' s'. Possibly r (Within (exact x).range) (Within (exact y).range)) (λ d' s'. Holds r x y)
      (λ d' s'. at_exact r (Within (exact x).range) (Within (exact y).range) x y (only_exact x) (only_exact y))
      (possible_by_ranges r o (exact x) (exact y) (exact_has x hx).form (exact_has y hy).form hx hy)

  exact_sets : (way : Bool) → Left (told (relation Set way) (exact x) (exact y)) (λ d' s'. Holds (relation Set way) x y)
  exact_sets way =
      left_map (told (relation Set way) (exact x) (exact y))
      (λ d' s'. Possibly (relation Set way) (Mem 64 (resharpened (exact x)).bits) (Mem 64 (resharpened (exact y)).bits)) (λ d' s'. Holds (relation Set way) x y)
      (λ d' s'. at_exact (relation Set way) _ _ x y (only_exact_bits x hx) (only_exact_bits y hy))
      (possible_by_sharpened_bits way (exact x) (exact y) (exact_has x hx).form (exact_has y hy).form)

possible_if_it_holds : (r : Relation) (x y : ℕ) → x < 2 ^ 64 → y < 2 ^ 64 → Left (told r (exact x) (exact y)) (λ d' s'. Holds r x y)
possible_if_it_holds (Below gap) x y hx hy = exact_orderings x y hx hy (Below gap) tt
possible_if_it_holds (SignedBelow gap) x y hx hy = exact_orderings x y hx hy (SignedBelow gap) tt
possible_if_it_holds (Exchanged r) x y hx hy = exchanged_leaves (told r (exact y) (exact x)) (λ d' s'. Holds r y x) (possible_if_it_holds r y x hy hx)
possible_if_it_holds Same x y hx hy = exact_orderings x y hx hy Same tt
possible_if_it_holds Different x y hx hy = exact_orderings x y hx hy Different tt
possible_if_it_holds Disjoint x y hx hy = exact_sets x y hx hy false
possible_if_it_holds Overlapping x y hx hy = exact_sets x y hx hy true

not_both : (way : Bool) → way ≡ not way → ⊥
not_both true e = true≢false e
not_both false e = false≢true e

pub refined_exact_excluded : (c : Comparison) (way : Bool) (x y : ℕ) → x < 2 ^ 64 → y < 2 ^ 64 → compare 64 c x y ≡ not way
    → refined c way (exact x) (exact y) ≡ None
refined_exact_excluded c way x y hx hy e =
    refined_is_told c way (exact x) (exact y)
    ∙ nothing_left (told (relation c way) (exact x) (exact y)) (Holds (relation c way) x y) (possible_if_it_holds (relation c way) x y hx hy)
    (λ h. not_both way (sym ((goes_if_it_holds c way x y hx hy).1 h) ∙ e))
