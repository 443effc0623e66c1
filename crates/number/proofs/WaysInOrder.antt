-- Knowing more never hurts a comparison: a way out that was excluded stays excluded, and of narrower numbers narrower ones are left. Only
-- the form of the pairs is asked, since a way on which a range is empty is excluded.
use mathlib.Core.Path.{◌≡◌, refl}
use mathlib.Core.Bool.{Bool, true, false, cond, ◌&&◌}
use mathlib.Core.Logic.{inl}
use Prim.Native.Nat.{ℕ, ◌+◌, ◌^◌, ◌<◌}
use native.Mathlib.Decide.{ℕ_discrete}
use native.Mathlib.Omega.{arith}
use lib.Bits.{bit_and}
use lib.Dec.{eqb, leb, ltb, lit<}
use borrow.Author.Tests.{leb-true, le-leb, le-ltb, ne_eqb}
use Rattle.std.specs.Prelude.{Option, Some, None}
use Rattle.word.specs.declared.Operation.TheVariants.{Add}
use Rattle.word.specs.declared.Comparison.{Comparison}
use Rattle.known_bits.specs.declared.Bits.{Bits}
use Rattle.known_bits.specs.KnownBits.{Well, Both, Apart}
use Rattle.known_bits.specs.Formula.{met}
use Rattle.known_bits.specs.Learn.{Learns}
use Rattle.known_bits.specs.Pair.{top}
use Rattle.known_bits.proofs.Inside.{LearntInside, met_inside, cleared_inside}
use Rattle.known_bits.proofs.LearnLaws.{met_learns, cleared_learns}
use Rattle.known_bits.proofs.Tight.{mem_top}
use Rattle.number.specs.declared.Range.{Range}
use Rattle.number.specs.declared.Number.{Number}
use Rattle.number.specs.Refined.{Refined}
use Rattle.number.specs.Meaning.{RangeWithin, Narrower, Left, LeavesNoMore}
use Rattle.number.specs.Sharpen.{narrowed, sharpened, exact}
use Rattle.number.specs.Compare.{settled, bounds, ordered_in, ordered, exchanged, common, equal_by, equal, empty, without, apart_from, unequal, resharpened, disjoint_by, disjoint_of, disjoint, overlapping_of, overlapping, turned, firsts, turned_back, signed_ordered, refined}
use Rattle.number.proofs.Cases.{by_less, by_equal}
use Rattle.number.proofs.ComputedInOrder.{word_operand, operand_of_member, computed_in_order}
use Rattle.number.proofs.Computing.{computed_form}
use Rattle.number.proofs.Equality.{ApartLeft, apart_leaves, equal_leaves}
use Rattle.number.proofs.Known.{exact_in}
use Rattle.number.proofs.Operands.{base}
use Rattle.number.proofs.Orders.{OrderLeft, ordered_leaves}
use Rattle.number.proofs.Outcomes.{NotEmpty, some_of_within, Sharper, left_map, left_both, unless_leaves, exchanged_leaves, firsts_leave, settled_leaves}
use Rattle.number.proofs.Relations.{Relation, Below, SignedBelow, Exchanged, Same, Different, Disjoint, Overlapping, told, relation, refined_is_told}
use Rattle.number.proofs.SharedBits.{resharpened_form, none_shared_by_tops, disjoint_leaves, narrower_than_itself, overlapping_leaves}
use Rattle.number.proofs.SharpenedInOrder.{narrowed_in_order, sharpened_in_order}
use Rattle.number.proofs.Sharpening.{sharpened_range_within}
use Rattle.number.proofs.Signs.{SignedLeft, signed_ordered_leaves}

-- ---- through the steps by which what is left is made
-- what has to hold if something is left may be used
pub if_left : (r' r : Refined) (A : Type 0) → Left r' (λ d s. A) → (A → LeavesNoMore r' r) → LeavesNoMore r' r
if_left None r A l f = tt
if_left (Some (d, s)) r A l f = f l

pub settled_in_order : (d' s' d s : Number) → (NotEmpty d'.range → NotEmpty s'.range → Narrower d' d × Narrower s' s)
    → LeavesNoMore (settled d' s') (settled d s)
unfolding settled
settled_in_order d' s' d s f = go (leb d'.range.lo d'.range.hi) (leb s'.range.lo s'.range.hi) (leb-true _ _) (leb-true _ _)
  where
    go : (a b : Bool) → (a ≡ true → NotEmpty d'.range) → (b ≡ true → NotEmpty s'.range)
        → LeavesNoMore (cond (a && b) (Some (d', s')) None)
        (cond (leb d.range.lo d.range.hi && leb s.range.lo s.range.hi) (Some (d, s)) None)
    go true true h k =
        let n = f (h refl) (k refl) in
        rw (
          le-leb d.range.lo d.range.hi (some_of_within n.0.range (h refl)),
          le-leb s.range.lo s.range.hi
              (some_of_within n.1.range (k refl)),
        ) n
    go true false h k = tt
    go false b h k = tt

exchanged_in_order : (r' r : Refined) → LeavesNoMore r' r → LeavesNoMore (exchanged r') (exchanged r)
unfolding exchanged
exchanged_in_order None r h = tt
exchanged_in_order (Some (d', s')) None h = h
exchanged_in_order (Some (d', s')) (Some (d, s)) h = (h.1, h.0)

pub firsts_in_order : (p' q' p q : Refined) → LeavesNoMore p' p → LeavesNoMore q' q → LeavesNoMore (firsts p' q') (firsts p q)
unfolding firsts
firsts_in_order None q' p q h k = tt
firsts_in_order (Some (m', _)) None p q h k = tt
firsts_in_order (Some (m', _)) (Some (n', _)) None q h k = h
firsts_in_order (Some (m', _)) (Some (n', _)) (Some (m, _)) None h k = k
firsts_in_order (Some (m', _)) (Some (n', _)) (Some (m, _)) (Some (n, _)) h k = (h.0, k.0)

-- ---- equality
pub common_in_order : (u' v' u v : Range) → RangeWithin u' u → RangeWithin v' v → RangeWithin (common u' v') (common u v)
unfolding common
common_in_order u' v' u v a b = record { low = omega (arith, a.low, b.low); high = omega (arith, a.high, b.high) }

learnt_form : (S : ℕ → Type 0) (p : Bits) → Learns S (Some p) → Well 64 p
learnt_form S p h = h.answer.0.well

equal_by_in_order : (S' S : ℕ → Type 0) (r' r : Option Bits) (t' t : Range) → Learns S' r' → Learns S r → LearntInside r' r → RangeWithin t' t
    → LeavesNoMore (equal_by r' t') (equal_by r t)
unfolding equal_by
equal_by_in_order S' S None r t' t h' h i w = tt
equal_by_in_order S' S (Some p') None t' t h' h i w = absurd i
equal_by_in_order S' S (Some p') (Some p) t' t h' h i w =
    let f = sharpened_in_order p' p (learnt_form S' p' h') (learnt_form S p h) i t' t w in
    settled_in_order _ _ _ _ (λ a b. (f a, f b))

-- ---- inequality
-- what lies in u and does not have the number v as an end, lies in u without it
within_the_rest : (t u v : Range) → NotEmpty t → RangeWithin t u → (v.lo ≡ v.hi → u.lo ≡ v.lo → v.lo < t.lo)
    → (v.lo ≡ v.hi → u.hi ≡ v.lo → t.hi < v.lo) → RangeWithin t (apart_from u v)
unfolding apart_from without empty
within_the_rest t u v s w l h =
    by_equal (RangeWithin t) v.lo v.hi
    (λ e. by_equal (RangeWithin t) u.lo v.lo
    (λ p. by_less (RangeWithin t) v.lo u.hi (λ m. record { low = omega (arith, l e p); high = w.high })
    (λ m. absurd (omega (arith, l e p, w.high))))
    (λ n. by_equal (RangeWithin t) u.hi v.lo
    (λ q. by_less (RangeWithin t) u.lo v.lo (λ m. record { low = w.low; high = omega (arith, h e q) })
    (λ m. absurd (omega (arith, h e q, w.low)))) (λ _. w)))
    (λ _. w)

module _ (u' v' u v : Range) (hu : RangeWithin u' u) (hv : RangeWithin v' v) (su : NotEmpty (apart_from u' v'))
    (sv : NotEmpty (apart_from v' u')) where
  left : ApartLeft u' v' (apart_from u' v')
  left = apart_leaves u' v' su

  other : ApartLeft v' u' (apart_from v' u')
  other = apart_leaves v' u' sv

  -- the other range is one number where that of which less is known was
  low_end_gone : v.lo ≡ v.hi → u.lo ≡ v.lo → v.lo < (apart_from u' v').lo
  low_end_gone e f = go (ℕ_discrete u'.lo v'.lo)
    where
      go : Dec (u'.lo ≡ v'.lo) → v.lo < (apart_from u' v').lo
      go (yes p) = omega (arith, left.no_lower_end (omega (arith, hv.low, hv.high, other.within.low, other.within.high)) p, hv.low)
      go (no n) = omega (arith, left.within.low, hu.low, hv.low, hv.high, other.within.low, other.within.high)

  high_end_gone : v.lo ≡ v.hi → u.hi ≡ v.lo → (apart_from u' v').hi < v.lo
  high_end_gone e f = go (ℕ_discrete u'.hi v'.lo)
    where
      go : Dec (u'.hi ≡ v'.lo) → (apart_from u' v').hi < v.lo
      go (yes p) =
          omega (
            arith,
            left.no_upper_end
                (omega
                (arith, hv.low, hv.high, other.within.low, other.within.high)) p,
            hv.low,
            hv.high,
            other.within.low,
            other.within.high,
          )
      go (no n) = omega (arith, left.within.high, hu.high, hv.low, hv.high, other.within.low, other.within.high)

  apart_in_order : RangeWithin (apart_from u' v') (apart_from u v)
  apart_in_order =
      within_the_rest (apart_from u' v') u v su
      (record {
        low = omega (arith, left.within.low, hu.low);
        high = omega
            (arith, left.within.high, hu.high);
      }) low_end_gone high_end_gone

module _ (d' s' d s : Number) (gd' : Well 64 d'.bits) (gs' : Well 64 s'.bits) (gd : Well 64 d.bits) (gs : Well 64 s.bits)
    (hd : Narrower d' d) (hs : Narrower s' s) where
  pub equal_in_order : LeavesNoMore (equal d' s') (equal d s)
  unfolding equal
  equal_in_order =
      equal_by_in_order (Both d'.bits s'.bits) (Both d.bits s.bits) _ _ _ _ (met_learns d'.bits s'.bits gd' gs')
      (met_learns d.bits s.bits gd gs)
      (met_inside d'.bits s'.bits d.bits s.bits gd' gs' gd gs hd.bits hs.bits)
      (common_in_order d'.range s'.range d.range s.range hd.range hs.range)

  bounds_first : RangeWithin (bounds d') (bounds d)
  unfolding bounds
  bounds_first = narrowed_in_order d'.bits d.bits gd' gd hd.bits d'.range d.range hd.range

  bounds_second : RangeWithin (bounds s') (bounds s)
  unfolding bounds
  bounds_second = narrowed_in_order s'.bits s.bits gs' gs hs.bits s'.range s.range hs.range

  -- ---- orders
  pub ordered_in_order : (gap : ℕ) → LeavesNoMore (ordered gap d' s') (ordered gap d s)
  unfolding ordered ordered_in
  ordered_in_order gap =
      let u = bounds_first in
      let v = bounds_second in
      by_less (λ r. LeavesNoMore r (ordered gap d s)) (bounds s').hi ((bounds d').lo + gap) (λ _. tt)
      (λ l. rw (le-ltb (bounds s).hi ((bounds d).lo + gap) (omega (arith, u.low, v.high)))
      (settled_in_order _ _ _ _ (λ a b. (
        sharpened_in_order d'.bits d.bits gd' gd hd.bits _ _ (record { low = u.low; high = omega (arith, u.high, v.high) }) a,
        sharpened_in_order s'.bits s.bits gs' gs hs.bits _ _ (record { low = omega (arith, u.low, v.low); high = v.high }) b,
      ))))

  pub unequal_in_order : LeavesNoMore (unequal d' s') (unequal d s)
  unfolding unequal
  unequal_in_order =
      settled_in_order _ _ _ _ (λ a b.
      let t = some_of_within (sharpened_range_within d'.bits (apart_from (bounds d') (bounds s'))) a in
      let w = some_of_within (sharpened_range_within s'.bits (apart_from (bounds s') (bounds d'))) b in (
        sharpened_in_order d'.bits d.bits gd' gd hd.bits _ _
            (apart_in_order (bounds d') (bounds s') (bounds d) (bounds s) bounds_first bounds_second t w) a,
        sharpened_in_order s'.bits s.bits gs' gs hs.bits _ _
            (apart_in_order (bounds s') (bounds d') (bounds s) (bounds d) bounds_second bounds_first w t) b,
      ))

-- ---- bits in common
resharpened_in_order : (n' n : Number) → Well 64 n'.bits → Well 64 n.bits → Narrower n' n → NotEmpty (resharpened n').range
    → Narrower (resharpened n') (resharpened n)
unfolding resharpened
resharpened_in_order n' n g' g h = sharpened_in_order n'.bits n.bits g' g h.bits n'.range n.range h.range

disjoint_by_in_order : (S' T' S T : ℕ → Type 0) (p' q' p q : Option Bits) (d' s' d s : Number) → Learns S' p' → Learns T' q' → Learns S p
    → Learns T q
    → LearntInside p' p → LearntInside q' q → RangeWithin d'.range d.range → RangeWithin s'.range s.range
    → LeavesNoMore (disjoint_by p' q' d' s') (disjoint_by p q d s)
unfolding disjoint_by
disjoint_by_in_order S' T' S T None q' p q d' s' d s hp' hq' hp hq i j a b = tt
disjoint_by_in_order S' T' S T (Some p') None p q d' s' d s hp' hq' hp hq i j a b = tt
disjoint_by_in_order S' T' S T (Some p') (Some q') None q d' s' d s hp' hq' hp hq i j a b = absurd i
disjoint_by_in_order S' T' S T (Some p') (Some q') (Some p) None d' s' d s hp' hq' hp hq i j a b = absurd j
disjoint_by_in_order S' T' S T (Some p') (Some q') (Some p) (Some q) d' s' d s hp' hq' hp hq i j a b =
    settled_in_order _ _ _ _ (λ m n. (
      sharpened_in_order p' p (learnt_form S' p' hp') (learnt_form S p hp) i d'.range d.range a m,
      sharpened_in_order q' q (learnt_form T' q' hq') (learnt_form T q hq) j s'.range s.range b n,
    ))

module _ (d' s' d s : Number) (gd' : Well 64 d'.bits) (gs' : Well 64 s'.bits) (gd : Well 64 d.bits) (gs : Well 64 s.bits)
    (hd : Narrower d' d) (hs : Narrower s' s) where
  disjoint_of_in_order : LeavesNoMore (disjoint_of d' s') (disjoint_of d s)
  unfolding disjoint_of
  disjoint_of_in_order =
      disjoint_by_in_order (Apart d'.bits s'.bits.value) (Apart s'.bits d'.bits.value) (Apart d.bits s.bits.value)
      (Apart s.bits d.bits.value)
      _ _ _ _ d' s' d s
      (cleared_learns d'.bits s'.bits.value gs'.value_fits gd')
      (cleared_learns s'.bits d'.bits.value gd'.value_fits gs')
      (cleared_learns d.bits s.bits.value gs.value_fits gd) (cleared_learns s.bits d.bits.value gd.value_fits gs)
      (cleared_inside d'.bits s'.bits d.bits s.bits gd' gs' gd gs hd.bits hs.bits)
      (cleared_inside s'.bits d'.bits s.bits d.bits gs' gd' gs gd hs.bits hd.bits) hd.range hs.range

  overlapping_of_in_order : LeavesNoMore (overlapping_of d' s') (overlapping_of d s)
  unfolding overlapping_of
  overlapping_of_in_order =
      by_equal (λ r. LeavesNoMore r (overlapping_of d s)) (bit_and (top d'.bits) (top s'.bits)) 0 (λ _. tt)
      (λ n. rw (ne_eqb (bit_and (top d.bits) (top s.bits)) 0 (λ e. n
      (none_shared_by_tops d.bits s.bits gd gs e _ _ (hd.bits _ (mem_top 64 d'.bits gd'))
      (hs.bits _ (mem_top 64 s'.bits gs')))))
      (settled_in_order d' s' d s (λ _ _. (hd, hs))))

module _ (d' s' d s : Number) (gd' : Well 64 d'.bits) (gs' : Well 64 s'.bits) (gd : Well 64 d.bits) (gs : Well 64 s.bits)
    (hd : Narrower d' d) (hs : Narrower s' s) where
  -- what is left of halves that sharpened each other shows that neither was empty
  abbrev Sharpened : Type 0
  Sharpened = NotEmpty (resharpened d').range × NotEmpty (resharpened s').range

  was_some : (m n : Number) → Sharper (resharpened d') (resharpened s') m n → Sharpened
  was_some m n h = (some_of_within h.first.range h.some_first, some_of_within h.second.range h.some_second)

  pub disjoint_in_order : LeavesNoMore (disjoint d' s') (disjoint d s)
  unfolding disjoint
  disjoint_in_order =
      if_left (disjoint d' s') (disjoint d s) Sharpened (left_map (disjoint d' s') _ (λ m n. Sharpened) (λ m n h. was_some m n h.sharper)
      (disjoint_leaves d' s' gd' gs'))
      (λ h. disjoint_of_in_order (resharpened d') (resharpened s') (resharpened d) (resharpened s) (resharpened_form d' gd')
      (resharpened_form s' gs')
      (resharpened_form d gd) (resharpened_form s gs) (resharpened_in_order d' d gd' gd hd h.0)
      (resharpened_in_order s' s gs' gs hs h.1))

  pub overlapping_in_order : LeavesNoMore (overlapping d' s') (overlapping d s)
  unfolding overlapping
  overlapping_in_order =
      if_left (overlapping d' s') (overlapping d s) Sharpened
      (left_map (overlapping d' s') _ (λ m n. Sharpened) (λ m n h. was_some m n h.sharper) (overlapping_leaves d' s'))
      (λ h. overlapping_of_in_order (resharpened d') (resharpened s') (resharpened d) (resharpened s) (resharpened_form d' gd')
      (resharpened_form s' gs')
      (resharpened_form d gd) (resharpened_form s gs) (resharpened_in_order d' d gd' gd hd h.0)
      (resharpened_in_order s' s gs' gs hs h.1))

-- ---- signed orders
turned_form : (n : Number) → Well 64 n.bits → Well 64 (turned n).bits
unfolding turned
turned_form n g = computed_form 64 (inl refl) Add n (exact (2 ^ 63)) g (exact_in (2 ^ 63) (lit< tt)).form

turned_in_order : (n' n : Number) → Well 64 n'.bits → Well 64 n.bits → Narrower n' n → NotEmpty (bounds n') → NotEmpty (turned n').range
    → Narrower (turned n') (turned n)
unfolding turned bounds base
turned_in_order n' n g' g h s =
    let e = exact_in (2 ^ 63) (lit< tt) in
    computed_in_order 64 (inl refl) Add n' (exact (2 ^ 63)) n (exact (2 ^ 63)) g e.form h (narrower_than_itself (exact (2 ^ 63)))
    (word_operand n' g' s)
    (operand_of_member 64 (omega arith) (exact (2 ^ 63)) (2 ^ 63) e)

pub sharpened_bounds : (p : Bits) (t : Range) → NotEmpty (sharpened p t).range → NotEmpty (bounds (sharpened p t))
unfolding sharpened bounds narrowed
sharpened_bounds p t s = omega (arith, s)

-- all that is left is sharpened: what holds of each Number that is, and is not empty, holds of what is left
module _ (Q : Number → Type 0) (q : (p : Bits) (t : Range) → NotEmpty (sharpened p t).range → Q (sharpened p t)) where
  abbrev Each : Number → Number → Type 0
  Each u v = Q u × Q v

  settled_leaves_sharpened : (p p' : Bits) (t t' : Range) → Left (settled (sharpened p t) (sharpened p' t')) Each
  settled_leaves_sharpened p p' t t' = settled_leaves (sharpened p t) (sharpened p' t') Each (λ a b. (q p t a, q p' t' b))

  equal_by_leaves_sharpened : (r : Option Bits) (t : Range) → Left (equal_by r t) Each
  unfolding equal_by
  equal_by_leaves_sharpened None t = tt
  equal_by_leaves_sharpened (Some p) t = settled_leaves_sharpened p p t t

  equal_leaves_sharpened : (d s : Number) → Left (equal d s) Each
  unfolding equal
  equal_leaves_sharpened d s = equal_by_leaves_sharpened (met d.bits s.bits) (common d.range s.range)

  -- the first of each of two equalities
  pub firsts_leave_sharpened : (d u s v : Number) → Left (firsts (equal d u) (equal s v)) Each
  firsts_leave_sharpened d u s v =
      firsts_leave (equal d u) (equal s v) Q Q (left_map (equal d u) Each (λ m m'. Q m) (λ m m' h. h.0) (equal_leaves_sharpened d u))
      (left_map (equal s v) Each (λ n n'. Q n) (λ n n' h. h.0) (equal_leaves_sharpened s v))

  disjoint_by_leaves_sharpened : (r r' : Option Bits) (d s : Number) → Left (disjoint_by r r' d s) Each
  unfolding disjoint_by
  disjoint_by_leaves_sharpened None r' d s = tt
  disjoint_by_leaves_sharpened (Some p) None d s = tt
  disjoint_by_leaves_sharpened (Some p) (Some p') d s = settled_leaves_sharpened p p' d.range s.range

  turned_back_leaves_sharpened : (d s : Number) (r : Refined) → Left (turned_back d s r) Each
  unfolding turned_back
  turned_back_leaves_sharpened d s None = tt
  turned_back_leaves_sharpened d s (Some (u, v)) = firsts_leave_sharpened d (turned u) s (turned v)

  told_leaves_sharpened : (r : Relation) (d s : Number) → Left (told r d s) Each
  unfolding ordered ordered_in unequal disjoint disjoint_of overlapping overlapping_of resharpened signed_ordered
  told_leaves_sharpened (Below gap) d s =
      unless_leaves (ltb (bounds s).hi ((bounds d).lo + gap)) _ Each (λ e. settled_leaves_sharpened d.bits s.bits _ _)
  told_leaves_sharpened (SignedBelow gap) d s = turned_back_leaves_sharpened d s (ordered gap (turned d) (turned s))
  told_leaves_sharpened (Exchanged r) d s =
      exchanged_leaves (told r s d) Each (left_map (told r s d) Each (λ u v. Each v u) (λ u v h. (h.1, h.0))
      (told_leaves_sharpened r s d))
  told_leaves_sharpened Same d s = equal_leaves_sharpened d s
  told_leaves_sharpened Different d s = settled_leaves_sharpened d.bits s.bits _ _
  told_leaves_sharpened Disjoint d s = disjoint_by_leaves_sharpened _ _ (resharpened d) (resharpened s)
  told_leaves_sharpened Overlapping d s =
      unless_leaves (eqb (bit_and (top (resharpened d).bits) (top (resharpened s).bits)) 0) (settled (resharpened d) (resharpened s)) Each
      (λ e. settled_leaves_sharpened d.bits s.bits d.range s.range)

  pub refined_leaves_sharpened : (c : Comparison) (way : Bool) (d s : Number) → Left (refined c way d s) Each
  refined_leaves_sharpened c way d s = rw (refined_is_told c way d s) (told_leaves_sharpened (relation c way) d s)

-- so some number is left between the ends of each pair
abbrev pub SomeBounds : Number → Number → Type 0
SomeBounds u v = NotEmpty (bounds u) × NotEmpty (bounds v)

pub refined_leaves_bounds : (c : Comparison) (way : Bool) (d s : Number) → Left (refined c way d s) SomeBounds
refined_leaves_bounds = refined_leaves_sharpened (λ n. NotEmpty (bounds n)) sharpened_bounds

-- an operand of a signed order can be moved, and moved back
record Movable (n : Number) : Type 0 where
  form : Well 64 n.bits
  some : NotEmpty (bounds n)

ordered_leaves_movable : (gap : ℕ) (d s : Number) → Well 64 d.bits → Well 64 s.bits
    → Left (ordered gap d s) (λ u v. Movable u × Movable v)
ordered_leaves_movable gap d s gd gs =
    left_map (ordered gap d s) _ (λ u v. Movable u × Movable v)
    (λ u v h.
    (record { form = h.0.sharper.form_first gd; some = h.1.0 }, record { form = h.0.sharper.form_second gs; some = h.1.1 }))
    (left_both (ordered gap d s) (OrderLeft gap d s) SomeBounds (ordered_leaves gap d s)
    (told_leaves_sharpened (λ n. NotEmpty (bounds n)) sharpened_bounds (Below gap) d s))

module _ (d' d : Number) (gd' : Well 64 d'.bits) (gd : Well 64 d.bits) (hd : Narrower d' d) where
  back_in_order : (u' u : Number) → Movable u' → Movable u → Narrower u' u → LeavesNoMore (equal d' (turned u')) (equal d (turned u))
  back_in_order u' u m' m h =
      if_left (equal d' (turned u')) (equal d (turned u)) (NotEmpty (turned u').range)
      (left_map (equal d' (turned u')) _ (λ a b. NotEmpty (turned u').range) (λ a b k. some_of_within k.second.range k.some_second)
      (equal_leaves d' (turned u') gd' (turned_form u' m'.form)))
      (λ s. equal_in_order d' (turned u') d (turned u) gd' (turned_form u' m'.form) gd (turned_form u m.form) hd
      (turned_in_order u' u m'.form m.form h m'.some s))

module _ (d' s' d s : Number) (gd' : Well 64 d'.bits) (gs' : Well 64 s'.bits) (gd : Well 64 d.bits) (gs : Well 64 s.bits)
    (hd : Narrower d' d) (hs : Narrower s' s) where
  turned_back_in_order : (r' r : Refined) → Left r' (λ u v. Movable u × Movable v) → Left r (λ u v. Movable u × Movable v)
      → LeavesNoMore r' r
      → LeavesNoMore (turned_back d' s' r') (turned_back d s r)
  unfolding turned_back
  turned_back_in_order None r l' l h = tt
  turned_back_in_order (Some (u', v')) None l' l h = absurd h
  turned_back_in_order (Some (u', v')) (Some (u, v)) l' l h =
      firsts_in_order (equal d' (turned u')) (equal s' (turned v')) (equal d (turned u)) (equal s (turned v))
      (back_in_order d' d gd' gd hd u' u l'.0 l.0 h.0) (back_in_order s' s gs' gs hs v' v l'.1 l.1 h.1)

  turned_ordered_in_order : (gap : ℕ) → NotEmpty (bounds d') → NotEmpty (bounds s')
      → LeavesNoMore (ordered gap (turned d') (turned s')) (ordered gap (turned d) (turned s))
  turned_ordered_in_order gap a b =
      let r' = ordered gap (turned d') (turned s') in
      let A : Type 0 = NotEmpty (turned d').range × NotEmpty (turned s').range in
      if_left r' (ordered gap (turned d) (turned s)) A
      (left_map r' (OrderLeft gap (turned d') (turned s')) (λ u v. A)
      (λ u v k. let h = k.sharper in (
        some_of_within h.first.range h.some_first,
        some_of_within h.second.range
            h.some_second,
      ))
      (ordered_leaves gap (turned d') (turned s')))
      (λ h. ordered_in_order (turned d') (turned s') (turned d) (turned s) (turned_form d' gd') (turned_form s' gs') (turned_form d gd)
      (turned_form s gs)
      (turned_in_order d' d gd' gd hd a h.0) (turned_in_order s' s gs' gs hs b h.1) gap)

  pub signed_ordered_in_order : (gap : ℕ) → LeavesNoMore (signed_ordered gap d' s') (signed_ordered gap d s)
  unfolding signed_ordered
  signed_ordered_in_order gap =
      if_left (signed_ordered gap d' s') (signed_ordered gap d s) (NotEmpty (bounds d') × NotEmpty (bounds s'))
      (left_map (signed_ordered gap d' s') (SignedLeft gap d' s') (λ u v. NotEmpty (bounds d') × NotEmpty (bounds s'))
      (λ u v k. (k.some_bounds_first, k.some_bounds_second))
      (signed_ordered_leaves gap d' s' gd' gs'))
      (λ h. turned_back_in_order (ordered gap (turned d') (turned s')) (ordered gap (turned d) (turned s))
      (ordered_leaves_movable gap (turned d') (turned s') (turned_form d' gd') (turned_form s' gs'))
      (ordered_leaves_movable gap (turned d) (turned s) (turned_form d gd) (turned_form s gs)) (turned_ordered_in_order gap h.0 h.1))

-- ---- every comparison, by the relation that a way says
told_in_order : (r : Relation) (d' s' d s : Number) → Well 64 d'.bits → Well 64 s'.bits → Well 64 d.bits → Well 64 s.bits
    → Narrower d' d → Narrower s' s
    → LeavesNoMore (told r d' s') (told r d s)
told_in_order (Below gap) d' s' d s gd' gs' gd gs hd hs = ordered_in_order d' s' d s gd' gs' gd gs hd hs gap
told_in_order (SignedBelow gap) d' s' d s gd' gs' gd gs hd hs = signed_ordered_in_order d' s' d s gd' gs' gd gs hd hs gap
told_in_order (Exchanged r) d' s' d s gd' gs' gd gs hd hs =
    exchanged_in_order (told r s' d') (told r s d) (told_in_order r s' d' s d gs' gd' gs gd hs hd)
told_in_order Same d' s' d s gd' gs' gd gs hd hs = equal_in_order d' s' d s gd' gs' gd gs hd hs
told_in_order Different d' s' d s gd' gs' gd gs hd hs = unequal_in_order d' s' d s gd' gs' gd gs hd hs
told_in_order Disjoint d' s' d s gd' gs' gd gs hd hs = disjoint_in_order d' s' d s gd' gs' gd gs hd hs
told_in_order Overlapping d' s' d s gd' gs' gd gs hd hs = overlapping_in_order d' s' d s gd' gs' gd gs hd hs

pub refined_in_order : (c : Comparison) (way : Bool) (d' s' d s : Number) → Well 64 d'.bits → Well 64 s'.bits → Well 64 d.bits
    → Well 64 s.bits
    → Narrower d' d → Narrower s' s → LeavesNoMore (refined c way d' s') (refined c way d s)
refined_in_order c way d' s' d s gd' gs' gd gs hd hs =
    rw (refined_is_told c way d' s', refined_is_told c way d s) (told_in_order (relation c way) d' s' d s gd' gs' gd gs hd hs)
