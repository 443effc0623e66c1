-- What each way out of each comparison says of the two numbers compared: one of a few relations, perhaps with the numbers exchanged.
-- A law is proved once for each relation, not for each comparison and way.
use mathlib.Core.Path.{◌≡◌, refl, ap}
use mathlib.Core.Bool.{Bool, true, false, not}
use mathlib.Core.Logic.{◌↔◌}
use Prim.Native.Nat.{ℕ, ◌+◌, ◌≤◌}
use native.Mathlib.Omega.{arith}
use lib.Bits.{bit_and}
use lib.Dec.{eqb, leb, ltb}
use borrow.Author.Tests.{ltb-true, ltb-false, leb-true, leb-false, eqb-true, eqb-false, not-true, not-false, lt-ltb, le-ltb, le-leb, lt-leb, eq-eqb, ne_eqb}
use Rattle.word.specs.Word.{cut, moved, compare}
use Rattle.word.specs.declared.Comparison.{Comparison}
use Rattle.word.specs.declared.Comparison.TheVariants.{Eq, Gt, Ge, Set, Ne, Sgt, Sge, Lt, Le, Slt, Sle}
pub use Rattle.number.specs.Demanded.{Unsigned, eq, ne, gt, ge, lt, le}
use Rattle.number.specs.declared.Number.{Number}
use Rattle.number.specs.Refined.{Refined}
use Rattle.number.specs.Compare as defined
use Rattle.number.specs.Compare.{ordered, signed_ordered, signed_above, exchanged, equal, unequal, disjoint, overlapping, taken, not_taken, refined}

-- Below gap is x + gap ≤ y: with gap 1 it is less, with gap 0 at most
pub data Relation : Type 0 where
  Below : ℕ → Relation
  SignedBelow : ℕ → Relation
  Exchanged : Relation → Relation
  Same : Relation
  Different : Relation
  Disjoint : Relation
  Overlapping : Relation

abbrev pub Holds : Relation → ℕ → ℕ → Type 0
Holds (Below gap) x y = x + gap ≤ y
Holds (SignedBelow gap) x y = moved 64 x + gap ≤ moved 64 y
Holds (Exchanged r) x y = Holds r y x
Holds Same x y = x ≡ y
Holds Different x y = ¬ (x ≡ y)
Holds Disjoint x y = bit_and x y ≡ 0
Holds Overlapping x y = ¬ (bit_and x y ≡ 0)

-- what is left of two numbers that stand in a relation
abbrev pub told : Relation → Number → Number → Refined
told (Below gap) d s = ordered gap d s
told (SignedBelow gap) d s = signed_ordered gap d s
told (Exchanged r) d s = exchanged (told r s d)
told Same d s = equal d s
told Different d s = unequal d s
told Disjoint d s = disjoint d s
told Overlapping d s = overlapping d s

abbrev pub relation : Comparison → Bool → Relation
relation Eq true = Same
relation Gt true = Exchanged (Below 1)
relation Ge true = Exchanged (Below 0)
relation Set true = Overlapping
relation Ne true = Different
relation Sgt true = Exchanged (SignedBelow 1)
relation Sge true = Exchanged (SignedBelow 0)
relation Lt true = Below 1
relation Le true = Below 0
relation Slt true = SignedBelow 1
relation Sle true = SignedBelow 0
relation Eq false = Different
relation Gt false = Below 0
relation Ge false = Below 1
relation Set false = Disjoint
relation Ne false = Same
relation Sgt false = SignedBelow 0
relation Sge false = SignedBelow 1
relation Lt false = Exchanged (Below 0)
relation Le false = Exchanged (Below 1)
relation Slt false = Exchanged (SignedBelow 0)
relation Sle false = Exchanged (SignedBelow 1)

-- the definition of `refined` names the same steps, so this holds by computation
pub refined_is_told : (c : Comparison) (way : Bool) (d s : Number) → refined c way d s ≡ told (relation c way) d s
unfolding refined taken not_taken defined.above signed_above
refined_is_told Eq true d s = refl
refined_is_told Gt true d s = refl
refined_is_told Ge true d s = refl
refined_is_told Set true d s = refl
refined_is_told Ne true d s = refl
refined_is_told Sgt true d s = refl
refined_is_told Sge true d s = refl
refined_is_told Lt true d s = refl
refined_is_told Le true d s = refl
refined_is_told Slt true d s = refl
refined_is_told Sle true d s = refl
refined_is_told Eq false d s = refl
refined_is_told Gt false d s = refl
refined_is_told Ge false d s = refl
refined_is_told Set false d s = refl
refined_is_told Ne false d s = refl
refined_is_told Sgt false d s = refl
refined_is_told Sge false d s = refl
refined_is_told Lt false d s = refl
refined_is_told Le false d s = refl
refined_is_told Slt false d s = refl
refined_is_told Sle false d s = refl

-- ---- the tests, as relations
less : (a b : ℕ) → (ltb a b ≡ true) ↔ (a + 1 ≤ b)
less a b = (λ e. omega (arith, ltb-true a b e), λ h. lt-ltb a b (omega arith))

not_less : (a b : ℕ) → (ltb a b ≡ false) ↔ (b + 0 ≤ a)
not_less a b = (λ e. omega (arith, ltb-false a b e), λ h. le-ltb a b (omega arith))

at_most : (a b : ℕ) → (leb a b ≡ true) ↔ (a + 0 ≤ b)
at_most a b = (λ e. omega (arith, leb-true a b e), λ h. le-leb a b (omega arith))

not_at_most : (a b : ℕ) → (leb a b ≡ false) ↔ (b + 1 ≤ a)
not_at_most a b = (λ e. omega (arith, leb-false a b e), λ h. lt-leb a b (omega arith))

equal_to : (a b : ℕ) → (eqb a b ≡ true) ↔ (a ≡ b)
equal_to a b = (eqb-true a b, eq-eqb a b)

not_equal_to : (a b : ℕ) → (eqb a b ≡ false) ↔ (¬ (a ≡ b))
not_equal_to a b = (eqb-false a b, ne_eqb a b)

denied : (a b : ℕ) → (not (eqb a b) ≡ true) ↔ (¬ (a ≡ b))
denied a b = (λ e. eqb-false a b (not-true (eqb a b) e), λ h. ap not (ne_eqb a b h))

not_denied : (a b : ℕ) → (not (eqb a b) ≡ false) ↔ (a ≡ b)
not_denied a b = (λ e. eqb-true a b (not-false (eqb a b) e), λ h. ap not (eq-eqb a b h))

-- a comparison cuts its operands itself, so this asks nothing of them
pub low_words_go : (c : Comparison) (way : Bool) (x y : ℕ) → (compare 64 c x y ≡ way) ↔ Holds (relation c way) (cut 64 x) (cut 64 y)
unfolding compare
low_words_go Eq true x y = equal_to _ _
low_words_go Gt true x y = less _ _
low_words_go Ge true x y = at_most _ _
low_words_go Set true x y = denied _ _
low_words_go Ne true x y = denied _ _
low_words_go Sgt true x y = less _ _
low_words_go Sge true x y = at_most _ _
low_words_go Lt true x y = less _ _
low_words_go Le true x y = at_most _ _
low_words_go Slt true x y = less _ _
low_words_go Sle true x y = at_most _ _
low_words_go Eq false x y = not_equal_to _ _
low_words_go Gt false x y = not_less _ _
low_words_go Ge false x y = not_at_most _ _
low_words_go Set false x y = not_denied _ _
low_words_go Ne false x y = not_denied _ _
low_words_go Sgt false x y = not_less _ _
low_words_go Sge false x y = not_at_most _ _
low_words_go Lt false x y = not_less _ _
low_words_go Le false x y = not_at_most _ _
low_words_go Slt false x y = not_less _ _
low_words_go Sle false x y = not_at_most _ _

-- ---- the relations that compare numbers, not bits: those of every comparison but JSET
abbrev pub Ordering : Relation → Type 0
Ordering (Below gap) = Unit {0}
Ordering (SignedBelow gap) = Unit {0}
Ordering (Exchanged r) = Ordering r
Ordering Same = Unit {0}
Ordering Different = Unit {0}
Ordering Disjoint = ⊥
Ordering Overlapping = ⊥

pub all_but_set_are_orderings : (c : Comparison) (way : Bool) → ¬ (c ≡ Set) → Ordering (relation c way)
all_but_set_are_orderings Eq true n = tt
all_but_set_are_orderings Gt true n = tt
all_but_set_are_orderings Ge true n = tt
all_but_set_are_orderings Set true n = n refl
all_but_set_are_orderings Ne true n = tt
all_but_set_are_orderings Sgt true n = tt
all_but_set_are_orderings Sge true n = tt
all_but_set_are_orderings Lt true n = tt
all_but_set_are_orderings Le true n = tt
all_but_set_are_orderings Slt true n = tt
all_but_set_are_orderings Sle true n = tt
all_but_set_are_orderings Eq false n = tt
all_but_set_are_orderings Gt false n = tt
all_but_set_are_orderings Ge false n = tt
all_but_set_are_orderings Set false n = n refl
all_but_set_are_orderings Ne false n = tt
all_but_set_are_orderings Sgt false n = tt
all_but_set_are_orderings Sge false n = tt
all_but_set_are_orderings Lt false n = tt
all_but_set_are_orderings Le false n = tt
all_but_set_are_orderings Slt false n = tt
all_but_set_are_orderings Sle false n = tt

-- ---- the four relations that the comparisons of unsigned numbers need
pub data Plain : Relation → Type 0 where
  below : (gap : ℕ) → Plain (Below gap)
  above : (gap : ℕ) → Plain (Exchanged (Below gap))
  same : Plain Same
  different : Plain Different

pub unsigned_is_plain : {c : Comparison} (way : Bool) → Unsigned c → Plain (relation c way)
unsigned_is_plain true eq = same
unsigned_is_plain true ne = different
unsigned_is_plain true gt = above 1
unsigned_is_plain true ge = above 0
unsigned_is_plain true lt = below 1
unsigned_is_plain true le = below 0
unsigned_is_plain false eq = different
unsigned_is_plain false ne = same
unsigned_is_plain false gt = below 0
unsigned_is_plain false ge = below 1
unsigned_is_plain false lt = above 0
unsigned_is_plain false le = above 1
