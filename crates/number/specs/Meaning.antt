-- Which numbers a range and a Number stand for, and what it means that one says no less than another.
use Rattle.std.specs.Prelude.{◌≡◌, Bool, ℕ, ◌^◌, ◌≤◌, Some, None}
use Rattle.word.specs.Word.{compare}
use Rattle.word.specs.declared.Comparison.{Comparison}
use Rattle.word.specs.declared.Operation.{Operation}
use Rattle.known_bits.specs.KnownBits.{Well, Mem}
use Rattle.known_bits.specs.declared.Bits.{Bits}
use Rattle.number.specs.declared.Range.{Range}
use Rattle.number.specs.declared.Number.{Number}
use Rattle.number.specs.Refined.{Refined}
use Rattle.number.specs.Computed.{modulo, second, computed}

-- x lies in the range
pub record Within (r : Range) (x : ℕ) : Type 0 where
  pub low : r.lo ≤ x
  pub high : x ≤ r.hi

-- x is one of the numbers of n: n's pair has the form, x agrees with it and lies in the range. The form belongs to it, so that a Number
-- whose pair has none stands for nothing, and what is proved of members needs no other hypothesis
pub record In (n : Number) (x : ℕ) : Type 0 where
  pub form : Well 64 n.bits
  pub bits : Mem 64 n.bits x
  pub range : Within n.range x

-- a lies within b
pub record RangeWithin (a b : Range) : Type 0 where
  pub low : b.lo ≤ a.lo
  pub high : a.hi ≤ b.hi

-- every number of p is one of q
abbrev pub BitsWithin : Bits → Bits → Type 0
BitsWithin p q = (x : ℕ) → Mem 64 p x → Mem 64 q x

-- n' is n, sharpened: wider in neither half
pub record Narrower (n' n : Number) : Type 0 where
  pub bits : BitsWithin n'.bits n.bits
  pub range : RangeWithin n'.range n.range

-- r lies within any range that has all numbers of S: no range for S is less wide
abbrev pub Tightest : (ℕ → Type 0) → Range → Type 0
Tightest S r = (q : Range) → ((x : ℕ) → S x → Within q x) → RangeWithin r q

-- what f gives for a number of either range
abbrev pub Image : (ℕ → ℕ → ℕ) → Range → Range → ℕ → Type 0
Image f a b z = (x : ℕ) × (y : ℕ) × Within a x × Within b y × (z ≡ f x y)

-- x and y are among the numbers that are left; nothing is left of a way that is excluded
abbrev pub Kept : Refined → ℕ → ℕ → Type 0
Kept None x y = ⊥
Kept (Some (d, s)) x y = In d x × In s y

-- P holds of what is left, if the way is not excluded
abbrev pub Left : Refined → (Number → Number → Type 0) → Type 0
Left None P = Unit {0}
Left (Some (d, s)) P = P d s

-- no range on the way is empty: of an operand, of what the operation takes of it, of the result
pub record NoneEmpty (w : ℕ) (op : Operation) (a b : Number) : Type 0 where
  pub first : a.range.lo ≤ a.range.hi
  pub first_taken : (modulo (2 ^ w) a).lo ≤ (modulo (2 ^ w) a).hi
  pub other : b.range.lo ≤ b.range.hi
  pub other_taken : (second w op b).lo ≤ (second w op b).hi
  pub result : (computed w op a b).range.lo ≤ (computed w op a b).range.hi

-- where more is known a way leaves nothing, or it left something before, and each number is narrower
abbrev pub LeavesNoMore : Refined → Refined → Type 0
LeavesNoMore None r = Unit {0}
LeavesNoMore (Some (d', s')) None = ⊥
LeavesNoMore (Some (d', s')) (Some (d, s)) = Narrower d' d × Narrower s' s

-- the numbers of a range that go a way out of their comparison with k
abbrev pub Going : Comparison → Bool → Range → ℕ → ℕ → Type 0
Going c way d k x = Within d x × (compare 64 c x k ≡ way)
