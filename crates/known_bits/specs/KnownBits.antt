-- Known bits. A pair value/mask stands for the numbers of w bits that agree with value outside mask; what is the form of a pair,
-- which numbers it has, and when it is the best one for a set of numbers. Generic in the width.
use Rattle.std.specs.Prelude.{◌≡◌, false, ◌⊎◌, ℕ, ◌^◌, ◌<◌}
use Rattle.std.specs.Int.Bits.{bit_and}
use Rattle.word.specs.Word.{bit, cut, alu, compare}
use Rattle.word.specs.declared.Operation.{Operation}
use Rattle.word.specs.declared.Comparison.TheVariants as comparison
use Rattle.known_bits.specs.declared.Bits.{Bits}

-- the form of a pair of w bits: no bit is both known to be 1 and unknown
pub record Well (w : ℕ) (p : Bits) : Type 0 where
  pub value_fits : p.value < 2 ^ w
  pub mask_fits : p.mask < 2 ^ w
  pub apart : bit_and p.value p.mask ≡ 0

-- x is one of the numbers of p: it agrees with value wherever the mask is 0
pub record Mem (w : ℕ) (p : Bits) (x : ℕ) : Type 0 where
  pub fits : x < 2 ^ w
  pub agrees : (k : ℕ) → k < w → bit k p.mask ≡ 0 → bit k x ≡ bit k p.value

-- p is sound for a set of numbers: it has the form and has all of them
pub record Sound (w : ℕ) (S : ℕ → Type 0) (p : Bits) : Type 0 where
  pub well : Well w p
  pub sound : (x : ℕ) → S x → Mem w p x

-- p is the best pair for a set of numbers: it is sound, and lies within any other pair that is
pub record Best (w : ℕ) (S : ℕ → Type 0) (p : Bits) : Type 0 where
  pub well : Well w p
  pub sound : (x : ℕ) → S x → Mem w p x
  pub least : (q : Bits) → Well w q → ((x : ℕ) → S x → Mem w q x) → (x : ℕ) → Mem w p x → Mem w q x

-- all that an operation on w bits gives for a number of a and one of b: the instruction of class 7 at w = 64, of class 4 at w = 32,
-- which cuts its operands itself
abbrev pub Results : ℕ → Operation → Bits → Bits → ℕ → Type 0
Results w op a b z = (x : ℕ) × (y : ℕ) × Mem 64 a x × Mem 64 b y × (z ≡ alu w op x y)

-- the low w bits of the numbers of a
abbrev pub Cuts : ℕ → Bits → ℕ → Type 0
Cuts w a z = (x : ℕ) × Mem 64 a x × (z ≡ cut w x)

-- the numbers of either pair, where paths join
abbrev pub Either : Bits → Bits → ℕ → Type 0
Either a b x = Mem 64 a x ⊎ Mem 64 b x

-- the numbers of both pairs, where they are known to be equal
abbrev pub Both : Bits → Bits → ℕ → Type 0
Both a b x = Mem 64 a x × Mem 64 b x

-- the numbers of a that share no bit with s, on the way of JSET that is not taken
abbrev pub Apart : Bits → ℕ → ℕ → Type 0
Apart a s x = Mem 64 a x × (compare 64 comparison.Set x s ≡ false)
