-- What a way out of a comparison tells of a pair: a sharper pair, or that no number of the pair goes that way.
use Rattle.std.specs.Prelude.{ℕ, Option, Some, None}
use Rattle.known_bits.specs.declared.Bits.{Bits}
use Rattle.known_bits.specs.KnownBits.{Best}

-- a pair is the best one for the numbers that are left, and there is one; nothing is left otherwise
abbrev pub Answer : (ℕ → Type 0) → Option Bits → Type 0
Answer S (Some p) = Best 64 S p × ((x : ℕ) × S x)
Answer S None = (x : ℕ) → S x → ⊥

pub record Learns (S : ℕ → Type 0) (r : Option Bits) : Type 0 where
  pub answer : Answer S r
