-- Masks: sets of bits that a result may have, for the operations whose results are known only by their zeros.
use Rattle.std.specs.Prelude.{◌≡◌, ℕ, ◌^◌, ◌<◌}
use Rattle.word.specs.Word.{bit}
use Rattle.known_bits.specs.declared.Bits.{Bits}

-- every bit of x that is 1 is one of m's
pub record Covers (m x : ℕ) : Type 0 where
  pub zeros : (k : ℕ) → bit k m ≡ 0 → bit k x ≡ 0

-- every number of r is below 2 ^ n
pub record Below (n : ℕ) (r : Bits) : Type 0 where
  pub value_below : r.value < 2 ^ n
  pub mask_below : r.mask < 2 ^ n
