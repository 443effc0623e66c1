-- A range cut to that of the low half, where it has no upper half: it has what both have, and is not wider.
use Prim.Native.Nat.{ℕ, ◌^◌}
use native.Mathlib.Omega.{arith}
use Rattle.word.specs.Word.{cut}
use Rattle.number.specs.declared.Range.{Range}
use Rattle.number.specs.Meaning.{Within, RangeWithin}
use Rattle.number.specs.Compare.{common}
use Rattle.number.specs.Halves.{halves_of_range}
use Rattle.number.proofs.Cases.{by_less}

module _ (r t : Range) where
  pub halves_of_range_have : (x : ℕ) → Within r x → Within t (cut 32 x) → Within (halves_of_range r t) x
  unfolding halves_of_range common cut
  halves_of_range_have x i j =
      by_less (λ u. Within u x) r.hi (2 ^ 32) (λ h. record { low = omega arith; high = omega arith }) (λ h. i)

  pub halves_of_range_within : RangeWithin (halves_of_range r t) r
  unfolding halves_of_range common
  halves_of_range_within =
      by_less (λ u. RangeWithin u r) r.hi (2 ^ 32) (λ h. record { low = omega arith; high = omega arith })
      (λ h. record { low = omega arith; high = omega arith })
