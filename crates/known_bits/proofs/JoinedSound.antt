-- The pair where paths join loses no number of either pair, whatever the pairs are.
use mathlib.Core.Path.{◌≡◌, ◌∙◌}
use mathlib.Core.Logic.{◌⊎◌, inl, inr}
use Prim.Native.Nat.{ℕ, ◌+◌, ◌%◌, ◌^◌, ◌<◌, max}
use native.Mathlib.Omega.{arith}
use Rattle.word.specs.Word.{bit}
use Rattle.word.proofs.Bit.{bit_lt}
use Rattle.known_bits.specs.declared.Bits.{Bits}
use Rattle.known_bits.specs.Formula.{joined}
use Rattle.known_bits.specs.KnownBits.{Mem, Sound}
use Rattle.known_bits.proofs.Tight.{packed_value, packed_well, spread_fits, spread_bit}

-- the numbers of either pair, at any width: at 64 bits `Either a b`
abbrev pub InEither : ℕ → Bits → Bits → ℕ → Type 0
InEither w a b x = Mem w a x ⊎ Mem w b x

module _ (a b : Bits) where
  pub mask_bit : (k : ℕ) → bit k (joined a b).mask ≡ max (max ((bit k a.value + bit k b.value) % 2) (bit k a.mask)) (bit k b.mask)
  unfolding joined
  mask_bit k = spread_bit k a.value b.value a.value a.mask b.mask

  value_bit : (k : ℕ) → bit k (joined a b).mask ≡ 0 → bit k (joined a b).value ≡ bit k a.value
  unfolding joined
  value_bit k z = omega (arith, z, packed_value k a.value (joined a b).mask)

module _ (w : ℕ) (a b : Bits) where
  pub joined_sound : a.value < 2 ^ w → a.mask < 2 ^ w → b.value < 2 ^ w → b.mask < 2 ^ w → Sound w (InEither w a b) (joined a b)
  unfolding joined
  joined_sound av am bv bm =
      record { well = packed_well w a.value (joined a b).mask av (spread_fits w a.value _ _ _ _ bv av am bm); sound = sound }
    where
      sound : (x : ℕ) → InEither w a b x → Mem w (joined a b) x
      sound x (inl h) =
          record {
            fits = h.fits;
            agrees = λ k l z. h.agrees k l (omega (arith, z, mask_bit a b k, bit_lt k a.mask)) ∙ omega (arith, value_bit a b k z);
          }
      sound x (inr h) =
          record {
            fits = h.fits;
            agrees = λ k l z. h.agrees k l (omega (arith, z, mask_bit a b k, bit_lt k b.mask))
                ∙ omega (arith, z, value_bit a b k z, mask_bit a b k, bit_lt k a.value, bit_lt k b.value);
          }
