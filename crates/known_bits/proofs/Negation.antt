-- The best pair for NEG at w bits, for an operand of w bits: NEG is SUB from 0.
use mathlib.Core.Path.{◌≡◌, refl, sym, ap, ◌∙◌}
use Prim.Native.Nat.{ℕ, ◌%◌, ◌^◌}
use native.Mathlib.Omega.{arith}
use lib.Pow.{pow_pos}
use Rattle.word.specs.Word.{alu}
use Rattle.word.specs.declared.Operation.TheVariants.{Sub, Neg}
use Rattle.word.proofs.Cut.{cut_small}
use Rattle.known_bits.specs.declared.Bits.{Bits}
use Rattle.known_bits.specs.Formula.{difference}
use Rattle.known_bits.specs.KnownBits.{Well, Best}
use Rattle.known_bits.specs.Pair.{exactly}
use Rattle.known_bits.proofs.Tight.{mem_least}
use Rattle.known_bits.proofs.Laws.{best_same_set, exact_mem}
use Rattle.known_bits.proofs.Methods.{Image}
use Rattle.known_bits.proofs.Operations.{sub_best}

zero_well : (w : ℕ) → Well w (exactly 0)
zero_well w = record { value_fits = pow_pos w; mask_fits = pow_pos w; apart = refl }

neg_is_sub : (w x y : ℕ) → alu w Neg x y ≡ alu w Sub 0 x
unfolding alu
neg_is_sub w x y = rw (cut_small w (pow_pos w)) (ap (λ (n : ℕ). n % 2 ^ w) (omega arith))

module _ (w : ℕ) (a b : Bits) (ga : Well w a) (gb : Well w b) where
  pub neg_best : Best w (Image w (alu w Neg) a b) (difference w (exactly 0) a)
  neg_best =
      best_same_set w (Image w (alu w Sub) (exactly 0) a) (Image w (alu w Neg) a b) (difference w (exactly 0) a)
      (λ z i. (
        i.1,
        b.value,
        i.3,
        mem_least w b gb,
        i.4 ∙ ap (λ (n : ℕ). alu w Sub n i.1) ((exact_mem w (exactly 0) (zero_well w) refl i.0).0 i.2) ∙ sym (neg_is_sub w i.1 b.value),
      ))
      (λ z i. (0, i.0, mem_least w (exactly 0) (zero_well w), i.2, i.4 ∙ neg_is_sub w i.0 i.1))
      (sub_best w (exactly 0) a (zero_well w) ga)
