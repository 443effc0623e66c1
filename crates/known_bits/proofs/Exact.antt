-- Exact operands give one result: the exact pair of it is the best, and no other pair is.
use mathlib.Core.Path.{◌≡◌, refl, sym, ap, ap₂, ◌∙◌, subst}
use Prim.Native.Nat.{ℕ, ◌^◌, ◌<◌}
use native.Mathlib.Omega.{arith}
use lib.Bits.{bit_and, bit_or, or_add_and, and_le_l, and_le_r, and_zero_r}
use lib.Pow.{pow_pos}
use Rattle.word.specs.Word.{alu}
use Rattle.word.specs.declared.Operation.{Operation}
use Rattle.word.proofs.Pinned.{result_below}
use Rattle.known_bits.specs.declared.Bits.{Bits}
use Rattle.known_bits.specs.KnownBits.{Well, Best}
use Rattle.known_bits.specs.Pair.{exactly}
use Rattle.known_bits.proofs.Base.{same_numbers_is_best}
use Rattle.known_bits.proofs.Laws.{exact_mem, unique}
use Rattle.known_bits.proofs.Methods.{Image}
use Rattle.known_bits.proofs.Tight.{mem_least}

pub both_known : (m n : ℕ) → bit_or m n ≡ 0 → (m ≡ 0) × (n ≡ 0)
both_known m n e = (omega (arith, or_add_and m n, and_le_r m n), omega (arith, or_add_and m n, and_le_l m n))

pub exact_well : (w : ℕ) (p : Bits) → p.value < 2 ^ w → p.mask ≡ 0 → Well w p
exact_well w p h z =
    record {
      value_fits = h;
      mask_fits = subst (λ (n : ℕ). n < 2 ^ w) (sym z) (pow_pos w);
      apart = ap (bit_and p.value) z ∙ and_zero_r p.value;
    }

module _ (w : ℕ) (op : Operation) (a b : Bits) (ga : Well w a) (gb : Well w b) (za : a.mask ≡ 0) (zb : b.mask ≡ 0) where
  abbrev result : ℕ
  result = alu w op a.value b.value

  pub exact_best : Best w (Image w (alu w op) a b) (exactly result)
  exact_best =
      let g = exact_well w (exactly result) (result_below w op a.value b.value) refl in
      same_numbers_is_best w (Image w (alu w op) a b) (exactly result) g
      (λ z i. (exact_mem w (exactly result) g refl z).1
      (i.4 ∙ ap₂ (alu w op) ((exact_mem w a ga za i.0).0 i.2) ((exact_mem w b gb zb i.1).0 i.3)))
      (λ z m. (a.value, b.value, mem_least w a ga, mem_least w b gb, (exact_mem w (exactly result) g refl z).0 m))

  pub best_is_exact : (p : Bits) → Best w (Image w (alu w op) a b) p → p ≡ exactly result
  best_is_exact p h = unique w (Image w (alu w op) a b) p (exactly result) h exact_best
