-- Knowing more never hurts, of every operation on pairs at either width: of operands of which more is known the pair lies inside.
use mathlib.Core.Path.{◌≡◌}
use mathlib.Core.Logic.{◌⊎◌}
use Prim.Native.Nat.{ℕ}
use Rattle.word.specs.Word.{alu}
use Rattle.word.specs.declared.Operation.{Operation}
use Rattle.word.specs.declared.Operation.TheVariants.{Add, Sub, Mul, Div, Or, And, Lsh, Rsh, Neg, Mod, Xor, Mov, Arsh}
use Rattle.known_bits.specs.declared.Bits.{Bits}
use Rattle.known_bits.specs.Computed.{Demanded}
use Rattle.known_bits.specs.Formula.{low, formula, calculated}
use Rattle.known_bits.specs.KnownBits.{Well}
use Rattle.known_bits.proofs.ByCount.{lsh_counts, rsh_counts, arsh_counts}
use Rattle.known_bits.proofs.Class4.{Width, width, low_well}
use Rattle.known_bits.proofs.Computing.{formula_formed}
use Rattle.known_bits.proofs.Inside.{Inside, best_results_inside, low_inside, cut_inside}
use Rattle.known_bits.proofs.InsideProducts.{product_inside}
use Rattle.known_bits.proofs.InsideQuotients.{quotient_inside, rest_inside}
use Rattle.known_bits.proofs.InsideShifts.{shifted_inside, lsh_unknown_inside, rsh_unknown_inside, arsh_unknown_inside}
use Rattle.known_bits.proofs.Laws.{well_wider, mem_wider, mem_narrower}
use Rattle.known_bits.proofs.ProductLaws.{whole_product_sound}

module _ (w : ℕ) (ww : Width w) (a' b' a b : Bits) (ga' : Well w a') (gb' : Well w b') (ga : Well w a) (gb : Well w b)
    (i : Inside w a' a) (j : Inside w b' b) where
  -- where the best pair is demanded
  by_best : (op : Operation) → Demanded w op b' → Inside 64 (formula w op a' b') (formula w op a b)
  by_best op d =
      best_results_inside w ww.small (alu w op) a' b' a b ga' gb' i j _ _ ((formula_formed w ww op a' b').best d ga' gb')
      ((formula_formed w ww op a b).sound ga gb)

  wider : (p q : Bits) → Well w p → Well w q → Inside w p q → Inside 64 p q
  wider p q gp gq k x m = mem_wider w 64 ww.small q gq x (k x (mem_narrower w 64 ww.small p gp x m))

  products : Inside 64 (formula w Mul a' b') (formula w Mul a b)
  unfolding formula
  products =
      let up = well_wider w 64 ww.small in
      low_inside w 64 ww.small _ _ (whole_product_sound a' b' (up a' ga') (up b' gb')).well
      (whole_product_sound a b (up a ga) (up b gb)).well
      (product_inside a' b' a b (up a' ga') (up b' gb') (up a ga) (up b gb) (wider a' a ga' ga i) (wider b' b gb' gb j))

  quotients : Inside 64 (formula w Div a' b') (formula w Div a b)
  unfolding formula
  quotients = quotient_inside w ww.small a' b' a b ga' gb' ga gb i j

  rests : Inside 64 (formula w Mod a' b') (formula w Mod a b)
  unfolding formula
  rests = rest_inside w ww.small a' b' a b ga' gb' ga gb i j

  left_shifts : Inside 64 (formula w Lsh a' b') (formula w Lsh a b)
  unfolding formula
  left_shifts =
      shifted_inside w ww Lsh (lsh_counts w) a' b' a b ga' gb' ga gb i j ((formula_formed w ww Lsh a b).sound ga gb)
      (lsh_unknown_inside w ww a' b' a b ga' gb' ga gb i j)

  right_shifts : Inside 64 (formula w Rsh a' b') (formula w Rsh a b)
  unfolding formula
  right_shifts =
      shifted_inside w ww Rsh (rsh_counts w) a' b' a b ga' gb' ga gb i j ((formula_formed w ww Rsh a b).sound ga gb)
      (rsh_unknown_inside w ww a' b' a b ga' gb' ga gb i j)

  signed_shifts : Inside 64 (formula w Arsh a' b') (formula w Arsh a b)
  unfolding formula
  signed_shifts =
      shifted_inside w ww Arsh (arsh_counts w) a' b' a b ga' gb' ga gb i j ((formula_formed w ww Arsh a b).sound ga gb)
      (arsh_unknown_inside w ww a' b' a b ga' gb' ga gb i j)

  formula_inside : (op : Operation) → Inside 64 (formula w op a' b') (formula w op a b)
  formula_inside Add = by_best Add tt
  formula_inside Sub = by_best Sub tt
  formula_inside Mul = products
  formula_inside Div = quotients
  formula_inside Or = by_best Or tt
  formula_inside And = by_best And tt
  formula_inside Lsh = left_shifts
  formula_inside Rsh = right_shifts
  formula_inside Neg = by_best Neg tt
  formula_inside Mod = rests
  formula_inside Xor = by_best Xor tt
  formula_inside Mov = by_best Mov tt
  formula_inside Arsh = signed_shifts

module _ (w : ℕ) (either : (w ≡ 64) ⊎ (w ≡ 32)) (op : Operation) (a' b' a b : Bits) (ga' : Well 64 a') (gb' : Well 64 b') (ga : Well 64 a)
    (gb : Well 64 b)
    (i : Inside 64 a' a) (j : Inside 64 b' b) where
  pub calculated_inside : Inside 64 (calculated w op a' b') (calculated w op a b)
  unfolding calculated
  calculated_inside =
      let ww = width w either in
      let well = low_well w 64 ww.small in
      let cut = cut_inside w 64 ww.small in
      formula_inside w ww (low w a') (low w b') (low w a) (low w b) (well a' ga') (well b' gb') (well a ga) (well b gb) (cut a' a ga' ga i)
      (cut b' b gb' gb j) op
