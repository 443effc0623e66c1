-- Knowing more never hurts the range of an operation: of less wide ranges the range is less wide, and none of it is empty. This is so at
-- either width, for operands of w bits; of a shift the second is a range of counts.
use Prim.Native.Nat.{ℕ, ◌^◌, ◌<◌}
use native.Mathlib.Nat.{le_refl}
use native.Mathlib.Omega.{arith}
use lib.Pow.{pow_pos}
use Rattle.word.specs.declared.Operation.{Operation}
use Rattle.word.specs.declared.Operation.TheVariants.{Add, Sub, Mul, Div, Or, And, Lsh, Rsh, Neg, Mod, Xor, Mov, Arsh}
use Rattle.number.specs.declared.Range.{Range}
use Rattle.number.specs.Sharpen.{just}
use Rattle.number.specs.Ranges.{ranged}
use Rattle.number.proofs.Operands.{Wide, base}
use Rattle.number.proofs.Results.{wide_at_most_64, word}
use Rattle.number.proofs.RangesInOrder.{Shrinks, same_range, sum_shrinks, difference_shrinks, product_shrinks, quotient_shrinks, rest_shrinks, or_shrinks, xor_shrinks, and_shrinks, left_shrinks, right_shrinks, signed_right_shrinks}

pub ranged_shrinks : (w : ℕ) → Wide w → (op : Operation) (a' b' a b : Range) → Shrinks a' a → Shrinks b' b → a.hi < 2 ^ w
    → b.hi < base w op
    → Shrinks (ranged w op a' b') (ranged w op a b)
unfolding ranged base just
ranged_shrinks w h Add a' b' a b sa sb ha hb =
    sum_shrinks a' b' a b sa.within sb.within sa.some sb.some (word w h _ ha) (word w h _ hb)
ranged_shrinks w h Sub a' b' a b sa sb ha hb =
    difference_shrinks a' b' a b sa.within sb.within sa.some sb.some (word w h _ ha) (word w h _ hb)
ranged_shrinks w h Mul a' b' a b sa sb ha hb =
    product_shrinks a' b' a b sa.within sb.within sa.some sb.some (word w h _ ha) (word w h _ hb)
ranged_shrinks w h Div a' b' a b sa sb ha hb =
    quotient_shrinks a' b' a b sa.within sb.within sa.some sb.some (word w h _ ha) (word w h _ hb)
ranged_shrinks w h Or a' b' a b sa sb ha hb =
    or_shrinks a' b' a b sa.within sb.within sa.some sb.some (word w h _ ha) (word w h _ hb)
ranged_shrinks w h And a' b' a b sa sb ha hb =
    and_shrinks a' b' a b sa.within sb.within sa.some sb.some (word w h _ ha) (word w h _ hb)
ranged_shrinks w h Lsh a' b' a b sa sb ha hb =
    left_shrinks a' b' a b sa.within sb.within sa.some sb.some (word w h _ ha) (omega (arith, wide_at_most_64 w h))
ranged_shrinks w h Rsh a' b' a b sa sb ha hb =
    right_shrinks a' b' a b sa.within sb.within sa.some sb.some (word w h _ ha) (omega (arith, wide_at_most_64 w h))
ranged_shrinks w h Neg a' b' a b sa sb ha hb =
    difference_shrinks (just 0) a' (just 0) a (same_range _) sa.within (le_refl 0) sa.some (pow_pos 64) (word w h _ ha)
ranged_shrinks w h Mod a' b' a b sa sb ha hb =
    rest_shrinks a' b' a b sa.within sb.within sa.some sb.some (word w h _ ha) (word w h _ hb)
ranged_shrinks w h Xor a' b' a b sa sb ha hb =
    xor_shrinks a' b' a b sa.within sb.within sa.some sb.some (word w h _ ha) (word w h _ hb)
ranged_shrinks w h Mov a' b' a b sa sb ha hb = sb
ranged_shrinks w h Arsh a' b' a b sa sb ha hb = signed_right_shrinks a' b' a b sa.within sb.within sa.some sb.some w ha hb
