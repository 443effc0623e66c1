-- The range of each operation, at either width, has the result for any two numbers of its operands' ranges.
use mathlib.Core.Path.{◌≡◌}
use Prim.Native.Nat.{ℕ, ◌%◌, ◌^◌, ◌<◌}
use native.Mathlib.Omega.{arith}
use lib.Pow.{pow_pos}
use Rattle.word.specs.Word.{cut, alu}
use Rattle.word.specs.declared.Operation.{Operation}
use Rattle.word.specs.declared.Operation.TheVariants.{Add, Sub, Mul, Div, Or, And, Lsh, Rsh, Neg, Mod, Xor, Mov, Arsh}
use Rattle.number.specs.declared.Range.{Range}
use Rattle.number.specs.Meaning.{Within}
use Rattle.number.specs.Sharpen.{just}
use Rattle.number.specs.Ranges.{ranged}
use Rattle.number.specs.Computed.{block}
use Rattle.number.proofs.Operands.{Wide, base, block_in}
use Rattle.number.proofs.Results.{wide_at_most_64, word, low_sum, low_product_lem, low_left, low_quotient, low_rest, low_or, low_and, low_xor, low_right, low_difference, low_negative, low_mov, low_signed_right}
use Rattle.number.proofs.Sharpening.{just_within}
use Rattle.number.proofs.RangeLaws.{sum_range_has, difference_range_has, product_range_has, quotient_range_has, rest_range_has, or_range_has, xor_range_has, and_range_has, left_range_has, right_range_has, signed_right_range_has}

in_block : (w : ℕ) (r : Range) (z u : ℕ) → Within r z → u ≡ cut w z → Within (block (2 ^ w) r) u
unfolding cut
in_block w r z u i e = rw e (block_in (2 ^ w) r z (pow_pos w) i)

module _ (w : ℕ) (h : Wide w) (a b : Range) (x y : ℕ) (ha : a.hi < 2 ^ w) (hb : b.hi < 2 ^ w) (i : Within a (cut w x)) (j : Within b (cut w y)) where
  -- from what holds of the operation on words
  by_words : (op : Operation) (r : Range)
      → ((x y : ℕ) → a.hi < 2 ^ 64 → b.hi < 2 ^ 64 → Within a x → Within b y → Within r (alu 64 op x y))
      → alu w op x y ≡ cut w (alu 64 op (cut w x) (cut w y)) → Within (block (2 ^ w) r) (alu w op x y)
  by_words op r has e = in_block w r _ _ (has (cut w x) (cut w y) (word w h _ ha) (word w h _ hb) i j) e

pub ranged_sound : (w : ℕ) → Wide w → (op : Operation) (a b : Range) (x y : ℕ) → a.hi < 2 ^ w → b.hi < base w op
    → Within a (cut w x) → Within b (y % base w op) → Within (block (2 ^ w) (ranged w op a b)) (alu w op x y)
unfolding ranged base cut just
ranged_sound w h Add a b x y ha hb i j = by_words w h a b x y ha hb i j Add _ (sum_range_has a b) (low_sum w h x y)
ranged_sound w h Sub a b x y ha hb i j = by_words w h a b x y ha hb i j Sub _ (difference_range_has a b) (low_difference x y w h)
ranged_sound w h Mul a b x y ha hb i j = by_words w h a b x y ha hb i j Mul _ (product_range_has a b) (low_product_lem w h x y)
ranged_sound w h Div a b x y ha hb i j = by_words w h a b x y ha hb i j Div _ (quotient_range_has a b) (low_quotient w h x y)
ranged_sound w h Or a b x y ha hb i j = by_words w h a b x y ha hb i j Or _ (or_range_has a b) (low_or w h x y)
ranged_sound w h And a b x y ha hb i j = by_words w h a b x y ha hb i j And _ (and_range_has a b) (low_and w h x y)
ranged_sound w h Lsh a b x y ha hb i j =
    in_block w _ _ _ (left_range_has a b _ _ i j (word w h _ ha) (omega (arith, wide_at_most_64 w h))) (low_left w h x y)
ranged_sound w h Rsh a b x y ha hb i j =
    in_block w _ _ _ (right_range_has a b _ _ i j (word w h _ ha) (omega (arith, wide_at_most_64 w h))) (low_right w h x y)
ranged_sound w h Neg a b x y ha hb i j =
    in_block w _ _ _ (difference_range_has (just 0) a 0 _ (pow_pos 64) (word w h _ ha) (just_within 0) i) (low_negative w h x y)
ranged_sound w h Mod a b x y ha hb i j = by_words w h a b x y ha hb i j Mod _ (rest_range_has a b) (low_rest w h x y)
ranged_sound w h Xor a b x y ha hb i j = by_words w h a b x y ha hb i j Xor _ (xor_range_has a b) (low_xor w h x y)
ranged_sound w h Mov a b x y ha hb i j = in_block w b _ _ j (low_mov w x y)
ranged_sound w h Arsh a b x y ha hb i j = in_block w _ _ _ (signed_right_range_has w a b _ _ i j ha hb) (low_signed_right w h x y)
