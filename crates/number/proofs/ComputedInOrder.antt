-- Knowing more never hurts an operation on Numbers: what is computed of narrower operands is narrower, unless a range on the way is empty.
-- Where paths join nothing has to be asked.
use mathlib.Core.Path.{◌≡◌, subst}
use Prim.Native.Nat.{ℕ, ◌%◌, ◌^◌, ◌≤◌, ◌<◌}
use native.Mathlib.Nat.{mod-eq_of_lt, lt_of_le_of_lt, le_trans}
use native.Mathlib.Decide.{dec_lt}
use native.Mathlib.Omega.{arith}
use lib.Pow.{pow_pos}
use Rattle.word.specs.declared.Operation.{Operation}
use Rattle.word.proofs.Bit.{low_le}
use Rattle.known_bits.specs.KnownBits.{Well}
use Rattle.known_bits.specs.Pair.{top}
use Rattle.known_bits.proofs.Computing.{calculated_computed}
use Rattle.known_bits.proofs.Inside.{joined_inside}
use Rattle.known_bits.proofs.InsideComputing.{calculated_inside}
use Rattle.known_bits.proofs.Laws.{mem_bounds}
use Rattle.known_bits.proofs.Tight.{mem_least, mem_top, mem_low, mem_high}
use Rattle.number.specs.declared.Number.{Number}
use Rattle.number.specs.Meaning.{In, Narrower, NoneEmpty}
use Rattle.number.specs.Sharpen.{narrowed, joined_range, joined_number}
use Rattle.number.specs.Computed.{modulo, second, computed_range, computed}
use Rattle.number.proofs.Known.{low_of_words}
use Rattle.number.proofs.Operands.{block_of_more, Wide, base, base_is_power, second_is_modulo, modulo_in, modulo_below, second_below}
use Rattle.number.proofs.Outcomes.{NotEmpty}
use Rattle.number.proofs.RangedInOrder.{ranged_shrinks}
use Rattle.number.proofs.RangesInOrder.{Shrinks, block_shrinks}
use Rattle.number.proofs.Results.{wide_at_most_64}
use Rattle.number.proofs.SharpenedInOrder.{sharpened_in_order}
use Rattle.number.proofs.Shorter.{block_of_small}

-- ---- the operands
module _ (j : ℕ) (small : j ≤ 64) (n' n : Number) (g' : Well 64 n'.bits) (g : Well 64 n.bits) (h : Narrower n' n) where
  pub modulo_shrinks : NotEmpty n'.range → NotEmpty (modulo (2 ^ j) n') → Shrinks (modulo (2 ^ j) n') (modulo (2 ^ j) n)
  unfolding modulo
  modulo_shrinks some s =
      let b = block_shrinks (2 ^ j) n'.range n.range (pow_pos j) (record { within = h.range; some = some }) in
      let v = low_le j n.bits.value n'.bits.value (λ k l. mem_low 64 n.bits g _ (h.bits _ (mem_least 64 n'.bits g')) k
      (omega arith)) in
      let t = low_le j (top n'.bits) (top n.bits) (λ k l. mem_high 64 n.bits g _ (h.bits _ (mem_top 64 n'.bits g')) k
      (omega arith)) in
      record { within = record { low = omega (arith, b.within.low); high = omega (arith, b.within.high) }; some = s }

-- a Number that can be an operand, as far as its range tells: it is not empty, nor is what the operation takes of it
pub record Operand (m : ℕ) (n : Number) : Type 0 where
  pub form : Well 64 n.bits
  pub some : NotEmpty n.range
  pub taken : NotEmpty (modulo m n)

some_in : (n : Number) (x : ℕ) → In n x → NotEmpty n.range
some_in n x i = le_trans i.range.low i.range.high

pub operand_of_member : (j : ℕ) → j ≤ 64 → (n : Number) (x : ℕ) → In n x → Operand (2 ^ j) n
operand_of_member j h n x i =
    let u = modulo_in j n h x i in
    record { form = i.form; some = some_in n x i; taken = le_trans u.low u.high }

-- one whose pair has j bits serves modulo 2 ^ j if some number is left between the ends of its pair
pub operand_of_bounds : (j : ℕ) (n : Number) → Well 64 n.bits → top n.bits < 2 ^ j → NotEmpty (narrowed n.bits n.range)
    → Operand (2 ^ j) n
unfolding modulo narrowed
operand_of_bounds j n g h s = record { form = g; some = omega (arith, s); taken = go (dec_lt n.range.hi (2 ^ j)) }
  where
    b : n.bits.value ≤ top n.bits
    b = (mem_bounds 64 n.bits g n.bits.value (mem_least 64 n.bits g)).1

    v : n.bits.value % 2 ^ j ≡ n.bits.value
    v = mod-eq_of_lt (lt_of_le_of_lt b h)

    t : top n.bits % 2 ^ j ≡ top n.bits
    t = mod-eq_of_lt h

    low_fits : n.range.lo < 2 ^ j
    low_fits = omega (arith, s, h)

    go : Dec (n.range.hi < 2 ^ j) → NotEmpty (modulo (2 ^ j) n)
    go (yes l) = rw (block_of_small (2 ^ j) n.range (record { low = low_fits; high = l })) (omega (arith, s, v, t))
    go (no l) = rw (block_of_more (2 ^ j) n.range low_fits (omega arith)) (omega (arith, s, v, t, h, b))

pub word_operand : (n : Number) → Well 64 n.bits → NotEmpty (narrowed n.bits n.range) → Operand (2 ^ 64) n
word_operand n g s = operand_of_bounds 64 n g (mem_top 64 n.bits g).fits s

module _ (w : ℕ) (wide : Wide w) (op : Operation) (a' b' a b : Number) (ga : Well 64 a.bits) (gb : Well 64 b.bits)
    (ha : Narrower a' a) (hb : Narrower b' b)
    (oa : Operand (2 ^ w) a') (ob : Operand (base w op) b') where
  second_shrinks : Shrinks (second w op b') (second w op b)
  second_shrinks =
      let p = base_is_power w wide op in
      rw (second_is_modulo w op b', second_is_modulo w op b, p.2)
      (modulo_shrinks p.0 p.1 b' b ob.form gb hb ob.some (subst (λ (m : ℕ). NotEmpty (modulo m b')) p.2 ob.taken))

  computed_range_shrinks : Shrinks (computed_range w op a' b') (computed_range w op a b)
  unfolding computed_range
  computed_range_shrinks =
      block_shrinks (2 ^ w) _ _ (pow_pos w)
      (ranged_shrinks w wide op _ _ _ _ (modulo_shrinks w (wide_at_most_64 w wide) a' a oa.form ga ha oa.some
      oa.taken) second_shrinks
      (modulo_below w a) (second_below w wide op b))

  pub computed_in_order : NotEmpty (computed w op a' b').range → Narrower (computed w op a' b') (computed w op a b)
  unfolding computed
  computed_in_order =
      sharpened_in_order _ _ ((calculated_computed w wide op a'.bits b'.bits).sound oa.form ob.form).well
      ((calculated_computed w wide op a.bits b.bits).sound ga gb).well
      (calculated_inside w wide op a'.bits b'.bits a.bits b.bits oa.form ob.form ga gb ha.bits hb.bits) _ _
      computed_range_shrinks.within

-- ---- where no range is empty
module _ (w : ℕ) (wide : Wide w) (op : Operation) (a' b' a b : Number) (ga' : Well 64 a'.bits) (gb' : Well 64 b'.bits)
    (ga : Well 64 a.bits)
    (gb : Well 64 b.bits) (ha : Narrower a' a) (hb : Narrower b' b) where
  pub computed_narrower : NoneEmpty w op a' b' → Narrower (computed w op a' b') (computed w op a b)
  computed_narrower n =
      computed_in_order w wide op a' b' a b ga gb ha hb (record { form = ga'; some = n.first; taken = n.first_taken })
      (record { form = gb'; some = n.other; taken = subst NotEmpty (second_is_modulo w op b') n.other_taken }) n.result

-- ---- where paths join
module _ (a' b' a b : Number) (ga' : Well 64 a'.bits) (gb' : Well 64 b'.bits) (ga : Well 64 a.bits) (gb : Well 64 b.bits)
    (ha : Narrower a' a) (hb : Narrower b' b) where
  pub joined_in_order : Narrower (joined_number a' b') (joined_number a b)
  unfolding joined_number joined_range
  joined_in_order =
      record {
        bits = rw (
          low_of_words a'.bits ga'.value_fits ga'.mask_fits,
          low_of_words b'.bits gb'.value_fits gb'.mask_fits,
          low_of_words a.bits ga.value_fits ga.mask_fits,
          low_of_words b.bits gb.value_fits gb.mask_fits,
        ) (joined_inside 64 a'.bits b'.bits a.bits b.bits ga' gb' ga gb ha.bits hb.bits);
        range = record { low = omega (arith, ha.range.low, hb.range.low); high = omega (arith, ha.range.high, hb.range.high) };
      }
