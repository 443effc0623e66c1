-- A Number that is not empty can be an operand: nothing that an operation takes of it is empty. So it is of what is sharpened, joined, or
-- has another low half, and of a Number that is known without a calculation.
use mathlib.Core.Path.{◌≡◌, refl, sym, ap, ap₂, ◌∙◌, subst}
use mathlib.Core.Bool.{Bool}
use mathlib.Core.Logic.{inr}
use Prim.Native.Nat.{ℕ, ◌+◌, ◌-◌, ◌*◌, ◌/◌, ◌%◌, ◌^◌, ◌≤◌, ◌<◌, min, max}
use native.Mathlib.Nat.{mod-lt, le_trans, le_refl, lt_of_le_of_lt, mul_assoc, mul-add-mod_self_right, mul-add-div_right}
use native.Mathlib.Decide.{ℕ_discrete}
use native.Mathlib.Omega.{arith}
use lib.Bits.{bit_or, or_mod, or_shr}
use borrow.Author.Tests.{eq-eqb, ne_eqb}
use lib.Pow.{pow_pos, pow-add, shr_mono, shr-shr}
use Rattle.std.specs.Prelude.{Some, None}
use Rattle.word.specs.declared.Comparison.{Comparison}
use Rattle.word.specs.declared.Operation.{Operation}
use Rattle.word.specs.declared.Operation.TheVariants.{Add, Sub, Mul, Div, Or, And, Lsh, Rsh, Neg, Mod, Xor, Mov, Arsh}
use Rattle.word.proofs.Bit.{bit_or_lem, low_le, low_eq}
use Rattle.known_bits.specs.declared.Bits.{Bits}
use Rattle.known_bits.specs.KnownBits.{Well}
use Rattle.known_bits.specs.Pair.{top}
use Rattle.known_bits.proofs.Inside.{value_grows, top_falls}
use Rattle.known_bits.proofs.Laws.{mem_bounds}
use Rattle.known_bits.proofs.Tight.{mem_least}
use Rattle.number.specs.declared.Range.{Range}
use Rattle.number.specs.declared.Number.{Number}
use Rattle.number.specs.Refined.{Refined}
use Rattle.number.specs.Meaning.{In, RangeWithin, Narrower, Left, NoneEmpty}
use Rattle.number.specs.Sharpen.{narrowed, learnt, sharpened, joined_range, joined_number}
use Rattle.number.specs.Computed.{block, modulo, computed}
use Rattle.number.specs.Compare.{bounds, common, refined}
use Rattle.number.specs.Halves.{unsigned, signed, low_half, moved_half, compared, moved_back, halves, halves_of_bits, halves_of_range, with_low, whole, low_halves, refined32}
use Rattle.number.proofs.Cases.{by_test, by_equal, by_less}
use Rattle.number.proofs.ComputedInOrder.{word_operand, operand_of_member, modulo_shrinks}
use Rattle.number.proofs.Compare.{refined_form}
use Rattle.number.proofs.Computing.{computed_form, computed_range_within}
use Rattle.number.proofs.HalfBits.{halves_upper, halves_low_bit}
use Rattle.number.proofs.HalfRanges.{halves_of_range_within}
use Rattle.number.proofs.Halves.{LowOf, with_low_form, told, refined32_is}
use Rattle.number.proofs.HalvesInOrder.{halves_left}
use Rattle.number.proofs.Known.{joined_form, joined_wider_left, joined_wider_right}
use Rattle.number.proofs.Operands.{block_keeps, Wide, at_either_width, base, rest_in_order, second_is_modulo}
use Rattle.number.proofs.Outcomes.{NotEmpty, some_of_within, left_map, left_both, settled_leaves}
use Rattle.number.proofs.RangesInOrder.{block_shrinks}
use Rattle.number.proofs.SharpenedInOrder.{narrowed_in_order, same_lead_as_ends, no_difference_from, learnt_mask_below}
use Rattle.number.proofs.Sharpening.{narrowed_above_least, narrowed_below_top}
use Rattle.number.proofs.Shorter.{block_of_small, mov_computed_range}
use Rattle.number.proofs.WaysInOrder.{sharpened_bounds, refined_leaves_sharpened, firsts_leave_sharpened}

-- the upper half of the range lies between those of the pair's ends, so that a low half that is sharpened cannot contradict it
pub record Operable (n : Number) : Type 0 where
  pub form : Well 64 n.bits
  pub some : NotEmpty n.range
  pub low : (j : ℕ) → j ≤ 32 → NotEmpty (modulo (2 ^ j) n)
  pub whole : NotEmpty (bounds n)
  pub upper_least : n.bits.value / 2 ^ 32 ≤ n.range.lo / 2 ^ 32
  pub upper_most : n.range.hi / 2 ^ 32 ≤ top n.bits / 2 ^ 32

low_of_ends : (p : Bits) (j : ℕ) → p.value % 2 ^ j ≤ top p % 2 ^ j
low_of_ends p j = low_le j p.value (top p) (λ k l. omega (arith, bit_or_lem k p.value p.mask))

-- modulo m: the range and the pair, each in order and neither beyond the other
taken_is_some : (j : ℕ) (n : Number)
    → (n.range.lo / 2 ^ j ≡ n.range.hi / 2 ^ j
    → (n.range.lo % 2 ^ j ≤ n.range.hi % 2 ^ j) × (n.bits.value % 2 ^ j ≤ n.range.hi % 2 ^ j)
    × (n.range.lo % 2 ^ j ≤ top n.bits % 2 ^ j))
    → NotEmpty (modulo (2 ^ j) n)
unfolding modulo block
taken_is_some j n f =
    let v = low_of_ends n.bits j in
    by_equal (λ (r : Range). max r.lo (n.bits.value % 2 ^ j) ≤ min r.hi (top n.bits % 2 ^ j)) (n.range.lo / 2 ^ j)
    (n.range.hi / 2 ^ j)
    (λ e. let g = f e in omega (arith, g.0, g.1, g.2))
    (λ _. omega (arith, mod-lt n.bits.value (pow_pos j), mod-lt (top n.bits) (pow_pos j)))

-- ---- what is sharpened
module _ (p : Bits) (u : Range) (s : NotEmpty (narrowed (learnt p u) u)) where
  abbrev q : Bits
  q = learnt p u

  abbrev r : Range
  r = narrowed q u

  least : q.value ≤ r.lo
  least = narrowed_above_least q u

  most : r.hi ≤ top q
  most = narrowed_below_top q u

  -- both ends are those of u, or one is an end of the pair
  module _ (j : ℕ) (e : r.lo / 2 ^ j ≡ r.hi / 2 ^ j) where
    lead : r.lo ≡ u.lo → r.hi ≡ u.hi → (q.value / 2 ^ j ≡ r.lo / 2 ^ j) × (top q / 2 ^ j ≡ r.hi / 2 ^ j)
    lead a b =
        let d = no_difference_from u.lo u.hi j (ap (λ (n : ℕ). n / 2 ^ j) (sym a) ∙ e ∙ ap (λ (n : ℕ). n / 2 ^ j) b) in
        let m = learnt_mask_below p u j d in
        let x = same_lead_as_ends q j r.lo m least (le_trans s most) in
        let y = same_lead_as_ends q j (top q) m (le_trans least (le_trans s most)) (le_refl (top q)) in
        (x, sym y ∙ x ∙ e)

    from_u_low : (q.value ≡ r.lo → ⊥) → r.lo ≡ u.lo
    unfolding narrowed
    from_u_low n = omega (arith, n)

    from_u_high : (r.hi ≡ top q → ⊥) → r.hi ≡ u.hi
    unfolding narrowed
    from_u_high n = omega (arith, n)

    value_below_high : q.value % 2 ^ j ≤ r.hi % 2 ^ j
    value_below_high = go (ℕ_discrete (q.value / 2 ^ j) (r.lo / 2 ^ j)) (ℕ_discrete q.value r.lo) (ℕ_discrete r.hi (top q))
      where
        go : Dec (q.value / 2 ^ j ≡ r.lo / 2 ^ j) → Dec (q.value ≡ r.lo) → Dec (r.hi ≡ top q) → q.value % 2 ^ j ≤ r.hi % 2 ^ j
        go (yes d) a b = rest_in_order q.value r.hi (2 ^ j) (d ∙ e) (le_trans least s)
        go (no n) (yes a) b = absurd (n (ap (λ (x : ℕ). x / 2 ^ j) a))
        go (no n) (no a) (yes b) = subst (λ (x : ℕ). q.value % 2 ^ j ≤ x % 2 ^ j) (sym b) (low_of_ends q j)
        go (no n) (no a) (no b) = absurd (n (lead (from_u_low a) (from_u_high b)).0)

    low_below_top : r.lo % 2 ^ j ≤ top q % 2 ^ j
    low_below_top = go (ℕ_discrete (top q / 2 ^ j) (r.hi / 2 ^ j)) (ℕ_discrete r.hi (top q)) (ℕ_discrete q.value r.lo)
      where
        go : Dec (top q / 2 ^ j ≡ r.hi / 2 ^ j) → Dec (r.hi ≡ top q) → Dec (q.value ≡ r.lo) → r.lo % 2 ^ j ≤ top q % 2 ^ j
        go (yes d) a b = rest_in_order r.lo (top q) (2 ^ j) (e ∙ sym d) (le_trans s most)
        go (no n) (yes a) b = absurd (n (ap (λ (x : ℕ). x / 2 ^ j) (sym a)))
        go (no n) (no a) (yes b) = subst (λ (x : ℕ). x % 2 ^ j ≤ top q % 2 ^ j) b (low_of_ends q j)
        go (no n) (no a) (no b) = absurd (n (lead (from_u_low b) (from_u_high a)).1)

pub sharpened_operable : (p : Bits) (s : Range) → NotEmpty (sharpened p s).range → Well 64 (sharpened p s).bits → Operable (sharpened p s)
unfolding sharpened
sharpened_operable p s h g =
    let u = narrowed p s in
    record {
      form = g;
      some = h;
      low = λ j l. taken_is_some j _ (λ e. (rest_in_order _ _ (2 ^ j) e h, value_below_high p u h j e, low_below_top p u h j e));
      whole = sharpened_bounds p s h;
      upper_least = shr_mono 32 (least p u h);
      upper_most = shr_mono 32 (most p u h);
    }

-- ---- what is joined
module _ (a b : Number) (h : Operable a) (k : Operable b) where
  abbrev j : Number
  j = joined_number a b

  joined_low : (i : ℕ) → i ≤ 32 → NotEmpty (modulo (2 ^ i) j)
  joined_low i l =
      some_of_within (modulo_shrinks i (omega arith) a j h.form (joined_form a b) (joined_wider_left a b h.form) h.some
      (h.low i l)).within (h.low i l)

  joined_whole : NotEmpty (bounds j)
  unfolding bounds
  joined_whole =
      let w = joined_wider_left a b h.form in
      some_of_within (narrowed_in_order a.bits j.bits h.form (joined_form a b) w.bits a.range j.range w.range)
      h.whole

  joined_upper_least : j.bits.value / 2 ^ 32 ≤ j.range.lo / 2 ^ 32
  unfolding joined_number joined_range
  joined_upper_least =
      let va = value_grows 64 a.bits j.bits h.form (joined_form a b) (joined_wider_left a b h.form).bits in
      let vb = value_grows 64 b.bits j.bits k.form (joined_form a b) (joined_wider_right a b k.form).bits in
      omega (arith, h.upper_least, k.upper_least)

  joined_upper_most : j.range.hi / 2 ^ 32 ≤ top j.bits / 2 ^ 32
  unfolding joined_number joined_range
  joined_upper_most =
      let ta = top_falls 64 a.bits j.bits h.form (joined_form a b) (joined_wider_left a b h.form).bits in
      let tb = top_falls 64 b.bits j.bits k.form (joined_form a b) (joined_wider_right a b k.form).bits in
      omega (arith, h.upper_most, k.upper_most)

  pub joined_operable : Operable j
  joined_operable =
      record {
        form = joined_form a b;
        some = some_of_within (joined_wider_left a b h.form).range h.some;
        low = joined_low;
        whole = joined_whole;
        upper_least = joined_upper_least;
        upper_most = joined_upper_most;
      }

-- ---- what has a number, and whose range lies between the ends of its pair
pub member_operable : (n : Number) (x : ℕ) → In n x → n.bits.value ≤ n.range.lo → n.range.hi ≤ top n.bits → Operable n
unfolding bounds narrowed
member_operable n x i l h =
    record {
      form = i.form;
      some = le_trans i.range.low i.range.high;
      low = λ j m. (operand_of_member j (omega arith) n x i).taken;
      whole = omega (arith, i.range.low, i.range.high, l, h);
      upper_least = shr_mono 32 l;
      upper_most = shr_mono 32 h;
    }

-- ---- so nothing that is taken of it is empty
module _ (n : Number) (h : Operable n) where
  taken_64 : NotEmpty (modulo (2 ^ 64) n)
  unfolding bounds
  taken_64 = (word_operand n h.form h.whole).taken

  taken_whole : (w : ℕ) → Wide w → NotEmpty (modulo (2 ^ w) n)
  taken_whole = at_either_width (λ w. NotEmpty (modulo (2 ^ w) n)) taken_64 (h.low 32 (omega arith))

  taken_count : (w : ℕ) → Wide w → NotEmpty (modulo w n)
  taken_count = at_either_width (λ w. NotEmpty (modulo w n)) (h.low 6 (omega arith)) (h.low 5 (omega arith))

  taken_second : (w : ℕ) → Wide w → (op : Operation) → NotEmpty (modulo (base w op) n)
  unfolding base
  taken_second w ww Add = taken_whole w ww
  taken_second w ww Sub = taken_whole w ww
  taken_second w ww Mul = taken_whole w ww
  taken_second w ww Div = taken_whole w ww
  taken_second w ww Or = taken_whole w ww
  taken_second w ww And = taken_whole w ww
  taken_second w ww Lsh = taken_count w ww
  taken_second w ww Rsh = taken_count w ww
  taken_second w ww Neg = taken_whole w ww
  taken_second w ww Mod = taken_whole w ww
  taken_second w ww Xor = taken_whole w ww
  taken_second w ww Mov = taken_whole w ww
  taken_second w ww Arsh = taken_count w ww

pub none_empty_but_the_result : (w : ℕ) → Wide w → (op : Operation) (a b : Number) → Operable a → Operable b
    → NotEmpty (computed w op a b).range → NoneEmpty w op a b
none_empty_but_the_result w ww op a b h k r =
    record {
      first = h.some;
      first_taken = taken_whole a h w ww;
      other = k.some;
      other_taken = subst NotEmpty (sym (second_is_modulo w op b)) (taken_second b k w ww op);
      result = r;
    }

pub computed_operable : (w : ℕ) → Wide w → (op : Operation) (a b : Number) → Operable a → Operable b → NotEmpty (computed w op a b).range
    → Operable (computed w op a b)
unfolding computed
computed_operable w ww op a b h k r = sharpened_operable _ _ r (computed_form w ww op a b h.form k.form)

-- ---- what is left on a way out
pub refined_operable : (c : Comparison) (way : Bool) (d s : Number) → Well 64 d.bits → Well 64 s.bits
    → Left (refined c way d s) (λ u v. Operable u × Operable v)
refined_operable c way d s gd gs =
    left_map (refined c way d s) _ (λ u v. Operable u × Operable v) (λ u v h. (h.0.0 h.1.0, h.0.1 h.1.1))
    (left_both (refined c way d s) _ _ (refined_leaves_sharpened (λ n. Well 64 n.bits → Operable n) sharpened_operable c way d s)
    (refined_form c way d s gd gs))

-- ---- a number with another low half
block_within_all : (m : ℕ) (r : Range) → 0 < m → RangeWithin (block m r) (record { lo = 0; hi = m - 1 })
unfolding block
block_within_all m r p =
    by_equal (λ s. RangeWithin s (record { lo = 0; hi = m - 1 })) (r.lo / m) (r.hi / m)
    (λ _. record { low = omega arith; high = omega (arith, mod-lt r.hi p) }) (λ _. record { low = omega arith; high = omega arith })

-- numbers that lie a multiple of m higher have the same rests
block_moved : (m c : ℕ) (r : Range) → 0 < m → RangeWithin (block m r) (block m (record { lo = c * m + r.lo; hi = c * m + r.hi }))
unfolding block
block_moved m c r p = go (ℕ_discrete (r.lo / m) (r.hi / m))
  where
    ql : (c * m + r.lo) / m ≡ c + r.lo / m
    ql = mul-add-div_right {m = m} p c r.lo

    qh : (c * m + r.hi) / m ≡ c + r.hi / m
    qh = mul-add-div_right {m = m} p c r.hi

    go : Dec (r.lo / m ≡ r.hi / m) → RangeWithin (block m r) (block m (record { lo = c * m + r.lo; hi = c * m + r.hi }))
    go (yes e) =
        rw (eq-eqb (r.lo / m) (r.hi / m) e, eq-eqb ((c * m + r.lo) / m) ((c * m + r.hi) / m) (omega (arith, ql, qh)))
        (record { low = omega (arith, mul-add-mod_self_right c m r.lo); high = omega (arith, mul-add-mod_self_right c m r.hi) })
    go (no n) = rw (ne_eqb ((c * m + r.lo) / m) ((c * m + r.hi) / m) (λ e. n (omega (arith, ql, qh)))) (block_within_all m r p)

-- l is a low half of what lies in d
module _ (d l : Range) (sd : NotEmpty d) (sl : NotEmpty l) (h : RangeWithin l (block (2 ^ 32) d)) where
  -- of numbers with one upper half
  lies_in : d.lo / 2 ^ 32 ≡ d.hi / 2 ^ 32 → (d.lo % 2 ^ 32 ≤ l.lo) × (l.hi ≤ d.hi % 2 ^ 32)
  lies_in e =
      let b = block_keeps (2 ^ 32) (d.lo / 2 ^ 32) (d.lo % 2 ^ 32) (d.hi % 2 ^ 32) d (omega arith) (omega arith) (omega arith)
      (omega arith) in
      (omega (arith, h.low, ap (λ (r : Range). r.lo) b), omega (arith, h.high, ap (λ (r : Range). r.hi) b))

  low_half_fits : l.hi < 2 ^ 32
  low_half_fits = omega (arith, h.high, (block_within_all (2 ^ 32) d (pow_pos 32)).high)

  blocks_lie : (j : ℕ) → j ≤ 32 → RangeWithin (block (2 ^ j) l) (block (2 ^ j) d)
  unfolding block
  blocks_lie j small = go (ℕ_discrete (d.lo / 2 ^ 32) (d.hi / 2 ^ 32))
    where
      c : ℕ
      c = d.lo / 2 ^ 32 * 2 ^ (32 - j)

      whole_blocks : c * 2 ^ j ≡ d.lo / 2 ^ 32 * 2 ^ 32
      whole_blocks =
          let e : (32 - j) + j ≡ 32 = omega arith in
          mul_assoc (d.lo / 2 ^ 32) (2 ^ (32 - j)) (2 ^ j)
          ∙ ap (λ (m : ℕ). d.lo / 2 ^ 32 * m) (sym (pow-add 2 (32 - j) j) ∙ ap (λ (k : ℕ). 2 ^ k) e)

      quotient : (x : ℕ) → x / 2 ^ 32 ≡ x / 2 ^ j / 2 ^ (32 - j)
      quotient x = let e : j + (32 - j) ≡ 32 = omega arith in ap (λ (k : ℕ). x / 2 ^ k) (sym e) ∙ sym (shr-shr x j (32 - j))

      go : Dec (d.lo / 2 ^ 32 ≡ d.hi / 2 ^ 32) → RangeWithin (block (2 ^ j) l) (block (2 ^ j) d)
      go (yes e) =
          let i = lies_in e in
          let y : Range = record { lo = c * 2 ^ j + l.lo; hi = c * 2 ^ j + l.hi } in
          let w : RangeWithin y d = record { low = omega (arith, whole_blocks, i.0); high = omega (arith, whole_blocks, i.1) } in
          let a = block_moved (2 ^ j) c l (pow_pos j) in
          let b = (block_shrinks (2 ^ j) y d (pow_pos j) (record { within = w; some = omega (arith, sl) })).within in
          record { low = le_trans b.low a.low; high = le_trans a.high b.high }
      go (no n) = apart (ℕ_discrete (d.lo / 2 ^ j) (d.hi / 2 ^ j))
        where
          apart : Dec (d.lo / 2 ^ j ≡ d.hi / 2 ^ j) → RangeWithin (block (2 ^ j) l) (block (2 ^ j) d)
          apart (yes e) = absurd (n (quotient d.lo ∙ ap (λ (q : ℕ). q / 2 ^ (32 - j)) e ∙ sym (quotient d.hi)))
          apart (no m) = rw (ne_eqb (d.lo / 2 ^ j) (d.hi / 2 ^ j) m) (block_within_all (2 ^ j) l (pow_pos j))

modulo_within_block : (m : ℕ) (n : Number) → RangeWithin (modulo m n) (block m n.range)
unfolding modulo
modulo_within_block m n = record { low = omega arith; high = omega arith }

within_common : (a b : Range) → RangeWithin a b → RangeWithin a (common b a)
unfolding common
within_common a b w = record { low = omega (arith, w.low); high = omega (arith, w.high) }

-- the low half of a Number's range
low_within_block : (d l : Number) → Narrower l (low_half d) → RangeWithin l.range (block (2 ^ 32) d.range)
unfolding low_half
low_within_block d l h =
    let c = computed_range_within 32 Mov d d in
    let m = subst (λ (r : Range). RangeWithin (computed 32 Mov d d).range r) (mov_computed_range 32 (inr refl) d d) c in
    let b = modulo_within_block (2 ^ 32) d in
    record {
      low = le_trans b.low (le_trans m.low h.range.low);
      high = le_trans h.range.high (le_trans m.high b.high);
    }

module _ (d l : Number) (od : Operable d) (ol : Operable l) (h : Narrower l (low_half d)) where
  abbrev n : Number
  n = with_low d l

  inside : RangeWithin l.range (block (2 ^ 32) d.range)
  inside = low_within_block d l h

  -- below 2 ^ 32 it is the range of the low half
  small_within : d.range.hi < 2 ^ 32 → RangeWithin l.range d.range
  small_within s =
      let e = block_of_small (2 ^ 32) d.range (record { low = lt_of_le_of_lt od.some s; high = s }) in
      subst (λ (r : Range). RangeWithin l.range r) e inside

  with_low_block : (j : ℕ) → j ≤ 32 → RangeWithin (block (2 ^ j) l.range) (block (2 ^ j) (halves_of_range d.range l.range))
  unfolding halves_of_range
  with_low_block j small =
      by_less (λ r. RangeWithin (block (2 ^ j) l.range) (block (2 ^ j) r)) d.range.hi (2 ^ 32)
      (λ s. (block_shrinks (2 ^ j) l.range (common d.range l.range) (pow_pos j)
      (record { within = within_common l.range d.range (small_within s); some = ol.some })).within)
      (λ _. blocks_lie d.range l.range od.some ol.some inside j small)

  low_values : (x y j : ℕ) → j ≤ 32 → halves x y % 2 ^ j ≡ y % 2 ^ j
  low_values x y j small = low_eq j (halves x y) y (λ k m. halves_low_bit x y k (omega arith))

  low_tops : (j : ℕ) → j ≤ 32 → top (halves_of_bits d.bits l.bits) % 2 ^ j ≡ top l.bits % 2 ^ j
  unfolding halves_of_bits
  low_tops j small =
      or_mod (halves d.bits.value l.bits.value) (halves d.bits.mask l.bits.mask) j
      ∙ ap₂ bit_or (low_values d.bits.value l.bits.value j small) (low_values d.bits.mask l.bits.mask j small)
      ∙ sym (or_mod l.bits.value l.bits.mask j)

  upper_top : top (halves_of_bits d.bits l.bits) / 2 ^ 32 ≡ top d.bits / 2 ^ 32
  unfolding halves_of_bits
  upper_top =
      or_shr (halves d.bits.value l.bits.value) (halves d.bits.mask l.bits.mask) 32
      ∙ ap₂ bit_or (halves_upper d.bits.value l.bits.value) (halves_upper d.bits.mask l.bits.mask)
      ∙ sym (or_shr d.bits.value d.bits.mask 32)

  with_low_taken : (j : ℕ) → j ≤ 32 → NotEmpty (modulo (2 ^ j) n)
  unfolding modulo with_low halves_of_bits
  with_low_taken j small =
      let b = with_low_block j small in
      omega (arith, ol.low j small, low_values d.bits.value l.bits.value j small, low_tops j small, b.low, b.high)

  -- between the ends of the low half, as its range is
  low_ends : (l.bits.value % 2 ^ 32 ≤ l.range.hi) × (l.range.lo ≤ top l.bits % 2 ^ 32)
  unfolding modulo
  low_ends =
      let f = low_half_fits d.range l.range od.some ol.some inside in
      let e = block_of_small (2 ^ 32) l.range (record { low = lt_of_le_of_lt ol.some f; high = f }) in
      let s = ol.low 32 (omega arith) in
      (omega (arith, s, ap (λ (r : Range). r.hi) e), omega (arith, s, ap (λ (r : Range). r.lo) e))

  -- the value is no more than the highest number, and the top no less than the lowest
  value_below : n.bits.value ≤ n.range.hi
  unfolding with_low halves_of_bits halves_of_range common halves bounds narrowed
  value_below =
      by_less (λ (r : Range). d.bits.value / 2 ^ 32 * 2 ^ 32 + l.bits.value % 2 ^ 32 ≤ r.hi) d.range.hi (2 ^ 32)
      (λ s. omega (arith, (small_within s).high, low_ends.0, od.whole))
      (λ _. go (ℕ_discrete (d.range.lo / 2 ^ 32) (d.range.hi / 2 ^ 32)))
    where
      go : Dec (d.range.lo / 2 ^ 32 ≡ d.range.hi / 2 ^ 32) → d.bits.value / 2 ^ 32 * 2 ^ 32 + l.bits.value % 2 ^ 32 ≤ d.range.hi
      go (yes e) = omega (arith, (lies_in d.range l.range od.some ol.some inside e).1, low_ends.0, od.upper_least, od.some)
      go (no m) = omega (arith, m, od.upper_least, od.some)

  lowest_below : n.range.lo ≤ top n.bits
  unfolding with_low halves_of_range common bounds narrowed
  lowest_below =
      let t = top (halves_of_bits d.bits l.bits) in
      by_less (λ (r : Range). r.lo ≤ t) d.range.hi (2 ^ 32)
      (λ s. omega (arith, (small_within s).low, low_ends.1, low_tops 32 (omega arith)))
      (λ _. go (ℕ_discrete (d.range.lo / 2 ^ 32) (d.range.hi / 2 ^ 32)))
    where
      go : Dec (d.range.lo / 2 ^ 32 ≡ d.range.hi / 2 ^ 32) → d.range.lo ≤ top (halves_of_bits d.bits l.bits)
      go (yes e) =
          omega (
            arith,
            (lies_in d.range l.range od.some ol.some inside e).0,
            low_ends.1,
            od.upper_most,
            upper_top,
            low_tops 32 (omega arith),
          )
      go (no m) = omega (arith, m, od.upper_most, od.some, upper_top)

  with_low_upper_least : n.bits.value / 2 ^ 32 ≤ n.range.lo / 2 ^ 32
  unfolding with_low halves_of_bits
  with_low_upper_least =
      let w = halves_of_range_within d.range l.range in
      omega (arith, halves_upper d.bits.value l.bits.value, od.upper_least, w.low)

  with_low_upper_most : n.range.hi / 2 ^ 32 ≤ top n.bits / 2 ^ 32
  unfolding with_low
  with_low_upper_most =
      let w = halves_of_range_within d.range l.range in
      omega (arith, upper_top, od.upper_most, w.high)

  with_low_operable : NotEmpty n.range → Operable n
  unfolding bounds narrowed
  with_low_operable s =
      let g = with_low_form d l od.form ol.form in
      record {
        form = g;
        some = s;
        low = with_low_taken;
        whole = omega (arith, s, value_below, lowest_below, (mem_bounds 64 n.bits g n.bits.value (mem_least 64 n.bits g)).1);
        upper_least = with_low_upper_least;
        upper_most = with_low_upper_most;
      }

-- ---- what is left on a way out of a comparison of low halves
module _ (c : Comparison) (way : Bool) (d s : Number) where
  low_halves_leave_sharpened : (Q : Number → Type 0) → ((p : Bits) (t : Range) → NotEmpty (sharpened p t).range → Q (sharpened p t))
      → Left (low_halves c d s (told c way d s)) (λ l m. Q l × Q m)
  unfolding low_halves moved_back
  low_halves_leave_sharpened Q q =
      by_test (λ (r : Refined). Left r (λ l m. Q l × Q m)) (signed c) (λ _. back (told c way d s))
      (λ _. refined_leaves_sharpened Q q (unsigned c) way (compared c d) (compared c s))
    where
      back : (r : Refined) → Left (moved_back d s r) (λ l m. Q l × Q m)
      back None = tt
      back (Some (u, v)) = firsts_leave_sharpened Q q (low_half d) (moved_half u) (low_half s) (moved_half v)

abbrev Both : Number → Number → Type 0
Both u v = Operable u × Operable v

module _ (d s : Number) (od : Operable d) (os : Operable s) where
  whole_operable : (r : Refined) → Left r (λ l m. (LowOf d l × LowOf s m) × Both l m) → Left (whole d s r) Both
  unfolding whole
  whole_operable None h = tt
  whole_operable (Some (l, m)) h =
      settled_leaves (with_low d l) (with_low s m) Both
      (λ a b. (with_low_operable d l od h.1.0 h.0.0.narrower a, with_low_operable s m os h.1.1 h.0.1.narrower b))

  pub refined32_operable : (c : Comparison) (way : Bool) → Left (refined32 c way d s) Both
  refined32_operable c way =
      let r = low_halves c d s (told c way d s) in
      let f = halves_left c way d s od.form os.form in
      rw (refined32_is c way d s)
      (whole_operable r
      (left_map r _ (λ l m. (LowOf d l × LowOf s m) × Both l m) (λ l m h. (h.0, (h.1.0 h.0.0.form, h.1.1 h.0.1.form)))
      (left_both r _ _ f (low_halves_leave_sharpened c way d s (λ n. Well 64 n.bits → Operable n) sharpened_operable))))
