-- The ends of what is computed of two Numbers at w bits: MUL, DIV, MOD, OR, XOR, the shifts, NEG and MOV. ADD and SUB are in SumLaws.
use mathlib.Core.Path.{◌≡◌, refl, sym, ap, ◌∙◌}
use Prim.Native.Nat.{ℕ, ◌-◌, ◌*◌, ◌/◌, ◌^◌, ◌≤◌, ◌<◌, max}
use native.Mathlib.Nat.{le_trans, le_of_eq, lt_of_le_of_lt, mod-eq_of_lt, mul-le-mul}
use native.Mathlib.Omega.{arith}
use native.Mathlib.Decide.{dec_lt}
use lib.Pow.{pow_mono, shr_le}
use Rattle.word.specs.Word.{alu}
use Rattle.word.specs.declared.Operation.{Operation}
use Rattle.word.specs.declared.Operation.TheVariants.{Mul, Div, Or, Lsh, Rsh, Arsh}
use Rattle.known_bits.specs.Formula.{calculated}
use Rattle.number.specs.declared.Range.{Range}
use Rattle.number.specs.declared.Number.{Number}
use Rattle.number.specs.Sharpen.{narrowed, just}
use Rattle.number.specs.Ranges.{straight, crossed, product_range, quotient_range, left_range, signed_right_range, ranged}
use Rattle.number.specs.Computed.{block, modulo, second, computed_range, computed}
use Rattle.number.specs.Demanded.{Wide, Below, OfRanges, OfCuts, OfSharpening}
use Rattle.number.proofs.Cases.{by_less, by_at_most}
use Rattle.number.proofs.Computing.{computed_range_within}
use Rattle.number.proofs.Limits.{quotient_range_ends, quotient_range_by_none, quotient_range_by_any, rest_of_less_is_the_dividend, negative_is_difference}
use Rattle.number.proofs.Operands.{same_ends, modulo_below, modulo_low_below, base, second_below}
use Rattle.number.proofs.Results.{word, wide_at_most_64, product_is, left_is, right_is, signed_right_is, shift_of_a_positive, signed_shift_below}
use Rattle.number.proofs.Sharpening.{sharpened_above_least, sharpened_below_top, sharpened_knows_the_common_lead}
use Rattle.number.proofs.Shorter.{block_of_small, quotient_computed_range, rest_computed_range, or_computed_range, mov_computed_range, right_computed_range, computed_rest_at_most_the_dividend, computed_or_no_longer, computed_xor_no_longer}

-- ---- ranges of words
module _
    (w : ℕ) (h : Wide w) (u v n : Range) (nu : u.lo ≤ u.hi) (nv : v.lo ≤ v.hi) (nn : n.lo ≤ n.hi)
    (hu : u.hi < 2 ^ w) (hv : v.hi < 2 ^ w) (hn : n.hi < w)
  where
    product_range_ends : u.hi * v.hi < 2 ^ w → product_range u v ≡ record { lo = u.lo * v.lo; hi = u.hi * v.hi }
    unfolding product_range straight
    product_range_ends l =
        let k = word w h _ l in
        let m : u.lo * v.lo ≤ u.hi * v.hi = mul-le-mul nu nv in
        by_less (λ r. r ≡ record { lo = u.lo * v.lo; hi = u.hi * v.hi }) (u.hi * v.hi) (2 ^ 64)
        (λ _. same_ends _ _ _
        (product_is u.lo v.lo (lt_of_le_of_lt nu (word w h _ hu)) (lt_of_le_of_lt nv (word w h _ hv))
        ∙ mod-eq_of_lt (lt_of_le_of_lt m k))
        (product_is u.hi v.hi (word w h _ hu) (word w h _ hv) ∙ mod-eq_of_lt k))
        (λ g. absurd (omega arith))

    left_range_ends : u.hi * 2 ^ n.hi < 2 ^ w → left_range u n ≡ record { lo = u.lo * 2 ^ n.lo; hi = u.hi * 2 ^ n.hi }
    unfolding left_range straight
    left_range_ends l =
        let k = word w h _ l in
        let c = wide_at_most_64 w h in
        let m : u.lo * 2 ^ n.lo ≤ u.hi * 2 ^ n.hi = mul-le-mul nu (pow_mono nn) in
        by_less (λ r. r ≡ record { lo = u.lo * 2 ^ n.lo; hi = u.hi * 2 ^ n.hi }) (u.hi * 2 ^ n.hi) (2 ^ 64)
        (λ _. same_ends _ _ _
        (left_is u.lo n.lo (lt_of_le_of_lt nu (word w h _ hu)) (omega arith) ∙ mod-eq_of_lt (lt_of_le_of_lt m k))
        (left_is u.hi n.hi (word w h _ hu) (omega arith) ∙ mod-eq_of_lt k))
        (λ g. absurd (omega arith))

    right_range_ends : crossed 64 Rsh u n ≡ record { lo = u.lo / 2 ^ n.hi; hi = u.hi / 2 ^ n.lo }
    unfolding crossed
    right_range_ends =
        let c = wide_at_most_64 w h in
        same_ends _ _ _ (right_is u.lo n.hi (lt_of_le_of_lt nu (word w h _ hu)) (omega arith))
        (right_is u.hi n.lo (word w h _ hu) (omega arith))

    signed_right_range_ends : u.hi < 2 ^ (w - 1) → signed_right_range w u n ≡ record { lo = u.lo / 2 ^ n.hi; hi = u.hi / 2 ^ n.lo }
    unfolding signed_right_range crossed
    signed_right_range_ends p =
        by_less (λ r. r ≡ record { lo = u.lo / 2 ^ n.hi; hi = u.hi / 2 ^ n.lo }) u.hi (2 ^ (w - 1))
        (λ _. same_ends _ _ _
        (signed_right_is w u.lo n.hi (lt_of_le_of_lt nu hu) hn ∙ shift_of_a_positive w u.lo n.hi (lt_of_le_of_lt nu p))
        (signed_right_is w u.hi n.lo hu (lt_of_le_of_lt nn hn) ∙ shift_of_a_positive w u.hi n.lo p))
        (λ g. absurd (omega arith))

    signed_right_range_of_negative : 2 ^ (w - 1) ≤ u.lo
        → signed_right_range w u n ≡ record { lo = alu w Arsh u.lo n.lo; hi = alu w Arsh u.hi n.hi }
    unfolding signed_right_range straight
    signed_right_range_of_negative p =
        let P : Range → Type 0 = λ r. r ≡ record { lo = alu w Arsh u.lo n.lo; hi = alu w Arsh u.hi n.hi } in
        by_less P u.hi (2 ^ (w - 1)) (λ g. absurd (omega arith))
        (λ _. by_at_most P (2 ^ (w - 1)) u.lo (λ _. refl) (λ g. absurd (omega arith)))

negative_shift_below : (w x c : ℕ) → x < 2 ^ w → c < w → alu w Arsh x c < 2 ^ w
negative_shift_below w x c k l = rw (signed_right_is w x c k l) (signed_shift_below w x c k)

none_at_most : (k : ℕ) → (just 0).hi ≤ k
unfolding just
none_at_most k = omega arith

-- ---- of Numbers
module _ (w : ℕ) (h : Wide w) (a b : Number) where
  -- the range is that of the operands, if this lies below 2 ^ w
  at_width : (op : Operation) (r : Range) → ranged w op (modulo (2 ^ w) a) (second w op b) ≡ r → Below (2 ^ w) r
      → computed_range w op a b ≡ r
  unfolding computed_range
  at_width op r e k = ap (block (2 ^ w)) e ∙ block_of_small (2 ^ w) r k

  count_below : (modulo w b).hi < w
  unfolding second base
  count_below = second_below w h Lsh b

  quotient_at_most : (modulo (2 ^ w) b).lo ≡ 0 → (computed_range w Div a b).hi ≤ (modulo (2 ^ w) a).hi
  quotient_at_most z =
      le_trans (le_of_eq (ap (λ (r : Range). r.hi) (quotient_computed_range w h a b))) (go (dec_lt 0 (modulo (2 ^ w) b).hi))
    where
      go : Dec (0 < (modulo (2 ^ w) b).hi) → (quotient_range (modulo (2 ^ w) a) (modulo (2 ^ w) b)).hi ≤ (modulo (2 ^ w) a).hi
      go (yes l) = le_of_eq (ap (λ (r : Range). r.hi) (quotient_range_by_any (modulo (2 ^ w) a) (modulo (2 ^ w) b) z l))
      go (no l) =
          let e = ap (λ (r : Range). r.hi) (quotient_range_by_none (modulo (2 ^ w) a) (modulo (2 ^ w) b) z (omega arith)) in
          le_trans (le_of_eq e) (none_at_most (modulo (2 ^ w) a).hi)

  or_from : max (modulo (2 ^ w) a).lo (modulo (2 ^ w) b).lo ≤ (computed w Or a b).range.lo
  unfolding ranged
  or_from = le_trans (le_of_eq (sym (ap (λ (r : Range). r.lo) (or_computed_range w h a b)))) (computed_range_within w Or a b).low

  pub ranges_are : (modulo (2 ^ w) a).lo ≤ (modulo (2 ^ w) a).hi → (modulo (2 ^ w) b).lo ≤ (modulo (2 ^ w) b).hi → (modulo w b).lo ≤ (modulo w b).hi
      → OfRanges w a b (modulo (2 ^ w) a) (modulo (2 ^ w) b) (modulo w b)
  unfolding ranged second
  ranges_are na nb nn =
      let u = modulo (2 ^ w) a in
      let v = modulo (2 ^ w) b in
      let n = modulo w b in
      let hu = modulo_below w a in
      let hv = modulo_below w b in
      let hn = count_below in
      let lu = modulo_low_below w a in
      record {
        product = λ l. at_width Mul _ (product_range_ends w h u v n na nb nn hu hv hn l)
            (record { low = lt_of_le_of_lt (mul-le-mul na nb) l; high = l });
        quotient = λ p. quotient_computed_range w h a b ∙ quotient_range_ends u v (word w h _ hu) (word w h _ hv) p na nb;
        quotient_at_most_the_dividend = quotient_at_most;
        rest_of_less = λ l. rest_computed_range w h a b ∙ rest_of_less_is_the_dividend u v (word w h _ hu) (word w h _ hv) l nb;
        rest_at_most_the_dividend = computed_rest_at_most_the_dividend w h a b;
        or_from_the_larger = or_from;
        or_no_longer = computed_or_no_longer w h a b;
        xor_no_longer = computed_xor_no_longer w h a b;
        left = λ l. at_width Lsh _ (left_range_ends w h u v n na nb nn hu hv hn l)
            (record { low = lt_of_le_of_lt (mul-le-mul na (pow_mono nn)) l; high = l });
        right = right_computed_range w h a b ∙ right_range_ends w h u v n na nb nn hu hv hn;
        signed_right_lem = λ p. at_width Arsh _ (signed_right_range_ends w h u v n na nb nn hu hv hn p)
            (record { low = lt_of_le_of_lt (shr_le u.lo n.hi) lu; high = lt_of_le_of_lt (shr_le u.hi n.lo) hu });
        signed_right_of_negative = λ p. at_width Arsh _ (signed_right_range_of_negative w h u v n na nb nn hu hv hn p)
            (record { low = negative_shift_below w _ _ lu (lt_of_le_of_lt nn hn); high = negative_shift_below w _ _ hu hn });
        negative = negative_is_difference w a b;
        move = mov_computed_range w h a b;
      }

-- ---- cuts
pub cuts_are : (m : ℕ) (n : Number) → OfCuts m n
unfolding modulo
cuts_are m n =
    record {
      of_small = λ k. let e = block_of_small m n.range k in
          let l = ap (λ (r : Range). r.lo) e in
          let g = ap (λ (r : Range). r.hi) e in
          record { low = omega (arith, l); high = omega (arith, g) };
      of_bits = record { low = omega arith; high = omega arith };
    }

-- ---- each half sharpens the other
pub sharpening_is : (w : ℕ) (op : Operation) (a b : Number)
    → OfSharpening (calculated w op a.bits b.bits) (computed_range w op a b) (computed w op a b)
unfolding computed narrowed
sharpening_is w op a b =
    let p = calculated w op a.bits b.bits in
    let r = computed_range w op a b in
    record {
      above_least = sharpened_above_least p r;
      below_top = sharpened_below_top p r;
      common_lead = sharpened_knows_the_common_lead p r;
    }
