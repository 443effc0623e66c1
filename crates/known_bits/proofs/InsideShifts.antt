-- Knowing more never hurts a shift: by a known count, or by one of two, the pair is the best; by any count between two the mask falls.
use mathlib.Core.Bool.{true, false}
use mathlib.Core.Path.{◌≡◌, sym, ap, ◌∙◌, subst}
use Prim.Native.Nat.{ℕ, ◌-◌, ◌/◌, ◌%◌, ◌^◌, ◌≤◌, ◌<◌}
use native.Mathlib.Nat.{mod-lt, mod-eq_of_lt, lt_of_le_of_lt}
use native.Mathlib.Decide.{dec_lt}
use native.Mathlib.Omega.{arith}
use lib.Bits.{bit_and}
use lib.Dec.{eqb, ltb}
use lib.Pow.{pow_pos, pow_mono, shr_le, ones_lt}
use borrow.Author.Tests.{eqb-true, eqb-false, ltb-true, ltb-false}
use Rattle.word.specs.Word.{bit, alu}
use Rattle.word.specs.declared.Operation.{Operation}
use Rattle.word.specs.declared.Operation.TheVariants.{Lsh, Rsh, Arsh}
use Rattle.word.proofs.Bit.{bit_lt, bit_zero, some_bit, ext}
use Rattle.known_bits.specs.declared.Bits.{Bits}
use Rattle.known_bits.specs.Formula.{up_to, among, highest_shifted, left_mask, signed_right, single, shifted_unknown, shifted}
use Rattle.known_bits.specs.KnownBits.{Well, Sound, Best}
use Rattle.known_bits.specs.Masks.{Covers}
use Rattle.known_bits.specs.Pair.{top, packed}
use Rattle.known_bits.proofs.Among.{low_among, top_fits}
use Rattle.known_bits.proofs.Base.{by_cases, cut_is_covered}
use Rattle.known_bits.proofs.ByCount.{Counts, known_count_best, one_of_two_counts_best, one_bit_only}
use Rattle.known_bits.proofs.Class4.{Width}
use Rattle.known_bits.proofs.CountLaws.{shifted_right_at_most, least_count, greatest_count}
use Rattle.known_bits.proofs.Covering.{bit_of_ones, up_to_is_no_longer}
use Rattle.known_bits.proofs.Inside.{Inside, best_results_inside, value_grows, top_falls, top_covers_top, mask_covers_mask, among_inside, packed_inside, up_to_grows, from_bit_grows, zeros_grow, both_masks_grow}
use Rattle.known_bits.proofs.InsideProducts.{highest_product_falls}
use Rattle.known_bits.proofs.Laws.{number_wider, mem_bounds, high_bit}
use Rattle.known_bits.proofs.Methods.{Image}
use Rattle.known_bits.proofs.ProductLaws.{highest_product_fits}
use Rattle.known_bits.proofs.Tight.{digit, mem_least, mem_top, packed_well}

-- ---- the counts
-- of one bit at most nothing is left but it or none
only_bit_stays : (n m' m : ℕ) → m' < 2 ^ n → m < 2 ^ n → Covers m m' → bit_and m (m - 1) ≡ 0 → (m' ≡ 0 → ⊥) → m' ≡ m
only_bit_stays n m' m h' h c one some =
    ext n m' m h' h (λ j l. digit (bit j m) (bit_lt j m) (λ z. c.zeros j z ∙ sym z) (λ o. at j o (dec_lt j u.0) (dec_lt u.0 j)))
  where
    u : (k : ℕ) × (k < n) × (bit k m' ≡ 1)
    u = some_bit n m' (λ e. some (sym (mod-eq_of_lt h') ∙ e))

    there : bit u.0 m ≡ 1
    there = digit (bit u.0 m) (bit_lt u.0 m) (λ z. absurd (omega (arith, c.zeros u.0 z, u.2))) (λ o. o)

    at : (j : ℕ) → bit j m ≡ 1 → Dec (j < u.0) → Dec (u.0 < j) → bit j m' ≡ bit j m
    at j o (yes l) q = absurd (omega (arith, one_bit_only m one j u.0 l o, there))
    at j o (no p) (yes l) = absurd (omega (arith, one_bit_only m one u.0 j l there))
    at j o (no p) (no q) = let e : j ≡ u.0 = omega arith in ap (λ (k : ℕ). bit k m') e ∙ u.2 ∙ sym o

module _ (w : ℕ) (ww : Width w) (m' m : ℕ) (c : Covers m m') where
  count_covered : Covers (m % w) (m' % w)
  count_covered = subst (λ (n : ℕ). Covers (m % n) (m' % n)) (sym ww.power) (cut_is_covered m m' c ww.places)

  count_below : (x : ℕ) → x % w < 2 ^ ww.places
  count_below x = subst (λ (n : ℕ). x % w < n) ww.power (mod-lt x ww.some)

  known_count_stays : m % w ≡ 0 → m' % w ≡ 0
  known_count_stays z =
      ext ww.places (m' % w) 0 (count_below m') (pow_pos ww.places)
      (λ k l. count_covered.zeros k (ap (bit k) z ∙ bit_zero k) ∙ sym (bit_zero k))

  single_stays : single (m % w) ≡ true → (m' % w ≡ 0 → ⊥) → single (m' % w) ≡ true
  unfolding single
  single_stays s some =
      ap (λ (n : ℕ). eqb (bit_and n (n - 1)) 0)
      (only_bit_stays ww.places (m' % w) (m % w) (count_below m') (count_below m) count_covered (eqb-true _ _ s) some) ∙ s

-- ---- any operation that shifts
module _ (w : ℕ) (ww : Width w) (op : Operation) (h : Counts w op) (a' b' a b : Bits) (ga' : Well w a') (gb' : Well w b') (ga : Well w a)
    (gb : Well w b)
    (i : Inside w a' a) (j : Inside w b' b) where
  pub shifted_inside : Sound 64 (Image w (alu w op) a b) (shifted w op a b)
      → Inside 64 (shifted_unknown w op a' b') (shifted_unknown w op a b)
      → Inside 64 (shifted w op a' b') (shifted w op a b)
  unfolding shifted
  shifted_inside s unknown =
      by_cases (λ (r : Bits). Inside 64 r (shifted w op a b)) (eqb (b'.mask % w) 0)
      (λ e. from_best _ (known_count_best w ww op h a' b' ga' gb' (eqb-true _ _ e)))
      (λ e. by_cases (λ (r : Bits). Inside 64 r (shifted w op a b)) (single (b'.mask % w))
      (λ f. from_best _ (one_of_two_counts_best w ww op h a' b' ga' gb' (eqb-false _ _ e) f))
      (λ f. by_cases (Inside 64 (shifted_unknown w op a' b')) (eqb (b.mask % w) 0)
      (λ g. absurd (eqb-false _ _ e (known_count_stays w ww b'.mask b.mask c (eqb-true _ _ g))))
      (λ g. by_cases (Inside 64 (shifted_unknown w op a' b')) (single (b.mask % w))
      (λ o. let z : true ≡ false = sym (single_stays w ww b'.mask b.mask c o (eqb-false _ _ e)) ∙ f in
      absurd (let n : ◌≡◌ {A = ℕ} 0 1 = cc in omega arith))
      (λ o. unknown))))
    where
      c : Covers b.mask b'.mask
      c = mask_covers_mask w b' b gb' gb j

      from_best : (q : Bits) → Best w (Image w (alu w op) a' b') q → Inside 64 q (shifted w op a b)
      from_best q best = best_results_inside w ww.small (alu w op) a' b' a b ga' gb' i j q (shifted w op a b) best s

-- ---- by any count from the least to the greatest
left_mask_falls : (t' l' m' t l m : ℕ) → t' ≤ t → l ≤ l' → m' ≤ m → Covers t t' → Covers (left_mask t l m) (left_mask t' l' m')
unfolding left_mask highest_shifted
left_mask_falls t' l' m' t l m p q r c =
    both_masks_grow _ _ _ _ (from_bit_grows _ _ (omega (arith, zeros_grow t' t c)))
    (up_to_grows _ _ (highest_product_falls t' (2 ^ m') t (2 ^ m) p (pow_mono r)) (highest_product_fits t (2 ^ m)))

-- a number of which no bit from w on is known to be 1 or unknown
all_of_w_bits : (w : ℕ) (p : Bits) → w ≤ 64 → p.value < 2 ^ w → p.mask < 2 ^ w → Inside 64 p (among (2 ^ w - 1))
unfolding among
all_of_w_bits w p small hv hm x m = record { fits = m.fits; agrees = λ k l z. go k l z (dec_lt k w) }
  where
    go : (k : ℕ) → k < 64 → bit k (2 ^ w - 1) ≡ 0 → Dec (k < w) → bit k x ≡ bit k 0
    go k l z (yes i) = absurd (omega (arith, bit_of_ones w k i))
    go k l z (no i) = m.agrees k l (high_bit w k p.mask i hm) ∙ high_bit w k p.value i hv ∙ sym (bit_zero k)

module _ (w : ℕ) (small : w ≤ 64) where
  up_to_of_w_bits : (t n : ℕ) → t < 2 ^ w → up_to (t / 2 ^ n) < 2 ^ w
  up_to_of_w_bits t n h =
      let s : t / 2 ^ n < 2 ^ w = lt_of_le_of_lt (shr_le t n) h in
      up_to_is_no_longer (t / 2 ^ n) (number_wider w 64 small s) w s

  signed_right_of_w_bits : (v t n : ℕ) → t < 2 ^ w → Inside 64 (signed_right w v t n) (among (2 ^ w - 1))
  unfolding signed_right among
  signed_right_of_w_bits v t n h =
      let P : Bits → Type 0 = λ s. Inside 64 s (among (2 ^ w - 1)) in
      by_cases P (ltb t (2 ^ (w - 1))) (λ _. all_of_w_bits w _ small (pow_pos w) (up_to_of_w_bits t n h))
      (λ _. by_cases P (ltb v (2 ^ (w - 1))) (λ _ x m. m)
      (λ _. let g = packed_well w (2 ^ w - 1) _ (ones_lt w) (up_to_of_w_bits (2 ^ w - 1 - v) n (omega (arith, pow_pos w))) in
      all_of_w_bits w _ small g.value_fits g.mask_fits))

signed_right_inside : (w v' t' n' v t n : ℕ) → w ≤ 64 → v ≤ v' → v' ≤ t' → t' ≤ t → t < 2 ^ w → n ≤ n'
    → Inside 64 (signed_right w v' t' n') (signed_right w v t n)
unfolding signed_right
signed_right_inside w v' t' n' v t n small p q r h c =
    by_cases (Inside 64 (signed_right w v' t' n')) (ltb t (2 ^ (w - 1)))
    (λ e. by_cases (λ (s : Bits). Inside 64 s (among (up_to (t / 2 ^ n)))) (ltb t' (2 ^ (w - 1)))
    (λ _. among_inside 64 _ _ (up_to_grows _ _ (shifted_right_at_most t' t n' n r c)
    (lt_of_le_of_lt (shr_le t n) (number_wider w 64 small h))))
    (λ f. absurd (omega (arith, ltb-true t (2 ^ (w - 1)) e, ltb-false t' (2 ^ (w - 1)) f))))
    (λ e. by_cases (Inside 64 (signed_right w v' t' n')) (ltb v (2 ^ (w - 1)))
    (λ f. signed_right_of_w_bits w small v' t' n' (lt_of_le_of_lt r h))
    (λ f. by_cases (λ (s : Bits). Inside 64 s (packed (2 ^ w - 1) (up_to ((2 ^ w - 1 - v) / 2 ^ n)))) (ltb t' (2 ^ (w - 1)))
    (λ g. absurd (omega (arith, ltb-true t' (2 ^ (w - 1)) g, ltb-false v (2 ^ (w - 1)) f)))
    (λ g. by_cases (λ (s : Bits). Inside 64 s (packed (2 ^ w - 1) (up_to ((2 ^ w - 1 - v) / 2 ^ n)))) (ltb v' (2 ^ (w - 1)))
    (λ o. absurd (omega (arith, ltb-true v' (2 ^ (w - 1)) o, ltb-false v (2 ^ (w - 1)) f)))
    (λ o. packed_inside 64 (2 ^ w - 1) _ _ (up_to_grows _ _ (shifted_right_at_most (2 ^ w - 1 - v') (2 ^ w - 1 - v) n' n (omega arith) c)
    (lt_of_le_of_lt (shr_le (2 ^ w - 1 - v) n) (number_wider w 64 small (omega (arith, pow_pos w)))))))))

module _ (w : ℕ) (ww : Width w) (a' b' a b : Bits) (ga' : Well w a') (gb' : Well w b') (ga : Well w a) (gb : Well w b)
    (i : Inside w a' a) (j : Inside w b' b) where
  least_grows : b.value % w ≤ b'.value % w
  least_grows = least_count w ww a b ga gb b'.value (j b'.value (mem_least w b' gb'))

  most_falls : top b' % w ≤ top b % w
  most_falls = greatest_count w ww a b ga gb (top b') (j (top b') (mem_top w b' gb'))

  pub lsh_unknown_inside : Inside 64 (shifted_unknown w Lsh a' b') (shifted_unknown w Lsh a b)
  unfolding shifted_unknown
  lsh_unknown_inside =
      rw (low_among w (left_mask (top a') (b'.value % w) (top b' % w)), low_among w (left_mask (top a) (b.value % w) (top b % w)))
      (among_inside 64 _ _ (cut_is_covered _ _
      (left_mask_falls (top a') (b'.value % w) (top b' % w) (top a) (b.value % w) (top b % w)
      (top_falls w a' a ga' ga i) least_grows most_falls
      (top_covers_top w a' a ga' ga i)) w))

  pub rsh_unknown_inside : Inside 64 (shifted_unknown w Rsh a' b') (shifted_unknown w Rsh a b)
  unfolding shifted_unknown
  rsh_unknown_inside =
      among_inside 64 _ _ (up_to_grows _ _ (shifted_right_at_most (top a') (top a) (b'.value % w) (b.value % w)
      (top_falls w a' a ga' ga i) least_grows)
      (lt_of_le_of_lt (shr_le (top a) (b.value % w)) (top_fits w ww.small a ga)))

  pub arsh_unknown_inside : Inside 64 (shifted_unknown w Arsh a' b') (shifted_unknown w Arsh a b)
  unfolding shifted_unknown
  arsh_unknown_inside =
      signed_right_inside w a'.value (top a') (b'.value % w) a.value (top a) (b.value % w) ww.small (value_grows w a' a ga' ga i)
      (mem_bounds w a' ga' a'.value (mem_least w a' ga')).1 (top_falls w a' a ga' ga i) (mem_top w a ga).fits least_grows
