-- Knowing more never hurts a product: each of its three views lies inside that of factors of which less is known.
use mathlib.Core.Bool.{cond}
use mathlib.Core.Path.{◌≡◌, sym, ap₂, ◌∙◌, subst}
use mathlib.Core.Logic.{inl, inr}
use Prim.Native.Nat.{ℕ, zero, suc, ◌*◌, ◌^◌, ◌≤◌, ◌<◌}
use native.Mathlib.Nat.{mul-le-mul}
use native.Mathlib.Omega.{arith}
use lib.Bits.{bit_or}
use lib.Dec.{eqb, ltb}
use borrow.Author.Tests.{eqb-true, eqb-false, eq-eqb, ltb-true, ltb-false}
use Rattle.word.specs.Word.{bit, alu}
use Rattle.word.specs.declared.Operation.TheVariants.{Add}
use Rattle.known_bits.specs.declared.Bits.{Bits}
use Rattle.known_bits.specs.Formula.{sum, joined, among, highest_product, product_mask, placed, with_digit, low_digits, shift_and_add, known, product}
use Rattle.known_bits.specs.KnownBits.{Well, Mem, Best}
use Rattle.known_bits.specs.Masks.{Covers}
use Rattle.known_bits.specs.Pair.{top}
use Rattle.known_bits.proofs.Base.{by_cases}
use Rattle.known_bits.proofs.Exact.{both_known}
use Rattle.known_bits.proofs.Inside.{Inside, best_inside, more_results, top_falls, top_covers_top, mask_covers_mask, known_is_kept, inside_of_known, among_inside, up_to_grows, from_bit_grows, zeros_grow, both_masks_grow, joined_inside}
use Rattle.known_bits.proofs.Joined.{InEither, joined_best}
use Rattle.known_bits.proofs.Laws.{best_sound}
use Rattle.known_bits.proofs.Meet.{meet_has, meet_well}
use Rattle.known_bits.proofs.Methods.{Image}
use Rattle.known_bits.proofs.Operations.{add_best}
use Rattle.known_bits.proofs.ProductLaws.{highest_product_fits, by_the_mask, whole_product_within}
use Rattle.known_bits.proofs.ShiftAndAdd.{placed_best, low_digits_sound, shift_and_add_sound}

-- ---- by the mask
pub highest_product_falls : (t' u' t u : ℕ) → t' ≤ t → u' ≤ u → highest_product t' u' ≤ highest_product t u
unfolding highest_product
highest_product_falls t' u' t u l m =
    let p : t' * u' ≤ t * u = mul-le-mul l m in
    by_cases (λ (n : ℕ). highest_product t' u' ≤ n) (ltb (t * u) (2 ^ 64))
    (λ e. by_cases (λ (n : ℕ). n ≤ t * u) (ltb (t' * u') (2 ^ 64)) (λ i. p)
    (λ i. absurd (omega (arith, ltb-true (t * u) (2 ^ 64) e, ltb-false (t' * u') (2 ^ 64) i))))
    (λ e. omega (arith, highest_product_fits t' u'))

product_mask_falls : (t' u' t u : ℕ) → t' ≤ t → u' ≤ u → Covers t t' → Covers u u' → Covers (product_mask t u) (product_mask t' u')
unfolding product_mask
product_mask_falls t' u' t u l m p q =
    both_masks_grow _ _ _ _ (from_bit_grows _ _ (omega (arith, zeros_grow t' t p, zeros_grow u' u q)))
    (up_to_grows _ _ (highest_product_falls t' u' t u l m) (highest_product_fits t u))

-- ---- by the digits of a
abbrev choice : ℕ → ℕ → Bits → Bits → Bits → Bits
choice m v r s t = cond (eqb m 0) (cond (eqb v 0) r s) t

choice_inside : (w m' v' m v : ℕ) (r' s' t' r s t : Bits) → (m ≡ 0 → (m' ≡ 0) × (v' ≡ v))
    → Inside w r' r → Inside w s' s → Inside w r' t → Inside w s' t → Inside w t' t → Inside w (choice m' v' r' s' t') (choice m v r s t)
choice_inside w m' v' m v r' s' t' r s t kept rr ss rt st tt' =
    by_cases (Inside w (choice m' v' r' s' t')) (eqb m 0) (λ e. known_digit (kept (eqb-true m 0 e)))
    (λ e. by_cases (λ (q : Bits). Inside w q t) (eqb m' 0) (λ _. by_cases (λ (q : Bits). Inside w q t) (eqb v' 0) (λ _. rt) (λ _. st))
    (λ _. tt'))
  where
    known_digit : (m' ≡ 0) × (v' ≡ v) → Inside w (choice m' v' r' s' t') (cond (eqb v 0) r s)
    known_digit k =
        by_cases (λ (q : Bits). Inside w q (cond (eqb v 0) r s)) (eqb m' 0)
        (λ _. by_cases (Inside w (cond (eqb v' 0) r' s')) (eqb v 0)
        (λ z. by_cases (λ (q : Bits). Inside w q r) (eqb v' 0) (λ _. rr) (λ f. absurd (eqb-false _ _ f (k.1 ∙ eqb-true v 0 z))))
        (λ z. by_cases (λ (q : Bits). Inside w q s) (eqb v' 0) (λ f. absurd (eqb-false _ _ z (sym k.1 ∙ eqb-true v' 0 f))) (λ _. ss)))
        (λ f. absurd (eqb-false _ _ f k.0))

module _ (w : ℕ) (b' b : Bits) (gb' : Well w b') (gb : Well w b) (j : Inside w b' b) where
  placed_inside : (k : ℕ) → Inside w (placed w k b') (placed w k b)
  placed_inside k =
      best_inside w _ _ _ _ (placed_best w k b' gb') (best_sound w _ _ (placed_best w k b gb)) (λ z m. (m.0, j m.0 m.1, m.2))

  module _ (a' a : Bits) (ga' : Well w a') (ga : Well w a) (i : Inside w a' a) where
    with_digit_inside : (k : ℕ) → k < w → (r' r : Bits) → Well w r' → Well w r → Inside w r' r
        → Inside w (with_digit w a' b' k r') (with_digit w a b k r)
    unfolding with_digit
    with_digit_inside k l r' r hr' hr n =
        choice_inside w (bit k a'.mask) (bit k a'.value) (bit k a.mask) (bit k a.value) _ _ _ _ _ _
        (λ z. ((mask_covers_mask w a' a ga' ga i).zeros k z, known_is_kept w a' a ga' ga i k l z))
        n s (λ x m. t.sound x (inl (n x m))) (λ x m. t.sound x (inr (s x m)))
        (joined_inside w r' (sum w r' (placed w k b')) r (sum w r (placed w k b)) hr' s'_best.well hr s_best.well n s)
      where
        s'_best : Best w (Image w (alu w Add) r' (placed w k b')) (sum w r' (placed w k b'))
        s'_best = add_best w r' (placed w k b') hr' (placed_best w k b' gb').well

        s_best : Best w (Image w (alu w Add) r (placed w k b)) (sum w r (placed w k b))
        s_best = add_best w r (placed w k b) hr (placed_best w k b gb).well

        s : Inside w (sum w r' (placed w k b')) (sum w r (placed w k b))
        s =
            best_inside w _ _ _ _ s'_best (best_sound w _ _ s_best)
            (more_results w (alu w Add) r' (placed w k b') r (placed w k b) n (placed_inside k))

        t : Best w (InEither w r (sum w r (placed w k b))) (joined r (sum w r (placed w k b)))
        t = joined_best w r (sum w r (placed w k b)) hr s_best.well

    low_digits_inside : (n : ℕ) → n ≤ w → Inside w (low_digits w a' b' n) (low_digits w a b n)
    unfolding low_digits
    low_digits_inside zero l = λ x m. m
    low_digits_inside (suc k) l =
        with_digit_inside k (omega arith) _ _ (low_digits_sound w a' b' ga' gb' k (omega arith)).well
        (low_digits_sound w a b ga gb k (omega arith)).well
        (low_digits_inside k (omega arith))

    shift_and_add_inside : Inside w (shift_and_add w a' b') (shift_and_add w a b)
    unfolding shift_and_add
    shift_and_add_inside = low_digits_inside w (omega arith)

-- ---- all three views
module _ (a' b' a b : Bits) (ga' : Well 64 a') (gb' : Well 64 b') (ga : Well 64 a) (gb : Well 64 b) (i : Inside 64 a' a)
    (j : Inside 64 b' b) where
  by_the_mask_inside : Inside 64 (among (product_mask (top a') (top b'))) (among (product_mask (top a) (top b)))
  by_the_mask_inside =
      among_inside 64 _ _ (product_mask_falls (top a') (top b') (top a) (top b) (top_falls 64 a' a ga' ga i) (top_falls 64 b' b gb' gb j)
      (top_covers_top 64 a' a ga' ga i) (top_covers_top 64 b' b gb' gb j))

  pub product_inside : Inside 64 (product a' b') (product a b)
  unfolding product known
  product_inside z m =
      by_cases (λ (r : Bits). Mem 64 r z) (eqb (bit_or a.mask b.mask) 0)
      (λ e. let k = both_known a.mask b.mask (eqb-true _ _ e) in
      rw (eq-eqb (bit_or a.mask b.mask) 0 (eqb-true _ _ e)) at
      (subst (λ (r : Bits). Mem 64 r z) (ap₂ product (inside_of_known 64 a' a ga' ga i k.0)
      (inside_of_known 64 b' b gb' gb j k.1)) m))
      (λ e. let v = whole_product_within a' b' ga' gb' z m in
      let da = (shift_and_add_sound 64 a b ga gb).well in
      let db = (shift_and_add_sound 64 b a gb ga).well in
      meet_has 64 _ _ (by_the_mask a b ga gb).well (meet_well 64 _ _ da db) z (by_the_mask_inside z v.0)
      (meet_has 64 _ _ da db z (shift_and_add_inside 64 b' b gb' gb j a' a ga' ga i z v.1.0)
      (shift_and_add_inside 64 a' a ga' ga i b' b gb' gb j z v.1.1)))
