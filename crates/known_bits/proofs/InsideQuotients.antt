-- Knowing more never hurts a quotient or a rest: by a power of two, or of known numbers, the pair is the best; otherwise the bound falls.
use mathlib.Core.Bool.{cond}
use mathlib.Core.Path.{◌≡◌, sym, ap, ap₂, ◌∙◌, subst}
use Prim.Native.Nat.{ℕ, ◌-◌, ◌/◌, ◌^◌, ◌≤◌, ◌<◌}
use native.Mathlib.Nat.{le_trans, lt_of_le_of_lt, le-div_iff_mul-le, mul-le-mul_left, div-mul-le_self}
use native.Mathlib.Omega.{arith}
use lib.Bits.{bit_or}
use lib.Dec.{eqb, ltb}
use borrow.Author.Tests.{eqb-true, eqb-false, ltb-true, ltb-false}
use Rattle.word.specs.Word.{alu}
use Rattle.word.specs.declared.Operation.{Operation}
use Rattle.word.specs.declared.Operation.TheVariants.{Div, Mod}
use Rattle.known_bits.specs.declared.Bits.{Bits}
use Rattle.known_bits.specs.Formula.{up_to, among, known, power, highest_quotient, quotient, highest_rest, rest}
use Rattle.known_bits.specs.KnownBits.{Well, Sound, Best}
use Rattle.known_bits.specs.Pair.{top, exactly}
use Rattle.known_bits.proofs.Among.{top_fits}
use Rattle.known_bits.proofs.Base.{by_cases}
use Rattle.known_bits.proofs.Exact.{both_known, exact_best}
use Rattle.known_bits.proofs.Inside.{Inside, best_results_inside, value_grows, top_falls, inside_of_known, among_inside, up_to_grows}
use Rattle.known_bits.proofs.Methods.{Image}
use Rattle.known_bits.proofs.QuotientLaws.{highest_quotient_at_most, highest_rest_at_most, power_is, quotient_by_power_best, rest_by_power_best, div_at_64, mod_at_64, quotient_sound, rest_sound}

-- ---- the bounds
pub highest_quotient_falls : (t' v' t v : ℕ) → t' ≤ t → v ≤ v' → highest_quotient t' v' ≤ highest_quotient t v
unfolding highest_quotient
highest_quotient_falls t' v' t v l m =
    by_cases (λ (n : ℕ). cond (eqb v' 0) t' (t' / v') ≤ n) (eqb v 0)
    (λ e. le_trans (highest_quotient_at_most t' v') l)
    (λ e. let p = eqb-false v 0 e in by_cases (λ (n : ℕ). n ≤ t / v) (eqb v' 0) (λ i. absurd (omega (arith, eqb-true v' 0 i)))
    (λ i. (le-div_iff_mul-le {k = v} {x = t' / v'} {y = t} (omega arith)).1
    (le_trans (mul-le-mul_left (t' / v') m) (le_trans (div-mul-le_self t' v') l))))

pub highest_rest_falls : (t' v' u' t v u : ℕ) → t' ≤ t → v ≤ v' → u' ≤ u → highest_rest t' v' u' ≤ highest_rest t v u
unfolding highest_rest
highest_rest_falls t' v' u' t v u l m n =
    by_cases (λ (r : ℕ). sharp ≤ r) (eqb v 0) (λ e. le_trans (highest_rest_at_most t' v' u') l)
    (λ e. let p = eqb-false v 0 e in
    by_cases (λ (r : ℕ). sharp ≤ r) (ltb t u) (λ i. le_trans (highest_rest_at_most t' v' u') l)
    (λ i. by_cases (λ (r : ℕ). r ≤ u - 1) (eqb v' 0) (λ j. absurd (omega (arith, eqb-true v' 0 j)))
    (λ j. by_cases (λ (r : ℕ). r ≤ u - 1) (ltb t' u') (λ k. omega (arith, ltb-true t' u' k)) (λ k. omega arith))))
  where
    sharp : ℕ
    sharp = cond (eqb v' 0) t' (cond (ltb t' u') t' (u' - 1))

-- ---- either of them
abbrev divided : Operation → Bits → Bits → Bits → ℕ → Bits
divided op a b p t = cond (known a b) (exactly (alu 64 op a.value b.value)) (cond (ltb (power b) 64) p (among (up_to t)))

module _ (w : ℕ) (small : w ≤ 64) (a' b' a b : Bits) (ga' : Well w a') (gb' : Well w b') (ga : Well w a) (gb : Well w b)
    (i : Inside w a' a) (j : Inside w b' b) where
  divided_inside : (op : Operation) (p' p : Bits) (t' t : ℕ) → alu 64 op a'.value b'.value ≡ alu w op a'.value b'.value
      → ((b'.mask ≡ 0) × (b'.value ≡ 2 ^ power b') → Best w (Image w (alu w op) a' b') p')
      → t' ≤ t → t < 2 ^ 64 → Sound 64 (Image w (alu w op) a b) (divided op a b p t)
      → Inside 64 (divided op a' b' p' t') (divided op a b p t)
  unfolding known
  divided_inside op p' p t' t same by-power l h s =
      by_cases (λ (r : Bits). Inside 64 r (divided op a b p t)) (eqb (bit_or a'.mask b'.mask) 0)
      (λ e. let z = both_known a'.mask b'.mask (eqb-true _ _ e) in
      subst (λ (n : ℕ). Inside 64 (exactly n) (divided op a b p t)) (sym same)
      (from_best (exactly (alu w op a'.value b'.value)) (exact_best w op a' b' ga' gb' z.0 z.1)))
      (λ e. by_cases (λ (r : Bits). Inside 64 r (divided op a b p t)) (ltb (power b') 64)
      (λ f. from_best p' (by-power (power_is b' (ltb-true _ _ f))))
      (λ f. by_cases (Inside 64 (among (up_to t'))) (eqb (bit_or a.mask b.mask) 0)
      (λ g. absurd (eqb-false _ _ e (still_known (eqb-true _ _ g))))
      (λ g. by_cases (Inside 64 (among (up_to t'))) (ltb (power b) 64)
      (λ o. absurd (omega (arith, ltb-false (power b') 64 f, ltb-true (power b) 64 o, same_power (power_is b (ltb-true _ _ o)).0)))
      (λ o. among_inside 64 (up_to t') (up_to t) (up_to_grows t' t l h)))))
    where
      from_best : (q : Bits) → Best w (Image w (alu w op) a' b') q → Inside 64 q (divided op a b p t)
      from_best q best = best_results_inside w small (alu w op) a' b' a b ga' gb' i j q (divided op a b p t) best s

      still_known : bit_or a.mask b.mask ≡ 0 → bit_or a'.mask b'.mask ≡ 0
      still_known z =
          let k = both_known a.mask b.mask z in
          ap₂ (λ (p q : Bits). bit_or p.mask q.mask) (inside_of_known w a' a ga' ga i k.0) (inside_of_known w b' b gb' gb j k.1)
          ∙ z

      same_power : b.mask ≡ 0 → power b' ≡ power b
      same_power z = ap power (inside_of_known w b' b gb' gb j z)

  pub quotient_inside : Inside 64 (quotient a' b') (quotient a b)
  unfolding quotient
  quotient_inside =
      divided_inside Div _ _ _ _ (div_at_64 w small _ _ ga'.value_fits gb'.value_fits)
      (λ p. quotient_by_power_best b' (power b') p.0 p.1 w a' ga' gb')
      (highest_quotient_falls (top a') b'.value (top a) b.value (top_falls w a' a ga' ga i) (value_grows w b' b gb' gb j))
      (lt_of_le_of_lt (highest_quotient_at_most (top a) b.value) (top_fits w small a ga)) (quotient_sound w small a b ga gb)

  pub rest_inside : Inside 64 (rest a' b') (rest a b)
  unfolding rest
  rest_inside =
      divided_inside Mod _ _ _ _ (mod_at_64 w small _ _ ga'.value_fits gb'.value_fits)
      (λ p. rest_by_power_best b' (power b') p.0 p.1 w a' ga' gb')
      (highest_rest_falls (top a') b'.value (top b') (top a) b.value (top b) (top_falls w a' a ga' ga i) (value_grows w b' b gb' gb j)
      (top_falls w b' b gb' gb j))
      (lt_of_le_of_lt (highest_rest_at_most (top a) b.value (top b)) (top_fits w small a ga)) (rest_sound w small a b ga gb)
