-- Laws of words that the code asks for: what fits, and how far a shift goes.
use Rattle.std.proofs.Common.{◌≡◌, ℕ, ◌⊎◌, ◌+◌, ◌-◌, ◌*◌, ◌%◌, ◌^◌, ◌≤◌, ◌<◌, min, ltb, subst, pow_pos, ◌∙◌, arith}
use Rattle.std.proofs.Math.Pow.{not_mod, pow-lt}
use Rattle.std.proofs.lemmas.Bool.{ltb-true, ltb-false}
use Rattle.word.specs.Word.{cut}
use Rattle.word.proofs.Widths.{fits_a_word}
use Rattle.known_bits.specs.Formula.{highest_product}
use Rattle.known_bits.proofs.Base.{by_cases}

-- a product, kept at the greatest word
pub saturated_product : (t u : ℕ) → min (t * u) (2 ^ 64 - 1) ≡ highest_product t u
unfolding highest_product
saturated_product t u =
    by_cases (λ (n : ℕ). min (t * u) (2 ^ 64 - 1) ≡ n) (ltb (t * u) (2 ^ 64))
    (λ e. omega (arith, ltb-true (t * u) (2 ^ 64) e)) (λ e. omega (arith, ltb-false (t * u) (2 ^ 64) e))

pub one_shifted_is_the_power : (n : ℕ) → n < 64 → (1 * 2 ^ n) % 2 ^ 64 ≡ 2 ^ n
one_shifted_is_the_power n l = let h : 2 ^ n < 2 ^ 64 = pow-lt l in omega arith

less_none : (n : ℕ) → n - 0 ≡ n
less_none n = omega arith

-- all bits of a width
all_of_a_width : (w : ℕ) → w ≤ 64 → cut w (2 ^ 64 - 1) ≡ 2 ^ w - 1
unfolding cut
all_of_a_width w l =
    let e : (64 - w) + w ≡ 64 = omega arith in
    let h : (2 ^ ((64 - w) + w) - 1 - 0) % 2 ^ w ≡ 2 ^ w - 1 - 0 = not_mod {a = 0} (64 - w) w (pow_pos w) in
    subst (λ (n : ℕ). (2 ^ n - 1) % 2 ^ w ≡ 2 ^ w - 1) e (rw (less_none (2 ^ ((64 - w) + w) - 1), less_none (2 ^ w - 1)) at h)

-- the greatest number of a width, as the code cuts it from the greatest word
pub greatest_of_a_width : {w x : ℕ} → (w ≡ 64) ⊎ ((w ≡ 32) ⊎ (w ≡ 16)) → x ≡ cut w (2 ^ 64 - 1) → x ≡ 2 ^ w - 1
greatest_of_a_width {w = w} known e = e ∙ all_of_a_width w (fits_a_word known)
