-- Tests that the code makes by a difference, a quotient or a shift, so that nothing wraps, are those of the definitions.
use Rattle.std.proofs.Common.{◌≡◌, Bool, true, false, ℕ, ◌+◌, ◌-◌, ◌*◌, ◌/◌, ◌^◌, ◌≤◌, ◌<◌, eqb, leb, ltb, refl, sym, ap, ◌∙◌, arith}
use native.Mathlib.Nat.{zero-mul, div-zero, le-div_iff_mul-le, le-mul_of_pos_right, mul_comm}
use native.Mathlib.Decide.{dec_lt}
use lib.Pow.{pow_pos, pow_mono}
use borrow.Author.Tests.{leb-true, leb-false, eqb-true, eqb-false, le-leb, lt-leb, lt-ltb, le-ltb}
use Rattle.word.specs.Word.{alu}
use Rattle.word.specs.declared.Operation.TheVariants.{Div}
use Rattle.number.proofs.Results.{quotient_is, quotient_by_none}

tests_agree : (t u : Bool) → (t ≡ true → u ≡ true) → (t ≡ false → u ≡ false) → t ≡ u
tests_agree true u f g = sym (f refl)
tests_agree false u f g = sym (g refl)

pub room_is_left : (x size limit : ℕ) → size ≤ limit → leb x (limit - size) ≡ leb (x + size) limit
room_is_left x size limit h =
    tests_agree (leb x (limit - size)) (leb (x + size) limit)
    (λ e. le-leb (x + size) limit (omega (arith, leb-true x (limit - size) e)))
    (λ e. lt-leb (x + size) limit (omega (arith, leb-false x (limit - size) e)))

-- a number fits, shifted by n, if it is no more than the greatest word shifted back
pub fits_if_shifted_back : (x n : ℕ) → leb x ((2 ^ 64 - 1) / 2 ^ n) ≡ ltb (x * 2 ^ n) (2 ^ 64)
fits_if_shifted_back x n =
    let h = le-div_iff_mul-le {k = 2 ^ n} {x = x} {y = 2 ^ 64 - 1} (pow_pos n) in
    tests_agree (leb x ((2 ^ 64 - 1) / 2 ^ n)) (ltb (x * 2 ^ n) (2 ^ 64))
    (λ e. lt-ltb (x * 2 ^ n) (2 ^ 64) (omega (arith, h.0 (leb-true x ((2 ^ 64 - 1) / 2 ^ n) e))))
    (λ e. let out : x * 2 ^ n ≤ 2 ^ 64 - 1 → ⊥ = λ l. omega (arith, leb-false x ((2 ^ 64 - 1) / 2 ^ n) e, h.1 l) in
    le-ltb (x * 2 ^ n) (2 ^ 64) (omega arith))

-- a number that is not 0 wraps if it is shifted by 64 or more
pub only_zero_is_shifted_far : (x n : ℕ) → 64 ≤ n → eqb x 0 ≡ ltb (x * 2 ^ n) (2 ^ 64)
only_zero_is_shifted_far x n h =
    tests_agree (eqb x 0) (ltb (x * 2 ^ n) (2 ^ 64))
    (λ e. rw (eqb-true x 0 e, zero-mul (2 ^ n)))
    (λ e. le-ltb (x * 2 ^ n) (2 ^ 64) (far e))
  where
    far : eqb x 0 ≡ false → 2 ^ 64 ≤ x * 2 ^ n
    far e =
        let none : x ≡ 0 → ⊥ = eqb-false x 0 e in let some : 0 < x = omega arith in
        omega (arith, pow_mono h, le-mul_of_pos_right (2 ^ n) some, mul_comm x (2 ^ n))

-- the quotient by 0 is 0 for both
pub quotient_of_words : (x y : ℕ) → x < 2 ^ 64 → y < 2 ^ 64 → alu 64 Div x y ≡ x / y
quotient_of_words x y hx hy = go (dec_lt 0 y)
  where
    go : Dec (0 < y) → alu 64 Div x y ≡ x / y
    go (yes p) = quotient_is x y hx hy p
    go (no p) = let none : y ≡ 0 = omega arith in quotient_by_none x y hx hy none ∙ sym (ap (λ (z : ℕ). x / z) none ∙ div-zero x)
