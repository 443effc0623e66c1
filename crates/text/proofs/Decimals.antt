-- The digits that `io::decimal` makes are those of the definition, and at most 20.
use mathlib.Core.Bool.{Bool, true, false, cond}
use mathlib.Core.List.{List, [], ◌∷◌, ◌++◌}
use mathlib.Core.Path.{◌≡◌}
use Prim.Native.Nat.{ℕ, zero, suc, ◌+◌, ◌-◌, ◌/◌, ◌%◌, ◌^◌, ◌≤◌, ◌<◌}
use native.Mathlib.Nat.{pow-suc, one-le-pow, pow-le-pow_right}
use native.Mathlib.Omega.{arith}
use lib.ListN.{length, length-append}
use lib.Dec.{ltb}
use borrow.Author.Tests.{lt-ltb, le-ltb}
use Rattle.io.specs.Digits.{last_digits as io_digits}
use Rattle.text.specs.Buffer.{last_digits, decimal}

pub one_digit_more : (b : Bool) (s : List ℕ) (d k : ℕ) → length s ≤ k → length (cond b [] s ++ (d ∷ [])) ≤ suc k
one_digit_more true s d k h = omega arith
one_digit_more false s d k h = simp length-append (omega arith)

digits_short : (k n : ℕ) → length (last_digits k n) ≤ k
unfolding last_digits
digits_short zero n = omega arith
digits_short (suc k) n = one_digit_more (ltb n 10) (last_digits k (n / 10)) (48 + n % 10) k (digits_short k (n / 10))

pub decimal_short : (n : ℕ) → length (decimal n) ≤ 20
unfolding decimal
decimal_short n = digits_short 20 n

module _ (k n : ℕ) (l : 10 ^ suc k ≤ n) where
  ten : 10 ≤ n
  ten = omega (arith, pow-suc 10 k, one-le-pow k 10 (omega arith))

  tenth : 10 ^ k ≤ n / 10
  tenth = omega (arith, pow-suc 10 k)

fewest_digits : (f k n : ℕ) → suc k ≤ f → n < 10 ^ suc k → (0 < k → 10 ^ k ≤ n) → io_digits 10 (suc k) n ≡ last_digits f n
unfolding last_digits
fewest_digits zero k n h b l = absurd (omega arith)
fewest_digits (suc f) zero n h b l = simp (lt-ltb (n % 10) 10 (omega arith), lt-ltb n 10 (omega (arith, pow-suc 10 0)))
fewest_digits (suc f) (suc k) n h b l =
    let e : 10 ^ suc k ≤ n = l (omega arith) in
    simp (lt-ltb (n % 10) 10 (omega arith), le-ltb n 10 (ten k n e), fewest_digits f k (n / 10) (omega arith) (omega (arith, pow-suc 10 (suc k))) (λ w. tenth k n e))

-- what `io::decimal` ensures of the number k of the digits of n
module _ (k n : ℕ) (g : (1 ≤ k) × (n < 10 ^ k) × (1 < k → 10 ^ (k - 1) ≤ n)) (small : n < 2 ^ 64) where
  at_most_twenty : k ≤ 20
  at_most_twenty =
      let e : 20 < k → ⊥ = λ h. omega (arith, g.2 (omega arith), pow-le-pow_right {n = 10} (omega arith) {i = 20} {j = k - 1} (omega arith)) in
      omega arith

  pub decimal_digits : io_digits 10 k n ≡ decimal n
  unfolding decimal
  decimal_digits =
      let e : k ≡ suc (k - 1) = omega (arith, g.0) in
      rw e (fewest_digits 20 (k - 1) n (omega (arith, at_most_twenty, g.0)) (rw e at g.1) (λ w. g.2 (omega arith)))
