-- The digits that `io::hex` makes are those of the definition, and at most 16.
use mathlib.Core.Path.{◌≡◌}
use Prim.Native.Nat.{ℕ, zero, suc, ◌-◌, ◌/◌, ◌%◌, ◌^◌, ◌≤◌, ◌<◌, min, max}
use native.Mathlib.Nat.{pow-suc, one-le-pow, pow-le-pow_right}
use native.Mathlib.Omega.{arith}
use lib.ListN.{length}
use lib.Dec.{ltb}
use borrow.Author.Tests.{lt-ltb, le-ltb}
use Rattle.io.specs.Digits.{last_digits as io_digits}
use Rattle.text.specs.Buffer.{glyph, last_sixteens, hexadecimal}
use Rattle.text.proofs.Decimals.{one_digit_more}

sixteens_short : (k n : ℕ) → length (last_sixteens k n) ≤ k
unfolding last_sixteens
sixteens_short zero n = omega arith
sixteens_short (suc k) n = one_digit_more (ltb n 16) (last_sixteens k (n / 16)) (glyph (n % 16)) k (sixteens_short k (n / 16))

pub hexadecimal_short : (n : ℕ) → length (hexadecimal n) ≤ 16
unfolding hexadecimal
hexadecimal_short n = sixteens_short 16 n

module _ (k n : ℕ) (l : 16 ^ suc k ≤ n) where
  sixteen : 16 ≤ n
  sixteen = omega (arith, pow-suc 16 k, one-le-pow k 16 (omega arith))

  sixteenth : 16 ^ k ≤ n / 16
  sixteenth = omega (arith, pow-suc 16 k)

fewest_sixteens : (f k n : ℕ) → suc k ≤ f → n < 16 ^ suc k → (0 < k → 16 ^ k ≤ n) → io_digits 16 (suc k) n ≡ last_sixteens f n
unfolding last_sixteens glyph
fewest_sixteens zero k n h b l = absurd (omega arith)
fewest_sixteens (suc f) zero n h b l = simp (lt-ltb n 16 (omega (arith, pow-suc 16 0)))
fewest_sixteens (suc f) (suc k) n h b l =
    let e : 16 ^ suc k ≤ n = l (omega arith) in
    simp (le-ltb n 16 (sixteen k n e), fewest_sixteens f k (n / 16) (omega arith) (omega (arith, pow-suc 16 (suc k))) (λ w. sixteenth k n e))

-- what `io::hex` ensures of the number k of the digits of n
module _ (k n : ℕ) (g : (min (max 0 1) 16 ≤ k) × (n < 16 ^ k) × (min (max 0 1) 16 < k → 16 ^ (k - 1) ≤ n)) (small : n < 2 ^ 64) where
  at_most_sixteen : k ≤ 16
  at_most_sixteen =
      let e : 16 < k → ⊥ = λ h. omega (arith, g.2 (omega arith), pow-le-pow_right {n = 16} (omega arith) {i = 16} {j = k - 1} (omega arith)) in
      omega arith

  pub hexadecimal_digits : io_digits 16 k n ≡ hexadecimal n
  unfolding hexadecimal
  hexadecimal_digits =
      let e : k ≡ suc (k - 1) = omega (arith, g.0) in
      rw e (fewest_sixteens 16 (k - 1) n (omega (arith, at_most_sixteen, g.0)) (rw e at g.1) (λ w. g.2 (omega arith)))
