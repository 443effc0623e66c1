-- Shift and add as the code goes: which digit adds what, and the test by which the digits that are left are found to change nothing.
use mathlib.Core.Path.{◌≡◌, sym, ap, ◌∙◌}
use Prim.Native.Nat.{ℕ, ◌+◌, ◌-◌, ◌*◌, ◌/◌, ◌%◌, ◌^◌, ◌≤◌, ◌<◌}
use native.Mathlib.Omega.{arith}
use lib.Bits.{bit_or}
use lib.Count.{count_trailing_zeros}
use borrow.Author.Tests.{eq-eqb, ne_eqb}
use Rattle.word.specs.Word.{bit, cut}
use Rattle.word.proofs.Bit.{bit_lt, bit_or_lem, bit_mod, bit_shl}
use Rattle.known_bits.specs.declared.Bits.{Bits}
use Rattle.known_bits.specs.Formula.{low, sum, joined, from_bit, placed, with_digit, low_digits, shift_and_add}
use Rattle.known_bits.specs.Pair.{top}
use Rattle.known_bits.proofs.Covering.{covered_has_the_low_zeros, bit_from_on}
use Rattle.known_bits.proofs.ShiftAndAdd.{unknown_absorbs_the_rest}

module _ (a b : Bits) (k : ℕ) (r : Bits) where
  pub no_1_is_added : top a / 2 ^ k % 2 ≡ 0 → r ≡ with_digit 64 a b k r
  unfolding with_digit bit
  no_1_is_added z =
      let d : bit k (top a) ≡ 0 = z in
      let m : bit k a.mask ≡ 0 = omega (arith, bit_or_lem k a.value a.mask) in
      let v : bit k a.value ≡ 0 = omega (arith, bit_or_lem k a.value a.mask) in
      simp (eq-eqb _ _ m, eq-eqb _ _ v)

  pub a_1_is_added : ¬ (top a / 2 ^ k % 2 ≡ 0) → a.mask / 2 ^ k % 2 ≡ 0 → sum 64 r (placed 64 k b) ≡ with_digit 64 a b k r
  unfolding with_digit bit
  a_1_is_added n z =
      let d : ¬ (bit k (top a) ≡ 0) = n in
      let m : bit k a.mask ≡ 0 = z in
      let v : ¬ (bit k a.value ≡ 0) = λ e. d (omega (arith, bit_or_lem k a.value a.mask)) in
      simp (eq-eqb _ _ m, ne_eqb _ _ v)

  pub an_unknown_digit_may_be_added : ¬ (a.mask / 2 ^ k % 2 ≡ 0) → joined r (sum 64 r (placed 64 k b)) ≡ with_digit 64 a b k r
  unfolding with_digit bit
  an_unknown_digit_may_be_added n = simp (ne_eqb _ _ n)

-- the code tests the low w of the bits from b's lowest on, k places up
pub tested_unknown_absorbs : (a b r : Bits) (k n w : ℕ) → r ≡ low_digits 64 a b k → n ≡ from_bit (count_trailing_zeros 64 (top b))
    → bit_or (cut w ((n * 2 ^ k) % 2 ^ 64)) r.mask ≡ r.mask → k ≤ 64 → w ≤ 64 → low w r ≡ low w (shift_and_add 64 a b)
unfolding cut
tested_unknown_absorbs a b r k n w er en t l small =
    ap (low w) er
    ∙ unknown_absorbs_the_rest w small a b (count_trailing_zeros 64 (top b))
    (covered_has_the_low_zeros (top b) b.value (record { zeros = λ i z. omega (arith, bit_or_lem i b.value b.mask) }))
    (covered_has_the_low_zeros (top b) b.mask (record { zeros = λ i z. omega (arith, bit_or_lem i b.value b.mask) })) k unknown l
  where
    reached : (i : ℕ) → count_trailing_zeros 64 (top b) + k ≤ i → i < 64 → bit i ((n * 2 ^ k) % 2 ^ 64) ≡ 1
    reached i g h =
        let e : i ≡ k + (i - k) = omega arith in
        bit_mod 64 i (n * 2 ^ k) h ∙ ap (λ (m : ℕ). bit m (n * 2 ^ k)) e ∙ bit_shl k (i - k) n ∙ ap (bit (i - k)) en
        ∙ bit_from_on (count_trailing_zeros 64 (top b)) (i - k) (omega arith) (omega arith)

    unknown : (i : ℕ) → count_trailing_zeros 64 (top b) + k ≤ i → i < w → bit i (low_digits 64 a b k).mask ≡ 1
    unknown i g h =
        ap (λ (p : Bits). bit i p.mask) (sym er)
        ∙ omega (
          arith,
          ap (bit i) t,
          bit_or_lem i ((n * 2 ^ k) % 2 ^ 64 % 2 ^ w) r.mask,
          bit_mod w i ((n * 2 ^ k) % 2 ^ 64) h,
          reached i g (omega arith),
          bit_lt i r.mask,
        )
