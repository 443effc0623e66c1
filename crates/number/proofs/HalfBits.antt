-- Numbers and pairs by their halves of 32 bits: the bits of a number with another low half, and pairs with another low half.
use mathlib.Core.Path.{◌≡◌, sym, ap, ◌∙◌, subst}
use Prim.Native.Nat.{ℕ, ◌+◌, ◌-◌, ◌/◌, ◌%◌, ◌^◌, ◌<◌, min}
use native.Mathlib.Decide.{dec_lt}
use native.Mathlib.Omega.{arith}
use lib.Bits.{bit_and, and_lt}
use lib.Pow.{pow_pos}
use Rattle.word.specs.Word.{bit, cut}
use Rattle.word.proofs.Bit.{bit_zero, bit_and_lem, bit_mod, bit_shr, ext}
use Rattle.known_bits.specs.declared.Bits.{Bits}
use Rattle.known_bits.specs.KnownBits.{Well, Mem}
use Rattle.known_bits.proofs.Tight.{apart_bit}
use Rattle.number.specs.Meaning.{BitsWithin}
use Rattle.number.specs.Halves.{halves, halves_of_bits}

-- ---- the upper half of x and the low half of y
module _ (x y : ℕ) where
  pub halves_upper : halves x y / 2 ^ 32 ≡ x / 2 ^ 32
  unfolding halves
  halves_upper = omega arith

  pub halves_low : halves x y % 2 ^ 32 ≡ y % 2 ^ 32
  unfolding halves
  halves_low = omega arith

  pub halves_fit : x < 2 ^ 64 → halves x y < 2 ^ 64
  unfolding halves
  halves_fit h = omega arith

  pub halves_low_bit : (k : ℕ) → k < 32 → bit k (halves x y) ≡ bit k y
  halves_low_bit k h = sym (bit_mod 32 k (halves x y) h) ∙ ap (bit k) halves_low ∙ bit_mod 32 k y h

  pub halves_high_bit : (k : ℕ) → ¬ (k < 32) → bit k (halves x y) ≡ bit k x
  halves_high_bit k n =
      let e : 32 + (k - 32) ≡ k = omega arith in
      subst (λ (j : ℕ). bit j (halves x y) ≡ bit j x) e
      (sym (bit_shr 32 (k - 32) (halves x y)) ∙ ap (bit (k - 32)) halves_upper ∙ bit_shr 32 (k - 32) x)

pub halves_of_itself : (x : ℕ) → halves x (cut 32 x) ≡ x
unfolding halves cut
halves_of_itself x = omega arith

-- ---- z agrees with what is known of the low half of a pair
pub record LowAgrees (p : Bits) (z : ℕ) : Type 0 where
  pub agrees : (k : ℕ) → k < 32 → bit k p.mask ≡ 0 → bit k z ≡ bit k p.value

-- a number so completed is one of the pair
pub completed : (p : Bits) (z : ℕ) → p.value < 2 ^ 64 → LowAgrees p z → Mem 64 p (halves p.value z)
completed p z h a = record { fits = halves_fit p.value z h; agrees = λ k l e. at k e (dec_lt k 32) }
  where
    at : (k : ℕ) → bit k p.mask ≡ 0 → Dec (k < 32) → bit k (halves p.value z) ≡ bit k p.value
    at k e (yes l) = halves_low_bit p.value z k l ∙ a.agrees k l e
    at k e (no n) = halves_high_bit p.value z k n

-- so agreement goes from a pair to one that has its numbers
pub low_agrees_within : (p q : Bits) (z : ℕ) → p.value < 2 ^ 64 → BitsWithin p q → LowAgrees p z → LowAgrees q z
low_agrees_within p q z h w a =
    record { agrees = λ k l e. sym (halves_low_bit p.value z k l) ∙ (w (halves p.value z) (completed p z h a)).agrees k (omega arith) e }

-- ---- a pair with another low half
module _ (p q : Bits) where
  pub halves_of_bits_form : Well 64 p → Well 64 q → Well 64 (halves_of_bits p q)
  unfolding halves_of_bits
  halves_of_bits_form gp gq =
      let v = halves p.value q.value in
      let m = halves p.mask q.mask in
      let hv : v < 2 ^ 64 = halves_fit p.value q.value gp.value_fits in
      let hm : m < 2 ^ 64 = halves_fit p.mask q.mask gp.mask_fits in
      record {
        value_fits = hv;
        mask_fits = hm;
        apart = ext 64 (bit_and v m) 0 (and_lt 64 v m hv hm) (pow_pos 64)
            (λ k l. bit_and_lem k v m ∙ at k (dec_lt k 32) ∙ sym (bit_zero k));
      }
    where
      at : (k : ℕ) → Dec (k < 32) → min (bit k (halves p.value q.value)) (bit k (halves p.mask q.mask)) ≡ 0
      at k (yes l) =
          rw (halves_low_bit p.value q.value k l, halves_low_bit p.mask q.mask k l) (omega (arith, apart_bit 64 q gq k))
      at k (no n) =
          rw (halves_high_bit p.value q.value k n, halves_high_bit p.mask q.mask k n) (omega (arith, apart_bit 64 p gp k))

  pub halves_of_bits_have : (x : ℕ) → Mem 64 p x → LowAgrees q x → Mem 64 (halves_of_bits p q) x
  unfolding halves_of_bits
  halves_of_bits_have x i a = record { fits = i.fits; agrees = λ k l e. at k l e (dec_lt k 32) }
    where
      at : (k : ℕ) → k < 64 → bit k (halves p.mask q.mask) ≡ 0 → Dec (k < 32) → bit k x ≡ bit k (halves p.value q.value)
      at k h e (yes l) =
          a.agrees k l (sym (halves_low_bit p.mask q.mask k l) ∙ e) ∙ sym (halves_low_bit p.value q.value k l)
      at k h e (no n) =
          i.agrees k h (sym (halves_high_bit p.mask q.mask k n) ∙ e) ∙ sym (halves_high_bit p.value q.value k n)

  -- its numbers agree with both: above with p, below with q
  pub halves_of_bits_low : (x : ℕ) → Mem 64 (halves_of_bits p q) x → LowAgrees q x
  unfolding halves_of_bits
  halves_of_bits_low x i =
      record {
        agrees = λ k l e.
            i.agrees k (omega arith) (halves_low_bit p.mask q.mask k l ∙ e) ∙ halves_low_bit p.value q.value k l;
      }

  pub halves_of_bits_within : (x : ℕ) → Mem 64 (halves_of_bits p q) x → LowAgrees p x → Mem 64 p x
  unfolding halves_of_bits
  halves_of_bits_within x i a = record { fits = i.fits; agrees = λ k l e. at k l e (dec_lt k 32) }
    where
      at : (k : ℕ) → k < 64 → bit k p.mask ≡ 0 → Dec (k < 32) → bit k x ≡ bit k p.value
      at k h e (yes l) = a.agrees k l e
      at k h e (no n) =
          i.agrees k h (halves_high_bit p.mask q.mask k n ∙ e) ∙ halves_high_bit p.value q.value k n
