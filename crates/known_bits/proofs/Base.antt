-- What pairs and masks are good for: a mask that covers all results is a sound pair, and a pair with exactly the numbers of a set is
-- its best.
use mathlib.Core.Bool.{Bool, true, false, cond}
use mathlib.Core.Path.{◌≡◌, refl, sym, ◌∙◌}
use Prim.Native.Nat.{ℕ, ◌%◌, ◌^◌, ◌≤◌, ◌<◌}
use native.Mathlib.Nat.{mod-lt, mod-eq_of_lt, lt_of_lt_of_le}
use native.Mathlib.Decide.{dec_lt}
use native.Mathlib.Omega.{arith}
use lib.Bits.{bit_and, or_lt, and_zero_l}
use lib.Pow.{pow_pos, pow_mono}
use Rattle.word.specs.Word.{bit}
use Rattle.word.proofs.Bit.{bit_lt, bit_zero, bit_and_lem, bit_or_lem, bit_mod, bit_high, low_le}
use Rattle.known_bits.specs.declared.Bits.{Bits}
use Rattle.known_bits.specs.Formula.{among}
use Rattle.known_bits.specs.KnownBits.{Well, Mem, Sound, Best}
use Rattle.known_bits.specs.Masks.{Covers, Below}
use Rattle.known_bits.specs.Pair.{top}
use Rattle.known_bits.proofs.Tight.{digit, mem_low}

-- what holds of both arms of a test holds of the test
pub by_cases {ℓ} : {A : Type 0} (P : A → Type ℓ) (t : Bool) {x y : A} → (t ≡ true → P x) → (t ≡ false → P y) → P (cond t x y)
by_cases P true f g = f refl
by_cases P false f g = g refl

-- ---- the numbers of a pair
module _ (w : ℕ) (p : Bits) (g : Well w p) where
  module _ (x : ℕ) (h : Mem w p x) where
    pub top_covers : Covers (top p) x
    top_covers = record { zeros = λ k z. go k z (dec_lt k w) }
      where
        go : (k : ℕ) → bit k (top p) ≡ 0 → Dec (k < w) → bit k x ≡ 0
        go k z (yes l) = h.agrees k l (omega (arith, bit_or_lem k p.value p.mask)) ∙ omega (arith, bit_or_lem k p.value p.mask)
        go k z (no n) = bit_high k x (lt_of_lt_of_le h.fits (pow_mono (omega arith)))

    -- also of the low bits alone
    pub low_at_least_value : (n : ℕ) → n ≤ w → p.value % 2 ^ n ≤ x % 2 ^ n
    low_at_least_value n l = low_le n p.value x (λ j i. mem_low w p g x h j (omega arith))

pub top_is_below : (n : ℕ) (p : Bits) → Below n p → top p < 2 ^ n
top_is_below n p h = or_lt n p.value p.mask h.value_below h.mask_below

pub among_is_below : (n m : ℕ) → m < 2 ^ n → Below n (among m)
unfolding among
among_is_below n m h = record { value_below = pow_pos n; mask_below = h }

-- ---- masks that cover
module _ (m x : ℕ) (h : Covers m x) where
  pub covered_digit : (k : ℕ) → bit k x ≤ bit k m
  covered_digit k = digit (bit k m) (bit_lt k m) (λ z. omega (arith, h.zeros k z)) (λ z. omega (arith, bit_lt k x))

  pub low_of_covered : (n : ℕ) → x % 2 ^ n ≤ m % 2 ^ n
  low_of_covered n = low_le n x m (λ j l. covered_digit j)

  pub covered_is_at_most : (w : ℕ) → x < 2 ^ w → m < 2 ^ w → x ≤ m
  covered_is_at_most w hx hm = omega (arith, low_of_covered w, mod-eq_of_lt hx, mod-eq_of_lt hm)

  pub cut_is_covered : (n : ℕ) → Covers (m % 2 ^ n) (x % 2 ^ n)
  cut_is_covered n = record { zeros = λ k z. go k z (dec_lt k n) }
    where
      go : (k : ℕ) → bit k (m % 2 ^ n) ≡ 0 → Dec (k < n) → bit k (x % 2 ^ n) ≡ 0
      go k z (yes l) = bit_mod n k x l ∙ h.zeros k (sym (bit_mod n k m l) ∙ z)
      go k z (no i) = bit_high k (x % 2 ^ n) (lt_of_lt_of_le (mod-lt x (pow_pos n)) (pow_mono (omega arith)))

pub both_cover : (m n x : ℕ) → Covers m x → Covers n x → Covers (bit_and m n) x
both_cover m n x h g =
    record {
      zeros = λ k z. digit (bit k m) (bit_lt k m) (h.zeros k) (λ e. g.zeros k (omega (arith, bit_and_lem k m n, bit_lt k n)));
    }

pub covered_is_sound : (w : ℕ) (S : ℕ → Type 0) (m : ℕ) → m < 2 ^ w → ((x : ℕ) → S x → (x < 2 ^ w) × Covers m x) → Sound w S (among m)
unfolding among
covered_is_sound w S m l h =
    record {
      well = record { value_fits = pow_pos w; mask_fits = l; apart = and_zero_l m };
      sound = λ x i. let c = h x i in record { fits = c.0; agrees = λ k n z. c.1.zeros k z ∙ sym (bit_zero k) };
    }

-- ---- a pair that has exactly the numbers of a set
pub same_numbers_is_best : (w : ℕ) (S : ℕ → Type 0) (p : Bits) → Well w p → ((x : ℕ) → S x → Mem w p x) → ((x : ℕ) → Mem w p x → S x)
    → Best w S p
same_numbers_is_best w S p g there back =
    record { well = g; sound = there; least = λ q gq hq x hx. hq x (back x hx) }
