-- What two pairs know together of a number that both have: the meet has the form, and exactly the numbers of both, unless the pairs
-- contradict each other.
use mathlib.Core.Path.{◌≡◌, sym, ◌∙◌}
use Prim.Native.Nat.{ℕ, ◌<◌, min, max}
use native.Mathlib.Omega.{arith}
use lib.Bits.{and_lt, or_lt}
use lib.Pow.{pow_pos}
use Rattle.word.specs.Word.{bit}
use Rattle.word.proofs.Bit.{bit_lt, bit_zero, bit_and_lem, bit_or_lem, ext}
use Rattle.known_bits.specs.declared.Bits.{Bits}
use Rattle.known_bits.specs.Formula.{meet}
use Rattle.known_bits.specs.KnownBits.{Well, Mem, Sound}
use Rattle.known_bits.proofs.Tight.{digit, apart_bit}

-- no bit is known to be 0 by one pair and to be 1 by the other
abbrev pub Agree : ℕ → Bits → Bits → Type 0
Agree w a b = (k : ℕ) → k < w → bit k a.mask ≡ 0 → bit k b.mask ≡ 0 → bit k a.value ≡ bit k b.value

pub agree_on_a_number : (w : ℕ) (a b : Bits) (x : ℕ) → Mem w a x → Mem w b x → Agree w a b
agree_on_a_number w a b x ha hb k l p q = sym (ha.agrees k l p) ∙ hb.agrees k l q

module _ (w : ℕ) (a b : Bits) (ga : Well w a) (gb : Well w b) where
  value_bit : (k : ℕ) → bit k (meet a b).value ≡ max (bit k a.value) (bit k b.value)
  value_bit k = bit_or_lem k a.value b.value

  mask_bit : (k : ℕ) → bit k (meet a b).mask ≡ min (bit k a.mask) (bit k b.mask)
  mask_bit k = bit_and_lem k a.mask b.mask

  pub meet_well : Well w (meet a b)
  meet_well =
      let hv = or_lt w a.value b.value ga.value_fits gb.value_fits in
      let hm = and_lt w a.mask b.mask ga.mask_fits gb.mask_fits in
      record {
        value_fits = hv;
        mask_fits = hm;
        apart = ext w _ 0 (and_lt w (meet a b).value (meet a b).mask hv hm) (pow_pos w)
            (λ k l. omega (arith, bit_zero k, bit_and_lem k (meet a b).value (meet a b).mask, value_bit k, mask_bit k, apart_bit w a ga k, apart_bit w b gb k));
      }

  module _ (same : Agree w a b) where
    -- where a pair knows the bit, it is the one of the meet
    first_bit : (k : ℕ) → k < w → bit k a.mask ≡ 0 → bit k (meet a b).value ≡ bit k a.value
    first_bit k l z =
        digit (bit k b.mask) (bit_lt k b.mask) (λ y. omega (arith, value_bit k, same k l z y))
        (λ y. omega (arith, value_bit k, apart_bit w b gb k))

    second_bit : (k : ℕ) → k < w → bit k b.mask ≡ 0 → bit k (meet a b).value ≡ bit k b.value
    second_bit k l z =
        digit (bit k a.mask) (bit_lt k a.mask) (λ y. omega (arith, value_bit k, same k l y z))
        (λ y. omega (arith, value_bit k, apart_bit w a ga k))

    pub meet_within_both : (x : ℕ) → Mem w (meet a b) x → Mem w a x × Mem w b x
    meet_within_both x h = (
      record { fits = h.fits; agrees = λ k l z. h.agrees k l (omega (arith, mask_bit k)) ∙ first_bit k l z },
      record { fits = h.fits; agrees = λ k l z. h.agrees k l (omega (arith, mask_bit k)) ∙ second_bit k l z },
    )

  pub meet_has : (x : ℕ) → Mem w a x → Mem w b x → Mem w (meet a b) x
  meet_has x ha hb =
      record {
        fits = ha.fits;
        agrees = λ k l z. digit (bit k a.mask) (bit_lt k a.mask) (λ y. ha.agrees k l y ∙ sym (first_bit same k l y))
            (λ y. let o : bit k b.mask ≡ 0 = omega (arith, mask_bit k, bit_lt k b.mask) in hb.agrees k l o ∙ sym (second_bit same k l o));
      }
    where
      same : Agree w a b
      same = agree_on_a_number w a b x ha hb

-- ---- two pairs that have every number of a set
module _ (w : ℕ) (S : ℕ → Type 0) (p q : Bits) (hp : Sound w S p) (hq : Sound w S q) where
  pub meet_sound : Sound w S (meet p q)
  meet_sound =
      record {
        well = meet_well w p q hp.well hq.well;
        sound = λ x i. meet_has w p q hp.well hq.well x (hp.sound x i) (hq.sound x i);
      }

  pub meet_within : (z : ℕ) → S z → (x : ℕ) → Mem w (meet p q) x → Mem w p x × Mem w q x
  meet_within z i = meet_within_both w p q hp.well hq.well (agree_on_a_number w p q z (hp.sound z i) (hq.sound z i))
