-- How a pair is shown to be the best: it has every number of the set, and at each bit that it leaves unknown two of them differ.
use mathlib.Core.Path.{◌≡◌, refl, sym, ap, ◌∙◌}
use Prim.Native.Nat.{ℕ, zero, suc, ◌+◌, ◌-◌, ◌%◌, ◌^◌, ◌≤◌, ◌<◌, max}
use native.Mathlib.Omega.{arith}
use lib.Pow.{pow-lt}
use lib.Bits.{bit_or, bit_xor, or_lt, xor_lt, and_lt}
use Rattle.word.specs.Word.{bit}
use Rattle.word.proofs.Bit.{bit_lt, bit_zero, bit_and_lem, bit_or_lem, bit_xor_lem, bit_pow, bit_pow_other, ext}
use Rattle.known_bits.specs.declared.Bits.{Bits}
use Rattle.known_bits.specs.KnownBits.{Well, Mem, Best}
use Rattle.known_bits.specs.Pair.{packed, spread, top}

-- a digit is 0 or 1
pub digit {ℓ} : {P : Type ℓ} (d : ℕ) → d < 2 → (d ≡ 0 → P) → (d ≡ 1 → P) → P
digit zero h f g = f refl
digit (suc zero) h f g = g refl
digit (suc (suc d)) h f g = absurd (omega arith)

pub record Tight (w : ℕ) (S : ℕ → Type 0) (p : Bits) : Type 0 where
  pub well : Well w p
  pub sound : (x : ℕ) → S x → Mem w p x
  pub some : (x : ℕ) × S x
  pub differs : (k : ℕ) → k < w → bit k p.mask ≡ 1 → (x : ℕ) × (y : ℕ) × S x × S y × (¬ (bit k x ≡ bit k y))

pub tight_best : (w : ℕ) (S : ℕ → Type 0) (p : Bits) → Tight w S p → Best w S p
tight_best w S p t =
    record {
      well = t.well;
      sound = t.sound;
      least = λ q gq hq x hx. record {
        fits = hx.fits;
        agrees = λ k l e. digit (bit k p.mask) (bit_lt k p.mask)
            (λ z. hx.agrees k l z ∙ sym ((t.sound t.some.0 t.some.1).agrees k l z) ∙ (hq t.some.0 t.some.1).agrees k l e)
            (λ z. let d = t.differs k l z in absurd (d.4 ((hq d.0 d.2).agrees k l e ∙ sym ((hq d.1 d.3).agrees k l e))));
      };
    }

-- the least number of a pair with bit k set
abbrev pub flip : Bits → ℕ → ℕ
flip p k = bit_or p.value (2 ^ k)

-- the digits of a pair, and of its numbers
module _ (w : ℕ) (p : Bits) (g : Well w p) where
  pub apart_bit : (k : ℕ) → bit k p.value + bit k p.mask < 2
  apart_bit k = omega (arith, bit_and_lem k p.value p.mask, ap (bit k) g.apart, bit_zero k, bit_lt k p.value, bit_lt k p.mask)

  pub top_bit : (k : ℕ) → bit k (top p) ≡ bit k p.value + bit k p.mask
  top_bit k = omega (arith, bit_or_lem k p.value p.mask, apart_bit k)

  pub mem_least : Mem w p p.value
  mem_least = record { fits = g.value_fits; agrees = λ k l e. refl }

  pub mem_top : Mem w p (top p)
  mem_top = record { fits = or_lt w p.value p.mask g.value_fits g.mask_fits; agrees = λ k l e. omega (arith, top_bit k) }

  pub mem_low : (x : ℕ) → Mem w p x → (k : ℕ) → k < w → bit k p.value ≤ bit k x
  mem_low x h k l = digit (bit k p.mask) (bit_lt k p.mask) (λ z. omega (arith, h.agrees k l z)) (λ z. omega (arith, apart_bit k))

  pub mem_high : (x : ℕ) → Mem w p x → (k : ℕ) → k < w → bit k x ≤ bit k (top p)
  mem_high x h k l =
      digit (bit k p.mask) (bit_lt k p.mask) (λ z. omega (arith, h.agrees k l z, top_bit k)) (λ z. omega (arith, top_bit k, bit_lt k x))

  pub flip_bit : (k : ℕ) → bit k (flip p k) ≡ 1
  flip_bit k = omega (arith, bit_or_lem k p.value (2 ^ k), bit_pow k, bit_lt k p.value)

  pub flip_other : (j k : ℕ) → ¬ (j ≡ k) → bit j (flip p k) ≡ bit j p.value
  flip_other j k h = omega (arith, bit_or_lem j p.value (2 ^ k), bit_pow_other j k h)

  pub mem_flip : (k : ℕ) → k < w → bit k p.mask ≡ 1 → Mem w p (flip p k)
  mem_flip k l u =
      record {
        fits = or_lt w p.value (2 ^ k) g.value_fits (pow-lt l);
        agrees = λ j m e. flip_other j k (λ i. let z : ◌≡◌ {A = ℕ} 0 1 = sym e ∙ ap (λ (n : ℕ). bit n p.mask) i ∙ u in omega arith);
      }

-- a pair that is packed
pub packed_value : (k s m : ℕ) → bit k (packed s m).value ≡ bit k s - bit k m
packed_value k s m = omega (arith, bit_xor_lem k (bit_or s m) m, bit_or_lem k s m, bit_lt k s, bit_lt k m)

pub packed_well : (w s m : ℕ) → s < 2 ^ w → m < 2 ^ w → Well w (packed s m)
packed_well w s m hs hm =
    record {
      value_fits = xor_lt w (bit_or s m) m (or_lt w s m hs hm) hm;
      mask_fits = hm;
      apart = ext w _ 0 (and_lt w _ m (xor_lt w (bit_or s m) m (or_lt w s m hs hm) hm) hm) (omega arith)
          (λ k l. omega (arith, bit_and_lem k (packed s m).value m, packed_value k s m, bit_lt k s, bit_lt k m, bit_zero k));
    }

pub packed_best : (w : ℕ) (S : ℕ → Type 0) (s m : ℕ) → s < 2 ^ w → m < 2 ^ w
    → ((x : ℕ) → S x → x < 2 ^ w)
    → ((x : ℕ) → S x → (k : ℕ) → k < w → bit k m ≡ 0 → bit k x ≡ bit k s)
    → S s
    → ((k : ℕ) → k < w → bit k m ≡ 1 → (x : ℕ) × (y : ℕ) × S x × S y × (¬ (bit k x ≡ bit k y)))
    → Best w S (packed s m)
packed_best w S s m hs hm fits agrees some differs =
    tight_best w S (packed s m)
    (record {
      well = packed_well w s m hs hm;
      sound = λ x i. record { fits = fits x i; agrees = λ k l e. agrees x i k l e ∙ omega (arith, packed_value k s m) };
      some = (s, some);
      differs = differs;
    })

-- the mask of a pair that is spread
pub spread_fits : (w s lo hi ma mb : ℕ) → lo < 2 ^ w → hi < 2 ^ w → ma < 2 ^ w → mb < 2 ^ w → (spread s lo hi ma mb).mask < 2 ^ w
spread_fits w s lo hi ma mb hl hh ha hb = or_lt w _ mb (or_lt w _ ma (xor_lt w hi lo hh hl) ha) hb

pub spread_bit : (k s lo hi ma mb : ℕ)
    → bit k (spread s lo hi ma mb).mask ≡ max (max ((bit k hi + bit k lo) % 2) (bit k ma)) (bit k mb)
spread_bit k s lo hi ma mb =
    omega (arith, bit_or_lem k (bit_or (bit_xor hi lo) ma) mb, bit_or_lem k (bit_xor hi lo) ma, bit_xor_lem k hi lo)
