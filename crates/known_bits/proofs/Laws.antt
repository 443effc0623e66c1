-- The laws that callers use: between which ends the numbers of a pair lie, what a join covers, that a pair is the same at more bits,
-- that the best pair is the only one, what an exact pair has, and when a pair lies within another.
use mathlib.Core.Path.{◌≡◌, sym, ap, ◌∙◌, subst}
use mathlib.Core.Logic.{◌↔◌, inl, inr}
use Prim.Native.Nat.{ℕ, ◌%◌, ◌^◌, ◌≤◌, ◌<◌}
use native.Mathlib.Nat.{mod-lt, mod-eq_of_lt, le_trans}
use native.Mathlib.Decide.{dec_lt}
use native.Mathlib.Omega.{arith}
use lib.Pow.{pow_pos, pow_mono}
use lib.Bits.{bit_or, bit_xor}
use Rattle.word.specs.Word.{bit}
use Rattle.word.proofs.Bit.{bit_lt, bit_zero, bit_mod, bit_high, low_le, ext}
use Rattle.known_bits.specs.declared.Bits.{Bits}
use Rattle.known_bits.specs.KnownBits.{Well, Mem, Sound, Best, Either}
use Rattle.known_bits.specs.Pair.{top}
use Rattle.known_bits.proofs.Tight.{digit, apart_bit, mem_least, mem_top, mem_low, mem_high, flip, flip_bit, mem_flip, spread_bit}

pub best_sound : (w : ℕ) (S : ℕ → Type 0) (p : Bits) → Best w S p → Sound w S p
best_sound w S p b = record { well = b.well; sound = b.sound }

-- sets with the same numbers have the same best pair
pub best_same_set : (w : ℕ) (S T : ℕ → Type 0) (p : Bits) → ((x : ℕ) → S x → T x) → ((x : ℕ) → T x → S x) → Best w S p → Best w T p
best_same_set w S T p there back b =
    record { well = b.well; sound = λ x i. b.sound x (back x i); least = λ q gq hq. b.least q gq (λ x i. hq x (there x i)) }

-- the least number is value, the greatest value | mask
pub mem_bounds : (w : ℕ) (p : Bits) → Well w p → (x : ℕ) → Mem w p x → (p.value ≤ x) × (x ≤ top p)
mem_bounds w p g x m =
    let e = mod-eq_of_lt g.value_fits in
    let f = mod-eq_of_lt m.fits in
    let t = mod-eq_of_lt (mem_top w p g).fits in
    (omega (arith, low_le w p.value x (mem_low w p g x m)), omega (arith, low_le w x (top p) (mem_high w p g x m)))

-- x/0 has x and nothing else
pub exact_mem : (w : ℕ) (p : Bits) → Well w p → p.mask ≡ 0 → (x : ℕ) → Mem w p x ↔ (x ≡ p.value)
exact_mem w p g e x = (
  λ m. ext w x p.value m.fits g.value_fits (λ k l. m.agrees k l (ap (bit k) e ∙ bit_zero k)),
  λ i. subst (λ (n : ℕ). Mem w p n) (sym i) (mem_least w p g),
)

-- one pair lies within another if their join is the other: a test by three operations
pub mem_within : (w : ℕ) (p q : Bits) → bit_or (bit_or (bit_xor p.value q.value) p.mask) q.mask ≡ q.mask
    → (x : ℕ) → Mem w p x → Mem w q x
mem_within w p q e x m =
    record {
      fits = m.fits;
      agrees = λ k l z.
          let j = spread_bit k p.value q.value p.value p.mask q.mask in
          let i : bit k (bit_or (bit_or (bit_xor p.value q.value) p.mask) q.mask) ≡ 0 = ap (bit k) e ∙ z in
          m.agrees k l (omega (arith, i, j)) ∙ omega (arith, i, j, bit_lt k p.value, bit_lt k q.value);
    }

-- ---- where paths join
module _ (a b r : Bits) (s : Sound 64 (Either a b) r) (x : ℕ) where
  pub join_covers_left : Mem 64 a x → Mem 64 r x
  join_covers_left h = s.sound x (inl h)

  pub join_covers_right : Mem 64 b x → Mem 64 r x
  join_covers_right h = s.sound x (inr h)

-- ---- a pair of v bits is one of w bits
pub number_wider : (v w : ℕ) → v ≤ w → {x : ℕ} → x < 2 ^ v → x < 2 ^ w
number_wider v w h hx = le_trans hx (pow_mono h)

pub high_bit : (v k x : ℕ) → ¬ (k < v) → x < 2 ^ v → bit k x ≡ 0
high_bit v k x n hx = bit_high k x (le_trans hx (pow_mono (omega arith)))

module _ (v w : ℕ) (h : v ≤ w) (p : Bits) (g : Well v p) where
  pub well_wider : Well w p
  well_wider = record { value_fits = number_wider v w h g.value_fits; mask_fits = number_wider v w h g.mask_fits; apart = g.apart }

  pub mem_wider : (x : ℕ) → Mem v p x → Mem w p x
  mem_wider x m = record { fits = le_trans m.fits (pow_mono h); agrees = λ k l e. go k e (dec_lt k v) }
    where
      go : (k : ℕ) → bit k p.mask ≡ 0 → Dec (k < v) → bit k x ≡ bit k p.value
      go k e (yes l) = m.agrees k l e
      go k e (no n) = high_bit v k x n m.fits ∙ sym (high_bit v k p.value n g.value_fits)

  pub mem_narrower : (x : ℕ) → Mem w p x → Mem v p x
  mem_narrower x m =
      record { fits = subst (λ (y : ℕ). y < 2 ^ v) (sym same) (mod-lt x (pow_pos v)); agrees = λ k l e. m.agrees k (omega arith) e }
    where
      go : (k : ℕ) → k < w → Dec (k < v) → bit k x ≡ bit k (x % 2 ^ v)
      go k l (yes n) = sym (bit_mod v k x n)
      go k l (no n) =
          m.agrees k l (high_bit v k p.mask n g.mask_fits) ∙ high_bit v k p.value n g.value_fits
          ∙ sym (high_bit v k (x % 2 ^ v) n (mod-lt x (pow_pos v)))

      same : x ≡ x % 2 ^ v
      same = ext w x (x % 2 ^ v) m.fits (le_trans (mod-lt x (pow_pos v)) (pow_mono h)) (λ k l. go k l (dec_lt k v))

-- ---- one pair only
module _ (w : ℕ) (p q : Bits) (gp : Well w p) (gq : Well w q) (into : (x : ℕ) → Mem w p x → Mem w q x) where
  -- what q knows, p knows
  pub mask_le : (k : ℕ) → k < w → bit k p.mask ≤ bit k q.mask
  mask_le k l =
      digit (bit k q.mask) (bit_lt k q.mask)
      (λ z. digit (bit k p.mask) (bit_lt k p.mask) (λ y. omega arith)
      (λ y. absurd (omega (
        arith,
        (into p.value (mem_least w p gp)).agrees k l z,
        (into (flip p k) (mem_flip w p gp k l y)).agrees k l z,
        flip_bit w p gp k,
        apart_bit w p gp k,
      ))))
      (λ z. omega (arith, bit_lt k p.mask))

pub unique : (w : ℕ) (S : ℕ → Type 0) (p q : Bits) → Best w S p → Best w S q → p ≡ q
unique w S p q hp hq =
    λ i. record {
      value = ext w p.value q.value hp.well.value_fits hq.well.value_fits value_eq i;
      mask = ext w p.mask q.mask hp.well.mask_fits hq.well.mask_fits mask_eq i;
    }
  where
    pq : (x : ℕ) → Mem w p x → Mem w q x
    pq = hp.least q hq.well hq.sound

    qp : (x : ℕ) → Mem w q x → Mem w p x
    qp = hq.least p hp.well hp.sound

    mask_eq : (k : ℕ) → k < w → bit k p.mask ≡ bit k q.mask
    mask_eq k l = omega (arith, mask_le w p q hp.well hq.well pq k l, mask_le w q p hq.well hp.well qp k l)

    value_eq : (k : ℕ) → k < w → bit k p.value ≡ bit k q.value
    value_eq k l =
        digit (bit k q.mask) (bit_lt k q.mask)
        (λ z. (pq p.value (mem_least w p hp.well)).agrees k l z)
        (λ z. omega (arith, mask_eq k l, apart_bit w p hp.well k, apart_bit w q hq.well k))
