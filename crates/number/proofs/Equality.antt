-- What it tells of two numbers that they are equal, and that they are not.
use mathlib.Core.Path.{◌≡◌, sym}
use Prim.Native.Nat.{ℕ, ◌≤◌, ◌<◌}
use native.Mathlib.Nat.{le_trans}
use native.Mathlib.Decide.{ℕ_discrete, dec_lt}
use native.Mathlib.Omega.{arith}
use borrow.Author.Tests.{eq-eqb, ne_eqb, lt-ltb, le-ltb}
use Rattle.std.specs.Prelude.{Option, Some, None}
use Rattle.known_bits.specs.declared.Bits.{Bits}
use Rattle.known_bits.specs.KnownBits.{Well, Both}
use Rattle.known_bits.specs.Learn.{Learns}
use Rattle.known_bits.specs.Formula.{met}
use Rattle.known_bits.specs.Pair.{top}
use Rattle.known_bits.proofs.Laws.{mem_bounds}
use Rattle.known_bits.proofs.Tight.{mem_least, mem_top}
use Rattle.number.specs.declared.Range.{Range}
use Rattle.number.specs.declared.Number.{Number}
use Rattle.number.specs.Meaning.{Within, In, RangeWithin, BitsWithin, Narrower, Kept, Left}
use Rattle.number.specs.Sharpen.{sharpened}
use Rattle.number.specs.Compare.{bounds, common, equal_by, equal, empty, without, apart_from, unequal}
use Rattle.known_bits.proofs.LearnLaws.{met_learns}
use Rattle.number.proofs.Sharpening.{sharpened_keeps, sharpened_form, sharpened_bits_within, sharpened_range_within, sharpened_above_least, sharpened_below_top}
use Rattle.number.proofs.Outcomes.{NotEmpty, some_of_within, Sharper, left_both, left_map, settled_keeps, settled_leaves}
use Rattle.number.proofs.Orders.{bounds_have, bounds_within_range, sharpened_narrower}

-- ---- equality
equal_by_sound : (a b : Bits) (r : Option Bits) (t : Range) (x : ℕ) → Learns (Both a b) r → Both a b x → Within t x → Kept (equal_by r t) x x
unfolding equal_by
equal_by_sound a b None t x h m w = h.answer x m
equal_by_sound a b (Some p) t x h m w =
    let i = sharpened_keeps p t x h.answer.0.well (h.answer.0.sound x m) w in
    settled_keeps (sharpened p t) (sharpened p t) x x i i

pub equal_sound : (d s : Number) (x : ℕ) → In d x → In s x → Kept (equal d s) x x
unfolding equal common
equal_sound d s x hd hs =
    equal_by_sound d.bits s.bits (met d.bits s.bits) _ x (met_learns d.bits s.bits hd.form hs.form) (hd.bits, hs.bits)
    (record { low = omega arith; high = omega arith })

-- both ranges that are left lie in what the two have in common
pub record RangesLeft (t : Range) (d' s' : Number) : Type 0 where
  pub first : RangeWithin d'.range t
  pub second : RangeWithin s'.range t
  pub some_first : NotEmpty d'.range
  pub some_second : NotEmpty s'.range

equal_by_leaves_ranges : (r : Option Bits) (t : Range) → Left (equal_by r t) (RangesLeft t)
unfolding equal_by
equal_by_leaves_ranges None t = tt
equal_by_leaves_ranges (Some p) t =
    let k = sharpened_range_within p t in
    settled_leaves (sharpened p t) (sharpened p t) (RangesLeft t) (λ a b. record { first = k; second = k; some_first = a; some_second = b })

pub equal_leaves_ranges : (d s : Number) → Left (equal d s) (RangesLeft (common d.range s.range))
unfolding equal
equal_leaves_ranges d s = equal_by_leaves_ranges (met d.bits s.bits) (common d.range s.range)

-- each pair that is left lies within the one that was there, and so does the first range; both have the form, and some number is in both
pub record BitsLeft (a b : Bits) (d' s' : Number) : Type 0 where
  pub first : BitsWithin d'.bits a
  pub second : BitsWithin s'.bits b
  pub form_first : Well 64 d'.bits
  pub form_second : Well 64 s'.bits
  pub some : (x : ℕ) × Both a b x
  pub above_least : a.value ≤ d'.range.lo
  pub below_top : d'.range.hi ≤ top a

equal_by_leaves_bits : (a b : Bits) (r : Option Bits) (t : Range) → Well 64 a → Well 64 b → Learns (Both a b) r → Left (equal_by r t) (BitsLeft a b)
unfolding equal_by
equal_by_leaves_bits a b None t ga gb h = tt
equal_by_leaves_bits a b (Some p) t ga gb h =
    let k = sharpened_bits_within p t in
    let f = h.answer.0.least a ga (λ z i. i.0) in
    let g = h.answer.0.well in
    settled_leaves (sharpened p t) (sharpened p t) (BitsLeft a b)
    (λ u v. record {
      first = λ x m. f x (k x m);
      second = λ x m. h.answer.0.least b gb (λ z i. i.1) x (k x m);
      form_first = sharpened_form p t g;
      form_second = sharpened_form p t g;
      some = h.answer.1;
      above_least = le_trans (mem_bounds 64 a ga p.value (f p.value (mem_least 64 p g))).0 (sharpened_above_least p t);
      below_top = le_trans (sharpened_below_top p t) (mem_bounds 64 a ga (top p) (f (top p) (mem_top 64 p g))).1;
    })

pub equal_leaves_bits : (d s : Number) → Well 64 d.bits → Well 64 s.bits → Left (equal d s) (BitsLeft d.bits s.bits)
unfolding equal
equal_leaves_bits d s gd gs = equal_by_leaves_bits d.bits s.bits (met d.bits s.bits) _ gd gs (met_learns d.bits s.bits gd gs)

common_within_first : (u v : Range) → RangeWithin (common u v) u
unfolding common
common_within_first u v = record { low = omega arith; high = omega arith }

common_within_second : (u v : Range) → RangeWithin (common u v) v
unfolding common
common_within_second u v = record { low = omega arith; high = omega arith }

pub equal_leaves : (d s : Number) → Well 64 d.bits → Well 64 s.bits → Left (equal d s) (Sharper d s)
equal_leaves d s gd gs =
    left_map (equal d s) _ (Sharper d s)
    (λ d' s' h.
    let r = h.0 in
    let b = h.1 in
    let f = common_within_first d.range s.range in
    let g = common_within_second d.range s.range in
    record {
      first = record { bits = b.first; range = record { low = omega (arith, r.first, f); high = omega (arith, r.first, f) } };
      second = record { bits = b.second; range = record { low = omega (arith, r.second, g); high = omega (arith, r.second, g) } };
      some_first = r.some_first;
      some_second = r.some_second;
      form_first = λ g'. b.form_first;
      form_second = λ g'. b.form_second;
    })
    (left_both (equal d s) _ _ (equal_leaves_ranges d s) (equal_leaves_bits d s gd gs))

-- ---- a range without a number that is one of its ends
module _ (k : ℕ) (u : Range) where
  without_keeps : (x : ℕ) → Within u x → ¬ (x ≡ k) → Within (without k u) x
  unfolding without
  without_keeps x w n = go (ℕ_discrete u.lo k) (ℕ_discrete u.hi k)
    where
      go : Dec (u.lo ≡ k) → Dec (u.hi ≡ k) → Within (without k u) x
      go (yes p) q = rw (eq-eqb u.lo k p, lt-ltb k u.hi (omega arith)) (record { low = omega arith; high = omega arith })
      go (no p) (yes q) =
          rw (ne_eqb u.lo k p, eq-eqb u.hi k q, lt-ltb u.lo k (omega arith)) (record { low = omega arith; high = omega arith })
      go (no p) (no q) = rw (ne_eqb u.lo k p, ne_eqb u.hi k q) w

  -- what is left, if there is any, lies in the range, and k is no end of it
  without_within : NotEmpty (without k u) → RangeWithin (without k u) u × (u.lo ≡ k → k < (without k u).lo) × (u.hi ≡ k → (without k u).hi < k)
  unfolding without empty
  without_within = go (ℕ_discrete u.lo k) (ℕ_discrete u.hi k) (dec_lt k u.hi) (dec_lt u.lo k)
    where
      go : Dec (u.lo ≡ k) → Dec (u.hi ≡ k) → Dec (k < u.hi) → Dec (u.lo < k) → NotEmpty (without k u)
          → RangeWithin (without k u) u × (u.lo ≡ k → k < (without k u).lo) × (u.hi ≡ k → (without k u).hi < k)
      go (yes p) q (yes l) m =
          rw (eq-eqb u.lo k p, lt-ltb k u.hi l) (λ s. (record { low = omega arith; high = omega arith }, λ e. omega arith, λ e. omega arith))
      go (yes p) q (no l) m = rw (eq-eqb u.lo k p, le-ltb k u.hi (omega arith)) (λ s. absurd (omega arith))
      go (no p) (yes q) l (yes m) =
          rw (ne_eqb u.lo k p, eq-eqb u.hi k q, lt-ltb u.lo k m)
          (λ s. (record { low = omega arith; high = omega arith }, λ e. absurd (p e), λ e. omega arith))
      go (no p) (yes q) l (no m) = rw (ne_eqb u.lo k p, eq-eqb u.hi k q, le-ltb u.lo k (omega arith)) (λ s. absurd (omega arith))
      go (no p) (no q) l m =
          rw (ne_eqb u.lo k p, ne_eqb u.hi k q) (λ s. (record { low = omega arith; high = omega arith }, λ e. absurd (p e), λ e. absurd (q e)))

module _ (u v : Range) where
  apart_keeps : (x y : ℕ) → Within u x → Within v y → ¬ (x ≡ y) → Within (apart_from u v) x
  unfolding apart_from
  apart_keeps x y hx hy n = go (ℕ_discrete v.lo v.hi)
    where
      go : Dec (v.lo ≡ v.hi) → Within (apart_from u v) x
      go (yes e) = rw (eq-eqb v.lo v.hi e) (without_keeps v.lo u x hx (λ i. n (omega arith)))
      go (no e) = rw (ne_eqb v.lo v.hi e) hx

  pub record ApartLeft (t : Range) : Type 0 where
    pub within : RangeWithin t u
    pub no_lower_end : v.lo ≡ v.hi → u.lo ≡ v.lo → v.lo < t.lo
    pub no_upper_end : v.lo ≡ v.hi → u.hi ≡ v.lo → t.hi < v.lo

  pub apart_leaves : NotEmpty (apart_from u v) → ApartLeft (apart_from u v)
  unfolding apart_from
  apart_leaves = go (ℕ_discrete v.lo v.hi)
    where
      go : Dec (v.lo ≡ v.hi) → NotEmpty (apart_from u v) → ApartLeft (apart_from u v)
      go (yes e) =
          rw (eq-eqb v.lo v.hi e)
          (λ s. let h = without_within v.lo u s in record { within = h.0; no_lower_end = λ i. h.1; no_upper_end = λ i. h.2 })
      go (no e) =
          rw (ne_eqb v.lo v.hi e)
          (λ s. record { within = record { low = omega arith; high = omega arith }; no_lower_end = λ i. absurd (e i); no_upper_end = λ i. absurd (e i) })

-- ---- inequality
pub unequal_sound : (d s : Number) (x y : ℕ) → In d x → In s y → ¬ (x ≡ y) → Kept (unequal d s) x y
unfolding unequal
unequal_sound d s x y hx hy n =
    let u = bounds_have d x hx in
    let v = bounds_have s y hy in
    settled_keeps _ _ x y
    (sharpened_keeps d.bits _ x hx.form hx.bits (apart_keeps (bounds d) (bounds s) x y u v n))
    (sharpened_keeps s.bits _ y hy.form hy.bits (apart_keeps (bounds s) (bounds d) y x v u (λ e. n (sym e))))

pub record UnequalLeft (d s d' s' : Number) : Type 0 where
  pub sharper : Sharper d s d' s'
  pub first : ApartLeft (bounds d) (bounds s) d'.range
  pub second : ApartLeft (bounds s) (bounds d) s'.range

apart_narrower : (n : Number) (u v t : Range) → RangeWithin u n.range → ApartLeft u v t → Narrower (sharpened n.bits t) n
apart_narrower n u v t h a =
    let i = a.within in
    sharpened_narrower n t (record { low = omega arith; high = omega arith })

apart_sharpened : (p : Bits) (u v t : Range) → ApartLeft u v t → ApartLeft u v (sharpened p t).range
apart_sharpened p u v t a =
    let k = sharpened_range_within p t in
    let i = a.within in
    record {
      within = record { low = omega arith; high = omega arith };
      no_lower_end = λ e f. omega (arith, a.no_lower_end e f);
      no_upper_end = λ e f. omega (arith, a.no_upper_end e f);
    }

pub unequal_leaves : (d s : Number) → Left (unequal d s) (UnequalLeft d s)
unfolding unequal
unequal_leaves d s =
    let t = apart_from (bounds d) (bounds s) in
    let w = apart_from (bounds s) (bounds d) in
    settled_leaves (sharpened d.bits t) (sharpened s.bits w) (UnequalLeft d s)
    (λ a b.
    let p = apart_leaves (bounds d) (bounds s) (some_of_within (sharpened_range_within d.bits t) a) in
    let q = apart_leaves (bounds s) (bounds d) (some_of_within (sharpened_range_within s.bits w) b) in
    record {
      sharper = record {
        first = apart_narrower d (bounds d) (bounds s) t (bounds_within_range d) p;
        second = apart_narrower s (bounds s) (bounds d) w (bounds_within_range s) q;
        some_first = a;
        some_second = b;
        form_first = sharpened_form d.bits t;
        form_second = sharpened_form s.bits w;
      };
      first = apart_sharpened d.bits (bounds d) (bounds s) t p;
      second = apart_sharpened s.bits (bounds s) (bounds d) w q;
    })

-- two numbers that stand between the ends of two ranges differ, if something is left: so do two of the ends
pub unequal_ends : (d s d' s' : Number) (a b : Range) → RangeWithin (bounds d) a → RangeWithin (bounds s) b → UnequalLeft d s d' s'
    → (S T : ℕ → Type 0) → S a.lo → S a.hi → T b.lo → T b.hi → (x : ℕ) × (y : ℕ) × S x × T y × (¬ (x ≡ y))
unequal_ends d s d' s' a b ha hb h S T sl sh tl th = go (ℕ_discrete a.lo b.lo) (ℕ_discrete a.hi b.lo) (ℕ_discrete a.lo b.hi)
  where
    go : Dec (a.lo ≡ b.lo) → Dec (a.hi ≡ b.lo) → Dec (a.lo ≡ b.hi) → (x : ℕ) × (y : ℕ) × S x × T y × (¬ (x ≡ y))
    go (no n) q r = (a.lo, b.lo, sl, tl, n)
    go (yes p) (no n) r = (a.hi, b.lo, sh, tl, n)
    go (yes p) (yes q) (no n) = (a.lo, b.hi, sl, th, n)
    go (yes p) (yes q) (yes r) =
        let i = h.first.within in
        let j = h.second.within in
        let k = h.sharper.some_first in
        let l = h.sharper.some_second in
        absurd (omega (arith, h.first.no_lower_end (omega arith) (omega arith)))
