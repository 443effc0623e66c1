-- What x + gap ≤ y tells of two numbers: nothing is lost, and what is left reaches no further than the other's ends allow.
use Prim.Native.Nat.{ℕ, ◌+◌, ◌-◌, ◌≤◌, min, max}
use native.Mathlib.Omega.{arith}
use lib.Dec.{ltb}
use borrow.Author.Tests.{ltb-false, le-ltb}
use Rattle.known_bits.specs.declared.Bits.{Bits}
use Rattle.known_bits.specs.Pair.{top}
use Rattle.known_bits.proofs.Laws.{mem_bounds}
use Rattle.number.specs.declared.Range.{Range}
use Rattle.number.specs.declared.Number.{Number}
use Rattle.number.specs.Meaning.{Within, In, RangeWithin, Narrower, Kept, Left}
use Rattle.number.specs.Sharpen.{narrowed, sharpened}
use Rattle.number.specs.Compare.{bounds, settled, ordered, ordered_in}
use Rattle.number.proofs.Sharpening.{sharpened_keeps, sharpened_form, sharpened_bits_within, sharpened_range_within}
use Rattle.number.proofs.Outcomes.{Sharper, unless_leaves, settled_keeps, settled_leaves}

-- ---- the bounds of a Number
pub bounds_have : (n : Number) (x : ℕ) → In n x → Within (bounds n) x
unfolding bounds narrowed
bounds_have n x h =
    let m = mem_bounds 64 n.bits h.form x h.bits in
    record { low = omega (arith, m.0, m.1); high = omega (arith, m.0, m.1) }

pub bounds_within_range : (n : Number) → RangeWithin (bounds n) n.range
unfolding bounds narrowed
bounds_within_range n = record { low = omega arith; high = omega arith }

-- the least and the greatest number of a pair
abbrev pub ends : Bits → Range
ends p = record { lo = p.value; hi = top p }

pub bounds_within_ends : (n : Number) → RangeWithin (bounds n) (ends n.bits)
unfolding bounds narrowed
bounds_within_ends n = record { low = omega arith; high = omega arith }

-- a Number sharpened by a part of its range
pub sharpened_narrower : (n : Number) (t : Range) → RangeWithin t n.range → Narrower (sharpened n.bits t) n
sharpened_narrower n t h =
    let k = sharpened_range_within n.bits t in
    record { bits = sharpened_bits_within n.bits t; range = record { low = omega arith; high = omega arith } }

-- ---- orders
pub ordered_sound : (gap : ℕ) (d s : Number) (x y : ℕ) → In d x → In s y → x + gap ≤ y → Kept (ordered gap d s) x y
unfolding ordered ordered_in
ordered_sound gap d s x y hx hy l =
    let u = bounds_have d x hx in
    let v = bounds_have s y hy in
    rw (le-ltb (bounds s).hi ((bounds d).lo + gap) (omega arith))
    (settled_keeps _ _ x y
    (sharpened_keeps d.bits _ x hx.form hx.bits (record { low = omega arith; high = omega arith }))
    (sharpened_keeps s.bits _ y hy.form hy.bits (record { low = omega arith; high = omega arith })))

-- what is left: x at most the greatest y less gap, y at least the least x and gap; and the bounds themselves allow the order
pub record OrderLeft (gap : ℕ) (d s d' s' : Number) : Type 0 where
  pub sharper : Sharper d s d' s'
  pub highest : d'.range.hi + gap ≤ s.range.hi
  pub lowest : d.range.lo + gap ≤ s'.range.lo
  pub allowed : (bounds d).lo + gap ≤ (bounds s).hi

pub ordered_leaves : (gap : ℕ) (d s : Number) → Left (ordered gap d s) (OrderLeft gap d s)
unfolding ordered ordered_in
ordered_leaves gap d s =
    let u = bounds d in
    let v = bounds s in
    let t : Range = record { lo = u.lo; hi = min u.hi (v.hi - gap) } in
    let w : Range = record { lo = max v.lo (u.lo + gap); hi = v.hi } in
    let hu = bounds_within_range d in
    let hv = bounds_within_range s in
    let d' = sharpened d.bits t in
    let s' = sharpened s.bits w in
    let kd = sharpened_range_within d.bits t in
    let ks = sharpened_range_within s.bits w in
    unless_leaves (ltb v.hi (u.lo + gap)) (settled d' s') (OrderLeft gap d s)
    (λ e. let l = ltb-false v.hi (u.lo + gap) e in
    settled_leaves d' s' (OrderLeft gap d s)
    (λ a b. record {
      sharper = record {
        first = sharpened_narrower d t (record { low = omega arith; high = omega arith });
        second = sharpened_narrower s w (record { low = omega arith; high = omega arith });
        some_first = a;
        some_second = b;
        form_first = sharpened_form d.bits t;
        form_second = sharpened_form s.bits w;
      };
      highest = omega arith;
      lowest = omega arith;
      allowed = l;
    }))
