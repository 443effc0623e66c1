-- What it tells of two numbers that they share a bit, and that they share none.
use mathlib.Core.Path.{◌≡◌, refl, ap, ◌∙◌}
use mathlib.Core.Bool.{false}
use Prim.Native.Nat.{ℕ, ◌-◌, ◌^◌, ◌<◌}
use native.Mathlib.Omega.{arith}
use lib.Bits.{bit_and, and_lt, and_comm}
use lib.Dec.{eqb}
use lib.Pow.{pow_pos}
use borrow.Author.Tests.{ne_eqb, eqb-false}
use Rattle.std.specs.Prelude.{Option, Some, None}
use Rattle.word.specs.Word.{bit}
use Rattle.word.specs.declared.Comparison.TheVariants as comparison
use Rattle.word.proofs.Bit.{bit_lt, bit_zero, bit_and_lem, bit_not, ext}
use Rattle.known_bits.specs.declared.Bits.{Bits}
use Rattle.known_bits.specs.KnownBits.{Well, Mem, Apart}
use Rattle.known_bits.specs.Learn.{Learns}
use Rattle.known_bits.specs.Formula.{among}
use Rattle.known_bits.specs.Pair.{top}
use Rattle.known_bits.proofs.Tight.{digit, mem_low, mem_high, mem_least}
use Rattle.number.specs.declared.Number.{Number}
use Rattle.number.specs.Meaning.{Within, In, Narrower, Kept, Left}
use Rattle.number.specs.Sharpen.{sharpened}
use Rattle.number.specs.Compare.{settled, resharpened, disjoint_by, disjoint_of, disjoint, overlapping_of, overlapping}
use Rattle.known_bits.proofs.LearnLaws.{cleared_learns}
use Rattle.number.proofs.Sharpening.{sharpened_keeps, sharpened_form, sharpened_bits_within, sharpened_range_within}
use Rattle.number.proofs.Outcomes.{Sharper, unless_leaves, settled_keeps, settled_leaves}
use Rattle.number.proofs.WordsGo.{goes_if_it_holds}

-- ---- a Number whose halves have sharpened each other
module _ (n : Number) where
  pub resharpened_keeps : (x : ℕ) → In n x → In (resharpened n) x
  unfolding resharpened
  resharpened_keeps x h = sharpened_keeps n.bits n.range x h.form h.bits h.range

  pub resharpened_form : Well 64 n.bits → Well 64 (resharpened n).bits
  unfolding resharpened
  resharpened_form g = sharpened_form n.bits n.range g

  pub resharpened_narrower : Narrower (resharpened n) n
  unfolding resharpened
  resharpened_narrower = record { bits = sharpened_bits_within n.bits n.range; range = sharpened_range_within n.bits n.range }

-- ---- bits that two numbers share
-- x shares no bit with y, and so none with what y is known to have
pub none_shared_with_value : (q : Bits) → Well 64 q → (x y : ℕ) → x < 2 ^ 64 → Mem 64 q y → bit_and x y ≡ 0 → bit_and x q.value ≡ 0
none_shared_with_value q g x y hx m e =
    ext 64 _ 0 (and_lt 64 x q.value hx g.value_fits) (pow_pos 64)
    (λ k l. omega (arith, bit_zero k, bit_and_lem k x q.value, bit_and_lem k x y, ap (bit k) e, mem_low 64 q g y m k l))

-- where the greatest numbers of two pairs share no bit, no two numbers do
pub none_shared_by_tops : (p q : Bits) → Well 64 p → Well 64 q → bit_and (top p) (top q) ≡ 0 → (x y : ℕ) → Mem 64 p x → Mem 64 q y → bit_and x y ≡ 0
none_shared_by_tops p q gp gq e x y mx my =
    ext 64 _ 0 (and_lt 64 x y mx.fits my.fits) (pow_pos 64)
    (λ k l. omega (
      arith,
      bit_zero k,
      bit_and_lem k x y,
      bit_and_lem k (top p) (top q),
      ap (bit k) e,
      mem_high 64 p gp x mx k l,
      mem_high 64 q gq y my k l,
    ))

-- ---- none
disjoint_by_sound : (a b : ℕ) (d s : Number) (p q : Option Bits) (x y : ℕ) → Learns (Apart d.bits a) p → Learns (Apart s.bits b) q
    → Apart d.bits a x → Apart s.bits b y → Within d.range x → Within s.range y → Kept (disjoint_by p q d s) x y
unfolding disjoint_by
disjoint_by_sound a b d s None q x y hp hq ax ay wx wy = hp.answer x ax
disjoint_by_sound a b d s (Some p) None x y hp hq ax ay wx wy = hq.answer y ay
disjoint_by_sound a b d s (Some p) (Some q) x y hp hq ax ay wx wy =
    let g = hp.answer.0 in
    let h = hq.answer.0 in
    settled_keeps (sharpened p d.range) (sharpened q s.range) x y
    (sharpened_keeps p d.range x g.well (g.sound x ax) wx) (sharpened_keeps q s.range y h.well (h.sound y ay) wy)

disjoint_of_sound : (d s : Number) (x y : ℕ) → In d x → In s y → bit_and x y ≡ 0 → Kept (disjoint_of d s) x y
unfolding disjoint_of
disjoint_of_sound d s x y hx hy e =
    disjoint_by_sound s.bits.value d.bits.value d s _ _ x y
    (cleared_learns d.bits s.bits.value hy.form.value_fits hx.form) (cleared_learns s.bits d.bits.value hx.form.value_fits hy.form)
    (apart d s x y hx hy e) (apart s d y x hy hx (and_comm y x ∙ e)) hx.range hy.range
  where
    apart : (m n : Number) (u v : ℕ) → In m u → In n v → bit_and u v ≡ 0 → Apart m.bits n.bits.value u
    apart m n u v hu hv i = (
      hu.bits,
      (goes_if_it_holds comparison.Set false u n.bits.value hu.bits.fits hv.form.value_fits).1
          (none_shared_with_value n.bits hv.form u v hu.bits.fits hv.bits i),
    )

pub disjoint_sound : (d s : Number) (x y : ℕ) → In d x → In s y → bit_and x y ≡ 0 → Kept (disjoint d s) x y
unfolding disjoint
disjoint_sound d s x y hx hy e = disjoint_of_sound (resharpened d) (resharpened s) x y (resharpened_keeps d x hx) (resharpened_keeps s y hy) e

-- what is left: two numbers that share no bit are possible, and no number of the first has a bit that the second is known to have
pub record DisjointLeft (d s d' s' : Number) : Type 0 where
  pub sharper : Sharper d s d' s'
  pub some : (x : ℕ) × (y : ℕ) × Mem 64 d.bits x × Mem 64 s.bits y × (bit_and x y ≡ 0)
  pub none_shared : (x : ℕ) → Mem 64 d'.bits x → bit_and x s.bits.value ≡ 0

-- the best pair for numbers that share no bit with s has no other number: the pair of all numbers without these bits has none
best_is_apart : (a : Bits) (s : ℕ) (p : Bits) → s < 2 ^ 64 → Well 64 a → Learns (Apart a s) (Some p) → (x : ℕ) → Mem 64 p x → bit_and x s ≡ 0
unfolding among
best_is_apart a s p hs ga h x m =
    let i = h.answer.0.least free free_form inside x m in
    ext 64 _ 0 (and_lt 64 x s m.fits hs) (pow_pos 64)
    (λ k l. digit (bit k s) (bit_lt k s) (λ z. omega (arith, bit_zero k, bit_and_lem k x s))
    (λ z. omega (arith, bit_zero k, bit_and_lem k x s, i.agrees k l (omega (arith, bit_not 64 k s l hs)))))
  where
    free : Bits
    free = record { value = 0; mask = 2 ^ 64 - 1 - s }

    free_form : Well 64 free
    free_form = record { value_fits = pow_pos 64; mask_fits = omega arith; apart = refl }

    inside : (z : ℕ) → Apart a s z → Mem 64 free z
    inside z t =
        record {
          fits = t.0.fits;
          agrees = λ k l e. omega (
            arith,
            bit_zero k,
            bit_not 64 k s l hs,
            bit_lt k s,
            bit_and_lem k z s,
            ap (bit k) ((goes_if_it_holds comparison.Set false z s t.0.fits hs).0 t.1),
          );
        }

disjoint_by_leaves : (d s : Number) (p q : Option Bits) → Well 64 d.bits → Well 64 s.bits → Learns (Apart d.bits s.bits.value) p
    → Learns (Apart s.bits d.bits.value) q → Left (disjoint_by p q d s) (DisjointLeft d s)
unfolding disjoint_by
disjoint_by_leaves d s None q gd gs hp hq = tt
disjoint_by_leaves d s (Some p) None gd gs hp hq = tt
disjoint_by_leaves d s (Some p) (Some q) gd gs hp hq =
    let g = hp.answer.0 in
    let h = hq.answer.0 in
    let t = hp.answer.1 in
    settled_leaves (sharpened p d.range) (sharpened q s.range) (DisjointLeft d s)
    (λ a b. record {
      sharper = record {
        first = record {
          bits = λ x m. g.least d.bits gd (λ z i. i.0) x (sharpened_bits_within p d.range x m);
          range = sharpened_range_within p d.range;
        };
        second = record {
          bits = λ x m. h.least s.bits gs (λ z i. i.0) x (sharpened_bits_within q s.range x m);
          range = sharpened_range_within q s.range;
        };
        some_first = a;
        some_second = b;
        form_first = λ i. sharpened_form p d.range g.well;
        form_second = λ i. sharpened_form q s.range h.well;
      };
      some = (
        t.0,
        s.bits.value,
        t.1.0,
        mem_least 64 s.bits gs,
        (goes_if_it_holds comparison.Set false t.0 s.bits.value t.1.0.fits gs.value_fits).0 t.1.1,
      );
      none_shared = λ x m. best_is_apart d.bits s.bits.value p gs.value_fits gd hp x (sharpened_bits_within p d.range x m);
    })

pub disjoint_leaves : (d s : Number) → Well 64 d.bits → Well 64 s.bits → Left (disjoint d s) (DisjointLeft (resharpened d) (resharpened s))
unfolding disjoint disjoint_of
disjoint_leaves d s gd gs =
    let m = resharpened d in
    let n = resharpened s in
    let gm = resharpened_form d gd in
    let gn = resharpened_form s gs in
    disjoint_by_leaves m n _ _ gm gn (cleared_learns m.bits n.bits.value gn.value_fits gm) (cleared_learns n.bits m.bits.value gm.value_fits gn)

-- ---- some
overlapping_of_sound : (d s : Number) (x y : ℕ) → In d x → In s y → ¬ (bit_and x y ≡ 0) → Kept (overlapping_of d s) x y
unfolding overlapping_of
overlapping_of_sound d s x y hx hy n =
    rw (ne_eqb (bit_and (top d.bits) (top s.bits)) 0 (λ e. n (none_shared_by_tops d.bits s.bits hx.form hy.form e x y hx.bits hy.bits)))
    (settled_keeps d s x y hx hy)

pub overlapping_sound : (d s : Number) (x y : ℕ) → In d x → In s y → ¬ (bit_and x y ≡ 0) → Kept (overlapping d s) x y
unfolding overlapping
overlapping_sound d s x y hx hy n = overlapping_of_sound (resharpened d) (resharpened s) x y (resharpened_keeps d x hx) (resharpened_keeps s y hy) n

pub record OverlapLeft (d s d' s' : Number) : Type 0 where
  pub sharper : Sharper d s d' s'
  pub some : ¬ (bit_and (top d.bits) (top s.bits) ≡ 0)

pub narrower_than_itself : (n : Number) → Narrower n n
narrower_than_itself n = record { bits = λ x m. m; range = record { low = omega arith; high = omega arith } }

overlapping_of_leaves : (d s : Number) → Left (overlapping_of d s) (OverlapLeft d s)
unfolding overlapping_of
overlapping_of_leaves d s =
    unless_leaves (eqb (bit_and (top d.bits) (top s.bits)) 0) (settled d s) (OverlapLeft d s)
    (λ e. settled_leaves d s (OverlapLeft d s)
    (λ a b. record {
      sharper = record { first = narrower_than_itself d; second = narrower_than_itself s; some_first = a; some_second = b; form_first = λ g. g; form_second = λ g. g };
      some = eqb-false _ 0 e;
    }))

pub overlapping_leaves : (d s : Number) → Left (overlapping d s) (OverlapLeft (resharpened d) (resharpened s))
unfolding overlapping
overlapping_leaves d s = overlapping_of_leaves (resharpened d) (resharpened s)
