-- What a signed order tells: it is the order of the numbers moved by 2 ^ 63, and what that one tells is moved back.
use mathlib.Core.Path.{◌≡◌, refl, sym, ap, ◌∙◌, subst}
use mathlib.Core.Logic.{inl}
use Prim.Native.Nat.{ℕ, ◌+◌, ◌-◌, ◌/◌, ◌%◌, ◌^◌, ◌≤◌, ◌<◌}
use native.Mathlib.Nat.{mod-lt, mod-eq_of_lt, div-eq_of_lt, mul-mod_left, le_of_eq, le_trans}
use native.Mathlib.Decide.{dec_lt}
use native.Mathlib.Omega.{arith}
use lib.Bits.{and_zero_r}
use lib.Dec.{lit<}
use lib.Pow.{pow_pos, pow-add}
use borrow.Author.Tests.{eq-eqb, lt-ltb, le-ltb, le-leb, lt-leb}
use Rattle.std.specs.Prelude.{Some, None}
use Rattle.word.specs.Word.{bit, cut, alu, moved}
use Rattle.word.specs.declared.Operation.TheVariants.{Add}
use Rattle.word.proofs.Bit.{bit_lt, bit_zero, bit_mod, bit_add, carry}
use Rattle.word.proofs.Cut.{cut_64, cut_below}
use Rattle.known_bits.specs.declared.Bits.{Bits}
use Rattle.known_bits.specs.KnownBits.{Well, Mem}
use Rattle.known_bits.specs.Pair.{top, exactly}
use Rattle.known_bits.specs.Formula.{low, sum, formula, calculated}
use Rattle.known_bits.proofs.Tight.{mem_least, mem_top, top_bit, packed_well, packed_value, spread_fits, spread_bit}
use Rattle.number.specs.declared.Range.{Range}
use Rattle.number.specs.declared.Number.{Number}
use Rattle.number.specs.Refined.{Refined}
use Rattle.number.specs.Meaning.{Within, In, RangeWithin, Narrower, Kept, Left}
use Rattle.number.specs.Sharpen.{narrowed, just, exact, everything}
use Rattle.number.specs.Ranges.{straight, sum_range, ranged}
use Rattle.number.specs.Computed.{block, modulo, second, computed_range, computed}
use Rattle.number.specs.Compare.{bounds, ordered, turned, turned_back, firsts, signed_ordered, equal}
use Rattle.number.proofs.Computing.{computed_sound}
use Rattle.number.proofs.Sharpening.{sharpened_form, sharpened_range_within, sharpened_above_least, sharpened_below_top}
use Rattle.number.proofs.Outcomes.{NotEmpty, Sharper, left_map, left_both, firsts_keep, firsts_leave}
use Rattle.number.proofs.Orders.{ordered_sound, ordered_leaves, OrderLeft, bounds_within_range}
use Rattle.number.proofs.Equality.{equal_sound, equal_leaves, equal_leaves_bits}

pub exact_has : (k : ℕ) → k < 2 ^ 64 → In (exact k) k
unfolding exact just
exact_has k h =
    record {
      form = record { value_fits = h; mask_fits = pow_pos 64; apart = and_zero_r k };
      bits = record { fits = h; agrees = λ j l e. refl };
      range = record { low = omega arith; high = omega arith };
    }

-- ---- numbers that are moved
pub moved_below : (x : ℕ) → moved 64 x < 2 ^ 64
unfolding moved
moved_below x = mod-lt (x + 2 ^ 63) (pow_pos 64)

pub moved_twice : (x : ℕ) → x < 2 ^ 64 → moved 64 (moved 64 x) ≡ x
unfolding moved
moved_twice x h = omega arith

sum_is_moved : (x : ℕ) → x < 2 ^ 64 → alu 64 Add x (2 ^ 63) ≡ moved 64 x
unfolding alu moved
sum_is_moved x h = rw (cut_64 {x = x} h, cut_64 {x = 2 ^ 63} (lit< tt))

turned_has_moved : (n : Number) (x : ℕ) → In n x → In (turned n) (moved 64 x)
unfolding turned
turned_has_moved n x h =
    subst (λ (z : ℕ). In (turned n) z) (sum_is_moved x h.bits.fits)
    (computed_sound 64 (inl refl) Add n (exact (2 ^ 63)) x (2 ^ 63) h (exact_has (2 ^ 63) (lit< tt)))

turned_has_it_back : (n : Number) (x : ℕ) → x < 2 ^ 64 → In n (moved 64 x) → In (turned n) x
turned_has_it_back n x l h = subst (λ (z : ℕ). In (turned n) z) (moved_twice x l) (turned_has_moved n (moved 64 x) h)

turned_back_sound : (d s : Number) (r : Refined) (x y : ℕ) → In d x → In s y → Kept r (moved 64 x) (moved 64 y) → Kept (turned_back d s r) x y
unfolding turned_back
turned_back_sound d s None x y hx hy k = k
turned_back_sound d s (Some (u, v)) x y hx hy k =
    firsts_keep (equal d (turned u)) (equal s (turned v)) x y
    (equal_sound d (turned u) x hx (turned_has_it_back u x hx.bits.fits k.0))
    (equal_sound s (turned v) y hy (turned_has_it_back v y hy.bits.fits k.1))

pub signed_ordered_sound : (gap : ℕ) (d s : Number) (x y : ℕ) → In d x → In s y → moved 64 x + gap ≤ moved 64 y → Kept (signed_ordered gap d s) x y
unfolding signed_ordered
signed_ordered_sound gap d s x y hx hy l =
    turned_back_sound d s (ordered gap (turned d) (turned s)) x y hx hy
    (ordered_sound gap (turned d) (turned s) (moved 64 x) (moved 64 y) (turned_has_moved d x hx) (turned_has_moved s y hy) l)

-- ---- the pair of a number that is moved
abbrev half : Bits
half = exactly (2 ^ 63)

sum_fits : (x y : ℕ) → alu 64 Add x y < 2 ^ 64
unfolding alu
sum_fits x y = mod-lt (cut 64 x + cut 64 y) (pow_pos 64)

-- the two sums between which the carries of all others lie: of the least numbers and of the greatest
lowest : Bits → ℕ
lowest a = alu 64 Add (low 64 a).value (low 64 half).value

highest : Bits → ℕ
highest a = alu 64 Add (top (low 64 a)) (top (low 64 half))

sum_form : (a : Bits) → Well 64 (calculated 64 Add a half)
unfolding calculated formula sum low lowest highest
sum_form a =
    packed_well 64 (lowest a) _ (sum_fits _ _)
    (spread_fits 64 0 (lowest a) (highest a) (cut 64 a.mask) (cut 64 0) (sum_fits _ _) (sum_fits _ _) (cut_below 64 a.mask) (cut_below 64 0))

pub turned_form : (n : Number) → Well 64 (turned n).bits
unfolding turned computed exact
turned_form n = sharpened_form _ _ (sum_form n.bits)

-- a move changes bit 63 and no other
half_low : (k : ℕ) → k < 64 → 2 ^ 63 % 2 ^ k ≡ 0
half_low k l =
    let e : 63 - k + k ≡ 63 = omega arith in
    subst (λ (n : ℕ). 2 ^ n % 2 ^ k ≡ 0) e (ap (λ (n : ℕ). n % 2 ^ k) (pow-add 2 (63 - k) k) ∙ mul-mod_left (2 ^ (63 - k)) (2 ^ k))

no_carry : (k x : ℕ) → k < 64 → carry k x (2 ^ 63) ≡ 0
unfolding carry
no_carry k x l = div-eq_of_lt (omega (arith, half_low k l, mod-lt x (pow_pos k)))

moved_bit : (k x : ℕ) → k < 64 → bit k (moved 64 x) ≡ (bit k x + bit k (2 ^ 63)) % 2
unfolding moved
moved_bit k x l = bit_mod 64 k (x + 2 ^ 63) l ∙ bit_add k x (2 ^ 63) ∙ rw (no_carry k x l) (omega arith)

changed_twice : (v c : ℕ) → v < 2 → ((v + c) % 2 + c) % 2 ≡ v
changed_twice v c l = omega arith

module _ (a : Bits) (g : Well 64 a) where
  top_below : top a < 2 ^ 64
  top_below = (mem_top 64 a g).fits

  lowest_is_moved : lowest a ≡ moved 64 a.value
  unfolding lowest low
  lowest_is_moved = rw (cut_64 {x = a.value} g.value_fits, cut_64 {x = 2 ^ 63} (lit< tt)) (sum_is_moved a.value g.value_fits)

  highest_is_moved : highest a ≡ moved 64 (top a)
  unfolding highest low cut
  highest_is_moved = rw (cut_64 {x = a.value} g.value_fits, cut_64 {x = a.mask} g.mask_fits) (sum_is_moved (top a) top_below)

  -- a number of the result, moved back, is one of the pair
  moved_back_is_there : (z : ℕ) → Mem 64 (calculated 64 Add a half) z → Mem 64 a (moved 64 z)
  unfolding calculated formula sum low lowest highest
  moved_back_is_there z m =
      record {
        fits = moved_below z;
        agrees = λ k l e.
            let b = spread_bit k 0 (lowest a) (highest a) (cut 64 a.mask) (cut 64 0) in
            let u : bit k (lowest a) ≡ (bit k a.value + bit k (2 ^ 63)) % 2 = ap (bit k) lowest_is_moved ∙ moved_bit k a.value l in
            let v : bit k (highest a) ≡ (bit k (top a) + bit k (2 ^ 63)) % 2 = ap (bit k) highest_is_moved ∙ moved_bit k (top a) l in
            let t : bit k (top a) ≡ bit k a.value = omega (arith, top_bit 64 a g k) in
            let c : bit k (cut 64 a.mask) ≡ 0 = ap (bit k) (cut_64 {x = a.mask} g.mask_fits) ∙ e in
            let n : bit k (cut 64 0) ≡ 0 = ap (bit k) (cut_64 {x = 0} (lit< tt)) ∙ bit_zero k in
            let i : bit k (calculated 64 Add a half).mask ≡ 0 = omega arith in
            let f : bit k z ≡ bit k (lowest a) = omega (arith, m.agrees k l i, packed_value k (lowest a) (calculated 64 Add a half).mask) in
            moved_bit k z l ∙ ap (λ (j : ℕ). (j + bit k (2 ^ 63)) % 2) (f ∙ u) ∙ changed_twice (bit k a.value) (bit k (2 ^ 63)) (bit_lt k a.value);
      }

-- ---- the ends in signed order: two numbers of a set, between which a range lies once they are moved
pub record MovedEnds (S : ℕ → Type 0) (t : Range) : Type 0 where
  pub least : ℕ
  pub greatest : ℕ
  pub least_in : S least
  pub greatest_in : S greatest
  pub low : moved 64 least ≤ t.lo
  pub high : t.hi ≤ moved 64 greatest

pub turned_ends_of_bits : (n : Number) → Well 64 n.bits → MovedEnds (Mem 64 n.bits) (turned n).range
unfolding turned computed exact
turned_ends_of_bits n g =
    let p = calculated 64 Add n.bits half in
    let f = sum_form n.bits in
    record {
      least = moved 64 p.value;
      greatest = moved 64 (top p);
      least_in = moved_back_is_there n.bits g p.value (mem_least 64 p f);
      greatest_in = moved_back_is_there n.bits g (top p) (mem_top 64 p f);
      low = rw (moved_twice p.value f.value_fits) (sharpened_above_least p _);
      high = rw (moved_twice (top p) (mem_top 64 p f).fits) (sharpened_below_top p _);
    }

-- a range of words is one block
words_are_a_block : (r : Range) → r.lo < 2 ^ 64 → r.hi < 2 ^ 64 → block (2 ^ 64) r ≡ r
unfolding block
words_are_a_block r l h =
    rw (eq-eqb (r.lo / 2 ^ 64) (r.hi / 2 ^ 64) (div-eq_of_lt l ∙ sym (div-eq_of_lt h)), mod-eq_of_lt l, mod-eq_of_lt h)

words_are_the_bounds : (n : Number) → Well 64 n.bits → n.range.lo < 2 ^ 64 → n.range.hi < 2 ^ 64 → modulo (2 ^ 64) n ≡ bounds n
unfolding modulo bounds narrowed
words_are_the_bounds n g l h =
    rw (words_are_a_block n.range l h, mod-eq_of_lt g.value_fits, mod-eq_of_lt (mem_top 64 n.bits g).fits)

moved_half_lem : moved 64 (2 ^ 63) ≡ 0
unfolding moved
moved_half_lem = refl

moved_before_half : moved 64 (2 ^ 63 - 1) ≡ 2 ^ 64 - 1
unfolding moved
moved_before_half = refl

exact_modulo : modulo (2 ^ 64) (exact (2 ^ 63)) ≡ just (2 ^ 63)
unfolding modulo block exact just
exact_modulo = refl

-- the ends in signed order of a range that crosses 2 ^ 63 are 2 ^ 63 and 2 ^ 63 - 1, of any other its own
sum_ends : (u : Range) → NotEmpty u → u.hi < 2 ^ 64 → MovedEnds (Within u) (block (2 ^ 64) (sum_range u (just (2 ^ 63))))
unfolding sum_range straight everything just
sum_ends u s h = go (dec_lt (u.hi + 2 ^ 63) (2 ^ 64)) (dec_lt (u.lo + 2 ^ 63) (2 ^ 64))
  where
    own : MovedEnds (Within u) (block (2 ^ 64) (straight 64 Add u (just (2 ^ 63))))
    own = rw (words_are_a_block (straight 64 Add u (just (2 ^ 63))) (sum_fits u.lo (2 ^ 63)) (sum_fits u.hi (2 ^ 63)))
        (record {
          least = u.lo;
          greatest = u.hi;
          least_in = record { low = omega arith; high = s };
          greatest_in = record { low = s; high = omega arith };
          low = omega (arith, sum_is_moved u.lo (omega arith));
          high = omega (arith, sum_is_moved u.hi h);
        })

    go : Dec (u.hi + 2 ^ 63 < 2 ^ 64) → Dec (u.lo + 2 ^ 63 < 2 ^ 64) → MovedEnds (Within u) (block (2 ^ 64) (sum_range u (just (2 ^ 63))))
    go (yes a) b = rw (lt-ltb (u.hi + 2 ^ 63) (2 ^ 64) a) own
    go (no a) (no b) = rw (le-ltb (u.hi + 2 ^ 63) (2 ^ 64) (omega arith), le-leb (2 ^ 64) (u.lo + 2 ^ 63) (omega arith)) own
    go (no a) (yes b) =
        rw (le-ltb (u.hi + 2 ^ 63) (2 ^ 64) (omega arith), lt-leb (2 ^ 64) (u.lo + 2 ^ 63) b, words_are_a_block (everything 64) (lit< tt) (lit< tt))
        (record {
          least = 2 ^ 63;
          greatest = 2 ^ 63 - 1;
          least_in = record { low = omega arith; high = omega arith };
          greatest_in = record { low = omega arith; high = omega arith };
          low = le_of_eq moved_half_lem;
          high = le_of_eq (sym moved_before_half);
        })

turned_within : (n : Number) → Well 64 n.bits → NotEmpty n.range → n.range.hi < 2 ^ 64
    → RangeWithin (turned n).range (block (2 ^ 64) (sum_range (bounds n) (just (2 ^ 63))))
unfolding turned computed computed_range ranged second
turned_within n g s h =
    subst (λ (u : Range). RangeWithin (turned n).range (block (2 ^ 64) (sum_range u (just (2 ^ 63))))) (words_are_the_bounds n g (omega arith) h)
    (subst (λ (v : Range). RangeWithin (turned n).range (block (2 ^ 64) (sum_range (modulo (2 ^ 64) n) v))) exact_modulo (sharpened_range_within _ _))

pub turned_ends_of_range : (n : Number) → Well 64 n.bits → NotEmpty (bounds n) → n.range.hi < 2 ^ 64 → MovedEnds (Within n.range) (turned n).range
turned_ends_of_range n g s h =
    let b = bounds_within_range n in
    let e = sum_ends (bounds n) s (omega arith) in
    let k = turned_within n g (omega arith) h in
    let v = e.least_in in
    let w = e.greatest_in in
    record {
      least = e.least;
      greatest = e.greatest;
      least_in = record { low = omega arith; high = omega arith };
      greatest_in = record { low = omega arith; high = omega arith };
      low = le_trans e.low k.low;
      high = le_trans k.high e.high;
    }

-- ---- what is left
record FirstLeft (d d' : Number) : Type 0 where
  narrower : Narrower d' d
  some : NotEmpty d'.range
  some_bounds : NotEmpty (bounds d)
  form : Well 64 d'.bits

first_left : (d s : Number) → Well 64 d.bits → Well 64 s.bits → Left (equal d s) (λ d' s'. FirstLeft d d')
unfolding bounds narrowed
first_left d s gd gs =
    left_map (equal d s) _ (λ d' s'. FirstLeft d d')
    (λ d' s' h.
    let n = h.0.first in
    let a = h.0.some_first in
    let l = h.1.above_least in
    let u = h.1.below_top in
    let w = n.range in
    record { narrower = n; some = a; some_bounds = omega arith; form = h.1.form_first })
    (left_both (equal d s) _ _ (equal_leaves d s gd gs) (equal_leaves_bits d s gd gs))

turned_back_leaves : (d s : Number) (r : Refined) (A : Type 0) → Well 64 d.bits → Well 64 s.bits → Left r (λ u v. A)
    → Left (turned_back d s r) (λ d' s'. FirstLeft d d' × FirstLeft s s' × A)
unfolding turned_back
turned_back_leaves d s None A gd gs h = tt
turned_back_leaves d s (Some (u, v)) A gd gs h =
    left_map (firsts (equal d (turned u)) (equal s (turned v))) (λ d' s'. FirstLeft d d' × FirstLeft s s') (λ d' s'. FirstLeft d d' × FirstLeft s s' × A)
    (λ d' s' k. (k.0, k.1, h))
    (firsts_leave (equal d (turned u)) (equal s (turned v)) (FirstLeft d) (FirstLeft s)
    (first_left d (turned u) gd (turned_form u)) (first_left s (turned v) gs (turned_form v)))

pub record SignedLeft (gap : ℕ) (d s d' s' : Number) : Type 0 where
  pub sharper : Sharper d s d' s'
  pub some_bounds_first : NotEmpty (bounds d)
  pub some_bounds_second : NotEmpty (bounds s)
  pub allowed : (turned d).range.lo + gap ≤ (turned s).range.hi

pub signed_ordered_leaves : (gap : ℕ) (d s : Number) → Well 64 d.bits → Well 64 s.bits → Left (signed_ordered gap d s) (SignedLeft gap d s)
unfolding signed_ordered
signed_ordered_leaves gap d s gd gs =
    left_map (turned_back d s (ordered gap (turned d) (turned s))) _ (SignedLeft gap d s)
    (λ d' s' h. record {
      sharper = record {
        first = h.0.narrower;
        second = h.1.narrower;
        some_first = h.0.some;
        some_second = h.1.some;
        form_first = λ g. h.0.form;
        form_second = λ g. h.1.form;
      };
      some_bounds_first = h.0.some_bounds;
      some_bounds_second = h.1.some_bounds;
      allowed = h.2;
    })
    (turned_back_leaves d s (ordered gap (turned d) (turned s)) ((turned d).range.lo + gap ≤ (turned s).range.hi) gd gs
    (left_map (ordered gap (turned d) (turned s)) (OrderLeft gap (turned d) (turned s)) (λ u v. (turned d).range.lo + gap ≤ (turned s).range.hi)
    (λ u v k.
    let a = k.allowed in
    let i = bounds_within_range (turned d) in
    let j = bounds_within_range (turned s) in
    omega arith)
    (ordered_leaves gap (turned d) (turned s))))

-- the two ends in signed order stand in the relation
pub signed_ends_go : (gap : ℕ) (d s : Number) (S T : ℕ → Type 0) → MovedEnds S (turned d).range → MovedEnds T (turned s).range
    → (turned d).range.lo + gap ≤ (turned s).range.hi → (x : ℕ) × (y : ℕ) × S x × T y × (moved 64 x + gap ≤ moved 64 y)
signed_ends_go gap d s S T a b l = (a.least, b.greatest, a.least_in, b.greatest_in, omega arith)
