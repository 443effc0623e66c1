-- The laws of `refined32`: it loses no pair of numbers whose low halves go the way, tells nothing of an upper half, makes neither number
-- wider, and decides what is known.
use mathlib.Core.Path.{◌≡◌, refl, sym, ap, ap₂, ◌∙◌, subst}
use mathlib.Core.Bool.{Bool, true, false, not, cond}
use mathlib.Core.Logic.{inr}
use Prim.Native.Nat.{ℕ, ◌+◌, ◌-◌, ◌/◌, ◌^◌, ◌<◌}
use native.Mathlib.Decide.{dec_lt}
use native.Mathlib.Omega.{arith}
use lib.Dec.{lit<}
use borrow.Author.Tests.{eq-eqb, le-ltb, le-leb}
use Rattle.std.specs.Prelude.{Some, None}
use Rattle.word.specs.Word.{bit, cut, alu, compare}
use Rattle.word.specs.declared.Operation.TheVariants.{Add, Mov}
use Rattle.word.specs.declared.Comparison.{Comparison}
use Rattle.word.specs.declared.Comparison.TheVariants.{Eq}
use Rattle.word.proofs.Bit.{bit_shr}
use Rattle.word.proofs.Cut.{cut_small, cut_below}
use Rattle.word.proofs.Pinned.{result_below}
use Rattle.known_bits.specs.declared.Bits.{Bits}
use Rattle.known_bits.specs.KnownBits.{Well, Mem}
use Rattle.known_bits.specs.Formula.{low, formula, calculated}
use Rattle.known_bits.proofs.Class4.{cut_bit}
use Rattle.known_bits.proofs.Laws.{number_wider}
use Rattle.number.specs.declared.Range.{Range}
use Rattle.number.specs.declared.Number.{Number}
use Rattle.number.specs.Refined.{Refined}
use Rattle.number.specs.Meaning.{In, Narrower, Kept, Left}
use Rattle.number.specs.Sharpen.{just, exact}
use Rattle.number.specs.Compare.{settled, common, equal, firsts, taken, refined}
use Rattle.number.specs.Halves.{unsigned, signed, low_half, moved_half, compared, moved_back, low_halves, halves, halves_of_bits, halves_of_range, with_low, whole, taken32, not_taken32, refined32, UpperKept}
use Rattle.number.proofs.AgainstKnown.{refined_exact, refined_exact_excluded}
use Rattle.number.proofs.Cases.{by_test, by_less}
use Rattle.number.proofs.Compare.{refined_sound, refined_sharper}
use Rattle.number.proofs.Computing.{computed_form, computed_sound, computed_bits_within, computed_exact}
use Rattle.number.proofs.Equality.{equal_sound, equal_leaves}
use Rattle.number.proofs.HalfBits.{halves_upper, halves_fit, halves_low_bit, halves_high_bit, halves_of_itself, LowAgrees, low_agrees_within, halves_of_bits_form, halves_of_bits_have, halves_of_bits_low, halves_of_bits_within}
use Rattle.number.proofs.HalfOrders.{key_by, key, key_fits, compare_by_keys, moved_back_lem}
use Rattle.number.proofs.Known.{exact_in}
use Rattle.number.proofs.Operands.{same_ends}
use Rattle.number.proofs.Outcomes.{NotEmpty, Sharper, left_map, firsts_keep, firsts_leave, settled_keeps, settled_leaves}
use Rattle.number.proofs.HalfRanges.{halves_of_range_have, halves_of_range_within}

-- ---- the low half, the half moved, and the one of them that is compared
module _ (n : Number) where
  low_half_has : (x : ℕ) → In n x → In (low_half n) (cut 32 x)
  unfolding low_half alu
  low_half_has x i = computed_sound 32 (inr refl) Mov n n x x i i

  pub low_half_form : Well 64 n.bits → Well 64 (low_half n).bits
  unfolding low_half
  low_half_form g = computed_form 32 (inr refl) Mov n n g g

  moved_half_has : (x : ℕ) → In n x → In (moved_half n) (alu 32 Add x (2 ^ 31))
  unfolding moved_half
  moved_half_has x i = computed_sound 32 (inr refl) Add n (exact (2 ^ 31)) x (2 ^ 31) i (exact_in (2 ^ 31) (lit< tt))

  pub moved_half_form : Well 64 n.bits → Well 64 (moved_half n).bits
  unfolding moved_half
  moved_half_form g = computed_form 32 (inr refl) Add n (exact (2 ^ 31)) g (exact_in (2 ^ 31) (lit< tt)).form

compared_has : (c : Comparison) (n : Number) (x : ℕ) → In n x → In (compared c n) (key c x)
unfolding compared key
compared_has c n x i = has (signed c)
  where
    has : (b : Bool) → In (cond b (moved_half n) (low_half n)) (key_by b x)
    has true = moved_half_has n x i
    has false = low_half_has n x i

pub compared_form : (c : Comparison) (n : Number) → Well 64 n.bits → Well 64 (compared c n).bits
unfolding compared
compared_form c n g = by_test (λ (m : Number). Well 64 m.bits) (signed c) (λ _. moved_half_form n g) (λ _. low_half_form n g)

-- what agrees with the low half of a pair's numbers agrees with the pair
low_of_calculated : (p : Bits) (x : ℕ) → LowAgrees (calculated 32 Mov p p) x → LowAgrees p x
unfolding calculated formula low
low_of_calculated p x a =
    record { agrees = λ k l e. a.agrees k l (cut_bit 32 k p.mask l ∙ e) ∙ cut_bit 32 k p.value l }

pub low_half_agrees : (n : Number) (x : ℕ) → Well 64 n.bits → LowAgrees (low_half n).bits x → LowAgrees n.bits x
unfolding low_half
low_half_agrees n x g a =
    low_of_calculated n.bits x
    (low_agrees_within (low_half n).bits (calculated 32 Mov n.bits n.bits) x (low_half_form n g).value_fits (computed_bits_within 32 Mov n n) a)

-- ---- a number with another low half
pub member_agrees : (p : Bits) (x : ℕ) → Mem 64 p (cut 32 x) → LowAgrees p x
member_agrees p x i = record { agrees = λ k l e. sym (cut_bit 32 k x l) ∙ i.agrees k (omega arith) e }

module _ (n l : Number) where
  with_low_keeps : (x : ℕ) → In n x → In l (cut 32 x) → In (with_low n l) x
  unfolding with_low
  with_low_keeps x i j =
      record {
        form = halves_of_bits_form n.bits l.bits i.form j.form;
        bits = halves_of_bits_have n.bits l.bits x i.bits (member_agrees l.bits x j.bits);
        range = halves_of_range_have n.range l.range x i.range j.range;
      }

  pub with_low_form : Well 64 n.bits → Well 64 l.bits → Well 64 (with_low n l).bits
  unfolding with_low
  with_low_form g h = halves_of_bits_form n.bits l.bits g h

  with_low_upper : UpperKept (with_low n l) n
  unfolding with_low halves_of_bits halves_of_range
  with_low_upper =
      record {
        value = halves_upper n.bits.value l.bits.value;
        mask = halves_upper n.bits.mask l.bits.mask;
        range = λ h. rw (le-ltb n.range.hi (2 ^ 32) h) refl;
      }

  with_low_narrower : Well 64 n.bits → Well 64 l.bits → Narrower l (low_half n) → Narrower (with_low n l) n
  unfolding with_low
  with_low_narrower g h w =
      record {
        bits = λ x i.
            halves_of_bits_within n.bits l.bits x i
            (low_half_agrees n x g
            (low_agrees_within l.bits (low_half n).bits x h.value_fits w.bits (halves_of_bits_low n.bits l.bits x i)));
        range = halves_of_range_within n.range l.range;
      }

-- ---- nothing is lost
-- the low half is what it is known to be and what was moved, back again
low_half_keeps : (n u : Number) (x : ℕ) → In n x → In u (alu 32 Add x (2 ^ 31)) → Kept (equal (low_half n) (moved_half u)) (cut 32 x) (cut 32 x)
low_half_keeps n u x i j =
    equal_sound (low_half n) (moved_half u) (cut 32 x) (low_half_has n x i) (subst (In (moved_half u)) (moved_back_lem x) (moved_half_has u (alu 32 Add x (2 ^ 31)) j))

moved_back_keeps : (d s : Number) (r : Refined) (x y : ℕ) → In d x → In s y → Kept r (alu 32 Add x (2 ^ 31)) (alu 32 Add y (2 ^ 31))
    → Kept (moved_back d s r) (cut 32 x) (cut 32 y)
unfolding moved_back
moved_back_keeps d s None x y hx hy k = k
moved_back_keeps d s (Some (u, v)) x y hx hy k =
    firsts_keep (equal (low_half d) (moved_half u)) (equal (low_half s) (moved_half v)) (cut 32 x) (cut 32 y)
    (low_half_keeps d u x hx k.0) (low_half_keeps s v y hy k.1)

low_halves_keep : (c : Comparison) (d s : Number) (r : Refined) (x y : ℕ) → In d x → In s y → Kept r (key c x) (key c y)
    → Kept (low_halves c d s r) (cut 32 x) (cut 32 y)
unfolding low_halves key
low_halves_keep c d s r x y hx hy = keep (signed c)
  where
    keep : (b : Bool) → Kept r (key_by b x) (key_by b y) → Kept (cond b (moved_back d s r) r) (cut 32 x) (cut 32 y)
    keep true k = moved_back_keeps d s r x y hx hy k
    keep false k = k

whole_keeps : (d s : Number) (r : Refined) (x y : ℕ) → In d x → In s y → Kept r (cut 32 x) (cut 32 y) → Kept (whole d s r) x y
unfolding whole
whole_keeps d s None x y hx hy k = k
whole_keeps d s (Some (l, m)) x y hx hy k =
    settled_keeps (with_low d l) (with_low s m) x y (with_low_keeps d l x hx k.0) (with_low_keeps s m y hy k.1)

-- what the comparison of the halves excludes is excluded
pub excluded_stays : (c : Comparison) (d s : Number) → whole d s (low_halves c d s None) ≡ None
unfolding whole low_halves moved_back
excluded_stays c d s = by_test (λ (r : Refined). whole d s r ≡ None) (signed c) (λ _. refl) (λ _. refl)

-- both ways are what the comparison of class 5 tells of the halves that are compared
abbrev pub told : Comparison → Bool → Number → Number → Refined
told c way d s = refined (unsigned c) way (compared c d) (compared c s)

pub refined32_is : (c : Comparison) (way : Bool) (d s : Number) → refined32 c way d s ≡ whole d s (low_halves c d s (told c way d s))
unfolding refined32 taken32 not_taken32 refined
refined32_is c true d s = refl
refined32_is c false d s = refl

pub refined32_sound : (c : Comparison) (way : Bool) (d s : Number) (x y : ℕ) → In d x → In s y → compare 32 c x y ≡ way → Kept (refined32 c way d s) x y
refined32_sound c way d s x y hx hy e =
    rw (refined32_is c way d s)
    (whole_keeps d s (low_halves c d s (told c way d s)) x y hx hy
    (low_halves_keep c d s (told c way d s) x y hx hy
    (refined_sound (unsigned c) way (compared c d) (compared c s) (key c x) (key c y) (compared_has c d x hx) (compared_has c s y hy)
    (sym (compare_by_keys c x y) ∙ e))))

-- ---- nothing is told of the upper half, whatever the two are
whole_upper : (d s : Number) (r : Refined) → Left (whole d s r) (λ d' s'. UpperKept d' d × UpperKept s' s)
unfolding whole
whole_upper d s None = tt
whole_upper d s (Some (l, m)) =
    settled_leaves (with_low d l) (with_low s m) (λ d' s'. UpperKept d' d × UpperKept s' s) (λ a b. (with_low_upper d l, with_low_upper s m))

pub refined32_upper : (c : Comparison) (way : Bool) (d s : Number) → Left (refined32 c way d s) (λ d' s'. UpperKept d' d × UpperKept s' s)
refined32_upper c way d s = rw (refined32_is c way d s) (whole_upper d s (low_halves c d s (told c way d s)))

-- so every upper half that was possible still is, with every low half that is left
pub every_upper_half_is_left : (n' n : Number) (x y : ℕ) → UpperKept n' n → Mem 64 n.bits x → Mem 64 n'.bits y → Mem 64 n'.bits (halves x y)
every_upper_half_is_left n' n x y u i j =
    record { fits = halves_fit x y i.fits; agrees = λ k l e. at k l e (dec_lt k 32) }
  where
    same : (a b k : ℕ) → ¬ (k < 32) → a / 2 ^ 32 ≡ b / 2 ^ 32 → bit k a ≡ bit k b
    same a b k o e =
        let p : 32 + (k - 32) ≡ k = omega arith in
        subst (λ (m : ℕ). bit m a ≡ bit m b) p (sym (bit_shr 32 (k - 32) a) ∙ ap (bit (k - 32)) e ∙ bit_shr 32 (k - 32) b)

    at : (k : ℕ) → k < 64 → bit k n'.bits.mask ≡ 0 → Dec (k < 32) → bit k (halves x y) ≡ bit k n'.bits.value
    at k l e (yes b) = halves_low_bit x y k b ∙ j.agrees k l e
    at k l e (no o) =
        halves_high_bit x y k o
        ∙ i.agrees k l (sym (same n'.bits.mask n.bits.mask k o u.mask) ∙ e)
        ∙ sym (same n'.bits.value n.bits.value k o u.value)

-- ---- neither is wider, neither is empty, and both keep the form
-- l says no less of the low half of n than n does
pub record LowOf (n l : Number) : Type 0 where
  pub form : Well 64 l.bits
  pub narrower : Narrower l (low_half n)
  pub some : NotEmpty l.range

low_half_leaves : (n u : Number) → Well 64 n.bits → Well 64 u.bits → Left (equal (low_half n) u) (λ l l'. LowOf n l)
low_half_leaves n u g h =
    left_map (equal (low_half n) u) (Sharper (low_half n) u) (λ l l'. LowOf n l)
    (λ l l' k. record { form = k.form_first (low_half_form n g); narrower = k.first; some = k.some_first })
    (equal_leaves (low_half n) u (low_half_form n g) h)

module _ (d s : Number) (gd : Well 64 d.bits) (gs : Well 64 s.bits) where
  moved_back_leaves : (r : Refined) → Left r (Sharper (moved_half d) (moved_half s)) → Left (moved_back d s r) (λ l m. LowOf d l × LowOf s m)
  unfolding moved_back
  moved_back_leaves None h = tt
  moved_back_leaves (Some (u, v)) h =
      firsts_leave (equal (low_half d) (moved_half u)) (equal (low_half s) (moved_half v)) (LowOf d) (LowOf s)
      (low_half_leaves d (moved_half u) gd (moved_half_form u (h.form_first (moved_half_form d gd))))
      (low_half_leaves s (moved_half v) gs (moved_half_form v (h.form_second (moved_half_form s gs))))

  pub low_halves_leave : (c : Comparison) (r : Refined) → Left r (Sharper (compared c d) (compared c s)) → Left (low_halves c d s r) (λ l m. LowOf d l × LowOf s m)
  unfolding low_halves compared
  low_halves_leave c r = leave (signed c)
    where
      leave : (b : Bool) → Left r (Sharper (cond b (moved_half d) (low_half d)) (cond b (moved_half s) (low_half s)))
          → Left (cond b (moved_back d s r) r) (λ l m. LowOf d l × LowOf s m)
      leave true h = moved_back_leaves r h
      leave false h =
          left_map r (Sharper (low_half d) (low_half s)) (λ l m. LowOf d l × LowOf s m)
          (λ l m k. (
            record { form = k.form_first (low_half_form d gd); narrower = k.first; some = k.some_first },
            record { form = k.form_second (low_half_form s gs); narrower = k.second; some = k.some_second },
          ))
          h

  whole_sharper : (r : Refined) → Left r (λ l m. LowOf d l × LowOf s m) → Left (whole d s r) (Sharper d s)
  unfolding whole
  whole_sharper None h = tt
  whole_sharper (Some (l, m)) h =
      settled_leaves (with_low d l) (with_low s m) (Sharper d s)
      (λ a b. record {
        first = with_low_narrower d l gd h.0.form h.0.narrower;
        second = with_low_narrower s m gs h.1.form h.1.narrower;
        some_first = a;
        some_second = b;
        form_first = λ g. with_low_form d l g h.0.form;
        form_second = λ g. with_low_form s m g h.1.form;
      })

module _ (c : Comparison) (way : Bool) (d s : Number) (gd : Well 64 d.bits) (gs : Well 64 s.bits) where
  pub refined32_sharper : Left (refined32 c way d s) (Sharper d s)
  refined32_sharper =
      rw (refined32_is c way d s)
      (whole_sharper d s gd gs (low_halves c d s (told c way d s))
      (low_halves_leave d s gd gs c (told c way d s)
      (refined_sharper (unsigned c) way (compared c d) (compared c s) (compared_form c d gd) (compared_form c s gs))))

  pub refined32_narrower : Left (refined32 c way d s) (λ d' s'. Narrower d' d × Narrower s' s)
  refined32_narrower =
      left_map (refined32 c way d s) (Sharper d s) (λ d' s'. Narrower d' d × Narrower s' s) (λ d' s' h. (h.first, h.second)) refined32_sharper

  pub refined32_not_empty : Left (refined32 c way d s) (λ d' s'. NotEmpty d'.range × NotEmpty s'.range)
  refined32_not_empty =
      left_map (refined32 c way d s) (Sharper d s) (λ d' s'. NotEmpty d'.range × NotEmpty s'.range) (λ d' s' h. (h.some_first, h.some_second))
      refined32_sharper

  pub refined32_form : Left (refined32 c way d s) (λ d' s'. Well 64 d'.bits × Well 64 s'.bits)
  refined32_form =
      left_map (refined32 c way d s) (Sharper d s) (λ d' s'. Well 64 d'.bits × Well 64 s'.bits)
      (λ d' s' h. (h.form_first gd, h.form_second gs)) refined32_sharper

-- ---- what is known is decided
moved_half_exact : (x : ℕ) → x < 2 ^ 64 → moved_half (exact x) ≡ exact (alu 32 Add x (2 ^ 31))
unfolding moved_half
moved_half_exact x h = computed_exact 32 (inr refl) Add x (2 ^ 31) h (lit< tt)

pub low_half_exact : (x : ℕ) → x < 2 ^ 64 → low_half (exact x) ≡ exact (cut 32 x)
unfolding low_half alu
low_half_exact x h = computed_exact 32 (inr refl) Mov x x h h

pub compared_exact : (c : Comparison) (x : ℕ) → x < 2 ^ 64 → compared c (exact x) ≡ exact (key c x)
unfolding compared key
compared_exact c x h = known (signed c)
  where
    known : (b : Bool) → cond b (moved_half (exact x)) (low_half (exact x)) ≡ exact (key_by b x)
    known true = moved_half_exact x h
    known false = low_half_exact x h

equal_exact : (x : ℕ) → x < 2 ^ 64 → equal (exact x) (exact x) ≡ Some (exact x, exact x)
unfolding refined taken compare
equal_exact x h = refined_exact Eq true x x h h (eq-eqb (cut 64 x) (cut 64 x) refl)

-- the low half, from what was moved
back_exact : (x : ℕ) → x < 2 ^ 64 → equal (low_half (exact x)) (moved_half (exact (alu 32 Add x (2 ^ 31)))) ≡ Some (exact (cut 32 x), exact (cut 32 x))
back_exact x h =
    ap₂ equal (low_half_exact x h)
    (moved_half_exact (alu 32 Add x (2 ^ 31)) (number_wider 32 64 (omega arith) (result_below 32 Add x (2 ^ 31))) ∙ ap exact (moved_back_lem x))
    ∙ equal_exact (cut 32 x) (number_wider 32 64 (omega arith) (cut_below 32 x))

range_exact : (x : ℕ) → halves_of_range (just x) (just (cut 32 x)) ≡ just x
unfolding halves_of_range common just
range_exact x =
    by_less (λ (u : Range). u ≡ record { lo = x; hi = x }) x (2 ^ 32)
    (λ h. let e : cut 32 x ≡ x = cut_small 32 h in same_ends _ x x (omega arith) (omega arith)) (λ h. refl)

with_low_exact : (x : ℕ) → with_low (exact x) (exact (cut 32 x)) ≡ exact x
unfolding with_low halves_of_bits exact halves
with_low_exact x = λ i. record { bits = record { value = halves_of_itself x i; mask = 0 }; range = range_exact x i }

settled_exact : (x y : ℕ) → settled (exact x) (exact y) ≡ Some (exact x, exact y)
unfolding settled exact just
settled_exact x y = rw (le-leb x x (omega arith), le-leb y y (omega arith)) refl

module _ (c : Comparison) (way : Bool) (x y : ℕ) (hx : x < 2 ^ 64) (hy : y < 2 ^ 64) where
  refined32_of_exact : refined32 c way (exact x) (exact y)
      ≡ whole (exact x) (exact y) (low_halves c (exact x) (exact y) (refined (unsigned c) way (exact (key c x)) (exact (key c y))))
  refined32_of_exact =
      refined32_is c way (exact x) (exact y)
      ∙ ap (λ r. whole (exact x) (exact y) (low_halves c (exact x) (exact y) r))
      (ap₂ (refined (unsigned c) way) (compared_exact c x hx) (compared_exact c y hy))

  low_halves_exact : low_halves c (exact x) (exact y) (Some (exact (key c x), exact (key c y))) ≡ Some (exact (cut 32 x), exact (cut 32 y))
  unfolding low_halves moved_back key firsts
  low_halves_exact = known (signed c)
    where
      r : Bool → Refined
      r b = Some (exact (key_by b x), exact (key_by b y))

      known : (b : Bool) → cond b (moved_back (exact x) (exact y) (r b)) (r b) ≡ Some (exact (cut 32 x), exact (cut 32 y))
      known true = ap₂ firsts (back_exact x hx) (back_exact y hy)
      known false = refl

  whole_exact : whole (exact x) (exact y) (low_halves c (exact x) (exact y) (Some (exact (key c x), exact (key c y)))) ≡ Some (exact x, exact y)
  unfolding whole
  whole_exact =
      ap (whole (exact x) (exact y)) low_halves_exact ∙ ap₂ settled (with_low_exact x) (with_low_exact y) ∙ settled_exact x y

  pub refined32_exact : compare 32 c x y ≡ way → refined32 c way (exact x) (exact y) ≡ Some (exact x, exact y)
  refined32_exact e =
      refined32_of_exact
      ∙ ap (λ r. whole (exact x) (exact y) (low_halves c (exact x) (exact y) r))
      (refined_exact (unsigned c) way (key c x) (key c y) (key_fits c x) (key_fits c y) (sym (compare_by_keys c x y) ∙ e))
      ∙ whole_exact

  pub refined32_exact_excluded : compare 32 c x y ≡ not way → refined32 c way (exact x) (exact y) ≡ None
  refined32_exact_excluded e =
      refined32_of_exact
      ∙ ap (λ r. whole (exact x) (exact y) (low_halves c (exact x) (exact y) r))
      (refined_exact_excluded (unsigned c) way (key c x) (key c y) (key_fits c x) (key_fits c y) (sym (compare_by_keys c x y) ∙ e))
      ∙ excluded_stays c (exact x) (exact y)
