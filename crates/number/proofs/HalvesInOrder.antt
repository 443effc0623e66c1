-- Knowing more never hurts a comparison of low halves: what `WaysInOrder` says of whole numbers.
use mathlib.Core.Path.{◌≡◌, refl, sym, ◌∙◌, subst}
use mathlib.Core.Bool.{Bool, true, false, cond}
use mathlib.Core.Logic.{inr}
use Prim.Native.Nat.{ℕ, ◌^◌, ◌<◌}
use native.Mathlib.Decide.{dec_lt}
use native.Mathlib.Omega.{arith}
use lib.Dec.{lit<}
use Rattle.std.specs.Prelude.{Some, None}
use Rattle.word.specs.Word.{bit}
use Rattle.word.specs.declared.Operation.TheVariants.{Add, Mov}
use Rattle.word.specs.declared.Comparison.{Comparison}
use Rattle.word.proofs.Pinned.{result_below}
use Rattle.known_bits.specs.declared.Bits.{Bits}
use Rattle.known_bits.specs.KnownBits.{Well}
use Rattle.known_bits.specs.Formula.{among}
use Rattle.known_bits.specs.Pair.{top}
use Rattle.known_bits.proofs.Inside.{mask_covers_mask, known_is_kept}
use Rattle.known_bits.proofs.Laws.{mem_bounds}
use Rattle.known_bits.proofs.Tight.{mem_top}
use Rattle.number.specs.declared.Range.{Range}
use Rattle.number.specs.declared.Number.{Number}
use Rattle.number.specs.Refined.{Refined}
use Rattle.number.specs.Meaning.{RangeWithin, BitsWithin, Narrower, Left, LeavesNoMore}
use Rattle.number.specs.Sharpen.{exact, loaded}
use Rattle.number.specs.Compare.{bounds, common, equal}
use Rattle.number.specs.Halves.{unsigned, signed, low_half, moved_half, compared, moved_back, low_halves, halves, halves_of_bits, halves_of_range, with_low, whole, refined32}
use Rattle.number.proofs.Cases.{by_less}
use Rattle.number.proofs.Compare.{refined_sharper}
use Rattle.number.proofs.ComputedInOrder.{Operand, operand_of_bounds, operand_of_member, computed_in_order}
use Rattle.number.proofs.Computing.{computed_best, computed_range_within}
use Rattle.number.proofs.Equality.{equal_leaves}
use Rattle.number.proofs.HalfBits.{halves_low_bit, halves_high_bit}
use Rattle.number.proofs.Halves.{LowOf, low_half_form, moved_half_form, compared_form, low_halves_leave, told, refined32_is, refined32_sharper}
use Rattle.number.proofs.Known.{exact_in, loaded_in}
use Rattle.number.proofs.Operands.{base}
use Rattle.number.proofs.Outcomes.{NotEmpty, some_of_within, Sharper, left_map, left_both, settled_leaves}
use Rattle.number.proofs.SharedBits.{narrower_than_itself}
use Rattle.number.proofs.Shorter.{mov_computed_range}
use Rattle.number.proofs.WaysInOrder.{if_left, settled_in_order, firsts_in_order, common_in_order, equal_in_order, SomeBounds, refined_leaves_bounds, refined_in_order}

-- ---- a number with another low half
module _ (p' q' p q : Bits) (gp' : Well 64 p') (gq' : Well 64 q') (gp : Well 64 p) (gq : Well 64 q) (i : BitsWithin p' p)
    (j : BitsWithin q' q) where
  halves_of_bits_in_order : BitsWithin (halves_of_bits p' q') (halves_of_bits p q)
  unfolding halves_of_bits
  halves_of_bits_in_order x m = record { fits = m.fits; agrees = λ k l e. at k l e (dec_lt k 32) }
    where
      at : (k : ℕ) → k < 64 → bit k (halves p.mask q.mask) ≡ 0 → Dec (k < 32) → bit k x ≡ bit k (halves p.value q.value)
      at k l e (yes b) =
          let z : bit k q.mask ≡ 0 = sym (halves_low_bit p.mask q.mask k b) ∙ e in
          m.agrees k l (halves_low_bit p'.mask q'.mask k b ∙ (mask_covers_mask 64 q' q gq' gq j).zeros k z) ∙ halves_low_bit
          p'.value q'.value k b
          ∙ known_is_kept 64 q' q gq' gq j k l z ∙ sym (halves_low_bit p.value q.value k b)
      at k l e (no o) =
          let z : bit k p.mask ≡ 0 = sym (halves_high_bit p.mask q.mask k o) ∙ e in
          m.agrees k l (halves_high_bit p'.mask q'.mask k o ∙ (mask_covers_mask 64 p' p gp' gp i).zeros k z) ∙ halves_high_bit
          p'.value q'.value k o
          ∙ known_is_kept 64 p' p gp' gp i k l z ∙ sym (halves_high_bit p.value q.value k o)

halves_of_range_in_order : (r' t' r t : Range) → RangeWithin r' r → RangeWithin t' t → RangeWithin (halves_of_range r' t') (halves_of_range r t)
unfolding halves_of_range common
halves_of_range_in_order r' t' r t a b =
    by_less (RangeWithin (halves_of_range r' t')) r.hi (2 ^ 32)
    (λ h. by_less (λ u. RangeWithin u (common r t)) r'.hi (2 ^ 32) (λ _. common_in_order r' t' r t a b)
    (λ n. absurd (omega (arith, a.high))))
    (λ _. by_less (λ u. RangeWithin u r) r'.hi (2 ^ 32) (λ _. record { low = omega (arith, a.low); high = omega (arith, a.high) })
    (λ _. a))

module _ (d' s' d s : Number) (gd' : Well 64 d'.bits) (gs' : Well 64 s'.bits) (gd : Well 64 d.bits) (gs : Well 64 s.bits)
    (hd : Narrower d' d) (hs : Narrower s' s) where
  whole_in_order : (r' r : Refined) → Left r' (λ l m. Well 64 l.bits × Well 64 m.bits)
      → Left r (λ l m. Well 64 l.bits × Well 64 m.bits) → LeavesNoMore r' r
      → LeavesNoMore (whole d' s' r') (whole d s r)
  unfolding whole with_low
  whole_in_order None r f' f h = tt
  whole_in_order (Some (l', m')) None f' f h = absurd h
  whole_in_order (Some (l', m')) (Some (l, m)) f' f h =
      settled_in_order _ _ _ _ (λ _ _. (
        record {
          bits = halves_of_bits_in_order d'.bits l'.bits d.bits l.bits gd' f'.0 gd f.0 hd.bits h.0.bits;
          range = halves_of_range_in_order d'.range l'.range d.range l.range hd.range h.0.range;
        },
        record {
          bits = halves_of_bits_in_order s'.bits m'.bits s.bits m.bits gs' f'.1 gs f.1 hs.bits h.1.bits;
          range = halves_of_range_in_order s'.range m'.range s.range m.range hs.range h.1.range;
        },
      ))

-- ---- the halves that are compared
-- a Number of which a low half is left
record Halved (n : Number) : Type 0 where
  form : Well 64 n.bits
  some : NotEmpty n.range
  some_low : NotEmpty (low_half n).range

halved_operand : (n : Number) → Halved n → Operand (2 ^ 32) n
unfolding low_half
halved_operand n h =
    record {
      form = h.form;
      some = h.some;
      taken = rw (mov_computed_range 32 (inr refl) n n) at (some_of_within (computed_range_within 32 Mov n n) h.some_low);
    }

module _ (n' n : Number) (g : Well 64 n.bits) (h : Narrower n' n) where
  low_half_in_order : Halved n' → Narrower (low_half n') (low_half n)
  unfolding low_half base
  low_half_in_order k =
      let o = halved_operand n' k in computed_in_order 32 (inr refl) Mov n' n' n n g g h h o o k.some_low

  moved_half_in_order : Operand (2 ^ 32) n' → NotEmpty (moved_half n').range → Narrower (moved_half n') (moved_half n)
  unfolding moved_half base
  moved_half_in_order o =
      let e = exact_in (2 ^ 31) (lit< tt) in
      computed_in_order 32 (inr refl) Add n' (exact (2 ^ 31)) n (exact (2 ^ 31)) g e.form h (narrower_than_itself (exact (2 ^ 31))) o
      (operand_of_member 32 (omega arith) (exact (2 ^ 31)) (2 ^ 31) e)

  compared_in_order : (c : Comparison) → Halved n' → NotEmpty (compared c n').range → Narrower (compared c n') (compared c n)
  unfolding compared
  compared_in_order c k = go (signed c)
    where
      go : (b : Bool) → NotEmpty (cond b (moved_half n') (low_half n')).range
          → Narrower (cond b (moved_half n') (low_half n')) (cond b (moved_half n) (low_half n))
      go true s = moved_half_in_order (halved_operand n' k) s
      go false s = low_half_in_order k

-- a half that is moved has 32 bits
moved_half_fits : (n : Number) → Well 64 n.bits → BitsWithin (moved_half n).bits (loaded 4).bits
unfolding moved_half
moved_half_fits n g =
    computed_best 32 (inr refl) Add n (exact (2 ^ 31)) g (exact_in (2 ^ 31) (lit< tt)).form tt (loaded 4).bits
    (loaded_in 4 (omega arith) 0 (lit< tt)).form
    (λ z r. (loaded_in 4 (omega arith) z (subst (λ (m : ℕ). m < 2 ^ 32) (sym r.4) (result_below 32 Add r.0 r.1))).bits)

-- what is left of it can be moved back
module _ (n u : Number) (g : Well 64 n.bits) (gu : Well 64 u.bits) (h : Narrower u (moved_half n)) where
  moved_operand : NotEmpty (bounds u) → Operand (2 ^ 32) u
  unfolding bounds loaded among
  moved_operand s =
      operand_of_bounds 32 u gu
      (omega (
        arith,
        (mem_bounds 64 (loaded 4).bits (loaded_in 4 (omega arith) 0 (lit< tt)).form (top u.bits)
            (moved_half_fits n g (top u.bits) (h.bits (top u.bits) (mem_top 64 u.bits gu)))).1,
      ))
      s

module _ (d' d : Number) (gd : Well 64 d.bits) (hd : Narrower d' d) (k : Halved d') where
  back_in_order : (u' u : Number) → Operand (2 ^ 32) u' → Well 64 u.bits → Narrower u' u
      → LeavesNoMore (equal (low_half d') (moved_half u')) (equal (low_half d) (moved_half u))
  back_in_order u' u o gu h =
      let f = low_half_form d' k.form in
      let f' = moved_half_form u' o.form in
      if_left (equal (low_half d') (moved_half u')) (equal (low_half d) (moved_half u)) (NotEmpty (moved_half u').range)
      (left_map (equal (low_half d') (moved_half u')) _ (λ a b. NotEmpty (moved_half u').range)
      (λ a b j. some_of_within j.second.range j.some_second)
      (equal_leaves (low_half d') (moved_half u') f f'))
      (λ s. equal_in_order (low_half d') (moved_half u') (low_half d) (moved_half u) f f' (low_half_form d gd) (moved_half_form u gu)
      (low_half_in_order d' d gd hd k) (moved_half_in_order u' u gu h o s))

-- ---- every comparison
abbrev Forms : Number → Number → Type 0
Forms u v = Well 64 u.bits × Well 64 v.bits

whole_leaves : (d s : Number) (r : Refined) (A : Type 0) → Left r (λ l m. A) → Left (whole d s r) (λ l m. A)
unfolding whole
whole_leaves d s None A h = tt
whole_leaves d s (Some (l, m)) A h = settled_leaves (with_low d l) (with_low s m) (λ l m. A) (λ a b. h)

module _ (d' s' d s : Number) (gd : Well 64 d.bits) (gs : Well 64 s.bits) (hd : Narrower d' d) (hs : Narrower s' s) (kd : Halved d')
    (ks : Halved s') where
  moved_back_in_order : (r' r : Refined) → Left r' (λ u v. Operand (2 ^ 32) u × Operand (2 ^ 32) v) → Left r Forms → LeavesNoMore r' r
      → LeavesNoMore (moved_back d' s' r') (moved_back d s r)
  unfolding moved_back
  moved_back_in_order None r f' f h = tt
  moved_back_in_order (Some (u', v')) None f' f h = absurd h
  moved_back_in_order (Some (u', v')) (Some (u, v)) f' f h =
      firsts_in_order (equal (low_half d') (moved_half u')) (equal (low_half s') (moved_half v')) (equal (low_half d) (moved_half u))
      (equal (low_half s) (moved_half v))
      (back_in_order d' d gd hd kd u' u f'.0 f.0 h.0) (back_in_order s' s gs hs ks v' v f'.1 f.1 h.1)

  low_halves_in_order : (c : Comparison) (r' r : Refined) → Left r' (λ u v. Sharper (compared c d') (compared c s') u v × SomeBounds u v)
      → Left r Forms → LeavesNoMore r' r
      → LeavesNoMore (low_halves c d' s' r') (low_halves c d s r)
  unfolding low_halves compared
  low_halves_in_order c r' r f' f h = go (signed c) f'
    where
      go : (b : Bool)
          → Left r' (λ u v. Sharper (cond b (moved_half d') (low_half d')) (cond b (moved_half s') (low_half s')) u v × SomeBounds u v)
          → LeavesNoMore (cond b (moved_back d' s' r') r') (cond b (moved_back d s r) r)
      go true e =
          moved_back_in_order r' r
          (left_map r' _ (λ u v. Operand (2 ^ 32) u × Operand (2 ^ 32) v)
          (λ u v j. (
            moved_operand d' u kd.form (j.0.form_first (moved_half_form d' kd.form)) j.0.first j.1.0,
            moved_operand s' v ks.form (j.0.form_second (moved_half_form s' ks.form)) j.0.second j.1.1,
          ))
          e)
          f h
      go false e = h

  told_in_order : (c : Comparison) (way : Bool) → LeavesNoMore (told c way d' s') (told c way d s)
  told_in_order c way =
      let fd = compared_form c d' kd.form in
      let fs = compared_form c s' ks.form in
      let A : Type 0 = NotEmpty (compared c d').range × NotEmpty (compared c s').range in
      if_left (told c way d' s') (told c way d s) A
      (left_map (told c way d' s') _ (λ u v. A) (λ u v j. (
        some_of_within j.first.range j.some_first,
        some_of_within
            j.second.range j.some_second,
      ))
      (refined_sharper (unsigned c) way (compared c d') (compared c s') fd fs))
      (λ j. refined_in_order (unsigned c) way (compared c d') (compared c s') (compared c d) (compared c s) fd fs (compared_form c d gd)
      (compared_form c s gs)
      (compared_in_order d' d gd hd c kd j.0) (compared_in_order s' s gs hs c ks j.1))

  halves_in_order : (c : Comparison) (way : Bool) → LeavesNoMore (low_halves c d' s' (told c way d' s')) (low_halves c d s (told c way d s))
  halves_in_order c way =
      let fd = compared_form c d gd in
      let fs = compared_form c s gs in
      low_halves_in_order c (told c way d' s') (told c way d s)
      (left_both (told c way d' s') _ SomeBounds
      (refined_sharper (unsigned c) way (compared c d') (compared c s') (compared_form c d' kd.form) (compared_form c s' ks.form))
      (refined_leaves_bounds (unsigned c) way (compared c d') (compared c s')))
      (left_map (told c way d s) _ Forms (λ u v j. (j.form_first fd, j.form_second fs))
      (refined_sharper (unsigned c) way (compared c d) (compared c s) fd fs))
      (told_in_order c way)

module _ (c : Comparison) (way : Bool) (d s : Number) (gd : Well 64 d.bits) (gs : Well 64 s.bits) where
  pub halves_left : Left (low_halves c d s (told c way d s)) (λ l m. LowOf d l × LowOf s m)
  halves_left =
      low_halves_leave d s gd gs c (told c way d s)
      (refined_sharper (unsigned c) way (compared c d) (compared c s) (compared_form c d gd) (compared_form c s gs))

  halves_forms : Left (low_halves c d s (told c way d s)) Forms
  halves_forms = left_map (low_halves c d s (told c way d s)) _ Forms (λ l m h. (h.0.form, h.1.form)) halves_left

  abbrev SomeLow : Type 0
  SomeLow = NotEmpty (low_half d).range × NotEmpty (low_half s).range

  halved_if_left : Left (refined32 c way d s) (λ d' s'. Halved d × Halved s)
  halved_if_left =
      left_map (refined32 c way d s) _ (λ d' s'. Halved d × Halved s)
      (λ d' s' h. (
        record { form = gd; some = some_of_within h.0.first.range h.0.some_first; some_low = h.1.0 },
        record { form = gs; some = some_of_within h.0.second.range h.0.some_second; some_low = h.1.1 },
      ))
      (left_both (refined32 c way d s) (Sharper d s) (λ d' s'. SomeLow) (refined32_sharper c way d s gd gs)
      (rw (refined32_is c way d s) (whole_leaves d s (low_halves c d s (told c way d s)) SomeLow
      (left_map (low_halves c d s (told c way d s)) _ (λ l m. SomeLow)
      (λ l m h. (some_of_within h.0.narrower.range h.0.some, some_of_within h.1.narrower.range h.1.some)) halves_left))))

pub refined32_in_order : (c : Comparison) (way : Bool) (d' s' d s : Number) → Well 64 d'.bits → Well 64 s'.bits → Well 64 d.bits
    → Well 64 s.bits
    → Narrower d' d → Narrower s' s → LeavesNoMore (refined32 c way d' s') (refined32 c way d s)
refined32_in_order c way d' s' d s gd' gs' gd gs hd hs =
    if_left (refined32 c way d' s') (refined32 c way d s) (Halved d' × Halved s') (halved_if_left c way d' s' gd' gs')
    (λ k. rw (refined32_is c way d' s', refined32_is c way d s)
    (whole_in_order d' s' d s gd' gs' gd gs hd hs (low_halves c d' s' (told c way d' s')) (low_halves c d s (told c way d s))
    (halves_forms c way d' s' gd' gs') (halves_forms c way d s gd gs) (halves_in_order d' s' d s gd gs hd hs k.0 k.1 c way)))

pub refined32_form : (c : Comparison) (way : Bool) (d s : Number) → Well 64 d.bits → Well 64 s.bits → Left (refined32 c way d s) Forms
refined32_form c way d s gd gs =
    left_map (refined32 c way d s) (Sharper d s) Forms (λ d' s' h. (h.form_first gd, h.form_second gs))
    (refined32_sharper c way d s gd gs)
