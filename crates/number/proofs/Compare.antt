-- The laws of `refined`: it loses no pair of numbers that goes the way, makes neither number wider, and is as sharp as ranges and known
-- bits allow.
use mathlib.Core.Path.{◌≡◌, sym, subst}
use mathlib.Core.Bool.{Bool}
use Prim.Native.Nat.{ℕ, ◌≤◌}
use native.Mathlib.Omega.{arith}
use Rattle.word.specs.Word.{compare}
use Rattle.word.specs.declared.Comparison.{Comparison}
use Rattle.known_bits.specs.KnownBits.{Well}
use Rattle.number.specs.declared.Number.{Number}
use Rattle.number.specs.Meaning.{In, Narrower, Kept, Left}
use Rattle.number.specs.Compare.{equal, ordered, unequal, disjoint, overlapping, signed_ordered, resharpened, refined}
use Rattle.number.proofs.Outcomes.{Sharper, sharper_exchanged, left_map, exchanged_keeps, exchanged_leaves}
use Rattle.number.proofs.Relations.{Relation, Below, SignedBelow, Exchanged, Same, Different, Disjoint, Overlapping, Holds, told, relation, refined_is_told}
use Rattle.number.proofs.WordsGo.{goes_if_it_holds}
use Rattle.number.proofs.Orders.{OrderLeft, ordered_sound, ordered_leaves}
use Rattle.number.proofs.Equality.{equal_sound, equal_leaves, unequal_sound, unequal_leaves, UnequalLeft}
use Rattle.number.proofs.SharedBits.{disjoint_sound, disjoint_leaves, DisjointLeft, overlapping_sound, overlapping_leaves, OverlapLeft, resharpened_form, resharpened_narrower}
use Rattle.number.proofs.Signs.{signed_ordered_sound, signed_ordered_leaves, SignedLeft}

-- ---- nothing is lost
told_sound : (r : Relation) (d s : Number) (x y : ℕ) → In d x → In s y → Holds r x y → Kept (told r d s) x y
told_sound (Below gap) d s x y hx hy h = ordered_sound gap d s x y hx hy h
told_sound (SignedBelow gap) d s x y hx hy h = signed_ordered_sound gap d s x y hx hy h
told_sound (Exchanged r) d s x y hx hy h = exchanged_keeps (told r s d) y x (told_sound r s d y x hy hx h)
told_sound Same d s x y hx hy h =
    subst (λ (z : ℕ). Kept (equal d s) x z) h (equal_sound d s x hx (subst (λ (z : ℕ). In s z) (sym h) hy))
told_sound Different d s x y hx hy h = unequal_sound d s x y hx hy h
told_sound Disjoint d s x y hx hy h = disjoint_sound d s x y hx hy h
told_sound Overlapping d s x y hx hy h = overlapping_sound d s x y hx hy h

pub refined_sound : (c : Comparison) (way : Bool) (d s : Number) (x y : ℕ) → In d x → In s y → compare 64 c x y ≡ way → Kept (refined c way d s) x y
refined_sound c way d s x y hx hy e =
    rw (refined_is_told c way d s)
    (told_sound (relation c way) d s x y hx hy ((goes_if_it_holds c way x y hx.bits.fits hy.bits.fits).0 e))

-- ---- neither is wider, neither is empty, and both keep the form
sharper_than_resharpened : (d s d' s' : Number) → Sharper (resharpened d) (resharpened s) d' s' → Sharper d s d' s'
sharper_than_resharpened d s d' s' h =
    record {
      first = narrower_still d d' h.first;
      second = narrower_still s s' h.second;
      some_first = h.some_first;
      some_second = h.some_second;
      form_first = λ g. h.form_first (resharpened_form d g);
      form_second = λ g. h.form_second (resharpened_form s g);
    }
  where
    narrower_still : (n n' : Number) → Narrower n' (resharpened n) → Narrower n' n
    narrower_still n n' k =
        let i = resharpened_narrower n in
        let a = i.range in
        let b = k.range in
        record { bits = λ x m. i.bits x (k.bits x m); range = record { low = omega arith; high = omega arith } }

told_sharper : (r : Relation) (d s : Number) → Well 64 d.bits → Well 64 s.bits → Left (told r d s) (Sharper d s)
told_sharper (Below gap) d s gd gs = left_map (ordered gap d s) (OrderLeft gap d s) (Sharper d s) (λ d' s' h. h.sharper) (ordered_leaves gap d s)
told_sharper (SignedBelow gap) d s gd gs = left_map (signed_ordered gap d s) (SignedLeft gap d s) (Sharper d s) (λ d' s' h. h.sharper) (signed_ordered_leaves gap d s gd gs)
told_sharper (Exchanged r) d s gd gs =
    exchanged_leaves (told r s d) (Sharper d s)
    (left_map (told r s d) (Sharper s d) (λ s' d'. Sharper d s d' s') (λ s' d' h. sharper_exchanged s d s' d' h) (told_sharper r s d gs gd))
told_sharper Same d s gd gs = equal_leaves d s gd gs
told_sharper Different d s gd gs = left_map (unequal d s) (UnequalLeft d s) (Sharper d s) (λ d' s' h. h.sharper) (unequal_leaves d s)
told_sharper Disjoint d s gd gs =
    left_map (disjoint d s) (DisjointLeft (resharpened d) (resharpened s)) (Sharper d s) (λ d' s' h. sharper_than_resharpened d s d' s' h.sharper) (disjoint_leaves d s gd gs)
told_sharper Overlapping d s gd gs =
    left_map (overlapping d s) (OverlapLeft (resharpened d) (resharpened s)) (Sharper d s) (λ d' s' h. sharper_than_resharpened d s d' s' h.sharper) (overlapping_leaves d s)

pub refined_sharper : (c : Comparison) (way : Bool) (d s : Number) → Well 64 d.bits → Well 64 s.bits → Left (refined c way d s) (Sharper d s)
refined_sharper c way d s gd gs = rw (refined_is_told c way d s) (told_sharper (relation c way) d s gd gs)

pub refined_narrower : (c : Comparison) (way : Bool) (d s : Number) → Well 64 d.bits → Well 64 s.bits
    → Left (refined c way d s) (λ d' s'. Narrower d' d × Narrower s' s)
refined_narrower c way d s gd gs = left_map (refined c way d s) (Sharper d s) (λ d' s'. Narrower d' d × Narrower s' s) (λ d' s' h. (h.first, h.second)) (refined_sharper c way d s gd gs)

pub refined_not_empty : (c : Comparison) (way : Bool) (d s : Number) → Well 64 d.bits → Well 64 s.bits
    → Left (refined c way d s) (λ d' s'. (d'.range.lo ≤ d'.range.hi) × (s'.range.lo ≤ s'.range.hi))
refined_not_empty c way d s gd gs =
    left_map (refined c way d s) (Sharper d s) (λ d' s'. (d'.range.lo ≤ d'.range.hi) × (s'.range.lo ≤ s'.range.hi)) (λ d' s' h. (h.some_first, h.some_second))
    (refined_sharper c way d s gd gs)

pub refined_form : (c : Comparison) (way : Bool) (d s : Number) → Well 64 d.bits → Well 64 s.bits
    → Left (refined c way d s) (λ d' s'. Well 64 d'.bits × Well 64 s'.bits)
refined_form c way d s gd gs =
    left_map (refined c way d s) (Sharper d s) (λ d' s'. Well 64 d'.bits × Well 64 s'.bits) (λ d' s' h. (h.form_first gd, h.form_second gs))
    (refined_sharper c way d s gd gs)
