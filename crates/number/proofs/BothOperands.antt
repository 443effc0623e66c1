-- What a way out of a comparison tells of both operands, if neither is known: each is bounded by the other.
use mathlib.Core.Path.{◌≡◌, refl, sym, subst}
use mathlib.Core.Bool.{Bool, true, false}
use Prim.Native.Nat.{ℕ}
use lib.Bits.{bit_and}
use Rattle.std.specs.Prelude.{Option, Some, None}
use Rattle.word.specs.Word.{compare}
use Rattle.word.specs.declared.Comparison.{Comparison}
use Rattle.word.specs.declared.Comparison.TheVariants.{Eq, Ne, Gt, Ge, Lt, Le, Set}
use Rattle.known_bits.specs.declared.Bits.{Bits}
use Rattle.known_bits.specs.KnownBits.{Well, Mem}
use Rattle.known_bits.specs.Formula.{met}
use Rattle.number.specs.declared.Range.{Range}
use Rattle.number.specs.declared.Number.{Number}
use Rattle.number.specs.Refined.{Refined}
use Rattle.number.specs.Meaning.{Narrower, Left}
use Rattle.number.specs.Sharpen.{sharpened}
use Rattle.number.specs.Compare.{exchanged, ordered, common, equal_by, equal, resharpened, disjoint, turned, turned_back, signed_ordered, refined}
use Rattle.number.specs.Demanded.{Signed, sgt, sge, slt, sle, raised, RaisedBy, Ordered, OfBoth}
use Rattle.number.proofs.Outcomes.{Sharper, left_map, left_both, exchanged_leaves, settled_leaves, firsts_leave}
use Rattle.number.proofs.Relations.{told, relation, refined_is_told}
use Rattle.number.proofs.Orders.{OrderLeft, ordered_leaves}
use Rattle.number.proofs.Equality.{equal_leaves}
use Rattle.known_bits.proofs.Tight.{mem_least}
use Rattle.number.proofs.SharedBits.{DisjointLeft, disjoint_leaves, none_shared_with_value, resharpened_form, resharpened_narrower}
use Rattle.number.proofs.Signs.{turned_form}
use Rattle.number.proofs.Exclusion.{set_excluded_by_bits}

-- ---- orders
bounded : (gap : ℕ) (d s : Number) → Left (ordered gap d s) (Ordered gap d s)
bounded gap d s =
    left_map (ordered gap d s) (OrderLeft gap d s) (Ordered gap d s) (λ d' s' h. record { highest = h.highest; lowest = h.lowest })
    (ordered_leaves gap d s)

bounded_above : (gap : ℕ) (d s : Number) → Left (exchanged (ordered gap s d)) (λ d' s'. Ordered gap s d s' d')
bounded_above gap d s = exchanged_leaves (ordered gap s d) (λ d' s'. Ordered gap s d s' d') (bounded gap s d)

-- ---- equality: one Number is left of both
equal_by_leaves_one : (r : Option Bits) (t : Range) → Left (equal_by r t) (λ d' s'. d' ≡ s')
unfolding equal_by
equal_by_leaves_one None t = tt
equal_by_leaves_one (Some p) t = settled_leaves (sharpened p t) (sharpened p t) (λ d' s'. d' ≡ s') (λ a b. refl)

equal_leaves_one : (d s : Number) → Left (equal d s) (λ d' s'. d' ≡ s')
unfolding equal
equal_leaves_one d s = equal_by_leaves_one (met d.bits s.bits) (common d.range s.range)

pub equal_leaves_both : (d s : Number) → Well 64 d.bits → Well 64 s.bits → Left (equal d s) (λ d' s'. Narrower d' s × Narrower s' d)
equal_leaves_both d s gd gs =
    left_map (equal d s) (λ d' s'. Sharper d s d' s' × (d' ≡ s')) (λ d' s'. Narrower d' s × Narrower s' d)
    (λ d' s' h. (subst (λ n. Narrower n s) (sym h.1) h.0.second, subst (λ n. Narrower n d) h.1 h.0.first))
    (left_both (equal d s) (Sharper d s) (λ d' s'. d' ≡ s') (equal_leaves d s gd gs) (equal_leaves_one d s))

-- ---- signed orders
module _ (d s : Number) (gd : Well 64 d.bits) (gs : Well 64 s.bits) where
  turned_back_lem : (r : Refined) → Left r (λ u v. Well 64 u.bits × Well 64 v.bits) → Left (turned_back d s r) (RaisedBy r)
  unfolding turned_back turned
  turned_back_lem None h = tt
  turned_back_lem (Some (u, v)) h =
      firsts_leave (equal d (turned u)) (equal s (turned v)) (λ d'. Narrower d' (turned u)) (λ s'. Narrower s' (turned v))
      (left_map (equal d (turned u)) _ (λ d' s'. Narrower d' (turned u)) (λ d' s' k. k.0)
      (equal_leaves_both d (turned u) gd (turned_form u)))
      (left_map (equal s (turned v)) _ (λ d' s'. Narrower d' (turned v)) (λ d' s' k. k.0)
      (equal_leaves_both s (turned v) gs (turned_form v)))

  signed_order : (gap : ℕ) → Left (signed_ordered gap d s) (RaisedBy (ordered gap (raised d) (raised s)))
  unfolding signed_ordered turned
  signed_order gap =
      turned_back_lem (ordered gap (turned d) (turned s))
      (left_map (ordered gap (turned d) (turned s)) (OrderLeft gap (turned d) (turned s)) (λ u v. Well 64 u.bits × Well 64 v.bits)
      (λ u v h. (h.sharper.form_first (turned_form d), h.sharper.form_second (turned_form s)))
      (ordered_leaves gap (turned d) (turned s)))

-- exchanged on both sides
raised_exchanged : (r q : Refined) → Left r (RaisedBy q) → Left (exchanged r) (RaisedBy (exchanged q))
unfolding exchanged
raised_exchanged None q h = tt
raised_exchanged (Some (d, s)) None h = h
raised_exchanged (Some (d, s)) (Some (u, v)) h = (h.1, h.0)

module _ (d s : Number) (gd : Well 64 d.bits) (gs : Well 64 s.bits) where
  signed_above_lem : (gap : ℕ) → Left (exchanged (signed_ordered gap s d)) (RaisedBy (exchanged (ordered gap (raised s) (raised d))))
  signed_above_lem gap = raised_exchanged (signed_ordered gap s d) (ordered gap (raised s) (raised d)) (signed_order s d gs gd gap)

  signed_told : (c o : Comparison) → Signed c o → (way : Bool)
      → Left (told (relation c way) d s) (RaisedBy (told (relation o way) (raised d) (raised s)))
  signed_told c o sgt true = signed_above_lem 1
  signed_told c o sgt false = signed_order d s gd gs 0
  signed_told c o sge true = signed_above_lem 0
  signed_told c o sge false = signed_order d s gd gs 1
  signed_told c o slt true = signed_order d s gd gs 1
  signed_told c o slt false = signed_above_lem 0
  signed_told c o sle true = signed_order d s gd gs 0
  signed_told c o sle false = signed_above_lem 1

  signed_refined : (c o : Comparison) → Signed c o → (way : Bool)
      → Left (refined c way d s) (RaisedBy (refined o way (raised d) (raised s)))
  signed_refined c o i way = rw (refined_is_told c way d s, refined_is_told o way (raised d) (raised s)) (signed_told c o i way)

  -- ---- JSET
  jset_clears : Left (refined Set false d s) (λ d' s'. (x : ℕ) → Mem 64 d'.bits x → bit_and x s.bits.value ≡ 0)
  jset_clears =
      let q = resharpened s in
      let m = mem_least 64 q.bits (resharpened_form s gs) in
      rw (refined_is_told Set false d s)
      (left_map (disjoint d s) (DisjointLeft (resharpened d) q)
      (λ d' s'. (x : ℕ) → Mem 64 d'.bits x → bit_and x s.bits.value ≡ 0)
      (λ d' s' h x i. none_shared_with_value s.bits gs x q.bits.value i.fits ((resharpened_narrower s).bits _ m) (h.none_shared x i))
      (disjoint_leaves d s gd gs))

  jset_excluded : (way : Bool) → ((x y : ℕ) → Mem 64 d.bits x → Mem 64 s.bits y → compare 64 Set x y ≡ way → ⊥)
      → refined Set way d s ≡ None
  jset_excluded way none =
      set_excluded_by_bits way d s gd gs (λ x y i j. none x y ((resharpened_narrower d).bits x i) ((resharpened_narrower s).bits y j))

  -- ---- all of it
  pub both_told : OfBoth d s
  both_told =
      record {
        gt_taken = rw (refined_is_told Gt true d s) (bounded_above 1 d s);
        ge_taken = rw (refined_is_told Ge true d s) (bounded_above 0 d s);
        lt_taken = rw (refined_is_told Lt true d s) (bounded 1 d s);
        le_taken = rw (refined_is_told Le true d s) (bounded 0 d s);
        gt_not_taken = rw (refined_is_told Gt false d s) (bounded 0 d s);
        ge_not_taken = rw (refined_is_told Ge false d s) (bounded 1 d s);
        lt_not_taken = rw (refined_is_told Lt false d s) (bounded_above 0 d s);
        le_not_taken = rw (refined_is_told Le false d s) (bounded_above 1 d s);
        eq_taken = rw (refined_is_told Eq true d s) (equal_leaves_both d s gd gs);
        ne_not_taken = rw (refined_is_told Ne false d s) (equal_leaves_both d s gd gs);
        signed = signed_refined;
        jset_not_taken = jset_clears;
        jset_excluded = jset_excluded;
      }
