-- How sharp `refined32` is for a number below 2 ^ 32 against a number that is known: the new range is the least that covers the numbers
-- whose low halves go the way.
use mathlib.Core.Path.{◌≡◌, refl, ap, ◌∙◌, subst}
use mathlib.Core.Bool.{Bool, false}
use mathlib.Core.Logic.{inr}
use Prim.Native.Nat.{ℕ, ◌^◌, ◌<◌}
use native.Mathlib.Nat.{le_trans}
use native.Mathlib.Omega.{arith}
use borrow.Author.Tests.{lt-ltb}
use Rattle.std.specs.Prelude.{Some, None}
use Rattle.word.specs.Word.{compare}
use Rattle.word.specs.declared.Operation.TheVariants.{Mov}
use Rattle.word.specs.declared.Comparison.{Comparison}
use Rattle.word.proofs.Cut.{cut_small}
use Rattle.number.specs.declared.Range.{Range}
use Rattle.number.specs.declared.Number.{Number}
use Rattle.number.specs.Refined.{Refined}
use Rattle.number.specs.Meaning.{RangeWithin, Tightest, Left, Going}
use Rattle.number.specs.Demanded.{Going32}
use Rattle.number.specs.Sharpen.{exact}
use Rattle.number.specs.Computed.{modulo, computed}
use Rattle.number.specs.Compare.{common, refined}
use Rattle.number.specs.Halves.{unsigned, signed, low_half, compared, low_halves, halves_of_range, with_low, whole, refined32}
use Rattle.number.proofs.AgainstKnown.{excluded_if_none_goes, refined_tightest}
use Rattle.number.proofs.Computing.{computed_range_within}
use Rattle.number.proofs.HalfOrders.{key, key_fits, compare_by_keys}
use Rattle.number.proofs.Halves.{compared_exact, excluded_stays, refined32_is}
use Rattle.number.proofs.Outcomes.{left_map, settled_leaves}
use Rattle.number.proofs.Relations.{Unsigned, eq, ne, gt, ge, lt, le}
use Rattle.number.proofs.Shorter.{Below, block_of_small, mov_computed_range}

-- ---- an order without sign takes the low half as it is
unsigned_stays : {c : Comparison} → Unsigned c → Unsigned (unsigned c)
unfolding unsigned
unsigned_stays eq = eq
unsigned_stays ne = ne
unsigned_stays gt = gt
unsigned_stays ge = ge
unsigned_stays lt = lt
unsigned_stays le = le

no_sign : {c : Comparison} → Unsigned c → signed c ≡ false
unfolding signed
no_sign eq = refl
no_sign ne = refl
no_sign gt = refl
no_sign ge = refl
no_sign lt = refl
no_sign le = refl

modulo_of_small : (n : Number) → Below (2 ^ 32) n.range → RangeWithin (modulo (2 ^ 32) n) n.range
unfolding modulo
modulo_of_small n h = rw (block_of_small (2 ^ 32) n.range h) (record { low = omega arith; high = omega arith })

low_half_within : (n : Number) → Below (2 ^ 32) n.range → RangeWithin (low_half n).range n.range
unfolding low_half
low_half_within n h =
    let a = subst (RangeWithin (computed 32 Mov n n).range) (mov_computed_range 32 (inr refl) n n) (computed_range_within 32 Mov n n) in
    let m = modulo_of_small n h in
    record { low = le_trans m.low a.low; high = le_trans a.high m.high }

compared_within : (c : Comparison) → Unsigned c → (n : Number) → Below (2 ^ 32) n.range → RangeWithin (compared c n).range n.range
unfolding compared
compared_within c u n h = rw (no_sign u) (low_half_within n h)

key_of_small : (c : Comparison) → Unsigned c → (x : ℕ) → x < 2 ^ 32 → key c x ≡ x
unfolding key
key_of_small c u x h = rw (no_sign u) (cut_small 32 h)

-- ---- the least range, through the steps of the definition
tighter : (S : ℕ → Type 0) (t t' : Range) → RangeWithin t' t → Tightest S t → Tightest S t'
tighter S t t' w h q covers =
    let k = h q covers in
    record { low = le_trans k.low w.low; high = le_trans w.high k.high }

module _ (c : Comparison) (way : Bool) (plain : Unsigned c) (d : Number) (k : ℕ) (small : Below (2 ^ 32) d.range) (word : k < 2 ^ 64) where
  abbrev s : Number
  s = exact k

  abbrev r : Refined
  r = refined (unsigned c) way (compared c d) (exact (key c k))

  abbrev S : ℕ → Type 0
  S = Going32 c way d.range k

  -- what is compared goes the way where the number does
  compared_going : (x : ℕ) → Going (unsigned c) way (compared c d).range (key c k) x → S x
  compared_going x h =
      let i = h.0 in
      let w = compared_within c plain d small in
      let b = small.high in
      let l : x < 2 ^ 32 = omega arith in (
        record { low = omega arith; high = omega arith },
        compare_by_keys c x k ∙ ap (λ (z : ℕ). compare 64 (unsigned c) z (key c k)) (key_of_small c plain x l) ∙ h.1,
      )

  words : (compared c d).range.hi < 2 ^ 64
  words =
      let w = compared_within c plain d small in
      let b = small.high in
      omega arith

  refined32_by_key : refined32 c way d s ≡ whole d s (low_halves c d s r)
  refined32_by_key =
      refined32_is c way d s
      ∙ ap (λ (n : Number). whole d s (low_halves c d s (refined (unsigned c) way (compared c d) n))) (compared_exact c k word)

  pub excluded32_if_none_goes : ((x : ℕ) → S x → ⊥) → refined32 c way d s ≡ None
  excluded32_if_none_goes none =
      refined32_by_key
      ∙ ap (λ (q : Refined). whole d s (low_halves c d s q))
      (excluded_if_none_goes (unsigned c) way (unsigned_stays plain) (compared c d) (key c k) words (key_fits c k)
      (λ x h. none x (compared_going x h)))
      ∙ excluded_stays c d s

  abbrev Tight : Number → Type 0
  Tight n = Tightest S n.range

  compared_tight : Left r (λ u v. Tight u)
  compared_tight =
      left_map r _ (λ u v. Tight u) (λ u v h q covers. h q (λ x i. covers x (compared_going x i)))
      (refined_tightest (unsigned c) way (unsigned_stays plain) (compared c d) (key c k) words (key_fits c k))

  -- what is left of the halves that are compared is what is told of the low halves
  low_halves_tight : (q : Refined) → Left q (λ u v. Tight u) → Left (low_halves c d s q) (λ l m. Tight l)
  unfolding low_halves
  low_halves_tight q h = rw (no_sign plain) h

  with_low_tight : (l : Number) → Tight l → Tight (with_low d l)
  unfolding with_low halves_of_range common
  with_low_tight l h = tighter S l.range (with_low d l).range (rw (lt-ltb d.range.hi (2 ^ 32) small.high) (record { low = omega arith; high = omega arith })) h

  whole_tight : (q : Refined) → Left q (λ l m. Tight l) → Left (whole d s q) (λ d' s'. Tight d')
  unfolding whole
  whole_tight None h = tt
  whole_tight (Some (l, m)) h = settled_leaves (with_low d l) (with_low s m) (λ d' s'. Tight d') (λ a b. with_low_tight l h)

  pub refined32_tightest : Left (refined32 c way d (exact k)) (λ d' s'. Tightest (Going32 c way d.range k) d'.range)
  refined32_tightest = rw (refined32_by_key) (whole_tight (low_halves c d s r) (low_halves_tight r compared_tight))
