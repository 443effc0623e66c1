-- What a way out of a comparison of low halves tells where the upper halves are 0, and what a signed one tells: neither operand is known.
use mathlib.Core.Path.{◌≡◌}
use mathlib.Core.Bool.{Bool}
use mathlib.Core.Logic.{◌⊎◌}
use Prim.Native.Nat.{◌^◌, ◌<◌}
use native.Mathlib.Omega.{arith}
use Rattle.std.specs.Prelude.{Some, None}
use Rattle.word.specs.Word.{cut}
use Rattle.word.specs.declared.Comparison.{Comparison}
use Rattle.word.specs.declared.Comparison.TheVariants.{Set}
use Rattle.known_bits.specs.KnownBits.{Well}
use Rattle.known_bits.proofs.Tight.{mem_least}
use Rattle.number.specs.declared.Range.{Range}
use Rattle.number.specs.declared.Number.{Number}
use Rattle.number.specs.Refined.{Refined}
use Rattle.number.specs.Meaning.{RangeWithin, Narrower, Left}
use Rattle.number.specs.Compare.{common, equal, firsts, refined}
use Rattle.number.specs.Halves.{unsigned, signed, low_half, moved_half, compared, moved_back, low_halves, halves_of_range, with_low, whole, refined32}
use Rattle.number.specs.Demanded.{Unsigned, Signed, sgt, sge, slt, sle, raised_half, LowBitsWithin, LowRangeWithin, RangesBoundedBy, HalvesRaisedBy}
use Rattle.number.proofs.BothOperands.{equal_leaves_both}
use Rattle.number.proofs.Cases.{by_less}
use Rattle.number.proofs.Compare.{refined_form}
use Rattle.number.proofs.Equality.{equal_leaves}
use Rattle.number.proofs.Halves.{low_half_form, moved_half_form, refined32_is}
use Rattle.number.proofs.HalvesWithin.{low_half_below, with_low_bits, bare_refined32}
use Rattle.number.proofs.Outcomes.{Sharper, left_map, left_both, settled_leaves, firsts_leave}

-- ---- ranges
with_low_range : (n l : Number) → LowRangeWithin n (with_low n l) l
unfolding with_low halves_of_range common
with_low_range n l h =
    by_less (λ (r : Range). RangeWithin r l.range) n.range.hi (2 ^ 32) (λ _. record { low = omega arith; high = omega arith })
    (λ g. absurd (omega arith))

whole_ranges : (d s : Number) (r : Refined) → Left (whole d s r) (RangesBoundedBy d s r)
unfolding whole
whole_ranges d s None = tt
whole_ranges d s (Some (l, m)) =
    settled_leaves (with_low d l) (with_low s m) (RangesBoundedBy d s (Some (l, m))) (λ a b. (with_low_range d l, with_low_range s m))

pub refined32_low_ranges : (c : Comparison) (way : Bool) → Unsigned c ⊎ (c ≡ Set) → (d s : Number) → Well 64 d.bits → Well 64 s.bits
    → Left (refined32 c way d s) (RangesBoundedBy d s (refined c way (low_half d) (low_half s)))
refined32_low_ranges c way u d s gd gs = rw (bare_refined32 c way u d s gd gs) (whole_ranges d s (refined c way (low_half d) (low_half s)))

-- ---- signed orders
-- what is left of a low half, from a half that is moved back
record Back (u l : Number) : Type 0 where
  within : Narrower l (moved_half u)
  small : l.bits.value < 2 ^ 32

back : (n u : Number) → Well 64 n.bits → Well 64 u.bits → Left (equal (low_half n) (moved_half u)) (λ l l'. Back u l)
back n u g h =
    let f = low_half_form n g in
    let k = moved_half_form u h in
    left_map (equal (low_half n) (moved_half u)) _ (λ l l'. Back u l)
    (λ l l' e. record {
      within = e.1.0;
      small = low_half_below n g l.bits.value (e.0.first.bits _ (mem_least 64 l.bits (e.0.form_first f)));
    })
    (left_both (equal (low_half n) (moved_half u)) (Sharper (low_half n) (moved_half u)) _ (equal_leaves (low_half n) (moved_half u) f k)
    (equal_leaves_both (low_half n) (moved_half u) f k))

whole_back : (n u l : Number) → Back u l → LowBitsWithin (with_low n l) (raised_half u) × LowRangeWithin n (with_low n l) (raised_half u)
unfolding moved_half
whole_back n u l b = (
  λ x i. b.within.bits (cut 32 x) (with_low_bits n l b.small x i),
  λ h. let r = with_low_range n l h in
      let q = b.within.range in
      record { low = omega (arith, r.low, q.low); high = omega (arith, r.high, q.high) },
)

module _ (d s : Number) (gd : Well 64 d.bits) (gs : Well 64 s.bits) where
  settled_back : (u v : Number) (t : Refined) → Left t (λ l m. Back u l × Back v m) → Left (whole d s t) (HalvesRaisedBy d s (Some (u, v)))
  unfolding whole
  settled_back u v None h = tt
  settled_back u v (Some (l, m)) h =
      let p = whole_back d u l h.0 in
      let q = whole_back s v m h.1 in
      settled_leaves (with_low d l) (with_low s m) (HalvesRaisedBy d s (Some (u, v))) (λ a b. (p.0, q.0, p.1, q.1))

  whole_moved : (r : Refined) → Left r (λ u v. Well 64 u.bits × Well 64 v.bits)
      → Left (whole d s (moved_back d s r)) (HalvesRaisedBy d s r)
  unfolding moved_back whole
  whole_moved None h = tt
  whole_moved (Some (u, v)) h =
      settled_back u v (firsts (equal (low_half d) (moved_half u)) (equal (low_half s) (moved_half v)))
      (firsts_leave (equal (low_half d) (moved_half u)) (equal (low_half s) (moved_half v)) (Back u) (Back v)
      (back d u gd h.0) (back s v gs h.1))

signed_is : (c o : Comparison) → Signed c o → (way : Bool) (d s : Number)
    → refined32 c way d s ≡ whole d s (moved_back d s (refined o way (moved_half d) (moved_half s)))
unfolding low_halves compared signed unsigned
signed_is c o sgt way d s = refined32_is c way d s
signed_is c o sge way d s = refined32_is c way d s
signed_is c o slt way d s = refined32_is c way d s
signed_is c o sle way d s = refined32_is c way d s

pub refined32_signed : (c : Comparison) (way : Bool) (o : Comparison) → Signed c o → (d s : Number) → Well 64 d.bits → Well 64 s.bits
    → Left (refined32 c way d s) (HalvesRaisedBy d s (refined o way (moved_half d) (moved_half s)))
refined32_signed c way o i d s gd gs =
    rw (signed_is c o i way d s)
    (whole_moved d s gd gs (refined o way (moved_half d) (moved_half s))
    (refined_form o way (moved_half d) (moved_half s) (moved_half_form d gd) (moved_half_form s gs)))
