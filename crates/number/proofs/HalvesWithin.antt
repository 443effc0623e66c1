-- What a comparison of low halves tells of any number, whatever its upper half is: the low 32 known bits are those that are left of the
-- halves that were compared, and a way that no pair of low halves goes, as far as the known bits say, is excluded.
use mathlib.Core.Path.{◌≡◌, refl, sym, ap, ◌∙◌, subst}
use mathlib.Core.Bool.{Bool, true, false, cond}
use mathlib.Core.Logic.{◌⊎◌, inl, inr}
use Prim.Native.Nat.{ℕ, ◌-◌, ◌%◌, ◌^◌, ◌<◌, min}
use native.Mathlib.Decide.{dec_lt}
use native.Mathlib.Omega.{arith}
use lib.Bits.{bit_and, and_lt}
use lib.Pow.{pow_pos}
use Rattle.std.specs.Prelude.{Some, None}
use Rattle.word.specs.Word.{bit, cut, alu, compare}
use Rattle.word.specs.declared.Operation.TheVariants.{Add, Mov}
use Rattle.word.specs.declared.Comparison.{Comparison}
use Rattle.word.specs.declared.Comparison.TheVariants.{Eq, Gt, Ge, Set, Ne, Sgt, Sge, Lt, Le, Slt, Sle}
use Rattle.word.proofs.Bit.{bit_lt, bit_zero, bit_and_lem, bit_not, bit_mod, ext}
use Rattle.word.proofs.Pinned.{result_below}
use Rattle.word.proofs.Cut.{cut_below, cut_small}
use Rattle.known_bits.specs.declared.Bits.{Bits}
use Rattle.known_bits.specs.KnownBits.{Well, Mem}
use Rattle.known_bits.specs.Formula.{calculated, formula, low}
use Rattle.known_bits.proofs.Tight.{mem_least}
use Rattle.known_bits.proofs.Class4.{cut_bit, low_well}
use Rattle.known_bits.proofs.Laws.{high_bit, well_wider, mem_narrower}
use Rattle.number.specs.declared.Number.{Number}
use Rattle.number.specs.Refined.{Refined}
use Rattle.number.specs.Meaning.{Left}
use Rattle.number.specs.Demanded.{Unsigned, eq, ne, gt, ge, lt, le, LowBitsWithin, BoundedBy}
use Rattle.number.specs.Sharpen.{exact}
use Rattle.number.specs.Compare.{refined}
use Rattle.number.specs.Halves.{unsigned, signed, low_half, moved_half, compared, low_halves, halves, with_low, whole, refined32}
use Rattle.number.proofs.AgainstKnown.{set_not_taken_clears}
use Rattle.number.proofs.Compare.{refined_narrower, refined_form}
use Rattle.number.proofs.Computing.{computed_bits_within, computed_best}
use Rattle.number.proofs.Exclusion.{excluded_by_bits}
use Rattle.number.proofs.HalfOrders.{key, compare_by_keys, moved_back_lem}
use Rattle.number.proofs.HalfBits.{LowAgrees, halves_low, completed, halves_of_bits_low}
use Rattle.number.proofs.Halves.{low_half_form, low_half_exact, member_agrees, low_half_agrees, compared_form, excluded_stays, refined32_is}
use Rattle.number.proofs.Known.{exact_in}
use Rattle.number.proofs.Outcomes.{left_map, left_both, settled_leaves}

-- ---- the low half moved by 2 ^ 31: its highest bit is turned round, and the others stay
module _ (x : ℕ) where
  abbrev flipped : ℕ
  flipped = alu 32 Add x (2 ^ 31)

  flipped_below : flipped < 2 ^ 32
  flipped_below = result_below 32 Add x (2 ^ 31)

  flipped_low : flipped % 2 ^ 31 ≡ x % 2 ^ 31
  unfolding alu cut
  flipped_low = omega arith

  flipped_low_bit : (k : ℕ) → k < 31 → bit k flipped ≡ bit k x
  flipped_low_bit k l = sym (bit_mod 31 k flipped l) ∙ ap (bit k) flipped_low ∙ bit_mod 31 k x l

  flipped_top_bit : bit 31 flipped ≡ 1 - bit 31 x
  unfolding alu cut bit
  flipped_top_bit = omega arith

-- two numbers whose bits of 32 are alike are so moved too
flipped_alike : (k x y : ℕ) → k < 32 → bit k x ≡ bit k y → bit k (flipped x) ≡ bit k (flipped y)
flipped_alike k x y l e = by (dec_lt k 31)
  where
    by : Dec (k < 31) → bit k (flipped x) ≡ bit k (flipped y)
    by (yes m) = flipped_low_bit x k m ∙ e ∙ sym (flipped_low_bit y k m)
    by (no m) =
        let h : k ≡ 31 = omega arith in
        subst (λ (j : ℕ). bit j x ≡ bit j y → bit j (flipped x) ≡ bit j (flipped y)) (sym h)
        (λ i. flipped_top_bit x ∙ ap (λ (b : ℕ). 1 - b) i ∙ sym (flipped_top_bit y)) e

flipped_of_low : (x y : ℕ) → x % 2 ^ 32 ≡ y % 2 ^ 32 → flipped x ≡ flipped y
unfolding alu cut
flipped_of_low x y e = omega arith

-- ---- the pair of the moved halves of a pair's numbers
flipped_pair : Bits → Bits
flipped_pair p = record { value = bit_and (flipped p.value) (2 ^ 32 - 1 - p.mask % 2 ^ 32); mask = p.mask % 2 ^ 32 }

module _ (p : Bits) where
  flipped_mask_bit : (k : ℕ) → k < 32 → bit k (flipped_pair p).mask ≡ bit k p.mask
  unfolding flipped_pair
  flipped_mask_bit k l = bit_mod 32 k p.mask l

  flipped_value_below : (flipped_pair p).value < 2 ^ 32
  unfolding flipped_pair
  flipped_value_below = and_lt 32 (flipped p.value) (2 ^ 32 - 1 - p.mask % 2 ^ 32) (flipped_below p.value) (omega arith)

  flipped_value_bit : (k : ℕ) → k < 32 → bit k (flipped_pair p).value ≡ min (bit k (flipped p.value)) (1 - bit k p.mask)
  unfolding flipped_pair
  flipped_value_bit k l =
      bit_and_lem k (flipped p.value) (2 ^ 32 - 1 - p.mask % 2 ^ 32)
      ∙ ap (min (bit k (flipped p.value))) (bit_not 32 k (p.mask % 2 ^ 32) l (omega arith) ∙ ap (λ (b : ℕ). 1 - b) (bit_mod 32 k p.mask l))

  flipped_known_bit : (k : ℕ) → k < 32 → bit k p.mask ≡ 0 → bit k (flipped_pair p).value ≡ bit k (flipped p.value)
  flipped_known_bit k l e = omega (arith, flipped_value_bit k l, e, bit_lt k (flipped p.value))

  flipped_mask_below : (flipped_pair p).mask < 2 ^ 32
  unfolding flipped_pair
  flipped_mask_below = omega arith

  flipped_form : Well 32 (flipped_pair p)
  flipped_form =
      let v = (flipped_pair p).value in
      let m = (flipped_pair p).mask in
      record {
        value_fits = flipped_value_below;
        mask_fits = flipped_mask_below;
        apart = ext 32 (bit_and v m) 0 (and_lt 32 v m flipped_value_below flipped_mask_below) (pow_pos 32)
            (λ k l. bit_and_lem k v m ∙ at k l ∙ sym (bit_zero k));
      }
    where
      at : (k : ℕ) → k < 32 → min (bit k (flipped_pair p).value) (bit k (flipped_pair p).mask) ≡ 0
      at k l = omega (arith, flipped_value_bit k l, flipped_mask_bit k l, bit_lt k p.mask)

  flipped_has : (x : ℕ) → Mem 64 p x → Mem 64 (flipped_pair p) (flipped x)
  flipped_has x i = record { fits = omega (arith, flipped_below x); agrees = λ k l e. at k e (dec_lt k 32) }
    where
      at : (k : ℕ) → bit k (flipped_pair p).mask ≡ 0 → Dec (k < 32) → bit k (flipped x) ≡ bit k (flipped_pair p).value
      at k e (yes l) =
          let z = sym (flipped_mask_bit k l) ∙ e in
          flipped_alike k x p.value l (i.agrees k (omega arith) z) ∙ sym (flipped_known_bit k l z)
      at k e (no n) = high_bit 32 k (flipped x) n (flipped_below x) ∙ sym (high_bit 32 k (flipped_pair p).value n flipped_value_below)

  -- moved again, its numbers agree with the pair
  flipped_agrees : (u : ℕ) → Mem 64 (flipped_pair p) u → LowAgrees p (flipped u)
  flipped_agrees u i = record { agrees = λ k l e. flipped_alike k u (flipped p.value) l (i.agrees k (omega arith) (flipped_mask_bit k l ∙ e) ∙ flipped_known_bit k l e) ∙ back k l }
    where
      back : (k : ℕ) → k < 32 → bit k (flipped (flipped p.value)) ≡ bit k p.value
      back k l = ap (bit k) (moved_back_lem p.value) ∙ cut_bit 32 k p.value l

exactly_only : (x y : ℕ) → x < 2 ^ 64 → Mem 64 (exact x).bits y → y ≡ x
unfolding exact
exactly_only x y h m = ext 64 y x m.fits h (λ k l. m.agrees k l (bit_zero k))

-- ---- every number that the known bits of a compared half have is the key of a number of the whole's
module _ (n : Number) (g : Well 64 n.bits) (u : ℕ) where
  pub low_half_below : Mem 64 (low_half n).bits u → u < 2 ^ 32
  unfolding low_half calculated formula
  low_half_below i =
      (mem_narrower 32 64 (omega arith) (low 32 n.bits) (low_well 32 64 (omega arith) n.bits g) u (computed_bits_within 32 Mov n n u i)).fits

  key_of_low_half : Mem 64 (low_half n).bits u → (x : ℕ) × Mem 64 n.bits x × (u ≡ cut 32 x)
  unfolding cut
  key_of_low_half i =
      let h = low_half_below i in
      let a = member_agrees (low_half n).bits u (subst (Mem 64 (low_half n).bits) (sym (cut_small 32 h)) i) in
      (halves n.bits.value u, completed n.bits u g.value_fits (low_half_agrees n u g a), omega (arith, h, halves_low n.bits.value u))

  key_of_moved_half : Mem 64 (moved_half n).bits u → (x : ℕ) × Mem 64 n.bits x × (u ≡ flipped x)
  unfolding moved_half
  key_of_moved_half i =
      let f = flipped_form n.bits in
      let e = exact_in (2 ^ 31) (omega arith) in
      let m = computed_best 32 (inr refl) Add n (exact (2 ^ 31)) g e.form tt (flipped_pair n.bits) (well_wider 32 64 (omega arith) (flipped_pair n.bits) f)
      (λ z r. subst (Mem 64 (flipped_pair n.bits)) (sym (moved_by r.0 r.1 z r.3 r.4)) (flipped_has n.bits r.0 r.2)) u i in
      let h = (mem_narrower 32 64 (omega arith) (flipped_pair n.bits) f u m).fits in
      let z = flipped u in (
        halves n.bits.value z,
        completed n.bits z g.value_fits (flipped_agrees n.bits u m),
        sym (flipped_of_low (halves n.bits.value z) z (halves_low n.bits.value z) ∙ moved_back_lem u ∙ cut_small 32 h),
      )
    where
      moved_by : (x y z : ℕ) → Mem 64 (exact (2 ^ 31)).bits y → z ≡ alu 32 Add x y → z ≡ flipped x
      moved_by x y z m e = e ∙ ap (alu 32 Add x) (exactly_only (2 ^ 31) y (omega arith) m)

record KeyOf (c : Comparison) (n : Number) (u : ℕ) : Type 0 where
  number : ℕ
  member : Mem 64 n.bits number
  is_key : u ≡ key c number

key_of_compared : (c : Comparison) (n : Number) → Well 64 n.bits → (u : ℕ) → Mem 64 (compared c n).bits u → KeyOf c n u
unfolding compared key
key_of_compared c n g u i = by (signed c) refl i
  where
    by : (b : Bool) → signed c ≡ b → Mem 64 (cond b (moved_half n) (low_half n)).bits u → KeyOf c n u
    by true e m = let k = key_of_moved_half n g u m in record { number = k.0; member = k.1; is_key = rw e k.2 }
    by false e m = let k = key_of_low_half n g u m in record { number = k.0; member = k.1; is_key = rw e k.2 }

-- a comparison that is not JSET is not JSET without its sign
unsigned_not_set : (c : Comparison) → ¬ (c ≡ Set) → ¬ (unsigned c ≡ Set)
unfolding unsigned
unsigned_not_set Eq n e = let z : ◌≡◌ {A = ℕ} 0 1 = cc in absurd (omega arith)
unsigned_not_set Gt n e = let z : ◌≡◌ {A = ℕ} 0 1 = cc in absurd (omega arith)
unsigned_not_set Ge n e = let z : ◌≡◌ {A = ℕ} 0 1 = cc in absurd (omega arith)
unsigned_not_set Set n e = n refl
unsigned_not_set Ne n e = let z : ◌≡◌ {A = ℕ} 0 1 = cc in absurd (omega arith)
unsigned_not_set Sgt n e = let z : ◌≡◌ {A = ℕ} 0 1 = cc in absurd (omega arith)
unsigned_not_set Sge n e = let z : ◌≡◌ {A = ℕ} 0 1 = cc in absurd (omega arith)
unsigned_not_set Lt n e = let z : ◌≡◌ {A = ℕ} 0 1 = cc in absurd (omega arith)
unsigned_not_set Le n e = let z : ◌≡◌ {A = ℕ} 0 1 = cc in absurd (omega arith)
unsigned_not_set Slt n e = let z : ◌≡◌ {A = ℕ} 0 1 = cc in absurd (omega arith)
unsigned_not_set Sle n e = let z : ◌≡◌ {A = ℕ} 0 1 = cc in absurd (omega arith)

pub excluded32_by_bits : (c : Comparison) (way : Bool) → ¬ (c ≡ Set) → (d s : Number) → Well 64 d.bits → Well 64 s.bits
    → ((x y : ℕ) → Mem 64 d.bits x → Mem 64 s.bits y → compare 32 c x y ≡ way → ⊥) → refined32 c way d s ≡ None
excluded32_by_bits c way other d s gd gs none =
    refined32_is c way d s
    ∙ ap (λ (q : Refined). whole d s (low_halves c d s q))
    (excluded_by_bits (unsigned c) way (compared c d) (compared c s) (unsigned_not_set c other) (compared_form c d gd) (compared_form c s gs)
    (λ u v i j e.
    let k = key_of_compared c d gd u i in
    let l = key_of_compared c s gs v j in
    none k.number l.number k.member l.member
    (compare_by_keys c k.number l.number ∙ rw (sym k.is_key, sym l.is_key) e)))
    ∙ excluded_stays c d s

-- ---- without a sign the low halves themselves are compared
module _ (n l : Number) (small : l.bits.value < 2 ^ 32) where
  pub with_low_bits : LowBitsWithin (with_low n l) l
  unfolding with_low
  with_low_bits x i = record { fits = omega (arith, cut_below 32 x); agrees = λ k h e. at k e (dec_lt k 32) }
    where
      at : (k : ℕ) → bit k l.bits.mask ≡ 0 → Dec (k < 32) → bit k (cut 32 x) ≡ bit k l.bits.value
      at k e (yes h) = cut_bit 32 k x h ∙ (halves_of_bits_low n.bits l.bits x i).agrees k h e
      at k e (no h) = high_bit 32 k (cut 32 x) h (cut_below 32 x) ∙ sym (high_bit 32 k l.bits.value h small)

record Bare (c : Comparison) : Type 0 where
  no_sign : signed c ≡ false
  itself : unsigned c ≡ c

bare : (c : Comparison) → Unsigned c ⊎ (c ≡ Set) → Bare c
unfolding signed unsigned
bare c (inl eq) = record { no_sign = refl; itself = refl }
bare c (inl ne) = record { no_sign = refl; itself = refl }
bare c (inl gt) = record { no_sign = refl; itself = refl }
bare c (inl ge) = record { no_sign = refl; itself = refl }
bare c (inl lt) = record { no_sign = refl; itself = refl }
bare c (inl le) = record { no_sign = refl; itself = refl }
bare c (inr e) = rw e (record { no_sign = refl; itself = refl })

module _ (c : Comparison) (way : Bool) (u : Unsigned c ⊎ (c ≡ Set)) (d s : Number) (gd : Well 64 d.bits) (gs : Well 64 s.bits) where
  pub bare_refined32 : refined32 c way d s ≡ whole d s (refined c way (low_half d) (low_half s))
  unfolding low_halves compared
  bare_refined32 = let b = bare c u in refined32_is c way d s ∙ rw (b.no_sign, b.itself) refl

  low_values : Left (refined c way (low_half d) (low_half s)) (λ l m. (l.bits.value < 2 ^ 32) × (m.bits.value < 2 ^ 32))
  low_values =
      let fd = low_half_form d gd in
      let fs = low_half_form s gs in
      left_map (refined c way (low_half d) (low_half s)) _ _
      (λ l m h. (
        low_half_below d gd l.bits.value (h.0.0.bits l.bits.value (mem_least 64 l.bits h.1.0)),
        low_half_below s gs m.bits.value (h.0.1.bits m.bits.value (mem_least 64 m.bits h.1.1)),
      ))
      (left_both (refined c way (low_half d) (low_half s)) _ _ (refined_narrower c way (low_half d) (low_half s) fd fs) (refined_form c way (low_half d) (low_half s) fd fs))

  whole_bounded : (r : Refined) → Left r (λ l m. (l.bits.value < 2 ^ 32) × (m.bits.value < 2 ^ 32)) → Left (whole d s r) (BoundedBy r)
  unfolding whole
  whole_bounded None h = tt
  whole_bounded (Some (l, m)) h =
      settled_leaves (with_low d l) (with_low s m) (BoundedBy (Some (l, m))) (λ a b. (with_low_bits d l h.0, with_low_bits s m h.1))

  pub refined32_low_bits : Left (refined32 c way d s) (BoundedBy (refined c way (low_half d) (low_half s)))
  refined32_low_bits = rw (bare_refined32) (whole_bounded (refined c way (low_half d) (low_half s)) low_values)

-- ---- JSET of low halves, not taken
bounded_clears : (r : Refined) (k : ℕ) → Left r (λ l m. (x : ℕ) → Mem 64 l.bits x → bit_and x k ≡ 0)
    → (d s : Number) → BoundedBy r d s → (x : ℕ) → Mem 64 d.bits x → bit_and (cut 32 x) k ≡ 0
bounded_clears None k h d s b x i = absurd b
bounded_clears (Some (l, m)) k h d s b x i = h (cut 32 x) (b.0 x i)

pub set32_not_taken_clears : (d : Number) (k : ℕ) → Well 64 d.bits → k < 2 ^ 64
    → Left (refined32 Set false d (exact k)) (λ d' s'. (x : ℕ) → Mem 64 d'.bits x → bit_and (cut 32 x) (cut 32 k) ≡ 0)
set32_not_taken_clears d k g h =
    left_map (refined32 Set false d (exact k)) _ _
    (bounded_clears (refined Set false (low_half d) (low_half (exact k))) (cut 32 k)
    (rw (low_half_exact k h) (set_not_taken_clears (low_half d) (cut 32 k) (low_half_form d g) (omega (arith, cut_below 32 k)))))
    (refined32_low_bits Set false (inr refl) d (exact k) g (exact_in k h).form)
