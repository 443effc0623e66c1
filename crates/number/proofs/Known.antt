-- Numbers that are known without a calculation: an exact one, what a load gives, and what two paths have in common where they join.
use mathlib.Core.Path.{◌≡◌, refl}
use mathlib.Core.Logic.{inl, inr}
use Prim.Native.Nat.{ℕ, ◌-◌, ◌*◌, ◌^◌, ◌≤◌, ◌<◌, min, max}
use native.Mathlib.Omega.{arith}
use lib.Pow.{pow_pos, pow_mono}
use lib.Bits.{and_zero_r}
use Rattle.word.proofs.Cut.{cut_below, cut_64}
use Rattle.known_bits.specs.declared.Bits.{Bits}
use Rattle.known_bits.specs.KnownBits.{Well, Sound, Best, Either}
use Rattle.known_bits.specs.Pair.{exactly}
use Rattle.known_bits.specs.Formula.{low, among}
use Rattle.known_bits.proofs.Base.{covered_is_sound}
use Rattle.known_bits.proofs.Covering.{ones_cover_all_below}
use Rattle.known_bits.proofs.Joined.{joined_sound, joined_best}
use Rattle.number.specs.declared.Number.{Number}
use Rattle.number.specs.Meaning.{Within, In, Narrower}
use Rattle.number.specs.Sharpen.{just, exact, loaded, joined_range, joined_number}
use Rattle.number.proofs.RangeLaws.{everything_has}
use Rattle.number.proofs.Sharpening.{just_within}

-- ---- one number
exact_form : (x : ℕ) → x < 2 ^ 64 → Well 64 (exactly x)
exact_form x h = record { value_fits = h; mask_fits = pow_pos 64; apart = and_zero_r x }

pub exact_in : (x : ℕ) → x < 2 ^ 64 → In (exact x) x
unfolding exact
exact_in x h = record { form = exact_form x h; bits = record { fits = h; agrees = λ k l e. refl }; range = just_within x }

pub exact_only : (x y : ℕ) → In (exact x) y → y ≡ x
unfolding exact just
exact_only x y i = omega (arith, i.range.low, i.range.high)

-- ---- a load of k bytes
pub loaded_in : (k : ℕ) → k ≤ 8 → (x : ℕ) → x < 2 ^ (8 * k) → In (loaded k) x
unfolding loaded among
loaded_in k h x l =
    let n : 2 ^ (8 * k) ≤ 2 ^ 64 = pow_mono {i = 8 * k} {j = 64} (omega arith) in
    let s = covered_is_sound 64 (λ z. z < 2 ^ (8 * k)) (2 ^ (8 * k) - 1) (omega (arith, pow_pos (8 * k)))
    (λ z m. (omega arith, ones_cover_all_below (8 * k) z m)) in
    record { form = s.well; bits = s.sound x l; range = everything_has (8 * k) x l }

-- ---- a join
pub low_of_words : (p : Bits) → p.value < 2 ^ 64 → p.mask < 2 ^ 64 → low 64 p ≡ p
unfolding low
low_of_words p v m = λ i. record { value = cut_64 v i; mask = cut_64 m i }

module _ (a b : Number) where
  pub joined_range_is : (joined_number a b).range ≡ record { lo = min a.range.lo b.range.lo; hi = max a.range.hi b.range.hi }
  unfolding joined_number joined_range
  joined_range_is = refl

  pub joined_bits_best : Well 64 a.bits → Well 64 b.bits → Best 64 (Either a.bits b.bits) (joined_number a b).bits
  unfolding joined_number
  joined_bits_best ga gb =
      rw (low_of_words a.bits ga.value_fits ga.mask_fits, low_of_words b.bits gb.value_fits gb.mask_fits)
      (joined_best 64 a.bits b.bits ga gb)

  covering : Sound 64 (Either (low 64 a.bits) (low 64 b.bits)) (joined_number a b).bits
  unfolding joined_number low
  covering = joined_sound 64 (low 64 a.bits) (low 64 b.bits) (cut_below 64 _) (cut_below 64 _) (cut_below 64 _) (cut_below 64 _)

  pub joined_form : Well 64 (joined_number a b).bits
  joined_form = covering.well

  joined_has : (x : ℕ) → Either (low 64 a.bits) (low 64 b.bits) x → Within (joined_number a b).range x → In (joined_number a b) x
  joined_has x e i = record { form = joined_form; bits = covering.sound x e; range = i }

  -- neither is narrower than itself for being joined, whatever the other is
  pub joined_wider_left : Well 64 a.bits → Narrower a (joined_number a b)
  unfolding joined_number joined_range
  joined_wider_left g =
      record {
        bits = λ x m. covering.sound x (inl (rw (low_of_words a.bits g.value_fits g.mask_fits) m));
        range = record { low = omega arith; high = omega arith };
      }

  pub joined_wider_right : Well 64 b.bits → Narrower b (joined_number a b)
  unfolding joined_number joined_range
  joined_wider_right g =
      record {
        bits = λ x m. covering.sound x (inr (rw (low_of_words b.bits g.value_fits g.mask_fits) m));
        range = record { low = omega arith; high = omega arith };
      }

  pub joined_covers_left : (x : ℕ) → In a x → In (joined_number a b) x
  unfolding joined_number joined_range
  joined_covers_left x i =
      joined_has x (inl (rw (low_of_words a.bits i.form.value_fits i.form.mask_fits) i.bits))
      (record { low = omega (arith, i.range.low); high = omega (arith, i.range.high) })

  pub joined_covers_right : (x : ℕ) → In b x → In (joined_number a b) x
  unfolding joined_number joined_range
  joined_covers_right x i =
      joined_has x (inr (rw (low_of_words b.bits i.form.value_fits i.form.mask_fits) i.bits))
      (record { low = omega (arith, i.range.low); high = omega (arith, i.range.high) })
