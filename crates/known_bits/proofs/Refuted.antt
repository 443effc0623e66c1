-- The definitions reject wrong answers: one that leaves out a number is not sound, one that covers too much is not best. And the best
-- pairs that were found by enumeration are those of the formulas.
use mathlib.Core.Path.{◌≡◌, refl, ap}
use mathlib.Core.Bool.{true}
use mathlib.Core.Logic.{inl, inr}
use Prim.Native.Nat.{ℕ, ◌≤◌, ◌^◌}
use native.Mathlib.Omega.{arith}
use lib.Bits.{bit_and, bit_or, bit_xor}
use lib.Dec.{ltb}
use borrow.Author.Tests.{ltb-true}
use Rattle.word.specs.Word.{alu, cut, shift_signed}
use Rattle.word.specs.declared.Operation.TheVariants.{Add, Sub, And, Or, Xor, Lsh, Arsh}
use Rattle.known_bits.specs.declared.Bits.{Bits}
use Rattle.known_bits.specs.Formula.{low, sum, difference, digits, parity, shifted_by, joined, shifted, formula, calculated}
use Rattle.known_bits.specs.KnownBits.{Well, Sound, Best, Results, Either}
use Rattle.known_bits.specs.Pair.{top}
use Rattle.known_bits.proofs.Tight.{mem_least, mem_top}
use Rattle.known_bits.proofs.Laws.{mem_bounds, mem_within, unique}
use Rattle.known_bits.proofs.Computing.{calculated_computed}
use Rattle.known_bits.proofs.Joined.{joined_best}

abbrev pair : ℕ → ℕ → Bits
pair v m = record { value = v; mask = m }

form : (v m : ℕ) → ltb v (2 ^ 64) ≡ true → ltb m (2 ^ 64) ≡ true → bit_and v m ≡ 0 → Well 64 (pair v m)
form v m hv hm e = record { value_fits = ltb-true v (2 ^ 64) hv; mask_fits = ltb-true m (2 ^ 64) hm; apart = e }

module _ (S : ℕ → Type 0) (p : Bits) where
  -- a number of the set that is not between the ends of the pair
  leaves_out : (z : ℕ) → S z → ((p.value ≤ z) × (z ≤ top p) → ⊥) → Sound 64 S p → ⊥
  leaves_out z i h s = h (mem_bounds 64 p s.well z (s.sound z i))

  module _ (q : Bits) (b : Best 64 S p) where
    covers : Well 64 q → bit_or (bit_or (bit_xor p.value q.value) p.mask) q.mask ≡ q.mask → Sound 64 S q
    covers g e = record { well = g; sound = λ x i. mem_within 64 p q e x (b.sound x i) }

    too_wide : (p.mask ≡ q.mask → ⊥) → Best 64 S q → ⊥
    too_wide h c = h (ap (λ (r : Bits). r.mask) (unique 64 S p q b c))

-- ---- the best pairs; the names have the numbers in hexadecimal

pub add_of_1/0_and_0/1_is_0/3 : Best 64 (Results 64 Add (pair 1 0) (pair 0 1)) (pair 0 3)
unfolding calculated formula low sum alu cut
add_of_1/0_and_0/1_is_0/3 = (calculated_computed 64 (inl refl) Add _ _).best tt (form 1 0 refl refl refl) (form 0 1 refl refl refl)

pub add_of_f0/c_and_8/3_is_0/1ff : Best 64 (Results 64 Add (pair 240 12) (pair 8 3)) (pair 0 511)
unfolding calculated formula low sum alu cut
add_of_f0/c_and_8/3_is_0/1ff = (calculated_computed 64 (inl refl) Add _ _).best tt (form 240 12 refl refl refl) (form 8 3 refl refl refl)

pub add_of_40/f_and_0/f0_is_0/1ff : Best 64 (Results 64 Add (pair 64 15) (pair 0 240)) (pair 0 511)
unfolding calculated formula low sum alu cut
add_of_40/f_and_0/f0_is_0/1ff = (calculated_computed 64 (inl refl) Add _ _).best tt (form 64 15 refl refl refl) (form 0 240 refl refl refl)

pub add_of_ffffffffffffffff/0_and_0/1_is_0/ffffffffffffffff : Best 64 (Results 64 Add (pair 18446744073709551615 0) (pair 0 1)) (pair 0 18446744073709551615)
unfolding calculated formula low sum alu cut
add_of_ffffffffffffffff/0_and_0/1_is_0/ffffffffffffffff = (calculated_computed 64 (inl refl) Add _ _).best tt (form 18446744073709551615 0 refl refl refl) (form 0 1 refl refl refl)

pub add_32_of_ffffffff/0_and_0/1_is_0/ffffffff : Best 64 (Results 32 Add (pair 4294967295 0) (pair 0 1)) (pair 0 4294967295)
unfolding calculated formula low sum alu cut
add_32_of_ffffffff/0_and_0/1_is_0/ffffffff = (calculated_computed 32 (inr refl) Add _ _).best tt (form 4294967295 0 refl refl refl) (form 0 1 refl refl refl)

pub sub_of_0/0_and_0/1_is_0/ffffffffffffffff : Best 64 (Results 64 Sub (pair 0 0) (pair 0 1)) (pair 0 18446744073709551615)
unfolding calculated formula low difference alu cut
sub_of_0/0_and_0/1_is_0/ffffffffffffffff = (calculated_computed 64 (inl refl) Sub _ _).best tt (form 0 0 refl refl refl) (form 0 1 refl refl refl)

pub sub_of_10/1_and_0/3_is_0/1f : Best 64 (Results 64 Sub (pair 16 1) (pair 0 3)) (pair 0 31)
unfolding calculated formula low difference alu cut
sub_of_10/1_and_0/3_is_0/1f = (calculated_computed 64 (inl refl) Sub _ _).best tt (form 16 1 refl refl refl) (form 0 3 refl refl refl)

pub sub_of_100/0_and_0/ff_is_0/1ff : Best 64 (Results 64 Sub (pair 256 0) (pair 0 255)) (pair 0 511)
unfolding calculated formula low difference alu cut
sub_of_100/0_and_0/ff_is_0/1ff = (calculated_computed 64 (inl refl) Sub _ _).best tt (form 256 0 refl refl refl) (form 0 255 refl refl refl)

pub and_of_0/ff_and_3c/0_is_0/3c : Best 64 (Results 64 And (pair 0 255) (pair 60 0)) (pair 0 60)
unfolding calculated formula low digits alu cut
and_of_0/ff_and_3c/0_is_0/3c = (calculated_computed 64 (inl refl) And _ _).best tt (form 0 255 refl refl refl) (form 60 0 refl refl refl)

pub or_of_0/f0_and_5/0_is_5/f0 : Best 64 (Results 64 Or (pair 0 240) (pair 5 0)) (pair 5 240)
unfolding calculated formula low digits alu cut
or_of_0/f0_and_5/0_is_5/f0 = (calculated_computed 64 (inl refl) Or _ _).best tt (form 0 240 refl refl refl) (form 5 0 refl refl refl)

pub xor_of_f/f0_and_ff/0_is_0/f0 : Best 64 (Results 64 Xor (pair 15 240) (pair 255 0)) (pair 0 240)
unfolding calculated formula low parity alu cut
xor_of_f/f0_and_ff/0_is_0/f0 = (calculated_computed 64 (inl refl) Xor _ _).best tt (form 15 240 refl refl refl) (form 255 0 refl refl refl)

pub lsh_of_10/f_by_4_is_100/f0 : Best 64 (Results 64 Lsh (pair 16 15) (pair 4 0)) (pair 256 240)
unfolding calculated formula low shifted shifted_by alu cut
lsh_of_10/f_by_4_is_100/f0 = (calculated_computed 64 (inl refl) Lsh _ _).best refl (form 16 15 refl refl refl) (form 4 0 refl refl refl)

pub arsh_of_8000000000000000/ff_by_4_is_f800000000000000/f : Best 64 (Results 64 Arsh (pair 9223372036854775808 255) (pair 4 0)) (pair 17870283321406128128 15)
unfolding calculated formula low shifted shifted_by alu cut shift_signed
arsh_of_8000000000000000/ff_by_4_is_f800000000000000/f = (calculated_computed 64 (inl refl) Arsh _ _).best refl (form 9223372036854775808 255 refl refl refl) (form 4 0 refl refl refl)

pub arsh_32_of_80000000/3_by_1_is_c0000000/1 : Best 64 (Results 32 Arsh (pair 2147483648 3) (pair 1 0)) (pair 3221225472 1)
unfolding calculated formula low shifted shifted_by alu cut shift_signed
arsh_32_of_80000000/3_by_1_is_c0000000/1 = (calculated_computed 32 (inr refl) Arsh _ _).best refl (form 2147483648 3 refl refl refl) (form 1 0 refl refl refl)

pub arsh_of_0/8000000000000000_by_1_is_0/c000000000000000 : Best 64 (Results 64 Arsh (pair 0 9223372036854775808) (pair 1 0)) (pair 0 13835058055282163712)
unfolding calculated formula low shifted shifted_by alu cut shift_signed
arsh_of_0/8000000000000000_by_1_is_0/c000000000000000 = (calculated_computed 64 (inl refl) Arsh _ _).best refl (form 0 9223372036854775808 refl refl refl) (form 1 0 refl refl refl)

pub join_of_4/0_and_6/0_is_4/2 : Best 64 (Either (pair 4 0) (pair 6 0)) (pair 4 2)
unfolding joined
join_of_4/0_and_6/0_is_4/2 = joined_best 64 _ _ (form 4 0 refl refl refl) (form 6 0 refl refl refl)

pub join_of_10/1_and_18/0_is_10/9 : Best 64 (Either (pair 16 1) (pair 24 0)) (pair 16 9)
unfolding joined
join_of_10/1_and_18/0_is_10/9 = joined_best 64 _ _ (form 16 1 refl refl refl) (form 24 0 refl refl refl)

-- ---- the wrong answers: one leaves out a number, one covers all but is too wide

-- the masks or-ed: 0/1 leaves out 2; 0/7 is too wide
pub add_of_1/0_and_0/1_as_0/1_unsound : Sound 64 (Results 64 Add (pair 1 0) (pair 0 1)) (pair 0 1) → ⊥
unfolding alu cut
add_of_1/0_and_0/1_as_0/1_unsound =
    leaves_out _ _ 2 (1, 1, (mem_least 64 _ (form 1 0 refl refl refl)), (mem_top 64 _ (form 0 1 refl refl refl)), refl) (λ h. omega (arith, h.1))

pub add_of_1/0_and_0/1_as_0/7_sound : Sound 64 (Results 64 Add (pair 1 0) (pair 0 1)) (pair 0 7)
add_of_1/0_and_0/1_as_0/7_sound =
    covers _ _ _ add_of_1/0_and_0/1_is_0/3 (form 0 7 refl refl refl) refl

pub add_of_1/0_and_0/1_as_0/7_not_best : Best 64 (Results 64 Add (pair 1 0) (pair 0 1)) (pair 0 7) → ⊥
add_of_1/0_and_0/1_as_0/7_not_best =
    too_wide _ _ _ add_of_1/0_and_0/1_is_0/3 (λ e. let d : ◌≡◌ {A = ℕ} 3 7 = e in omega arith)

-- the masks or-ed: 10/3 leaves out d; 0/3f is too wide
pub sub_of_10/1_and_0/3_as_10/3_unsound : Sound 64 (Results 64 Sub (pair 16 1) (pair 0 3)) (pair 16 3) → ⊥
unfolding alu cut
sub_of_10/1_and_0/3_as_10/3_unsound =
    leaves_out _ _ 13 (16, 3, (mem_least 64 _ (form 16 1 refl refl refl)), (mem_top 64 _ (form 0 3 refl refl refl)), refl) (λ h. omega (arith, h.0))

pub sub_of_10/1_and_0/3_as_0/3f_sound : Sound 64 (Results 64 Sub (pair 16 1) (pair 0 3)) (pair 0 63)
sub_of_10/1_and_0/3_as_0/3f_sound =
    covers _ _ _ sub_of_10/1_and_0/3_is_0/1f (form 0 63 refl refl refl) refl

pub sub_of_10/1_and_0/3_as_0/3f_not_best : Best 64 (Results 64 Sub (pair 16 1) (pair 0 3)) (pair 0 63) → ⊥
sub_of_10/1_and_0/3_as_0/3f_not_best =
    too_wide _ _ _ sub_of_10/1_and_0/3_is_0/1f (λ e. let d : ◌≡◌ {A = ℕ} 31 63 = e in omega arith)

-- zeros shifted into the mask: an unknown sign is left out; one unknown bit more is too wide
pub arsh_of_0/8000000000000000_by_1_as_0/4000000000000000_unsound : Sound 64 (Results 64 Arsh (pair 0 9223372036854775808) (pair 1 0)) (pair 0 4611686018427387904) → ⊥
unfolding alu cut shift_signed
arsh_of_0/8000000000000000_by_1_as_0/4000000000000000_unsound =
    leaves_out _ _ 13835058055282163712 (9223372036854775808, 1, (mem_top 64 _ (form 0 9223372036854775808 refl refl refl)), (mem_least 64 _ (form 1 0 refl refl refl)), refl) (λ h. omega (arith, h.1))

pub arsh_of_0/8000000000000000_by_1_as_0/e000000000000000_sound : Sound 64 (Results 64 Arsh (pair 0 9223372036854775808) (pair 1 0)) (pair 0 16140901064495857664)
arsh_of_0/8000000000000000_by_1_as_0/e000000000000000_sound =
    covers _ _ _ arsh_of_0/8000000000000000_by_1_is_0/c000000000000000 (form 0 16140901064495857664 refl refl refl) refl

pub arsh_of_0/8000000000000000_by_1_as_0/e000000000000000_not_best : Best 64 (Results 64 Arsh (pair 0 9223372036854775808) (pair 1 0)) (pair 0 16140901064495857664) → ⊥
arsh_of_0/8000000000000000_by_1_as_0/e000000000000000_not_best =
    too_wide _ _ _ arsh_of_0/8000000000000000_by_1_is_0/c000000000000000 (λ e. let d : ◌≡◌ {A = ℕ} 13835058055282163712 16140901064495857664 = e in omega arith)

-- the masks or-ed: fffffffe/1 leaves out 0; 0/1ffffffff, the sum at 64 bits, is too wide
pub add_32_of_ffffffff/0_and_0/1_as_fffffffe/1_unsound : Sound 64 (Results 32 Add (pair 4294967295 0) (pair 0 1)) (pair 4294967294 1) → ⊥
unfolding alu cut
add_32_of_ffffffff/0_and_0/1_as_fffffffe/1_unsound =
    leaves_out _ _ 0 (4294967295, 1, (mem_least 64 _ (form 4294967295 0 refl refl refl)), (mem_top 64 _ (form 0 1 refl refl refl)), refl) (λ h. omega (arith, h.0))

pub add_32_of_ffffffff/0_and_0/1_as_0/1ffffffff_sound : Sound 64 (Results 32 Add (pair 4294967295 0) (pair 0 1)) (pair 0 8589934591)
add_32_of_ffffffff/0_and_0/1_as_0/1ffffffff_sound =
    covers _ _ _ add_32_of_ffffffff/0_and_0/1_is_0/ffffffff (form 0 8589934591 refl refl refl) refl

pub add_32_of_ffffffff/0_and_0/1_as_0/1ffffffff_not_best : Best 64 (Results 32 Add (pair 4294967295 0) (pair 0 1)) (pair 0 8589934591) → ⊥
add_32_of_ffffffff/0_and_0/1_as_0/1ffffffff_not_best =
    too_wide _ _ _ add_32_of_ffffffff/0_and_0/1_is_0/ffffffff (λ e. let d : ◌≡◌ {A = ℕ} 4294967295 8589934591 = e in omega arith)

-- the values forgotten: 4/0 leaves out 6; 4/3 is too wide
pub join_of_4/0_and_6/0_as_4/0_unsound : Sound 64 (Either (pair 4 0) (pair 6 0)) (pair 4 0) → ⊥
join_of_4/0_and_6/0_as_4/0_unsound =
    leaves_out _ _ 6 (inr (mem_least 64 _ (form 6 0 refl refl refl))) (λ h. omega (arith, h.1))

pub join_of_4/0_and_6/0_as_4/3_sound : Sound 64 (Either (pair 4 0) (pair 6 0)) (pair 4 3)
join_of_4/0_and_6/0_as_4/3_sound =
    covers _ _ _ join_of_4/0_and_6/0_is_4/2 (form 4 3 refl refl refl) refl

pub join_of_4/0_and_6/0_as_4/3_not_best : Best 64 (Either (pair 4 0) (pair 6 0)) (pair 4 3) → ⊥
join_of_4/0_and_6/0_as_4/3_not_best =
    too_wide _ _ _ join_of_4/0_and_6/0_is_4/2 (λ e. let d : ◌≡◌ {A = ℕ} 2 3 = e in omega arith)
