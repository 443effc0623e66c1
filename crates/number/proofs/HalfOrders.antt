-- A comparison of low halves is a comparison of class 5 of what `compared` makes of them: one law for all eleven.
use mathlib.Core.Path.{◌≡◌, refl}
use mathlib.Core.Bool.{Bool, true, false}
use Prim.Native.Nat.{ℕ, ◌^◌, ◌<◌}
use native.Mathlib.Omega.{arith}
use Rattle.word.specs.Word.{cut, alu, moved, compare}
use Rattle.word.specs.declared.Operation.TheVariants.{Add}
use Rattle.word.specs.declared.Comparison.{Comparison}
use Rattle.word.specs.declared.Comparison.TheVariants.{Eq, Gt, Ge, Set, Ne, Sgt, Sge, Lt, Le, Slt, Sle}
use Rattle.word.proofs.Cut.{cut_below}
use Rattle.word.proofs.Pinned.{result_below}
use Rattle.known_bits.proofs.Laws.{number_wider}
use Rattle.number.specs.Halves.{unsigned, signed}

-- the number that is compared for x, with its sign or without
abbrev pub key_by : Bool → ℕ → ℕ
key_by true x = alu 32 Add x (2 ^ 31)
key_by false x = cut 32 x

unfoldable pub key : Comparison → ℕ → ℕ
key c x = key_by (signed c) x

key_by_fits : (b : Bool) (x : ℕ) → key_by b x < 2 ^ 64
key_by_fits true x = number_wider 32 64 (omega arith) (result_below 32 Add x (2 ^ 31))
key_by_fits false x = number_wider 32 64 (omega arith) (cut_below 32 x)

pub key_fits : (c : Comparison) (x : ℕ) → key c x < 2 ^ 64
unfolding key
key_fits c x = key_by_fits (signed c) x

-- the two forms of a key
low_key : (x : ℕ) → cut 64 (cut 32 x) ≡ cut 32 x
unfolding cut
low_key x = omega arith

moved_key : (x : ℕ) → cut 64 (alu 32 Add x (2 ^ 31)) ≡ moved 32 (cut 32 x)
unfolding alu cut moved
moved_key x = omega arith

pub compare_by_keys : (c : Comparison) (x y : ℕ) → compare 32 c x y ≡ compare 64 (unsigned c) (key c x) (key c y)
unfolding compare unsigned key signed
compare_by_keys Eq x y = rw (low_key x, low_key y) refl
compare_by_keys Gt x y = rw (low_key x, low_key y) refl
compare_by_keys Ge x y = rw (low_key x, low_key y) refl
compare_by_keys Set x y = rw (low_key x, low_key y) refl
compare_by_keys Ne x y = rw (low_key x, low_key y) refl
compare_by_keys Sgt x y = rw (moved_key x, moved_key y) refl
compare_by_keys Sge x y = rw (moved_key x, moved_key y) refl
compare_by_keys Lt x y = rw (low_key x, low_key y) refl
compare_by_keys Le x y = rw (low_key x, low_key y) refl
compare_by_keys Slt x y = rw (moved_key x, moved_key y) refl
compare_by_keys Sle x y = rw (moved_key x, moved_key y) refl

-- ---- a half that is moved twice is back
pub moved_back_lem : (x : ℕ) → alu 32 Add (alu 32 Add x (2 ^ 31)) (2 ^ 31) ≡ cut 32 x
unfolding alu cut
moved_back_lem x = omega arith
