-- A text compared with another, with the word - and with the mark 0x; where std finds a character.
use mathlib.Core.Bool.{Bool, true, false, cond, ◌&&◌}
use mathlib.Core.List.{List, [], ◌∷◌}
use mathlib.Core.Path.{◌≡◌, refl, sym, ap, ◌∙◌}
use Prim.Native.Nat.{ℕ, suc, ◌+◌, ◌≤◌, ◌<◌}
use native.Mathlib.Omega.{arith}
use lib.ListN.{length, take}
use lib.Dec.{eqb}
use lib.Pointwise.{pointwise}
use borrow.Author.Tests.{le-leb, ne_eqb, eq-true, ltb-true, ltb-false}
use Rattle.std.specs.List.{position, position_or_len}
use Rattle.std.specs.Option.{unwrap_or, is_none}
use Rattle.std.proofs.lemmas.List.Sums.{prefix_len-le-length}
use Rattle.std.proofs.lemmas.List.Recursion.{is_position_or_len}
use Rattle.std.proofs.Common.{Option, Some, None, nat_lt, not}
use Rattle.text.specs.Scan.{other, leading, equal}
use Rattle.text.specs.Hex.{dash}
use Rattle.text.specs.Number.{marked}
use Rattle.std.proofs.Math.Bool.{and-true, and-false}

pub equal_pointwise : (a b : List ℕ) → pointwise eqb a b ≡ equal a b
unfolding equal
equal_pointwise [] [] = refl
equal_pointwise [] (y ∷ b) = refl
equal_pointwise (x ∷ a) [] = refl
equal_pointwise (x ∷ a) (y ∷ b) = ap (λ (r : Bool). eqb x y && r) (equal_pointwise a b)

pub dash_pointwise : (s : List ℕ) → pointwise eqb s (45 ∷ []) ≡ dash s
unfolding dash
dash_pointwise [] = refl
dash_pointwise (x ∷ []) = and-true (eqb x 45)
dash_pointwise (x ∷ y ∷ s) = and-false (eqb x 45) ∙ sym (simp (ne_eqb (length (x ∷ y ∷ s)) 1 (omega arith)))

pub marked_pointwise : (s : List ℕ) → pointwise eqb (take 2 s) (48 ∷ 120 ∷ []) ≡ marked s
unfolding marked
marked_pointwise [] = refl
marked_pointwise (x ∷ []) = and-false (eqb x 48)
marked_pointwise (x ∷ y ∷ s) = simp (and-true, le-leb 2 (length (x ∷ y ∷ s)) (omega arith))

same_or : (t : Bool) (n : ℕ) → cond t 0 (suc n) ≡ cond t 0 (1 + n)
same_or true n = refl
same_or false n = omega arith

other_is_position : (b : ℕ) (s : List ℕ) → other b s ≡ position_or_len (λ x. eqb x b) s
unfolding other
other_is_position b s = is_position_or_len (other b) (λ x. eqb x b) refl (λ x xs. same_or (eqb x b) (other b xs)) s

turned : (t : Bool) (n : ℕ) → cond t (suc n) 0 ≡ cond (not t) 0 (1 + n)
turned true n = omega arith
turned false n = refl

leading_is_position : (b : ℕ) (s : List ℕ) → leading b s ≡ position_or_len (λ x. not (eqb x b)) s
unfolding leading
leading_is_position b s = is_position_or_len (leading b) (λ x. not (eqb x b)) refl (λ x xs. turned (eqb x b) (leading b xs)) s

-- what `position` answers, of the first index p passes at, or the length
module _ (p : ℕ → Bool) (s : List ℕ) where
  found_by : (t : Bool) (i : ℕ) → nat_lt (position_or_len p s) (length s) ≡ t → Some i ≡ cond t (Some (position_or_len p s)) None → (position_or_len p s ≡ i) × (i < length s)
  found_by true i e h = let k : i ≡ position_or_len p s = cc in (sym k, rw k (ltb-true _ _ e))
  found_by false i e h = cc

  found : (i : ℕ) → Some i ≡ position p s → (position_or_len p s ≡ i) × (i < length s)
  found i h = found_by (nat_lt (position_or_len p s) (length s)) i refl h

  missing_by : (t : Bool) → nat_lt (position_or_len p s) (length s) ≡ t → None ≡ cond t (Some (position_or_len p s)) None → length s ≤ position_or_len p s
  missing_by true e h = cc
  missing_by false e h = ltb-false _ _ e

  missing : None ≡ position p s → length s ≤ position_or_len p s
  missing h = missing_by (nat_lt (position_or_len p s) (length s)) refl h

  or_length_by : (o : Option ℕ) → o ≡ position p s → unwrap_or o (length s) ≡ position_or_len p s
  or_length_by (Some i) e = sym (found i e).0
  or_length_by None e = omega (arith, missing e, prefix_len-le-length (λ x. not (p x)) s)

  or_length : unwrap_or (position p s) (length s) ≡ position_or_len p s
  or_length = or_length_by (position p s) refl

  is_none_by : (o : Option ℕ) → o ≡ position p s → is_none o ≡ eqb (position_or_len p s) (length s)
  is_none_by (Some i) e = let f : _ = found i e in sym (ne_eqb (position_or_len p s) (length s) (λ q. omega (arith, f)))
  is_none_by None e = eq-true (position_or_len p s) (length s) (omega (arith, missing e, prefix_len-le-length (λ x. not (p x)) s))

-- where the first run of b ends, and the first run of others, in what `position` answers
module _ (b : ℕ) (s : List ℕ) where
  pub place_or_length : unwrap_or (position (λ x. eqb x b) s) (length s) ≡ other b s
  place_or_length = rw (other_is_position b s) (or_length _ s)

  pub place_of_other_or_length : unwrap_or (position (λ x. not (eqb x b)) s) (length s) ≡ leading b s
  place_of_other_or_length = rw (leading_is_position b s) (or_length _ s)

  pub no_place_of_other : is_none (position (λ x. not (eqb x b)) s) ≡ eqb (leading b s) (length s)
  no_place_of_other = rw (leading_is_position b s) (is_none_by _ s (position _ s) refl)

  pub other_inside : other b s ≤ length s
  other_inside = rw (other_is_position b s) (prefix_len-le-length (λ x. not (eqb x b)) s)

  pub leading_inside : leading b s ≤ length s
  leading_inside = rw (leading_is_position b s) (prefix_len-le-length (λ x. not (not (eqb x b))) s)

pub stroke_found : (b : ℕ) (s : List ℕ) (i : ℕ) → Some i ≡ position (λ x. eqb x b) s → (other b s ≡ i) × (i < length s)
stroke_found b s i e = rw (other_is_position b s) (found _ s i e)

pub stroke_missing : (b : ℕ) (s : List ℕ) → None ≡ position (λ x. eqb x b) s → length s ≤ other b s
stroke_missing b s e = rw (other_is_position b s) (missing _ s e)
