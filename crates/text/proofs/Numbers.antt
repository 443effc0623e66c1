-- What one more digit does to a number that is read, and when there is none.
use mathlib.Core.Bool.{true, false}
use mathlib.Core.List.{List, [], ◌∷◌}
use mathlib.Core.Path.{◌≡◌, sym, ◌∙◌}
use Prim.Native.Nat.{ℕ, ◌+◌, ◌*◌, ◌^◌, ◌≤◌, ◌<◌}
use native.Mathlib.Nat.{le_refl, le_trans, le-mul_of_pos_right}
use native.Mathlib.Numerals.{add-one}
use native.Mathlib.Omega.{arith}
use lib.ListN.{length, drop, get_or}
use lib.Seq.{drop-cons, drop-length}
use borrow.Author.Tests.{lt-ltb, le-ltb, le-leb, lt-leb, eq-eqb, ne_eqb}
use Rattle.std.proofs.Common.{Some, None}
use Rattle.std.proofs.Math.Bool.{and-false}
use Rattle.text.specs.Digit.{digit}
use Rattle.text.specs.Number.{digits, value, number_from, number, marked, numeral}

module _ (base : ℕ) (s : List ℕ) (i : ℕ) (l : i < length s) where
  pub digits_good : digit (get_or s i 0) < base → digits base (drop i s) ≡ digits base (drop (i + 1) s)
  unfolding digits
  digits_good h = rw (add-one i, drop-cons s i 0 l) (simp (lt-ltb _ _ h))

  pub digits_bad : base ≤ digit (get_or s i 0) → digits base (drop i s) ≡ false
  unfolding digits
  digits_bad h = rw (drop-cons s i 0 l) (simp (le-ltb _ _ h))

-- more digits make a number no smaller
value_grows : (base n : ℕ) (s : List ℕ) → 0 < base → n ≤ value base n s
unfolding value
value_grows base n [] p = le_refl n
value_grows base n (b ∷ s) p =
    omega (arith, value_grows base (n * base + digit b) s p, le-mul_of_pos_right n p)

number_large : (base n : ℕ) (s : List ℕ) → 0 < base → 2 ^ 64 ≤ n → number_from base n s ≡ None
unfolding number_from
number_large base n s p h = simp (le-ltb _ _ (le_trans h (value_grows base n s p)), and-false)

-- i characters of s are read, and n is their value: what s spells is what the rest spells behind n
pub record Spelling (base : ℕ) (s : List ℕ) (i n : ℕ) : Type 0 where
  pub same : number_from base n (drop i s) ≡ number base s

pub number_start : (base : ℕ) (s : List ℕ) → (length s ≡ 0 → ⊥) → Spelling base s 0 0
unfolding number
number_start base s h = record { same = simp (ne_eqb _ _ h) }

-- the next character has the value d
module _ (base : ℕ) (s : List ℕ) (i n : ℕ) (g : Spelling base s i n) (l : i < length s) where
  pub number_bad : (digit (get_or s i 0) < base → ⊥) → None ≡ number base s
  unfolding number_from
  number_bad h = sym (simp (digits_bad base s i l (omega arith))) ∙ g.same

  pub number_more : (d : ℕ) → digit (get_or s i 0) < base → d ≡ digit (get_or s i 0) → Spelling base s (i + 1) (n * base + d)
  unfolding number_from digits value
  number_more d h v =
      record { same = rw v (sym (rw (add-one i, drop-cons s i 0 l) (simp (lt-ltb _ _ h))) ∙ g.same) }

  pub number_over : (d : ℕ) → digit (get_or s i 0) < base → d ≡ digit (get_or s i 0) → (n * base + d < 2 ^ 64 → ⊥) → None ≡ number base s
  number_over d h v o = sym (number_large base (n * base + d) (drop (i + 1) s) (omega arith) (omega arith)) ∙ (number_more d h v).same

pub number_end : (base : ℕ) (s : List ℕ) (i n : ℕ) → Spelling base s i n → i ≡ length s → n < 2 ^ 64 → Some n ≡ number base s
unfolding number_from digits value
number_end base s i n g e h = sym (rw (e, drop-length s) (simp (lt-ltb n (2 ^ 64) h))) ∙ g.same

pub number_none : (base : ℕ) (s : List ℕ) → length s ≡ 0 → number base s ≡ None
unfolding number
number_none base s h = rw h

pub digits_end : (base : ℕ) (s : List ℕ) (i : ℕ) → i ≡ length s → digits base (drop i s) ≡ true
unfolding digits
digits_end base s i e = rw (e, drop-length s)

-- the tests for 0x, in the order of the code
module _ (s : List ℕ) where
  pub numeral_short : length s < 2 → numeral s ≡ number 10 s
  unfolding numeral marked
  numeral_short h = simp (lt-leb 2 (length s) h)

  pub numeral_other : (get_or s 0 0 ≡ 48 → ⊥) → numeral s ≡ number 10 s
  unfolding numeral marked
  numeral_other h = simp (ne_eqb _ _ h, and-false)

  pub numeral_plain : (get_or s 1 0 ≡ 120 → ⊥) → numeral s ≡ number 10 s
  unfolding numeral marked
  numeral_plain h = simp (ne_eqb _ _ h, and-false)

  pub numeral_marked : 2 ≤ length s → get_or s 0 0 ≡ 48 → get_or s 1 0 ≡ 120 → numeral s ≡ number 16 (drop 2 s)
  unfolding numeral marked
  numeral_marked h z x = simp (le-leb 2 (length s) h, eq-eqb _ _ z, eq-eqb _ _ x)
