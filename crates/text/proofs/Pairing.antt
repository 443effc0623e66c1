-- What one more pair of digits does to the bytes that are read, and when there are none.
use mathlib.Core.Bool.{true, false}
use mathlib.Core.List.{List, [], ◌∷◌, ◌++◌, append-nil}
use mathlib.Core.Path.{◌≡◌, refl, sym, ap, ◌∙◌}
use Prim.Native.Nat.{ℕ, suc, ◌+◌, ◌*◌, ◌/◌, ◌≤◌, ◌<◌}
use native.Mathlib.Numerals.{add-one}
use native.Mathlib.Omega.{arith}
use lib.ListN.{get_or, set, length, take, drop, drop_of_length-le}
use lib.Seq.{drop-cons, append_snoc, take-suc-set}
use borrow.Author.Tests.{lt-ltb, le-ltb, le-leb, lt-leb, eq-eqb, ne_eqb}
use Rattle.std.proofs.Common.{Some, None, inl, inr}
use Rattle.std.proofs.lemmas.Bool.{cases_eq}
use Rattle.text.specs.Digit.{digit}
use Rattle.text.specs.Number.{digits}
use Rattle.text.specs.Hex.{fitting, paired, dash, bytes_of, Spelled}
use Rattle.std.proofs.Math.Bool.{and-false}
use Rattle.text.proofs.Numbers.{digits_good, digits_bad, digits_end}

-- i bytes are in out, and those that the rest of s spells are the ones to come
abbrev Passed : List ℕ → List ℕ → ℕ → Type 0
Passed s out i = take i out ++ bytes_of (drop (i * 2) s) ≡ bytes_of s

next_byte : (s : List ℕ) (i : ℕ) → i * 2 + 1 < length s → bytes_of (drop (i * 2) s) ≡ (digit (get_or s (i * 2) 0) * 16 + digit (get_or s (i * 2 + 1) 0)) ∷ bytes_of (drop ((i + 1) * 2) s)
unfolding bytes_of
next_byte s i h =
    let e : (i + 1) * 2 ≡ suc (suc (i * 2)) = omega arith in
    rw (drop-cons s (i * 2) 0 (omega arith), drop-cons s (suc (i * 2)) 0 (omega arith), e, add-one (i * 2))

passed_more : (s out : List ℕ) (i v : ℕ) → i < length out → i * 2 + 1 < length s → Passed s out i → v ≡ digit (get_or s (i * 2) 0) * 16 + digit (get_or s (i * 2 + 1) 0) → Passed s (set out i v) (i + 1)
passed_more s out i v h l all here =
    let e : take (i + 1) (set out i v) ≡ take i out ++ (v ∷ []) = rw (add-one i) (take-suc-set out i v h) in
    ap (λ (t : List ℕ). t ++ bytes_of (drop ((i + 1) * 2) s)) e ∙
    append_snoc (take i out) v (bytes_of (drop ((i + 1) * 2) s)) ∙
    ap (λ (t : List ℕ). take i out ++ t) (ap (λ (x : ℕ). x ∷ bytes_of (drop ((i + 1) * 2) s)) here ∙ sym (next_byte s i l)) ∙
    all

passed_end : (s out : List ℕ) (i : ℕ) → length s ≡ i * 2 → Passed s out i → take i out ≡ bytes_of s
unfolding bytes_of
passed_end s out i e all =
    sym (append-nil (take i out)) ∙ ap (λ (t : List ℕ). take i out ++ bytes_of t) (sym (drop_of_length-le s {i = i * 2} (omega arith))) ∙ all

-- a word of one character spells no byte
pub no_byte_of_dash : (s : List ℕ) → true ≡ dash s → bytes_of s ≡ []
unfolding bytes_of dash
no_byte_of_dash [] e = refl
no_byte_of_dash (x ∷ []) e = refl
no_byte_of_dash (x ∷ y ∷ s) e = let n = rw (ne_eqb (length (x ∷ y ∷ s)) 1 (omega arith)) at e in cc

module _ (s : List ℕ) (room : ℕ) where
  pub paired_odd : (length s ≡ length s / 2 * 2 → ⊥) → paired s room ≡ None
  unfolding paired fitting
  paired_odd h = simp (ne_eqb _ _ h, and-false)

  pub paired_long : room < length s / 2 → paired s room ≡ None
  unfolding paired fitting
  paired_long h = simp (lt-leb _ _ h, and-false)

  pub paired_empty : length s / 2 ≡ 0 → paired s room ≡ None
  unfolding paired fitting
  paired_empty e = elim (cases_eq (length s) 0) [ inl z ↦ simp (le-ltb 0 (length s) (omega arith)) | inr z ↦ paired_odd (λ h. z (omega arith)) ]

  paired_bad : digits 16 s ≡ false → paired s room ≡ None
  unfolding paired
  paired_bad h = simp (h, and-false)

  paired_good : (length s ≡ 0 → ⊥) → length s ≡ length s / 2 * 2 → length s / 2 ≤ room → digits 16 s ≡ true → paired s room ≡ Some (length s / 2)
  unfolding paired fitting
  paired_good h e r d = simp (lt-ltb 0 (length s) (omega arith), eq-eqb _ _ e, le-leb _ _ r, d)

-- i pairs of s are read: their bytes are in out, and whether all of s is of digits is the question for the rest
pub record Reading (s out : List ℕ) (i : ℕ) : Type 0 where
  pub even : length s ≡ length s / 2 * 2
  pub some : length s ≡ 0 → ⊥
  pub rest : digits 16 (drop (i * 2) s) ≡ digits 16 s
  pub passed : Passed s out i

pub reading_start : (s out : List ℕ) → length s ≡ length s / 2 * 2 → (length s ≡ 0 → ⊥) → Reading s out 0
reading_start s out e h = record { even = e; some = h; rest = refl; passed = refl }

module _ (s out : List ℕ) (i : ℕ) (g : Reading s out i) (l : i < length s / 2) where
  second : i * 2 + 1 < length s
  second = omega (arith, g.even)

  pub reading_first : (room : ℕ) → (digit (get_or s (i * 2) 0) < 16 → ⊥) → None ≡ paired s room
  reading_first room q =
      sym (paired_bad s room (sym g.rest ∙ digits_bad 16 s (i * 2) (omega (arith, second)) (omega arith)))

  -- the first digit of the pair is one
  module _ (q : digit (get_or s (i * 2) 0) < 16) where
    after_first : digits 16 s ≡ digits 16 (drop (i * 2 + 1) s)
    after_first = sym g.rest ∙ digits_good 16 s (i * 2) (omega (arith, second)) q

    pub reading_second : (room : ℕ) → (digit (get_or s (i * 2 + 1) 0) < 16 → ⊥) → None ≡ paired s room
    reading_second room r =
        sym (paired_bad s room (after_first ∙ digits_bad 16 s (i * 2 + 1) second (omega arith)))

    pub reading_more : digit (get_or s (i * 2 + 1) 0) < 16 → i < length out → (x : ℕ) → x ≡ digit (get_or s (i * 2) 0) * 16 + digit (get_or s (i * 2 + 1) 0) → Reading s (set out i x) (i + 1)
    reading_more r o x e =
        let f : (i + 1) * 2 ≡ i * 2 + 1 + 1 = omega arith in
        record {
          even = g.even;
          some = g.some;
          rest = rw f (sym (after_first ∙ digits_good 16 s (i * 2 + 1) second r));
          passed = passed_more s out i x o second g.passed e;
        }

pub reading_end : (s out : List ℕ) (i room : ℕ) → Reading s out i → i ≡ length s / 2 → length s / 2 ≤ room → Spelled s out room (paired s room) (Some (length s / 2))
reading_end s out i room g e r =
    record {
      count = sym (paired_good s room g.some g.even r (sym g.rest ∙ digits_end 16 s (i * 2) (omega (arith, g.even))));
      room = r;
      held = rw (← e) (passed_end s out i (omega (arith, g.even)) g.passed);
    }
