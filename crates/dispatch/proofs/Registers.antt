-- The registers as the interpreter keeps them: what one has, and what they are after one is written.
use Rattle.std.proofs.Common.{◌≡◌, ℕ, zero, suc, ◌+◌, ◌*◌, ◌%◌, ◌^◌, ◌<◌, ◌≤◌, Bool, true, false, cond, not, eqb, List, ◌∷◌, length, get_or, set, sym, refl, ap, ◌∙◌, ap₂, true≢false, lt_of_lt_of_le, not-suc-le-zero, add-zero, arith, lit<, get_or-set_other, get_or-set_same, pow_mono, shl_exact, eq-eqb}
use native.Mathlib.Decide.{dec_lt}
use lib.Pow.{pow-lt}
use lib.Bits.{bit_or, or_lt}
use Rattle.word.specs.Word.{bit}
use Rattle.word.proofs.Bit.{bit_lt, bit_or_lem, bit_high, bit_pow, bit_pow_other}
use Rattle.machine.specs.Machine.{Content, Unset, Holds, content, held, value, is_unset, put}
use Rattle.dispatch.specs.Represent.{is_set, content_of, contents, state_of}

-- ---- the mask

-- as the code has it, a one shifted by r places
pub one_shifted : (r : ℕ) → r ≤ 10 → 1 * 2 ^ r % 2 ^ 64 ≡ 2 ^ r
one_shifted r h = shl_exact 1 r 64 (lit< tt) (omega arith) ∙ omega arith

module _ (live r : ℕ) where
  pub set_after : is_set (bit_or live (2 ^ r)) r ≡ true
  unfolding is_set
  set_after = eq-eqb (bit r (bit_or live (2 ^ r))) 1 (rw (bit_or_lem r live (2 ^ r), bit_pow r) (omega (arith, bit_lt r live)))

  pub others_as_before : (s : ℕ) → (s ≡ r → ⊥) → is_set (bit_or live (2 ^ r)) s ≡ is_set live s
  unfolding is_set
  others_as_before s other =
      let e : bit s (bit_or live (2 ^ r)) ≡ bit s live = rw (bit_or_lem s live (2 ^ r), bit_pow_other s r other) (omega arith) in
      ap (λ (b : ℕ). eqb b 1) e

-- a register above 10 is never set
pub narrow_after : (live r : ℕ) → live < 2 ^ 11 → r ≤ 10 → bit_or live (2 ^ r) < 2 ^ 11
narrow_after live r narrow h = or_lt 11 live (2 ^ r) narrow (pow-lt {i = r} {j = 11} (omega arith))

pub above_unset : (live r : ℕ) → live < 2 ^ 11 → 10 < r → is_set live r ≡ false
unfolding is_set
above_unset live r narrow h = rw (bit_high r live (lt_of_lt_of_le narrow (pow_mono h)))

-- nor is one that no bit of a word stands for
pub beyond_unset : (live r : ℕ) → live < 2 ^ 64 → 64 ≤ r → true ≡ not (is_set live r)
unfolding is_set
beyond_unset live r fits h = rw (bit_high r live (lt_of_lt_of_le fits (pow_mono h)))

-- ---- one register

module _ (numbers : List ℕ) (live : ℕ) where
  get_contents : (n k i : ℕ) → i < n → get_or (contents n k numbers live) i Unset ≡ content_of numbers live (k + i)
  unfolding contents
  get_contents zero k i h = absurd (not-suc-le-zero h)
  get_contents (suc n) k zero h = ap (content_of numbers live) (sym (add-zero k))
  get_contents (suc n) k (suc i) h =
      let e : k + 1 + i ≡ k + suc i = omega arith in get_contents n (k + 1) i (omega arith) ∙ ap (content_of numbers live) e

  no_more_contents : (n k i : ℕ) → n ≤ i → get_or (contents n k numbers live) i Unset ≡ Unset
  unfolding contents
  no_more_contents zero k i h = refl
  no_more_contents (suc n) k zero h = absurd (not-suc-le-zero h)
  no_more_contents (suc n) k (suc i) h = no_more_contents n (k + 1) i (omega arith)

  pub content_is : (stack : List ℕ) (index r : ℕ) → r ≤ 10 → content (state_of numbers live stack index) r ≡ content_of numbers live r
  unfolding content state_of
  content_is stack index r h =
      let e : 0 + r ≡ r = omega arith in get_contents 11 0 r (omega arith) ∙ ap (content_of numbers live) e

  pub value_is : (stack : List ℕ) (index r : ℕ) → r ≤ 10 → is_set live r ≡ true → value (state_of numbers live stack index) r ≡ get_or numbers r 0
  unfolding value held content_of
  value_is stack index r h e = rw (content_is stack index r h, e)

unset_is : (b : Bool) (n : ℕ) → is_unset (cond b (Holds n) Unset) ≡ not b
unfolding is_unset
unset_is true n = refl
unset_is false n = refl

-- a register is unset where the mask says so, one above 10 too
module _ (numbers : List ℕ) (live : ℕ) (narrow : live < 2 ^ 11) (stack : List ℕ) (index r : ℕ) where
  below_unset : r ≤ 10 → is_unset (content (state_of numbers live stack index) r) ≡ not (is_set live r)
  unfolding content_of
  below_unset h = ap is_unset (content_is numbers live stack index r h) ∙ unset_is (is_set live r) (get_or numbers r 0)

  none_above : 10 < r → is_unset (content (state_of numbers live stack index) r) ≡ not (is_set live r)
  unfolding content state_of is_unset
  none_above h = rw (no_more_contents numbers live 11 0 r h, above_unset live r narrow h)

  pub is_unset_lem : is_unset (content (state_of numbers live stack index) r) ≡ not (is_set live r)
  is_unset_lem = by_test (dec_lt 10 r)
    where
      by_test : Dec (10 < r) → is_unset (content (state_of numbers live stack index) r) ≡ not (is_set live r)
      by_test (yes h) = none_above h
      by_test (no h) = below_unset (omega arith)

  pub set_named : is_set live r ≡ true → r ≤ 10
  set_named e = by_test (dec_lt 10 r)
    where
      by_test : Dec (10 < r) → r ≤ 10
      by_test (yes h) = absurd (true≢false (sym e ∙ above_unset live r narrow h))
      by_test (no h) = omega arith

-- ---- the registers after one is written

module _ (numbers numbers' : List ℕ) (live live' : ℕ) where
  same_contents : (n k : ℕ) → ((r : ℕ) → k ≤ r → content_of numbers live r ≡ content_of numbers' live' r)
      → contents n k numbers live ≡ contents n k numbers' live'
  unfolding contents
  same_contents zero k h = refl
  same_contents (suc n) k h = ap₂ ◌∷◌ (h k (omega arith)) (same_contents n (k + 1) (λ r l. h r (omega arith)))

  set_contents : (n k i v : ℕ) → i < n → content_of numbers' live' (k + i) ≡ Holds v
      → ((r : ℕ) → (r ≡ k + i → ⊥) → content_of numbers live r ≡ content_of numbers' live' r)
      → contents n k numbers' live' ≡ set (contents n k numbers live) i (Holds v)
  unfolding contents
  set_contents zero k i v h written others = absurd (not-suc-le-zero h)
  set_contents (suc n) k zero v h written others =
      ap₂ ◌∷◌ (ap (content_of numbers' live') (sym (add-zero k)) ∙ written)
      (sym (same_contents n (k + 1) (λ r l. others r (λ e. omega arith))))
  set_contents (suc n) k (suc i) v h written others =
      let e : k + 1 + i ≡ k + suc i = omega arith in
      ap₂ ◌∷◌ (sym (others k (λ f. omega arith)))
      (set_contents n (k + 1) i v (omega arith) (ap (content_of numbers' live') e ∙ written) (λ r f. others r (λ g. f (g ∙ sym e))))

-- dst holds v: the mask has it set, and what it says of the others is as before
module _ (numbers : List ℕ) (live live' dst v : ℕ) (named : dst ≤ 10) (sixteen : length numbers ≡ 16)
    (is_set_lem : is_set live' dst ≡ true) (others : (r : ℕ) → (r ≡ dst → ⊥) → is_set live' r ≡ is_set live r) where
  dst_holds : content_of (set numbers dst v) live' dst ≡ Holds v
  unfolding content_of
  dst_holds = rw (is_set_lem, get_or-set_same numbers dst v 0 (omega arith))

  others_hold : (r : ℕ) → (r ≡ dst → ⊥) → content_of numbers live r ≡ content_of (set numbers dst v) live' r
  unfolding content_of
  others_hold r other = rw (others r other, get_or-set_other numbers dst r v 0 other)

  pub put_is : (stack : List ℕ) (index : ℕ)
      → state_of (set numbers dst v) live' stack (index + 1) ≡ put (state_of numbers live stack index) dst v
  unfolding state_of put
  put_is stack index =
      let e : 0 + dst ≡ dst = omega arith in
      ap (λ (rs : List Content). record { registers = rs; stack = stack; index = index + 1 })
      (set_contents numbers (set numbers dst v) live live' 11 0 dst v (omega arith) (rw e dst_holds)
      (λ r other. others_hold r (λ g. other (g ∙ sym e))))
