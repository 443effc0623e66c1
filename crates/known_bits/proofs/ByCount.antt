-- The best pair for the three shifts at w bits, by a count whose low bits are known, or known but for one: value and mask are shifted
-- alike by each count, and the pairs joined.
use mathlib.Core.Bool.{true}
use mathlib.Core.Path.{◌≡◌, sym, ap, ◌∙◌}
use mathlib.Core.Logic.{◌⊎◌, inl, inr}
use Prim.Native.Nat.{ℕ, ◌+◌, ◌-◌, ◌*◌, ◌/◌, ◌%◌, ◌^◌, ◌<◌}
use native.Mathlib.Nat.{mod-lt}
use native.Mathlib.Decide.{dec_lt}
use native.Mathlib.Omega.{arith}
use lib.Bits.{bit_and}
use lib.Pow.{high, pow_pos, split}
use borrow.Author.Tests.{eqb-true}
use Rattle.word.specs.Word.{bit, alu}
use Rattle.word.specs.declared.Operation.{Operation}
use Rattle.word.proofs.Bit.{bit_lt, bit_zero, bit_and_lem, bit_mod, low_eq, some_bit}
use Rattle.known_bits.specs.declared.Bits.{Bits}
use Rattle.known_bits.specs.Formula.{shifted_by, joined, single}
use Rattle.known_bits.specs.KnownBits.{Well, Mem, Best}
use Rattle.known_bits.specs.Pair.{top}
use Rattle.known_bits.proofs.Class4.{Width}
use Rattle.known_bits.proofs.Joined.{joined_best_of_both_sets}
use Rattle.known_bits.proofs.Tight.{digit, apart_bit, top_bit, mem_least, mem_top}
use Rattle.known_bits.proofs.Laws.{best_same_set}
use Rattle.known_bits.proofs.Methods.{Image1, Image}
use Rattle.known_bits.proofs.EachCount.{by_count_best}
pub use Rattle.known_bits.proofs.EachCount.{Counts, lsh_counts, rsh_counts, arsh_counts}

-- ---- a number m for which m & (m - 1) is 0 has one bit at most
module _ (m : ℕ) (z : bit_and m (m - 1) ≡ 0) (j k : ℕ) (l : j < k) (hj : bit j m ≡ 1) where
  below_bit_k : 0 < m % 2 ^ k
  below_bit_k = go (dec_lt 0 (m % 2 ^ k))
    where
      go : Dec (0 < m % 2 ^ k) → 0 < m % 2 ^ k
      go (yes p) = p
      go (no n) =
          let e : m % 2 ^ k ≡ 0 = omega arith in
          let b : bit j m ≡ 0 = sym (bit_mod k j m l) ∙ ap (bit j) e ∙ bit_zero j in
          absurd (omega arith)

  -- so taking 1 off leaves bit k
  bit_k_stays : bit k (m - 1) ≡ bit k m
  unfolding bit
  bit_k_stays =
      let p = below_bit_k in
      let e : m - 1 ≡ m / 2 ^ k * 2 ^ k + (m % 2 ^ k - 1) = omega (arith, split m k) in
      let h : m % 2 ^ k - 1 < 2 ^ k = omega (arith, mod-lt m (pow_pos k)) in
      ap (λ (x : ℕ). x / 2 ^ k % 2) e ∙ ap (λ (x : ℕ). x % 2) (high (m / 2 ^ k) k h)

  pub one_bit_only : bit k m ≡ 0
  one_bit_only = omega (arith, bit_and_lem k m (m - 1), bit_k_stays, ap (bit k) z, bit_zero k)

-- ---- which counts the numbers of b are
module _ (w : ℕ) (ww : Width w) (b : Bits) (gb : Well w b) where
  low_mask_bit : (i : ℕ) → i < ww.places → bit i (b.mask % w) ≡ bit i b.mask
  low_mask_bit i l = ap (λ (n : ℕ). bit i (b.mask % n)) ww.power ∙ bit_mod ww.places i b.mask l

  same_low : (x y : ℕ) → ((i : ℕ) → i < ww.places → bit i x ≡ bit i y) → x % w ≡ y % w
  same_low x y h = ap (λ (n : ℕ). x % n) ww.power ∙ low_eq ww.places x y h ∙ ap (λ (n : ℕ). y % n) (sym ww.power)

  place : {i : ℕ} → i < ww.places → i < w
  place l = omega (arith, ww.enough)

  known_count : b.mask % w ≡ 0 → (y : ℕ) → Mem w b y → y % w ≡ b.value % w
  known_count z y m =
      same_low y b.value (λ i l. m.agrees i (place l) (sym (low_mask_bit i l) ∙ ap (bit i) z ∙ bit_zero i))

  module _ (some : ¬ (b.mask % w ≡ 0)) (one : single (b.mask % w) ≡ true) where
    unknown : (k : ℕ) × (k < ww.places) × (bit k b.mask ≡ 1)
    unknown = some_bit ww.places b.mask (λ e. some (ap (λ (n : ℕ). b.mask % n) ww.power ∙ e))

    alone : (j k : ℕ) → j < ww.places → k < ww.places → j < k → bit j b.mask ≡ 1 → bit k b.mask ≡ 1 → ⊥
    unfolding single
    alone j k lj lk l hj hk =
        omega (arith, one_bit_only (b.mask % w) (eqb-true _ _ one) j k l (low_mask_bit j lj ∙ hj), low_mask_bit k lk)

    the_unknown : (i : ℕ) → i < ww.places → bit i b.mask ≡ 1 → i ≡ unknown.0
    the_unknown i l u = go (dec_lt i unknown.0) (dec_lt unknown.0 i)
      where
        go : Dec (i < unknown.0) → Dec (unknown.0 < i) → i ≡ unknown.0
        go (yes p) q = absurd (alone i unknown.0 l unknown.1 p u unknown.2)
        go (no p) (yes q) = absurd (alone unknown.0 i unknown.1 l q unknown.2 u)
        go (no p) (no q) = omega arith

    one_of_two : (y : ℕ) → Mem w b y → (y % w ≡ b.value % w) ⊎ (y % w ≡ top b % w)
    one_of_two y m =
        digit (bit unknown.0 y) (bit_lt unknown.0 y) (λ d. inl (same_low y b.value (least d))) (λ d. inr (same_low y (top b) (most d)))
      where
        at : (i : ℕ) → i ≡ unknown.0 → bit i y ≡ bit unknown.0 y
        at i e = ap (λ (n : ℕ). bit n y) e

        least : bit unknown.0 y ≡ 0 → (i : ℕ) → i < ww.places → bit i y ≡ bit i b.value
        least d i l =
            digit (bit i b.mask) (bit_lt i b.mask) (m.agrees i (place l))
            (λ u. omega (arith, at i (the_unknown i l u), apart_bit w b gb i))

        most : bit unknown.0 y ≡ 1 → (i : ℕ) → i < ww.places → bit i y ≡ bit i (top b)
        most d i l =
            digit (bit i b.mask) (bit_lt i b.mask) (λ z. omega (arith, m.agrees i (place l) z, top_bit w b gb i))
            (λ u. omega (arith, at i (the_unknown i l u), top_bit w b gb i, apart_bit w b gb i))

-- ---- the best pairs
module _ (w : ℕ) (ww : Width w) (op : Operation) (h : Counts w op) (a b : Bits) (ga : Well w a) (gb : Well w b) where
  pub known_count_best : b.mask % w ≡ 0 → Best w (Image w (alu w op) a b) (shifted_by w op a b.value)
  known_count_best z =
      best_same_set w (Image1 w (λ x. alu w op x b.value) a) (Image w (alu w op) a b) (shifted_by w op a b.value)
      (λ y i. (i.0, b.value, i.1, mem_least w b gb, i.2))
      (λ y i. (i.0, i.2, i.4 ∙ h.only i.0 i.1 b.value (known_count w ww b gb z i.1 i.3)))
      (by_count_best w ww op h a ga b.value)

  pub one_of_two_counts_best : ¬ (b.mask % w ≡ 0) → single (b.mask % w) ≡ true
      → Best w (Image w (alu w op) a b) (joined (shifted_by w op a b.value) (shifted_by w op a (top b)))
  one_of_two_counts_best some one =
      best_same_set w (λ z. S z ⊎ T z) (Image w (alu w op) a b) _ there (λ z i. back z i (one_of_two w ww b gb some one i.1 i.3))
      (joined_best_of_both_sets w _ _ S T (by_count_best w ww op h a ga b.value) (by_count_best w ww op h a ga (top b)))
    where
      S : ℕ → Type 0
      S z = Image1 w (λ x. alu w op x b.value) a z

      T : ℕ → Type 0
      T z = Image1 w (λ x. alu w op x (top b)) a z

      there : (z : ℕ) → S z ⊎ T z → Image w (alu w op) a b z
      there z (inl i) = (i.0, b.value, i.1, mem_least w b gb, i.2)
      there z (inr i) = (i.0, top b, i.1, mem_top w b gb, i.2)

      back : (z : ℕ) → (i : Image w (alu w op) a b z) → (i.1 % w ≡ b.value % w) ⊎ (i.1 % w ≡ top b % w) → S z ⊎ T z
      back z i (inl e) = inl (i.0, i.2, i.4 ∙ h.only i.0 i.1 b.value e)
      back z i (inr e) = inr (i.0, i.2, i.4 ∙ h.only i.0 i.1 (top b) e)
