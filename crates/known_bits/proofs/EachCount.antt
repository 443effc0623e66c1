-- The best pair for the three shifts at w bits, by one count: value and mask are shifted alike.
use mathlib.Core.Path.{◌≡◌, sym, ap, ◌∙◌, subst}
use mathlib.Core.Logic.{inl, inr}
use Prim.Native.Nat.{ℕ, ◌+◌, ◌-◌, ◌*◌, ◌/◌, ◌%◌, ◌^◌, ◌≤◌, ◌<◌, min}
use native.Mathlib.Nat.{lt_of_le_of_lt}
use native.Mathlib.Decide.{dec_lt}
use native.Mathlib.Omega.{arith}
use lib.Pow.{shr_le, ones_sub-lt}
use Rattle.word.specs.Word.{bit, cut, alu, shift_signed}
use Rattle.word.specs.declared.Operation.{Operation}
use Rattle.word.specs.declared.Operation.TheVariants.{Lsh, Rsh, Arsh}
use Rattle.word.proofs.Bit.{bit_lt, bit_mod, bit_high, bit_not, bit_shr, bit_shl, bit_shl_low}
use Rattle.word.proofs.Cut.{cut_small}
use Rattle.word.proofs.Extend.{two_halves, shift_low, shift_high}
use Rattle.word.proofs.Pinned.{result_below}
use Rattle.known_bits.specs.declared.Bits.{Bits}
use Rattle.known_bits.specs.Formula.{shifted_by}
use Rattle.known_bits.specs.KnownBits.{Well, Best}
use Rattle.known_bits.proofs.Class4.{Width}
use Rattle.known_bits.proofs.Laws.{high_bit}
use Rattle.known_bits.proofs.Methods.{Image1, From, selected}

-- ---- where the digits come from, for x of w bits and n places
module _ (w n k x : ℕ) (l : k < w) (hx : x < 2 ^ w) where
  clear_bit : x < 2 ^ (w - 1) → bit k (x / 2 ^ n) ≡ bit (min (n + k) (w - 1)) x
  clear_bit s = go (dec_lt (n + k) w)
    where
      go : Dec (n + k < w) → bit k (x / 2 ^ n) ≡ bit (min (n + k) (w - 1)) x
      go (yes h) = bit_shr n k x ∙ ap (λ (m : ℕ). bit m x) (omega arith)
      go (no h) =
          bit_shr n k x ∙ high_bit w (n + k) x h hx
          ∙ sym (bit_high (w - 1) x s) ∙ ap (λ (m : ℕ). bit m x) (omega arith)

  set_bit : 2 ^ (w - 1) ≤ x → bit k (2 ^ w - 1 - (2 ^ w - 1 - x) / 2 ^ n) ≡ bit (min (n + k) (w - 1)) x
  set_bit s = bit_not w k (y / 2 ^ n) l (lt_of_le_of_lt (shr_le y n) hy) ∙ ap (λ (m : ℕ). 1 - m) (bit_shr n k y) ∙ go (dec_lt (n + k) w)
    where
      y : ℕ
      y = 2 ^ w - 1 - x

      hy : y < 2 ^ w
      hy = ones_sub-lt w x

      top_clear : y < 2 ^ (w - 1)
      top_clear = omega (arith, two_halves w (omega arith))

      go : Dec (n + k < w) → 1 - bit (n + k) y ≡ bit (min (n + k) (w - 1)) x
      go (yes h) =
          let i : min (n + k) (w - 1) ≡ n + k = omega arith in
          omega (arith, bit_not w (n + k) x h hx, bit_lt (n + k) x, ap (λ (m : ℕ). bit m x) i)
      go (no h) =
          let i : min (n + k) (w - 1) ≡ w - 1 = omega arith in
          omega (
            arith,
            high_bit w (n + k) y h hy,
            bit_not w (w - 1) x (omega arith) hx,
            bit_high (w - 1) y top_clear,
            bit_lt (w - 1) x,
            ap (λ (m : ℕ). bit m x) i,
          )

  -- the digit n places up, or the top one
  signed_bit : bit k (shift_signed w x n) ≡ bit (min (n + k) (w - 1)) x
  signed_bit = go (dec_lt x (2 ^ (w - 1)))
    where
      go : Dec (x < 2 ^ (w - 1)) → bit k (shift_signed w x n) ≡ bit (min (n + k) (w - 1)) x
      go (yes s) = ap (bit k) (shift_low w x n s) ∙ clear_bit s
      go (no s) = ap (bit k) (shift_high w x n (omega arith)) ∙ set_bit (omega arith)

module _ (w n k : ℕ) (l : k < w) where
  lsh_from : From w (λ x. alu w Lsh x n) k
  unfolding alu
  lsh_from = go (dec_lt k (n % w))
    where
      m : ℕ
      m = n % w

      go : Dec (k < m) → From w (λ x. alu w Lsh x n) k
      go (yes h) = inr (λ x hx. bit_mod w k (cut w x * 2 ^ m) l ∙ bit_shl_low m k (cut w x) h)
      go (no h) = inl (
        k - m,
        omega arith,
        λ x hx. bit_mod w k (cut w x * 2 ^ m) l
            ∙ subst (λ (i : ℕ). bit i (cut w x * 2 ^ m) ≡ bit (k - m) (cut w x)) (omega arith) (bit_shl m (k - m) (cut w x))
            ∙ ap (bit (k - m)) (cut_small w hx),
      )

  rsh_from : From w (λ x. alu w Rsh x n) k
  unfolding alu
  rsh_from = go (dec_lt (n % w + k) w)
    where
      m : ℕ
      m = n % w

      shifted : (x : ℕ) → x < 2 ^ w → bit k (cut w x / 2 ^ m) ≡ bit (m + k) x
      shifted x hx = bit_shr m k (cut w x) ∙ ap (bit (m + k)) (cut_small w hx)

      go : Dec (m + k < w) → From w (λ x. alu w Rsh x n) k
      go (yes h) = inl (m + k, h, shifted)
      go (no h) = inr (λ x hx. shifted x hx ∙ high_bit w (m + k) x h hx)

  arsh_from : From w (λ x. alu w Arsh x n) k
  unfolding alu
  arsh_from =
      inl (min (n % w + k) (w - 1), omega arith, λ x hx. ap (λ (y : ℕ). bit k (shift_signed w y (n % w))) (cut_small w hx) ∙ signed_bit w (n % w) k x l hx)

-- ---- what makes an operation a shift: only the low bits of the count matter, and each digit comes from one digit
pub record Counts (w : ℕ) (op : Operation) : Type 0 where
  pub only : (x y n : ℕ) → y % w ≡ n % w → alu w op x y ≡ alu w op x n
  pub from : (n k : ℕ) → k < w → From w (λ x. alu w op x n) k

pub lsh_counts : (w : ℕ) → Counts w Lsh
unfolding alu
lsh_counts w = record { only = λ x y n i. ap (λ (m : ℕ). cut w x * 2 ^ m % 2 ^ w) i; from = lsh_from w }

pub rsh_counts : (w : ℕ) → Counts w Rsh
unfolding alu
rsh_counts w = record { only = λ x y n i. ap (λ (m : ℕ). cut w x / 2 ^ m) i; from = rsh_from w }

pub arsh_counts : (w : ℕ) → Counts w Arsh
unfolding alu
arsh_counts w = record { only = λ x y n i. ap (λ (m : ℕ). shift_signed w (cut w x) m) i; from = arsh_from w }

-- ---- the best pair
module _ (w : ℕ) (ww : Width w) (op : Operation) (h : Counts w op) (a : Bits) (ga : Well w a) where
  pub by_count_best : (n : ℕ) → Best w (Image1 w (λ x. alu w op x n) a) (shifted_by w op a n)
  unfolding shifted_by
  by_count_best n = selected w a ga (λ x. alu w op x n) (λ x l. result_below w op x n) (h.from n)
