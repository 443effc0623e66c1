-- Shift and add has every product.
use mathlib.Core.Path.{◌≡◌, refl, sym, ap, ◌∙◌}
use mathlib.Core.Logic.{inl, inr}
use Prim.Native.Nat.{ℕ, zero, suc, ◌+◌, ◌-◌, ◌*◌, ◌%◌, ◌^◌, ◌≤◌, ◌<◌}
use native.Mathlib.Nat.{mod-lt, mod-one, zero-mod, zero-mul, add-mod}
use native.Mathlib.Decide.{dec_lt}
use native.Mathlib.Omega.{arith}
use lib.Dec.{eqb}
use lib.Pow.{pow_pos}
use borrow.Author.Tests.{eqb-true, eqb-false}
use Rattle.word.specs.Word.{bit, alu}
use Rattle.word.specs.declared.Operation.TheVariants.{Add, Mul}
use Rattle.word.proofs.Bit.{bit_lt, bit_mod, bit_shl, bit_shl_low, low_suc}
use Rattle.word.proofs.Cut.{mod_times_mod}
use Rattle.word.proofs.Pinned.{add_is_the_sum, mul_is_the_product}
use Rattle.known_bits.specs.declared.Bits.{Bits}
use Rattle.known_bits.specs.Formula.{sum, joined, placed, with_digit, low_digits, shift_and_add}
use Rattle.known_bits.specs.KnownBits.{Well, Mem, Sound, Best}
use Rattle.known_bits.specs.Pair.{exactly}
use Rattle.known_bits.proofs.Base.{by_cases}
use Rattle.known_bits.proofs.Exact.{exact_well}
use Rattle.known_bits.proofs.Joined.{InEither, joined_best}
use Rattle.known_bits.proofs.Laws.{exact_mem}
use Rattle.known_bits.proofs.Methods.{Image1, Image, From, selected}
use Rattle.known_bits.proofs.Operations.{add_best}
use Rattle.known_bits.proofs.Tight.{digit}
pub use Rattle.known_bits.proofs.LowDigits.{cut_of_multiple, unknown_absorbs_the_rest, zeros_add_nothing, cut_of_shift_and_add}

-- ---- a factor k places up
placed_from : (w k i : ℕ) → i < w → From w (λ x. (x * 2 ^ k) % 2 ^ w) i
placed_from w k i l = go (dec_lt i k)
  where
    go : Dec (i < k) → From w (λ x. (x * 2 ^ k) % 2 ^ w) i
    go (yes h) = inr (λ x hx. bit_mod w i (x * 2 ^ k) l ∙ bit_shl_low k i x h)
    go (no h) =
        let e : i ≡ k + (i - k) = omega arith in
        inl (i - k, omega arith, λ x hx. bit_mod w i (x * 2 ^ k) l ∙ ap (λ (j : ℕ). bit j (x * 2 ^ k)) e ∙ bit_shl k (i - k) x)

pub placed_best : (w k : ℕ) (b : Bits) → Well w b → Best w (Image1 w (λ x. (x * 2 ^ k) % 2 ^ w) b) (placed w k b)
unfolding placed
placed_best w k b gb = selected w b gb (λ x. (x * 2 ^ k) % 2 ^ w) (λ x h. mod-lt (x * 2 ^ k) (pow_pos w)) (placed_from w k)

-- ---- every product is there
-- the low n digits of x, times y
abbrev low_product : ℕ → ℕ → ℕ → ℕ → ℕ
low_product w n x y = (x % 2 ^ n * y) % 2 ^ w

module _ (w k x y : ℕ) where
  digit_0_adds_nothing : bit k x ≡ 0 → low_product w (suc k) x y ≡ low_product w k x y
  digit_0_adds_nothing z = ap (λ (m : ℕ). (m * y) % 2 ^ w) (low_suc k x ∙ ap (λ (d : ℕ). d * 2 ^ k + x % 2 ^ k) z ∙ omega arith)

  digit_1_adds : bit k x ≡ 1 → low_product w (suc k) x y ≡ alu w Add (low_product w k x y) ((y * 2 ^ k) % 2 ^ w)
  digit_1_adds z =
      ap (λ (m : ℕ). (m * y) % 2 ^ w) (low_suc k x ∙ ap (λ (d : ℕ). d * 2 ^ k + x % 2 ^ k) z) ∙ ap (λ (n : ℕ). n % 2 ^ w) (spread_out (2 ^ k) (x % 2 ^ k) y)
      ∙ add-mod (x % 2 ^ k * y) (y * 2 ^ k) (2 ^ w) ∙ sym (add_is_the_sum w (low_product w k x y) ((y * 2 ^ k) % 2 ^ w))
    where
      spread_out : (p r v : ℕ) → (1 * p + r) * v ≡ r * v + v * p
      spread_out p r v = omega arith

module _ (w : ℕ) (a b : Bits) (ga : Well w a) (gb : Well w b) where
  abbrev LowProducts : ℕ → ℕ → Type 0
  LowProducts n = Image w (low_product w n) a b

  with_digit_sound : (k : ℕ) → k < w → (r : Bits) → Sound w (LowProducts k) r → Sound w (LowProducts (suc k)) (with_digit w a b k r)
  unfolding with_digit
  with_digit_sound k l r h =
      by_cases (Sound w (LowProducts (suc k))) (eqb (bit k a.mask) 0)
      (λ e. by_cases (Sound w (LowProducts (suc k))) (eqb (bit k a.value) 0)
      (λ i. record { well = h.well; sound = λ z m. left z m (m.2.agrees k l (eqb-true _ _ e) ∙ eqb-true _ _ i) })
      (λ i. let o : bit k a.value ≡ 1 = omega (arith, eqb-false (bit k a.value) 0 i, bit_lt k a.value) in
      record { well = s.well; sound = λ z m. added z m (m.2.agrees k l (eqb-true _ _ e) ∙ o) }))
      (λ e. record {
        well = j.well;
        sound = λ z m. digit (bit k m.0) (bit_lt k m.0) (λ o. j.sound z (inl (left z m o))) (λ o. j.sound z (inr (added z m o)));
      })
    where
      p : Best w (Image1 w (λ x. (x * 2 ^ k) % 2 ^ w) b) (placed w k b)
      p = placed_best w k b gb

      s : Best w (Image w (alu w Add) r (placed w k b)) (sum w r (placed w k b))
      s = add_best w r (placed w k b) h.well p.well

      j : Best w (InEither w r (sum w r (placed w k b))) (joined r (sum w r (placed w k b)))
      j = joined_best w r (sum w r (placed w k b)) h.well s.well

      left : (z : ℕ) (m : LowProducts (suc k) z) → bit k m.0 ≡ 0 → Mem w r z
      left z m o = h.sound z (m.0, m.1, m.2, m.3, m.4 ∙ digit_0_adds_nothing w k m.0 m.1 o)

      added : (z : ℕ) (m : LowProducts (suc k) z) → bit k m.0 ≡ 1 → Mem w (sum w r (placed w k b)) z
      added z m o =
          s.sound z (
            low_product w k m.0 m.1,
            (m.1 * 2 ^ k) % 2 ^ w,
            h.sound _ (m.0, m.1, m.2, m.3, refl),
            p.sound _ (m.1, m.3, refl),
            m.4 ∙ digit_1_adds w k m.0 m.1 o,
          )

  pub low_digits_sound : (n : ℕ) → n ≤ w → Sound w (LowProducts n) (low_digits w a b n)
  unfolding low_digits
  low_digits_sound zero l =
      let g = exact_well w (exactly 0) (pow_pos w) refl in
      record {
        well = g;
        sound = λ z m. (exact_mem w (exactly 0) g refl z).1 (m.4 ∙ ap (λ (n : ℕ). (n * m.1) % 2 ^ w) (mod-one m.0) ∙ ap (λ (n : ℕ). n % 2 ^ w) (zero-mul m.1) ∙ zero-mod (2 ^ w));
      }
  low_digits_sound (suc k) l = with_digit_sound k (omega arith) _ (low_digits_sound k (omega arith))

  pub shift_and_add_sound : Sound w (Image w (alu w Mul) a b) (shift_and_add w a b)
  unfolding shift_and_add
  shift_and_add_sound =
      let h = low_digits_sound w (omega arith) in
      record {
        well = h.well;
        sound = λ z m. h.sound z
            (m.0, m.1, m.2, m.3, m.4 ∙ mul_is_the_product w m.0 m.1 ∙ sym (mod_times_mod m.0 m.1 (2 ^ w)));
      }
