-- Shifts by a count between a least and a greatest one: the pairs that the formulas give are sound.
use mathlib.Core.Path.{◌≡◌, sym, ap, ◌∙◌, subst}
use Prim.Native.Nat.{ℕ, ◌-◌, ◌*◌, ◌/◌, ◌%◌, ◌^◌, ◌≤◌, ◌<◌}
use native.Mathlib.Nat.{mod-le, mul-le-mul_left, le-div_iff_mul-le, div-mul-le_self, le_trans, lt_of_lt_of_le, lt_of_le_of_lt}
use native.Mathlib.Decide.{dec_lt}
use native.Mathlib.Omega.{arith}
use lib.Bits.{and_zero_l}
use lib.Dec.{ltb}
use lib.Pow.{pow_pos, pow_mono, shr_le, ones_lt}
use borrow.Author.Tests.{ltb-true, ltb-false}
use Rattle.word.specs.Word.{bit, alu, cut, shift_signed}
use Rattle.word.specs.declared.Operation.TheVariants.{Lsh, Rsh, Arsh}
use Rattle.word.proofs.Bit.{bit_zero, bit_not, bit_high}
use Rattle.word.proofs.Cut.{cut_small, cut_wider}
use Rattle.word.proofs.Extend.{shift_low, shift_high}
use Rattle.known_bits.specs.declared.Bits.{Bits}
use Rattle.known_bits.specs.Formula.{up_to, among, left_mask, signed_right, shifted_unknown}
use Rattle.known_bits.specs.KnownBits.{Well, Mem, Sound}
use Rattle.known_bits.specs.Masks.{Covers}
use Rattle.known_bits.specs.Pair.{top, packed}
use Rattle.known_bits.proofs.Base.{by_cases, top_covers, low_at_least_value, low_of_covered, cut_is_covered}
use Rattle.known_bits.proofs.Class4.{Width}
use Rattle.known_bits.proofs.Covering.{bit_of_ones, ones_cover_all_below, up_to_covers, up_to_is_no_longer}
use Rattle.known_bits.proofs.Laws.{number_wider, mem_bounds}
use Rattle.known_bits.proofs.Methods.{Image}
use Rattle.known_bits.proofs.Among.{among_is_sound, low_among, top_fits, at_most_top}
use Rattle.known_bits.proofs.ProductLaws.{left_mask_covers, left_mask_fits}
use Rattle.known_bits.proofs.Tight.{packed_value, packed_well}

pub shifted_right_at_most : (x t c n : ℕ) → x ≤ t → n ≤ c → x / 2 ^ c ≤ t / 2 ^ n
shifted_right_at_most x t c n p q =
    (le-div_iff_mul-le {k = 2 ^ n} {x = x / 2 ^ c} {y = t} (pow_pos n)).1
    (le_trans (mul-le-mul_left (x / 2 ^ c) (pow_mono q)) (le_trans (div-mul-le_self x (2 ^ c)) p))

-- ---- the shifts of numbers of w bits
module _ (w x y : ℕ) (h : x < 2 ^ w) where
  lsh_is : w ≤ 64 → alu w Lsh x y ≡ (x * 2 ^ (y % w)) % 2 ^ 64 % 2 ^ w
  unfolding alu cut
  lsh_is l = ap (λ (n : ℕ). n * 2 ^ (y % w) % 2 ^ w) (cut_small w h) ∙ sym (cut_wider w 64 (x * 2 ^ (y % w)) l)

  rsh_is : alu w Rsh x y ≡ x / 2 ^ (y % w)
  unfolding alu
  rsh_is = ap (λ (n : ℕ). n / 2 ^ (y % w)) (cut_small w h)

  arsh_is : alu w Arsh x y ≡ shift_signed w x (y % w)
  unfolding alu
  arsh_is = ap (λ (n : ℕ). shift_signed w n (y % w)) (cut_small w h)

-- ---- right with the sign
signed_shift_below : (w x c : ℕ) → x < 2 ^ w → shift_signed w x c < 2 ^ w
signed_shift_below w x c h = go (dec_lt x (2 ^ (w - 1)))
  where
    go : Dec (x < 2 ^ (w - 1)) → shift_signed w x c < 2 ^ w
    go (yes l) = subst (λ (n : ℕ). n < 2 ^ w) (sym (shift_low w x c l)) (lt_of_le_of_lt (shr_le x c) h)
    go (no i) = subst (λ (n : ℕ). n < 2 ^ w) (sym (shift_high w x c (omega arith))) (omega (arith, pow_pos w))

-- r has the numbers of w bits from v to t, shifted by n places or more
record Shifts (w v t n : ℕ) (r : Bits) : Type 0 where
  well : Well 64 r
  has : (x c : ℕ) → v ≤ x → x ≤ t → x < 2 ^ w → n ≤ c → Mem 64 r (shift_signed w x c)

module _ (w v t n : ℕ) (some : 0 < w) (small : w ≤ 64) where
  covered : (m : ℕ) → m < 2 ^ 64 → ((x c : ℕ) → v ≤ x → x ≤ t → x < 2 ^ w → n ≤ c → Covers m (shift_signed w x c)) → Shifts w v t n (among m)
  unfolding among
  covered m h f =
      record {
        well = record { value_fits = pow_pos 64; mask_fits = h; apart = and_zero_l m };
        has = λ x c p q hx hc. record {
          fits = number_wider w 64 small (signed_shift_below w x c hx);
          agrees = λ k l z. (f x c p q hx hc).zeros k z ∙ sym (bit_zero k);
        };
      }

  -- the complement of a number whose bits are all unknown
  complement : (m y : ℕ) → y < 2 ^ w → Covers m y → Mem 64 (packed (2 ^ w - 1) m) (2 ^ w - 1 - y)
  complement m y hy d = record { fits = number_wider w 64 small below; agrees = λ k i z. go k z (dec_lt k w) }
    where
      below : 2 ^ w - 1 - y < 2 ^ w
      below = omega (arith, pow_pos w)

      go : (k : ℕ) → bit k m ≡ 0 → Dec (k < w) → bit k (2 ^ w - 1 - y) ≡ bit k (packed (2 ^ w - 1) m).value
      go k z (yes i) = omega (arith, bit_not w k y i hy, d.zeros k z, packed_value k (2 ^ w - 1) m, bit_of_ones w k i)
      go k z (no i) =
          let hk : 2 ^ w ≤ 2 ^ k = pow_mono (omega arith) in
          omega (
            arith,
            bit_high k (2 ^ w - 1 - y) (lt_of_lt_of_le below hk),
            packed_value k (2 ^ w - 1) m,
            bit_high k (2 ^ w - 1) (omega (arith, pow_pos w)),
          )

  all_fit : 2 ^ w - 1 < 2 ^ 64
  all_fit = number_wider w 64 small (ones_lt w)

  -- by the sign: known to be 0, not known, known to be 1
  signed_right_shifts : t < 2 ^ 64 → Shifts w v t n (signed_right w v t n)
  unfolding signed_right
  signed_right_shifts ht =
      by_cases (Shifts w v t n) (ltb t (2 ^ (w - 1)))
      (λ e. let h : t / 2 ^ n < 2 ^ 64 = lt_of_le_of_lt (shr_le t n) ht in
      covered (up_to (t / 2 ^ n)) (up_to_is_no_longer (t / 2 ^ n) h 64 h)
      (λ x c p q hx hc. subst (λ (z : ℕ). Covers (up_to (t / 2 ^ n)) z) (sym (shift_low w x c (lt_of_le_of_lt q (ltb-true _ _ e))))
      (up_to_covers (t / 2 ^ n) h _ (shifted_right_at_most x t c n q hc))))
      (λ e. by_cases (Shifts w v t n) (ltb v (2 ^ (w - 1)))
      (λ i. covered (2 ^ w - 1) all_fit (λ x c p q hx hc. ones_cover_all_below w _ (signed_shift_below w x c hx)))
      (λ i. negative (ltb-false _ _ i)))
    where
      u : ℕ
      u = (2 ^ w - 1 - v) / 2 ^ n

      fits : u < 2 ^ 64
      fits = lt_of_le_of_lt (shr_le (2 ^ w - 1 - v) n) (omega (arith, all_fit))

      negative : 2 ^ (w - 1) ≤ v → Shifts w v t n (packed (2 ^ w - 1) (up_to u))
      negative g =
          record {
            well = packed_well 64 (2 ^ w - 1) (up_to u) all_fit (up_to_is_no_longer u fits 64 fits);
            has = λ x c p q hx hc. subst (λ (z : ℕ). Mem 64 (packed (2 ^ w - 1) (up_to u)) z) (sym (shift_high w x c (le_trans g p)))
                (complement (up_to u) ((2 ^ w - 1 - x) / 2 ^ c) (lt_of_le_of_lt (shr_le (2 ^ w - 1 - x) c) (omega (arith, pow_pos w)))
                (up_to_covers u fits _ (shifted_right_at_most (2 ^ w - 1 - x) (2 ^ w - 1 - v) c n (omega arith) hc)));
          }

-- ---- sound pairs
module _ (w : ℕ) (ww : Width w) (a b : Bits) (ga : Well w a) (gb : Well w b) where
  pub least_count : (y : ℕ) → Mem w b y → b.value % w ≤ y % w
  least_count y m =
      subst (λ (n : ℕ). b.value % n ≤ y % n) (sym ww.power) (low_at_least_value w b gb y m ww.places ww.enough)

  pub greatest_count : (y : ℕ) → Mem w b y → y % w ≤ top b % w
  greatest_count y m =
      subst (λ (n : ℕ). y % n ≤ top b % n) (sym ww.power) (low_of_covered (top b) y (top_covers w b gb y m) ww.places)

  pub lsh_unknown_sound : Sound 64 (Image w (alu w Lsh) a b) (shifted_unknown w Lsh a b)
  unfolding shifted_unknown
  lsh_unknown_sound =
      subst (λ (r : Bits). Sound 64 (Image w (alu w Lsh) a b) r) (sym (low_among w m))
      (among_is_sound w Lsh a b (m % 2 ^ w) ww.small (lt_of_le_of_lt (mod-le m (2 ^ w)) (left_mask_fits (top a) (b.value % w) (top b % w)))
      (λ x y hx hy. subst (λ (n : ℕ). Covers (m % 2 ^ w) n) (sym (lsh_is w x y hx.fits ww.small))
      (cut_is_covered m ((x * 2 ^ (y % w)) % 2 ^ 64)
      (left_mask_covers (top a) (b.value % w) (top b % w) (top_fits w ww.small a ga) x (y % w) (number_wider w 64 ww.small hx.fits) (top_covers w a ga x hx)
      (least_count y hy) (greatest_count y hy)) w)))
    where
      m : ℕ
      m = left_mask (top a) (b.value % w) (top b % w)

  pub rsh_unknown_sound : Sound 64 (Image w (alu w Rsh) a b) (shifted_unknown w Rsh a b)
  unfolding shifted_unknown
  rsh_unknown_sound =
      among_is_sound w Rsh a b (up_to t) ww.small (up_to_is_no_longer t fits 64 fits)
      (λ x y hx hy. subst (λ (n : ℕ). Covers (up_to t) n) (sym (rsh_is w x y hx.fits))
      (up_to_covers t fits _ (shifted_right_at_most x (top a) (y % w) (b.value % w) (at_most_top w ww.small a ga x hx) (least_count y hy))))
    where
      t : ℕ
      t = top a / 2 ^ (b.value % w)

      fits : t < 2 ^ 64
      fits = lt_of_le_of_lt (shr_le (top a) (b.value % w)) (top_fits w ww.small a ga)

  pub arsh_unknown_sound : Sound 64 (Image w (alu w Arsh) a b) (shifted_unknown w Arsh a b)
  unfolding shifted_unknown
  arsh_unknown_sound =
      let s = signed_right_shifts w a.value (top a) (b.value % w) ww.some ww.small (top_fits w ww.small a ga) in
      record {
        well = s.well;
        sound = λ z i. subst (λ (n : ℕ). Mem 64 (signed_right w a.value (top a) (b.value % w)) n)
            (sym (i.4 ∙ arsh_is w i.0 i.1 i.2.fits))
            (s.has i.0 (i.1 % w) (mem_bounds w a ga i.0 i.2).0 (at_most_top w ww.small a ga i.0 i.2) i.2.fits
            (least_count i.1 i.3));
      }
