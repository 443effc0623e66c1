-- Each operation on Numbers: it loses no result, is no wider than its known bits and its range, and exact for exact operands.
use mathlib.Core.Path.{◌≡◌, refl}
use mathlib.Core.Bool.{Bool, true, false}
use mathlib.Core.Logic.{◌↔◌}
use Prim.Native.Nat.{ℕ, ◌+◌, ◌^◌, ◌≤◌, ◌<◌}
use native.Mathlib.Omega.{arith}
use borrow.Author.Tests.{leb-true, le-leb}
use Rattle.word.specs.Word.{cut, alu}
use Rattle.word.specs.declared.Operation.{Operation}
use Rattle.known_bits.specs.declared.Bits.{Bits}
use Rattle.known_bits.specs.KnownBits.{Well, Mem, Results}
use Rattle.known_bits.specs.Pair.{exactly}
use Rattle.known_bits.specs.Computed.{Computed, Demanded}
use Rattle.known_bits.specs.Formula.{calculated}
use Rattle.known_bits.proofs.Computing.{calculated_computed}
use Rattle.number.specs.declared.Number.{Number}
use Rattle.number.specs.Meaning.{Within, In, RangeWithin, BitsWithin}
use Rattle.number.specs.Sharpen.{just, exact}
use Rattle.number.specs.Computed.{modulo, second, computed_range, computed, fits}
use Rattle.number.proofs.Known.{exact_in}
use Rattle.number.proofs.Operands.{Wide, modulo_in, modulo_below, second_in, second_below}
use Rattle.number.proofs.RangedSound.{ranged_sound}
use Rattle.number.proofs.Results.{wide_at_most_64}
use Rattle.number.proofs.Sharpening.{sharpened_keeps, sharpened_form, sharpened_bits_within, sharpened_range_within, sharpened_exact}

module _ (w : ℕ) (h : Wide w) (op : Operation) (a b : Number) where
  pub computed_range_has : (x y : ℕ) → In a x → In b y → Within (computed_range w op a b) (alu w op x y)
  unfolding computed_range cut
  computed_range_has x y i j =
      ranged_sound w h op (modulo (2 ^ w) a) (second w op b) x y (modulo_below w a) (second_below w h op b)
      (modulo_in w a (wide_at_most_64 w h) x i) (second_in w h op b y j)

  module _ (ga : Well 64 a.bits) (gb : Well 64 b.bits) where
    promise : Computed w op a.bits b.bits (calculated w op a.bits b.bits)
    promise = calculated_computed w h op a.bits b.bits

    pub computed_form : Well 64 (computed w op a b).bits
    unfolding computed
    computed_form = sharpened_form (calculated w op a.bits b.bits) (computed_range w op a b) (promise.sound ga gb).well

    -- where the best pair is demanded
    pub computed_best : Demanded w op b.bits → (q : Bits) → Well 64 q → ((z : ℕ) → Results w op a.bits b.bits z → Mem 64 q z)
        → BitsWithin (computed w op a b).bits q
    unfolding computed
    computed_best d q gq hq x m =
        (promise.best d ga gb).least q gq hq x (sharpened_bits_within (calculated w op a.bits b.bits) (computed_range w op a b) x m)

  pub computed_sound : (x y : ℕ) → In a x → In b y → In (computed w op a b) (alu w op x y)
  unfolding computed
  computed_sound x y i j =
      let s = (promise i.form j.form).sound i.form j.form in
      sharpened_keeps (calculated w op a.bits b.bits) (computed_range w op a b) (alu w op x y) s.well
      (s.sound (alu w op x y) (x, y, i.bits, j.bits, refl)) (computed_range_has x y i j)

-- neither half is wider than what it was before each sharpened the other
module _ (w : ℕ) (op : Operation) (a b : Number) where
  pub computed_bits_within : BitsWithin (computed w op a b).bits (calculated w op a.bits b.bits)
  unfolding computed
  computed_bits_within = sharpened_bits_within (calculated w op a.bits b.bits) (computed_range w op a b)

  pub computed_range_within : RangeWithin (computed w op a b).range (computed_range w op a b)
  unfolding computed
  computed_range_within = sharpened_range_within (calculated w op a.bits b.bits) (computed_range w op a b)

pub computed_exact : (w : ℕ) → Wide w → (op : Operation) (x y : ℕ) → x < 2 ^ 64 → y < 2 ^ 64
    → computed w op (exact x) (exact y) ≡ exact (alu w op x y)
unfolding computed exact
computed_exact w h op x y hx hy =
    sharpened_exact (calculated w op (exactly x) (exactly y)) (computed_range w op (exact x) (exact y)) (alu w op x y)
    ((calculated_computed w h op (exactly x) (exactly y)).exact refl refl)
    (computed_range_has w h op (exact x) (exact y) x y (exact_in x hx) (exact_in y hy))

-- ---- size bytes at each of these offsets
pub fits_exactly : (n : Number) (size limit : ℕ) → (fits n size limit ≡ true) ↔ (n.range.hi + size ≤ limit)
unfolding fits
fits_exactly n size limit = (leb-true (n.range.hi + size) limit, le-leb (n.range.hi + size) limit)

pub fits_not : (n : Number) (size limit : ℕ) → limit < n.range.hi + size → fits n size limit ≡ false
fits_not n size limit l = go (fits n size limit) refl
  where
    go : (b : Bool) → fits n size limit ≡ b → b ≡ false
    go true e = absurd (omega (arith, (fits_exactly n size limit).0 e))
    go false e = refl

pub fits_sound : (n : Number) (size limit x : ℕ) → fits n size limit ≡ true → In n x → x + size ≤ limit
fits_sound n size limit x t i = omega (arith, (fits_exactly n size limit).0 t, i.range.high)

pub fits_exact : (x size limit : ℕ) → (fits (exact x) size limit ≡ true) ↔ (x + size ≤ limit)
unfolding exact just
fits_exact x size limit = fits_exactly (exact x) size limit
