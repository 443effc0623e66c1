-- The laws of `extend`, `moved` and `shift_signed`: below half the range and from half the range on, and what the code computes
-- in their place.
use Rattle.std.proofs.Common.{◌≡◌, ℕ, ◌+◌, ◌-◌, ◌/◌, ◌%◌, ◌^◌, ◌<◌, ◌≤◌, sym, ap, ◌∙◌, lt_of_lt_of_le, lt_of_le_of_lt, mod-eq_of_lt, arith, pow_pos, pow_mono, pow-add, le-ltb, lt-ltb}
use native.Mathlib.Nat.{mod-eq-sub-mod}
use native.Mathlib.Decide.{dec_lt}
use lib.Pow.{shr_le, not_mod}
use Rattle.word.specs.Word.{cut, extend, shift_signed, moved}
use Rattle.word.proofs.Cut.{cut_below, cut_small, difference}

pub two_halves : (w : ℕ) → 0 < w → 2 ^ w ≡ 2 ^ (w - 1) + 2 ^ (w - 1)
two_halves w h = ap (λ (n : ℕ). 2 ^ n) (omega arith) ∙ pow-add 2 (w - 1) 1 ∙ omega arith

-- ---- below half the range, and from half the range on

pub extend_low : (w x : ℕ) → cut w x < 2 ^ (w - 1) → extend w x ≡ cut w x
unfolding extend
extend_low w x h = simp (lt-ltb _ _ h)

pub extend_high : (w x : ℕ) → 2 ^ (w - 1) ≤ cut w x → extend w x ≡ cut w x + (2 ^ 64 - 2 ^ w)
unfolding extend
extend_high w x h = simp (le-ltb _ _ h)

pub shift_low : (w d n : ℕ) → d < 2 ^ (w - 1) → shift_signed w d n ≡ d / 2 ^ n
unfolding shift_signed
shift_low w d n h = simp (lt-ltb _ _ h)

pub shift_high : (w d n : ℕ) → 2 ^ (w - 1) ≤ d → shift_signed w d n ≡ 2 ^ w - 1 - (2 ^ w - 1 - d) / 2 ^ n
unfolding shift_signed
shift_high w d n h = simp (le-ltb _ _ h)

module _ (w : ℕ) (h : 0 < w) where
  pub moved_low : {x : ℕ} → x < 2 ^ (w - 1) → moved w x ≡ x + 2 ^ (w - 1)
  unfolding moved
  moved_low {x} l = mod-eq_of_lt (omega (arith, two_halves w h))

  pub moved_high : {x : ℕ} → 2 ^ (w - 1) ≤ x → x < 2 ^ w → moved w x ≡ x - 2 ^ (w - 1)
  unfolding moved
  moved_high {x} l m =
      mod-eq-sub-mod {n = x + 2 ^ (w - 1)} {m = 2 ^ w} (omega (arith, two_halves w h))
      ∙ mod-eq_of_lt (omega (arith, two_halves w h)) ∙ omega (arith, two_halves w h)

-- ---- 64 bits hold it
module _ (w : ℕ) (h : 0 < w) (l : w ≤ 64) where
  pow_le : 2 ^ w ≤ 2 ^ 64
  pow_le = pow_mono l

  pub half_le : 2 ^ (w - 1) ≤ 2 ^ 63
  half_le = pow_mono {i = w - 1} {j = 63} (omega arith)

  pub extend_below : (x : ℕ) → extend w x < 2 ^ 64
  extend_below x = go (dec_lt (cut w x) (2 ^ (w - 1)))
    where
      go : Dec (cut w x < 2 ^ (w - 1)) → extend w x < 2 ^ 64
      go (yes a) = rw (extend_low w x a) (omega (arith, half_le))
      go (no a) = rw (extend_high w x (omega arith)) (omega (arith, cut_below w x, pow_le))

  -- the sign goes to the top: so large, at 64 bits, is a negative number
  pub extend_negative : (x : ℕ) → 2 ^ (w - 1) ≤ cut w x → 2 ^ 63 ≤ extend w x
  extend_negative x a = rw (extend_high w x a) (omega (arith, half_le, two_halves w h))

  pub extend_complement : (x : ℕ) → 2 ^ (w - 1) ≤ cut w x → 2 ^ 64 - 1 - extend w x ≡ 2 ^ w - 1 - cut w x
  extend_complement x a = rw (extend_high w x a) (omega (arith, cut_below w x, pow_le))

  -- half the range added to the low w bits, and taken off again at 64 bits
  pub extend_of_moved : (r x : ℕ) → r < 2 ^ 64 → (r + 2 ^ (w - 1)) % 2 ^ 64 ≡ moved w (cut w x) → r ≡ extend w x
  extend_of_moved r x b e = go (dec_lt (cut w x) (2 ^ (w - 1)))
    where
      go : Dec (cut w x < 2 ^ (w - 1)) → r ≡ extend w x
      go (yes a) = rw (extend_low w x a) (omega (arith, e ∙ moved_low w h a, half_le))
      go (no a) =
          let k : 2 ^ (w - 1) ≤ 2 ^ 63 = half_le in
          difference r _ _ b (omega (arith, cut_below w x, pow_le)) (omega arith) (e ∙ moved_high w h (omega arith) (cut_below w x))
          ∙ mod-eq_of_lt (omega (arith, two_halves w h, cut_below w x)) ∙ omega (arith, two_halves w h, pow_le)
          ∙ sym (extend_high w x (omega arith))

  cut_complement : {z : ℕ} → z < 2 ^ w → cut w (2 ^ 64 - 1 - z) ≡ 2 ^ w - 1 - z
  unfolding cut
  cut_complement {z} b =
      let e : 64 ≡ 64 - w + w = omega arith in ap (λ (k : ℕ). (2 ^ k - 1 - z) % 2 ^ w) e ∙ not_mod (64 - w) w b

  -- a shift of the extended word is, in its low w bits, the shift of the low w bits
  pub cut_shift_extended : (x n : ℕ) → cut w (shift_signed 64 (extend w x) n) ≡ shift_signed w (cut w x) n
  cut_shift_extended x n = go (dec_lt (cut w x) (2 ^ (w - 1)))
    where
      go : Dec (cut w x < 2 ^ (w - 1)) → cut w (shift_signed 64 (extend w x) n) ≡ shift_signed w (cut w x) n
      go (yes a) =
          rw (extend_low w x a, shift_low w (cut w x) n a, shift_low 64 (cut w x) n (lt_of_lt_of_le a half_le))
          (cut_small w (lt_of_le_of_lt (shr_le (cut w x) n) (cut_below w x)))
      go (no a) =
          let y = 2 ^ w - 1 - cut w x in
          let b : 2 ^ (w - 1) ≤ cut w x = omega arith in
          let s : y / 2 ^ n < 2 ^ w = lt_of_le_of_lt (shr_le y n) (omega (arith, pow_pos w)) in
          ap (cut w) (shift_high 64 (extend w x) n (extend_negative x b) ∙ ap (λ (z : ℕ). 2 ^ 64 - 1 - z / 2 ^ n) (extend_complement x b))
          ∙ cut_complement s ∙ sym (shift_high w (cut w x) n b)
