-- Knowing more never hurts, of pairs: the best pair of fewer numbers lies inside any pair that is sound for more. So joins, cuts and what a
-- comparison tells keep the order of what is known; a mask does where it covers.
use mathlib.Core.Path.{◌≡◌, refl, sym, ap, ◌∙◌, subst}
use mathlib.Core.Logic.{inl, inr}
use Prim.Native.Nat.{ℕ, ◌-◌, ◌*◌, ◌^◌, ◌≤◌, ◌<◌}
use native.Mathlib.Nat.{mod-lt, lt_of_lt_of_le}
use native.Mathlib.Decide.{dec_lt}
use native.Mathlib.Omega.{arith}
use lib.Bits.{bit_and}
use lib.Count.{count_trailing_zeros, trailing_le}
use lib.Dec.{ltb}
use lib.Pow.{pow_pos, pow_mono}
use Rattle.std.specs.Prelude.{Option, Some, None}
use Rattle.word.specs.Word.{bit}
use Rattle.word.proofs.Bit.{bit_lt, bit_zero, bit_and_lem, bit_pow, bit_high, ext}
use Rattle.known_bits.specs.declared.Bits.{Bits}
use Rattle.known_bits.specs.Formula.{low, joined, up_to, from_bit, among, cleared, met}
use Rattle.known_bits.specs.KnownBits.{Well, Mem, Sound, Best, Both, Apart}
use Rattle.known_bits.specs.Learn.{Learns}
use Rattle.known_bits.specs.Masks.{Covers}
use Rattle.known_bits.specs.Pair.{top, packed}
use Rattle.known_bits.proofs.Base.{by_cases, top_covers}
use Rattle.known_bits.proofs.Class4.{best_wider, low_best, low_has_the_cuts, low_has_only_cuts}
use Rattle.known_bits.proofs.Covering.{up_to_covers, bit_up_to, bit_below_from, bit_from_on, covered_has_the_low_zeros, a_multiple_has_as_many_zeros}
use Rattle.known_bits.proofs.Joined.{InEither, joined_best}
use Rattle.known_bits.proofs.Laws.{best_sound, mem_bounds, exact_mem, mask_le}
use Rattle.known_bits.proofs.LearnLaws.{cleared_learns, met_learns, fewer_apart}
use Rattle.known_bits.proofs.Methods.{Image}
use Rattle.known_bits.proofs.Tight.{digit, mem_least, mem_top, mem_low, packed_value}

-- every number of p is one of q: p says no less
abbrev pub Inside : ℕ → Bits → Bits → Type 0
Inside w p q = (x : ℕ) → Mem w p x → Mem w q x

pub best_inside : (w : ℕ) (S T : ℕ → Type 0) (p q : Bits) → Best w S p → Sound w T q → ((x : ℕ) → S x → T x) → Inside w p q
best_inside w S T p q b s more = b.least q s.well (λ x i. s.sound x (more x i))

pub more_results : (w : ℕ) (f : ℕ → ℕ → ℕ) (a' b' a b : Bits) → Inside w a' a → Inside w b' b → (z : ℕ) → Image w f a' b' z
    → Image w f a b z
more_results w f a' b' a b i j z m = (m.0, m.1, i m.0 m.2, j m.1 m.3, m.4)

module _ (w : ℕ) (small : w ≤ 64) (f : ℕ → ℕ → ℕ) (a' b' a b : Bits) (ga' : Well w a') (gb' : Well w b') (i : Inside w a' a)
    (j : Inside w b' b) where
  pub best_results_inside : (p q : Bits) → Best w (Image w f a' b') p → Sound 64 (Image w f a b) q → Inside 64 p q
  best_results_inside p q best s =
      best_inside 64 (Image w f a' b') (Image w f a b) p q
      (best_wider w 64 small (Image w f a' b') p _ (a'.value, b'.value, mem_least w a' ga', mem_least w b' gb', refl) best) s
      (more_results w f a' b' a b i j)

-- ---- the digits of a pair inside another
module _ (w : ℕ) (p q : Bits) (gp : Well w p) (gq : Well w q) (i : Inside w p q) where
  pub value_grows : q.value ≤ p.value
  value_grows = (mem_bounds w q gq p.value (i p.value (mem_least w p gp))).0

  pub top_falls : top p ≤ top q
  top_falls = (mem_bounds w q gq (top p) (i (top p) (mem_top w p gp))).1

  pub top_covers_top : Covers (top q) (top p)
  top_covers_top = top_covers w q gq (top p) (i (top p) (mem_top w p gp))

  pub mask_covers_mask : Covers q.mask p.mask
  mask_covers_mask = record { zeros = λ k z. go k z (dec_lt k w) }
    where
      go : (k : ℕ) → bit k q.mask ≡ 0 → Dec (k < w) → bit k p.mask ≡ 0
      go k z (yes l) = omega (arith, mask_le w p q gp gq i k l)
      go k z (no n) = bit_high k p.mask (lt_of_lt_of_le gp.mask_fits (pow_mono (omega arith)))

  pub known_is_kept : (k : ℕ) → k < w → bit k q.mask ≡ 0 → bit k p.value ≡ bit k q.value
  known_is_kept k l z = (i p.value (mem_least w p gp)).agrees k l z

  -- what is known wholly can't be known better
  pub inside_of_known : q.mask ≡ 0 → p ≡ q
  inside_of_known z = λ j. record { value = value j; mask = mask j }
    where
      value : p.value ≡ q.value
      value = (exact_mem w q gq z p.value).0 (i p.value (mem_least w p gp))

      mask : p.mask ≡ q.mask
      mask =
          ext w p.mask q.mask gp.mask_fits gq.mask_fits
          (λ k l. let e : bit k q.mask ≡ 0 = ap (bit k) z ∙ bit_zero k in mask_covers_mask.zeros k e ∙ sym e)

-- ---- masks
pub among_inside : (w m n : ℕ) → Covers n m → Inside w (among m) (among n)
unfolding among
among_inside w m n c x h = record { fits = h.fits; agrees = λ k l z. h.agrees k l (c.zeros k z) }

pub packed_inside : (w s m n : ℕ) → Covers n m → Inside w (packed s m) (packed s n)
packed_inside w s m n c x h =
    record {
      fits = h.fits;
      agrees = λ k l z. h.agrees k l (c.zeros k z) ∙ omega (arith, packed_value k s m, packed_value k s n, c.zeros k z);
    }

pub up_to_grows : (t u : ℕ) → t ≤ u → u < 2 ^ 64 → Covers (up_to u) (up_to t)
up_to_grows t u l h =
    record {
      zeros = λ k z. digit (bit k (up_to t)) (bit_lt k (up_to t)) (λ e. e)
          (λ e. absurd (omega (arith, bit_pow k, (up_to_covers u h (2 ^ k) (omega (arith, bit_up_to t (omega arith) k e))).zeros k z)));
    }

from_bit_fits : (n : ℕ) → from_bit n < 2 ^ 64
unfolding from_bit
from_bit_fits n = by_cases (λ (m : ℕ). m < 2 ^ 64) (ltb n 64) (λ _. mod-lt ((2 ^ 64 - 1) * 2 ^ n) (pow_pos 64)) (λ _. pow_pos 64)

pub from_bit_grows : (m n : ℕ) → m ≤ n → Covers (from_bit m) (from_bit n)
from_bit_grows m n l = record { zeros = λ k z. go k z (dec_lt k 64) (dec_lt k m) }
  where
    go : (k : ℕ) → bit k (from_bit m) ≡ 0 → Dec (k < 64) → Dec (k < m) → bit k (from_bit n) ≡ 0
    go k z (yes h) (yes i) = bit_below_from n k (omega arith) h
    go k z (yes h) (no i) = absurd (omega (arith, bit_from_on m k (omega arith) h))
    go k z (no h) i = bit_high k (from_bit n) (lt_of_lt_of_le (from_bit_fits n) (pow_mono {i = 64} (omega arith)))

pub zeros_grow : (t u : ℕ) → Covers u t → count_trailing_zeros 64 u ≤ count_trailing_zeros 64 t
zeros_grow t u c = go (dec_lt (count_trailing_zeros 64 t) 64)
  where
    go : Dec (count_trailing_zeros 64 t < 64) → count_trailing_zeros 64 u ≤ count_trailing_zeros 64 t
    go (yes l) = a_multiple_has_as_many_zeros t (count_trailing_zeros 64 u) (covered_has_the_low_zeros u t c) l
    go (no n) = omega (arith, trailing_le 64 u)

pub both_masks_grow : (m n m' n' : ℕ) → Covers m m' → Covers n n' → Covers (bit_and m n) (bit_and m' n')
both_masks_grow m n m' n' c d =
    record {
      zeros = λ k z. digit (bit k m) (bit_lt k m) (λ e. omega (arith, bit_and_lem k m' n', c.zeros k e))
          (λ e. omega (arith, bit_and_lem k m' n', d.zeros k (omega (arith, bit_and_lem k m n, bit_lt k n))));
    }

-- ---- the cut
module _ (v w : ℕ) (h : v ≤ w) (p q : Bits) (gp : Well w p) (gq : Well w q) (i : Inside w p q) where
  pub low_inside : Inside w (low v p) (low v q)
  low_inside = best_inside w _ _ _ _ (low_best v w p gp) (best_sound w _ _ (low_best v w q gq)) (λ z m. (m.0, i m.0 m.1, m.2))

  pub cut_inside : Inside v (low v p) (low v q)
  cut_inside z m =
      let c = low_has_only_cuts v w h p gp z m in
      subst (λ (n : ℕ). Mem v (low v q) n) (sym c.2) (low_has_the_cuts v w h q gq c.0 (i c.0 c.1))

-- ---- where paths join
module _ (w : ℕ) (a' b' a b : Bits) (ga' : Well w a') (gb' : Well w b') (ga : Well w a) (gb : Well w b) (i : Inside w a' a)
    (j : Inside w b' b) where
  pub joined_inside : Inside w (joined a' b') (joined a b)
  joined_inside =
      best_inside w (InEither w a' b') (InEither w a b) _ _ (joined_best w a' b' ga' gb') (best_sound w _ _ (joined_best w a b ga gb)) more
    where
      more : (x : ℕ) → InEither w a' b' x → InEither w a b x
      more x (inl m) = inl (i x m)
      more x (inr m) = inr (j x m)

-- ---- what a comparison tells: where more is known either nothing is left, or something was, and what is left lies inside it
abbrev pub LearntInside : Option Bits → Option Bits → Type 0
LearntInside None r = Unit {0}
LearntInside (Some p) None = ⊥
LearntInside (Some p) (Some q) = Inside 64 p q

learns_inside : (S T : ℕ → Type 0) (r s : Option Bits) → Learns S r → Learns T s → ((x : ℕ) → S x → T x) → LearntInside r s
learns_inside S T None s h k more = tt
learns_inside S T (Some p) None h k more = let e = h.answer.1 in k.answer e.0 (more e.0 e.1)
learns_inside S T (Some p) (Some q) h k more = best_inside 64 S T p q h.answer.0 (best_sound 64 T q k.answer.0) more

module _ (a' b' a b : Bits) (ga' : Well 64 a') (gb' : Well 64 b') (ga : Well 64 a) (gb : Well 64 b) (i : Inside 64 a' a)
    (j : Inside 64 b' b) where
  pub met_inside : LearntInside (met a' b') (met a b)
  met_inside =
      learns_inside (Both a' b') (Both a b) _ _ (met_learns a' b' ga' gb') (met_learns a b ga gb) (λ x m. (i x m.0, j x m.1))

  -- no bit that the other is known to have
  pub cleared_inside : LearntInside (cleared a' b'.value) (cleared a b.value)
  cleared_inside =
      learns_inside (Apart a' b'.value) (Apart a b.value) _ _ (cleared_learns a' b'.value gb'.value_fits ga')
      (cleared_learns a b.value gb.value_fits ga)
      (λ x m. (
        i x m.0,
        fewer_apart a' b'.value gb'.value_fits ga' b.value gb.value_fits
            (λ k l. mem_low 64 b gb b'.value (j b'.value (mem_least 64 b' gb')) k l) x m,
      ))
