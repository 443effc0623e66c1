-- Pairs of which only the bits are known that their numbers may have: sound where the mask covers every result.
use mathlib.Core.Path.{◌≡◌, sym, ap, subst}
use Prim.Native.Nat.{ℕ, ◌%◌, ◌^◌, ◌≤◌, ◌<◌}
use native.Mathlib.Nat.{zero-mod}
use lib.Bits.{bit_or}
use Rattle.word.specs.Word.{alu, cut}
use Rattle.word.specs.declared.Operation.{Operation}
use Rattle.word.proofs.Pinned.{result_below}
use Rattle.known_bits.specs.declared.Bits.{Bits}
use Rattle.known_bits.specs.Formula.{low, among}
use Rattle.known_bits.specs.KnownBits.{Well, Mem, Sound}
use Rattle.known_bits.specs.Masks.{Covers}
use Rattle.known_bits.specs.Pair.{exactly, top}
use Rattle.known_bits.proofs.Exact.{both_known, exact_best}
use Rattle.known_bits.proofs.Base.{top_covers, covered_is_at_most, covered_is_sound}
use Rattle.known_bits.proofs.Class4.{sound_wider}
use Rattle.known_bits.proofs.Laws.{best_sound, number_wider}
use Rattle.known_bits.proofs.Methods.{Image}
use Rattle.known_bits.proofs.Tight.{mem_top}

pub among_is_sound : (w : ℕ) (op : Operation) (a b : Bits) (m : ℕ) → w ≤ 64 → m < 2 ^ 64
    → ((x y : ℕ) → Mem w a x → Mem w b y → Covers m (alu w op x y)) → Sound 64 (Image w (alu w op) a b) (among m)
among_is_sound w op a b m l h c =
    covered_is_sound 64 (Image w (alu w op) a b) m h
    (λ z i. subst (λ (n : ℕ). (n < 2 ^ 64) × Covers m n) (sym i.4)
    (number_wider w 64 l (result_below w op i.0 i.1), c i.0 i.1 i.2 i.3))

pub low_among : (w m : ℕ) → low w (among m) ≡ among (m % 2 ^ w)
unfolding low among cut
low_among w m = ap (λ (v : ℕ). record { value = v; mask = m % 2 ^ w }) (zero-mod (2 ^ w))

module _ (w : ℕ) (small : w ≤ 64) (a : Bits) (ga : Well w a) where
  pub top_fits : top a < 2 ^ 64
  top_fits = number_wider w 64 small (mem_top w a ga).fits

  pub at_most_top : (x : ℕ) → Mem w a x → x ≤ top a
  at_most_top x h = covered_is_at_most (top a) x (top_covers w a ga x h) w h.fits (mem_top w a ga).fits

module _ (w : ℕ) (small : w ≤ 64) (a b : Bits) (ga : Well w a) (gb : Well w b) where
  pub exact_sound : (op : Operation) → bit_or a.mask b.mask ≡ 0 → Sound 64 (Image w (alu w op) a b) (exactly (alu w op a.value b.value))
  exact_sound op e =
      let z = both_known a.mask b.mask e in
      sound_wider w 64 small _ _ (best_sound w _ _ (exact_best w op a b ga gb z.0 z.1))
