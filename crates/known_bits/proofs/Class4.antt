-- Operations that cut their operands: what is best, or sound, at w bits for operands that are cut is so at 64 bits for the instruction,
-- which cuts them itself.
use mathlib.Core.Path.{◌≡◌, refl, sym, ap, ap₂, ◌∙◌, subst}
use mathlib.Core.Logic.{◌⊎◌, inl, inr}
use Prim.Native.Nat.{ℕ, ◌+◌, ◌-◌, ◌*◌, ◌/◌, ◌%◌, ◌^◌, ◌≤◌, ◌<◌}
use native.Mathlib.Nat.{div-lt_iff_lt-mul, le_trans}
use native.Mathlib.Decide.{dec_lt}
use native.Mathlib.Omega.{arith}
use lib.Arith.{digits_lt}
use lib.Pow.{high as high_part, low as low_part, pow-add, pow_pos, pow_mono}
use Rattle.word.specs.Word.{bit, cut, alu}
use Rattle.word.specs.declared.Operation.{Operation}
use Rattle.word.specs.declared.Operation.TheVariants.{Add, Sub, Mul, Div, Or, And, Lsh, Rsh, Neg, Mod, Xor, Mov, Arsh}
use Rattle.word.proofs.Bit.{bit_mod, bit_shr}
use Rattle.word.proofs.Cut.{cut_below, cut_small, cut_cut, cut_wider}
use Rattle.known_bits.specs.declared.Bits.{Bits}
use Rattle.known_bits.specs.Formula.{low}
use Rattle.known_bits.specs.KnownBits.{Well, Mem, Sound, Best, Results}
use Rattle.known_bits.proofs.Tight.{mem_least}
use Rattle.known_bits.proofs.Laws.{best_same_set, high_bit, well_wider, mem_wider, mem_narrower}
use Rattle.known_bits.proofs.Methods.{Image}
pub use Rattle.known_bits.proofs.CutPairs.{cut_bit, low_same, low_best}

-- a width of the machine: a power of two, so that a count is as many low bits
pub record Width (w : ℕ) : Type 0 where
  pub places : ℕ
  pub power : w ≡ 2 ^ places
  pub enough : places ≤ w
  pub some : 0 < w
  pub small : w ≤ 64

pub width : (w : ℕ) → (w ≡ 64) ⊎ (w ≡ 32) → Width w
width w (inl e) = record { places = 6; power = e; enough = omega arith; some = omega arith; small = omega arith }
width w (inr e) = record { places = 5; power = e; enough = omega arith; some = omega arith; small = omega arith }

-- ---- the cut
module _ (v w : ℕ) (h : v ≤ w) (a : Bits) (ga : Well w a) where
  pub low_well : Well v (low v a)
  unfolding low
  low_well =
      record { value_fits = cut_below v a.value; mask_fits = cut_below v a.mask; apart = (low_best v w a ga).well.apart }

  pub low_has_the_cuts : (x : ℕ) → Mem w a x → Mem v (low v a) (cut v x)
  unfolding low
  low_has_the_cuts x m =
      record {
        fits = cut_below v x;
        agrees = λ k l e. cut_bit v k x l ∙ m.agrees k (omega arith) (sym (cut_bit v k a.mask l) ∙ e) ∙ sym (cut_bit v k a.value l);
      }

  -- every number of the cut pair is the cut of a number of the pair
  pub low_has_only_cuts : (z : ℕ) → Mem v (low v a) z → (x : ℕ) × Mem w a x × (z ≡ cut v x)
  unfolding low cut
  low_has_only_cuts z m = (x, record { fits = fits; agrees = λ k l e. go k l e (dec_lt k v) }, sym (low_part hi v m.fits))
    where
      hi : ℕ
      hi = a.value / 2 ^ v

      x : ℕ
      x = hi * 2 ^ v + z

      split_w : 2 ^ w ≡ 2 ^ (w - v) * 2 ^ v
      split_w = subst (λ (n : ℕ). 2 ^ n ≡ 2 ^ (w - v) * 2 ^ v) (omega arith) (pow-add 2 (w - v) v)

      fits : x < 2 ^ w
      fits =
          subst (λ (n : ℕ). x < n) (sym split_w)
          (digits_lt ((div-lt_iff_lt-mul (pow_pos v)).1 (subst (λ (n : ℕ). a.value < n) split_w ga.value_fits)) m.fits)

      go : (k : ℕ) → k < w → bit k a.mask ≡ 0 → Dec (k < v) → bit k x ≡ bit k a.value
      go k l e (yes n) =
          sym (bit_mod v k x n) ∙ ap (bit k) (low_part hi v m.fits) ∙ m.agrees k n (bit_mod v k a.mask n ∙ e) ∙ bit_mod v k a.value n
      go k l e (no n) =
          let i : v + (k - v) ≡ k = omega arith in
          ap (λ (j : ℕ). bit j x) (sym i) ∙ sym (bit_shr v (k - v) x) ∙ ap (bit (k - v)) (high_part hi v m.fits)
          ∙ bit_shr v (k - v) a.value ∙ ap (λ (j : ℕ). bit j a.value) i

-- ---- what is sound, or best, at v bits is so at w bits
pub sound_wider : (v w : ℕ) → v ≤ w → (S : ℕ → Type 0) (p : Bits) → Sound v S p → Sound w S p
sound_wider v w h S p s =
    record { well = well_wider v w h p s.well; sound = λ x i. mem_wider v w h p s.well x (s.sound x i) }

pub best_wider : (v w : ℕ) → v ≤ w → (S : ℕ → Type 0) (p : Bits) (z : ℕ) → S z → Best v S p → Best w S p
unfolding low
best_wider v w h S p z s b =
    record {
      well = well_wider v w h p b.well;
      sound = λ x i. mem_wider v w h p b.well x (b.sound x i);
      least = λ q gq hq x hx. least q gq hq x (mem_narrower v w h p b.well x hx);
    }
  where
    least : (q : Bits) → Well w q → ((x : ℕ) → S x → Mem w q x) → (x : ℕ) → Mem v p x → Mem w q x
    least q gq hq x hx = record { fits = le_trans hx.fits (pow_mono h); agrees = λ k l e. go k l e (dec_lt k v) }
      where
        into : (y : ℕ) → S y → Mem v (low v q) y
        into y i = subst (λ (n : ℕ). Mem v (low v q) n) (cut_small v (b.sound y i).fits) (low_has_the_cuts v w h q gq y (hq y i))

        go : (k : ℕ) → k < w → bit k q.mask ≡ 0 → Dec (k < v) → bit k x ≡ bit k q.value
        go k l e (yes n) =
            (b.least (low v q) (low_well v w h q gq) into x hx).agrees k n (cut_bit v k q.mask n ∙ e) ∙ cut_bit v k q.value n
        go k l e (no n) =
            high_bit v k x n hx.fits ∙ sym (high_bit v k z n (b.sound z s).fits) ∙ (hq z s).agrees k l e

-- ---- an operation cuts its operands itself
module _ (w : ℕ) (ww : Width w) where
  -- a count is its low bits, which the cut keeps
  pub cut_keeps_count : (x : ℕ) → cut w x % w ≡ x % w
  unfolding cut
  cut_keeps_count x =
      ap (λ (m : ℕ). x % 2 ^ w % m) ww.power ∙ cut_wider ww.places w x ww.enough ∙ ap (λ (m : ℕ). x % m) (sym ww.power)

  pub alu_cuts : (op : Operation) (x y : ℕ) → alu w op (cut w x) (cut w y) ≡ alu w op x y
  unfolding alu
  alu_cuts Add x y = simp (cut_cut w x, cut_cut w y)
  alu_cuts Sub x y = simp (cut_cut w x, cut_cut w y)
  alu_cuts Mul x y = simp (cut_cut w x, cut_cut w y)
  alu_cuts Div x y = simp (cut_cut w x, cut_cut w y)
  alu_cuts Or x y = simp (cut_cut w x, cut_cut w y)
  alu_cuts And x y = simp (cut_cut w x, cut_cut w y)
  alu_cuts Lsh x y = simp (cut_cut w x, cut_keeps_count y)
  alu_cuts Rsh x y = simp (cut_cut w x, cut_keeps_count y)
  alu_cuts Neg x y = simp (cut_cut w x)
  alu_cuts Mod x y = simp (cut_cut w x, cut_cut w y)
  alu_cuts Xor x y = simp (cut_cut w x, cut_cut w y)
  alu_cuts Mov x y = simp (cut_cut w y)
  alu_cuts Arsh x y = simp (cut_cut w x, cut_keeps_count y)

  module _ (op : Operation) (a b p : Bits) (ga : Well 64 a) (gb : Well 64 b) where
    there : (z : ℕ) → Results w op a b z → Image w (alu w op) (low w a) (low w b) z
    there z i = (
      cut w i.0,
      cut w i.1,
      low_has_the_cuts w 64 ww.small a ga i.0 i.2,
      low_has_the_cuts w 64 ww.small b gb i.1 i.3,
      i.4 ∙ sym (alu_cuts op i.0 i.1),
    )

    back : (z : ℕ) → Image w (alu w op) (low w a) (low w b) z → Results w op a b z
    back z i =
        let s = low_has_only_cuts w 64 ww.small a ga i.0 i.2 in
        let u = low_has_only_cuts w 64 ww.small b gb i.1 i.3 in
        (s.0, u.0, s.1, u.1, i.4 ∙ ap₂ (alu w op) s.2 u.2 ∙ alu_cuts op s.0 u.0)

    pub sound_for_the_instruction : Sound 64 (Image w (alu w op) (low w a) (low w b)) p → Sound 64 (Results w op a b) p
    sound_for_the_instruction s = record { well = s.well; sound = λ z i. s.sound z (there z i) }

    pub best_for_the_instruction : Best w (Image w (alu w op) (low w a) (low w b)) p → Best 64 (Results w op a b) p
    best_for_the_instruction s =
        best_wider w 64 ww.small (Results w op a b) p _ (a.value, b.value, mem_least 64 a ga, mem_least 64 b gb, refl)
        (best_same_set w (Image w (alu w op) (low w a) (low w b)) (Results w op a b) p back there s)
