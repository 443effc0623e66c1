-- What the formula of each operation promises, at either width: a sound pair, the best one where that is demanded, and the exact one for
-- exact operands.
use mathlib.Core.Bool.{true}
use mathlib.Core.Path.{◌≡◌, sym, ap, ap₂, ◌∙◌}
use mathlib.Core.Logic.{◌⊎◌}
use Prim.Native.Nat.{ℕ, ◌%◌, ◌^◌, ◌<◌}
use native.Mathlib.Nat.{zero-mod}
use lib.Bits.{bit_or}
use lib.Dec.{eqb}
use lib.Pow.{pow_pos}
use borrow.Author.Tests.{eq-eqb, ne_eqb, eqb-true, eqb-false}
use Rattle.word.specs.Word.{cut, alu}
use Rattle.word.specs.declared.Operation.{Operation}
use Rattle.word.specs.declared.Operation.TheVariants.{Add, Sub, Mul, Div, Or, And, Lsh, Rsh, Neg, Mod, Xor, Mov, Arsh}
use Rattle.word.proofs.Cut.{cut_below, cut_small}
use Rattle.known_bits.specs.declared.Bits.{Bits}
use Rattle.known_bits.specs.declared.Shift.{Shift}
use Rattle.known_bits.specs.declared.Shift.TheVariants.{Left, Right, Signed}
use Rattle.known_bits.specs.Computed.{Demanded, Computed}
use Rattle.known_bits.specs.Formula.{low, known, product, quotient, rest, single, shifted_unknown, shifted, formula, calculated}
use Rattle.known_bits.specs.KnownBits.{Well, Sound, Best, Results}
use Rattle.known_bits.specs.Pair.{exactly}
use Rattle.known_bits.specs.Shift.{operation}
use Rattle.known_bits.proofs.Base.{by_cases}
use Rattle.known_bits.proofs.ByCount.{Counts, lsh_counts, rsh_counts, arsh_counts, known_count_best, one_of_two_counts_best}
use Rattle.known_bits.proofs.Class4.{Width, width, low_well, sound_wider, cut_keeps_count, alu_cuts, sound_for_the_instruction, best_for_the_instruction}
use Rattle.known_bits.proofs.CountLaws.{lsh_unknown_sound, rsh_unknown_sound, arsh_unknown_sound}
use Rattle.known_bits.proofs.Exact.{exact_well, best_is_exact}
use Rattle.known_bits.proofs.Laws.{best_sound}
use Rattle.known_bits.proofs.Methods.{Image}
use Rattle.known_bits.proofs.Negation.{neg_best}
use Rattle.known_bits.proofs.Operations.{add_best, sub_best, and_best, or_best, xor_best, mov_best}
use Rattle.known_bits.proofs.ProductLaws.{exact_product_is, product_sound}
use Rattle.known_bits.proofs.QuotientLaws.{div_at_64, mod_at_64, quotient_sound, rest_sound}

-- the promise for pairs of w bits
pub record Formed (w : ℕ) (op : Operation) (a b r : Bits) : Type 0 where
  pub sound : Well w a → Well w b → Sound 64 (Image w (alu w op) a b) r
  pub best : Demanded w op b → Well w a → Well w b → Best w (Image w (alu w op) a b) r
  pub exact : a.value < 2 ^ w → b.value < 2 ^ w → a.mask ≡ 0 → b.mask ≡ 0 → r ≡ exactly (alu w op a.value b.value)

module _ (w : ℕ) (ww : Width w) (op : Operation) (a b r : Bits) where
  wide_sound : Best w (Image w (alu w op) a b) r → Sound 64 (Image w (alu w op) a b) r
  wide_sound h = sound_wider w 64 ww.small _ _ (best_sound w _ _ h)

  best_formed : (Well w a → Well w b → Best w (Image w (alu w op) a b) r) → Formed w op a b r
  best_formed best =
      record {
        sound = λ ga gb. wide_sound (best ga gb);
        best = λ d. best;
        exact = λ ha hb za zb. let ga = exact_well w a ha za in let gb = exact_well w b hb zb in best_is_exact w op a b ga gb za zb r (best ga gb);
      }

-- ---- shifts
module _ (w : ℕ) (ww : Width w) (op : Operation) (h : Counts w op) (a b : Bits) where
  shifted_by_known_best : b.mask % w ≡ 0 → Well w a → Well w b → Best w (Image w (alu w op) a b) (shifted w op a b)
  unfolding shifted
  shifted_by_known_best z ga gb = simp (eq-eqb _ _ z) (known_count_best w ww op h a b ga gb z)

  shifted_by_one_of_two_best : ¬ (b.mask % w ≡ 0) → single (b.mask % w) ≡ true → Well w a → Well w b
      → Best w (Image w (alu w op) a b) (shifted w op a b)
  unfolding shifted
  shifted_by_one_of_two_best n s ga gb = simp (ne_eqb _ _ n, s) (one_of_two_counts_best w ww op h a b ga gb n s)

  shift_formed : (Demanded w op b → b.mask % w ≡ 0)
      → (Well w a → Well w b → Sound 64 (Image w (alu w op) a b) (shifted_unknown w op a b)) → Formed w op a b (shifted w op a b)
  unfolding shifted
  shift_formed demands unknown =
      record {
        sound = λ ga gb. by_cases (λ (r : Bits). Sound 64 (Image w (alu w op) a b) r) (eqb (b.mask % w) 0)
            (λ e. wide_sound w ww op a b _ (known_count_best w ww op h a b ga gb (eqb-true _ _ e)))
            (λ e. by_cases (λ (r : Bits). Sound 64 (Image w (alu w op) a b) r) (single (b.mask % w))
            (λ i. wide_sound w ww op a b _ (one_of_two_counts_best w ww op h a b ga gb (eqb-false _ _ e) i)) (λ i. unknown ga gb));
        best = λ d. shifted_by_known_best (demands d);
        exact = λ ha hb za zb.
            let ga = exact_well w a ha za in
            let gb = exact_well w b hb zb in
            best_is_exact w op a b ga gb za zb (shifted w op a b) (shifted_by_known_best (ap (λ (m : ℕ). m % w) zb ∙ zero-mod w) ga gb);
      }

module _ (w : ℕ) (ww : Width w) (a b : Bits) where
  lsh_formed : Formed w Lsh a b (formula w Lsh a b)
  unfolding formula
  lsh_formed = shift_formed w ww Lsh (lsh_counts w) a b (λ d. d) (lsh_unknown_sound w ww a b)

  rsh_formed : Formed w Rsh a b (formula w Rsh a b)
  unfolding formula
  rsh_formed = shift_formed w ww Rsh (rsh_counts w) a b (λ d. d) (rsh_unknown_sound w ww a b)

  arsh_formed : Formed w Arsh a b (formula w Arsh a b)
  unfolding formula
  arsh_formed = shift_formed w ww Arsh (arsh_counts w) a b (λ d. d) (arsh_unknown_sound w ww a b)

-- ---- products, quotients and rests
module _ (w : ℕ) (ww : Width w) (a b : Bits) where
  known_is : a.mask ≡ 0 → b.mask ≡ 0 → known a b ≡ true
  unfolding known
  known_is za zb = eq-eqb _ _ (ap₂ bit_or za zb)

  mul_formed : Formed w Mul a b (low w (product a b))
  unfolding product
  mul_formed =
      record {
        sound = product_sound w ww.small a b;
        best = λ d. absurd d;
        exact = λ ha hb za zb. simp (known_is za zb) (exact_product_is w ww.small a.value b.value);
      }

  div_formed : Formed w Div a b (quotient a b)
  unfolding quotient
  div_formed =
      record {
        sound = quotient_sound w ww.small a b;
        best = λ d. absurd d;
        exact = λ ha hb za zb. simp (known_is za zb) (ap exactly (div_at_64 w ww.small a.value b.value ha hb));
      }

  mod_formed : Formed w Mod a b (rest a b)
  unfolding rest
  mod_formed =
      record {
        sound = rest_sound w ww.small a b;
        best = λ d. absurd d;
        exact = λ ha hb za zb. simp (known_is za zb) (ap exactly (mod_at_64 w ww.small a.value b.value ha hb));
      }

-- ---- every operation
pub formula_formed : (w : ℕ) → Width w → (op : Operation) (a b : Bits) → Formed w op a b (formula w op a b)
unfolding formula
formula_formed w ww Add a b = best_formed w ww Add a b _ (add_best w a b)
formula_formed w ww Sub a b = best_formed w ww Sub a b _ (sub_best w a b)
formula_formed w ww Mul a b = mul_formed w ww a b
formula_formed w ww Div a b = div_formed w ww a b
formula_formed w ww Or a b = best_formed w ww Or a b _ (or_best w a b)
formula_formed w ww And a b = best_formed w ww And a b _ (and_best w a b)
formula_formed w ww Lsh a b = lsh_formed w ww a b
formula_formed w ww Rsh a b = rsh_formed w ww a b
formula_formed w ww Neg a b = best_formed w ww Neg a b _ (neg_best w a b)
formula_formed w ww Mod a b = mod_formed w ww a b
formula_formed w ww Xor a b = best_formed w ww Xor a b _ (xor_best w a b)
formula_formed w ww Mov a b = best_formed w ww Mov a b _ (mov_best w a b)
formula_formed w ww Arsh a b = arsh_formed w ww a b

-- ---- of the instruction, which cuts its operands
module _ (w : ℕ) (ww : Width w) (b : Bits) where
  count_of_low : (low w b).mask % w ≡ b.mask % w
  unfolding low
  count_of_low = cut_keeps_count w ww b.mask

  demanded_of_low : (op : Operation) → Demanded w op b → Demanded w op (low w b)
  demanded_of_low Add d = d
  demanded_of_low Sub d = d
  demanded_of_low Mul d = d
  demanded_of_low Div d = d
  demanded_of_low Or d = d
  demanded_of_low And d = d
  demanded_of_low Lsh d = count_of_low ∙ d
  demanded_of_low Rsh d = count_of_low ∙ d
  demanded_of_low Neg d = d
  demanded_of_low Mod d = d
  demanded_of_low Xor d = d
  demanded_of_low Mov d = d
  demanded_of_low Arsh d = count_of_low ∙ d

pub calculated_at_width : (w : ℕ) → Width w → (op : Operation) (a b : Bits) → Computed w op a b (calculated w op a b)
unfolding calculated low
calculated_at_width w ww op a b =
    record {
      sound = λ ga gb. sound_for_the_instruction w ww op a b _ ga gb (f.sound (cut_form a ga) (cut_form b gb));
      best = λ d ga gb. best_for_the_instruction w ww op a b _ ga gb (f.best (demanded_of_low w ww b op d) (cut_form a ga) (cut_form b gb));
      exact = λ za zb. f.exact (cut_below w a.value) (cut_below w b.value) (none za) (none zb)
          ∙ ap exactly (alu_cuts w ww op a.value b.value);
    }
  where
    f : Formed w op (low w a) (low w b) (formula w op (low w a) (low w b))
    f = formula_formed w ww op (low w a) (low w b)

    cut_form : (p : Bits) → Well 64 p → Well w (low w p)
    cut_form p g = low_well w 64 ww.small p g

    none : {m : ℕ} → m ≡ 0 → cut w m ≡ 0
    none z = ap (cut w) z ∙ cut_small w (pow_pos w)

pub calculated_computed : (w : ℕ) → (w ≡ 64) ⊎ (w ≡ 32) → (op : Operation) (a b : Bits) → Computed w op a b (calculated w op a b)
calculated_computed w either op a b = calculated_at_width w (width w either) op a b

-- more than is demanded: the best pair too where all but one of the low bits of a count are known
pub one_of_two_best : (w : ℕ) → (w ≡ 64) ⊎ (w ≡ 32) → (shift : Shift) (a b : Bits) → Well 64 a → Well 64 b
    → ¬ (b.mask % w ≡ 0) → single (b.mask % w) ≡ true → Best 64 (Results w (operation shift) a b) (calculated w (operation shift) a b)
unfolding calculated formula operation
one_of_two_best w either shift a b ga gb n s = go shift
  where
    ww : Width w
    ww = width w either

    best : (op : Operation) → Counts w op → Best 64 (Results w op a b) (shifted w op (low w a) (low w b))
    best op h =
        best_for_the_instruction w ww op a b _ ga gb
        (shifted_by_one_of_two_best w ww op h (low w a) (low w b) (λ e. n (sym (count_of_low w ww b) ∙ e)) (ap single (count_of_low w ww b) ∙ s)
        (low_well w 64 ww.small a ga) (low_well w 64 ww.small b gb))

    go : (k : Shift) → Best 64 (Results w (operation k) a b) (calculated w (operation k) a b)
    go Left = best Lsh (lsh_counts w)
    go Right = best Rsh (rsh_counts w)
    go Signed = best Arsh (arsh_counts w)
