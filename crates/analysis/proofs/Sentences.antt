-- What one instruction and one way out tell is what the sentences of `Promise` say: a definition that forgets more makes one of them false.
use mathlib.Core.Path.{◌≡◌, refl, sym, ap, ◌∙◌, subst}
use mathlib.Core.Bool.{false}
use mathlib.Core.List.{List, [], ◌∷◌}
use Prim.Native.Nat.{ℕ, zero, suc, ◌+◌, ◌^◌, ◌<◌}
use native.Mathlib.Omega.{arith}
use lib.ListN.{length, get_or, length-set}
use lib.Seq.{get_or-set_same, get_or-set_other}
use lib.Dec.{eqb}
use borrow.Author.Tests.{leb-true, le-leb}
use Rattle.std.specs.Prelude.{Some}
use Rattle.word.specs.declared.Operation.{Operation}
use Rattle.word.specs.declared.Operation.TheVariants.{Add, Mov}
use Rattle.machine.specs.declared.instruction.Width.{Width}
use Rattle.machine.specs.declared.instruction.Operand.{Operand}
use Rattle.machine.specs.declared.instruction.Operand.TheVariants.{Immediate, Register}
use Rattle.machine.specs.declared.instruction.Size.{Size}
use Rattle.machine.specs.declared.instruction.Instruction.TheVariants.{Alu}
use Rattle.machine.specs.Machine.{bits, bytes}
use Rattle.number.specs.declared.Number.{Number}
use Rattle.number.specs.Sharpen.{exact, joined_number}
use Rattle.number.specs.Computed.{computed}
use Rattle.number.proofs.Laws.{fits_exactly, fits_not, all_demanded}
use Rattle.analysis.specs.declared.Region.{Region}
use Rattle.analysis.specs.declared.Region.TheVariants.{Record, Stack}
use Rattle.analysis.specs.declared.Gone.TheVariants.{Never, Mixed}
use Rattle.analysis.specs.declared.Value.{Value}
use Rattle.analysis.specs.declared.Value.TheVariants.{Unusable, Plain, Address}
use Rattle.analysis.specs.declared.Effect.TheVariants.{Put}
use Rattle.analysis.specs.Values.{Facts, value_of, operand_of, start_facts, same_region, joined_gone, joined_value, joined_values, joined_facts}
use Rattle.analysis.specs.Effects.{is_never, is_mixed, reading, reading_both, put, role, calculate, sum, difference, arithmetic, limit, load, store_at, store, told, fork, exit, effect}
use Rattle.analysis.specs.Form.{reason_number, instruction, off_of, goes_back, goes_out, may_be_last, goes_on}
use Rattle.analysis.specs.Judged.{on_values, having, with_operand, along, apply}
use Rattle.analysis.specs.Promise.{known, WayOut, OfForm, OfArithmetic, OfMemory, OfWays, OfRegisters, Sentences}
use Rattle.analysis.proofs.Roles.{by_role}
use Rattle.analysis.proofs.Literal.{along_possible, along_excluded}
use Rattle.analysis.proofs.Reasons.{refusals_told}
use Rattle.analysis.proofs.Eleven.{Eleven, known_eleven}

-- ---- form
form_told : OfForm
unfolding instruction off_of goes_on may_be_last goes_back goes_out reason_number on_values
form_told =
    record {
      decoded = λ program i. refl;
      conditional_jumps = λ w c d s off. (refl, refl, refl);
      always_jumps = λ off. (refl, refl, refl);
      exit_ends = (refl, refl, refl);
      calculation_goes_on = λ w op d s. (refl, refl, refl);
      negation_goes_on = λ w d. (refl, refl, refl);
      load_goes_on = λ z d s off. (refl, refl, refl);
      store_goes_on = λ z d off s. (refl, refl, refl);
      back = λ off. (leb-true (2 ^ 63) off, le-leb (2 ^ 63) off);
      out = λ n i off. (leb-true n (i + 1 + off), le-leb n (i + 1 + off));
      nowhere = λ n i. (refl, refl);
      numbers_of_form = (refl, refl, refl, refl, refl, refl, refl);
      numbers_of_values = (refl, refl, refl);
      for_values = (refl, refl, refl);
    }

-- ---- arithmetic
calculation_told : (R i : ℕ) (a : Facts) (d : ℕ) (s : Operand) → eqb d 10 ≡ false → (w : Width) (op : Operation) (x y : Number) → ¬ (op ≡ Mov)
    → value_of a d ≡ Plain x → operand_of a s ≡ Plain y → effect R i a (Alu w op d s) ≡ Put d (Plain (computed (bits w) op x y))
unfolding effect arithmetic reading_both is_never is_mixed calculate sum difference put bits
calculation_told R i a d s keeps w op x y n p q =
    by_role (λ v o r. ¬ (o ≡ Mov) → arithmetic r (bits v) o d (value_of a d) (operand_of a s) ≡ Put d (Plain (computed (bits v) o x y)))
    (λ m. rw (p, q, keeps) refl) (λ m. rw (p, q, keeps) refl) (λ m. absurd (m refl)) (λ m. absurd (m refl)) (λ v o e m. rw (p, q, keeps) refl) w op n

arithmetic_told : (R i : ℕ) (a : Facts) (d : ℕ) (s : Operand) → eqb d 10 ≡ false → OfArithmetic R i a d s
unfolding effect arithmetic role reading reading_both is_never is_mixed calculate sum difference put bits
arithmetic_told R i a d s keeps =
    record {
      calculates = calculation_told R i a d s keeps;
      moves = λ y q. rw (q, keeps) refl;
      moves_low = λ y q. rw (q, keeps) refl;
      negates = λ w x p. rw (p, keeps) refl;
      address_plus_number = λ p o n e f. rw (e, f, keeps) refl;
      number_plus_address = λ p o n e f. rw (e, f, keeps) refl;
      address_less_number = λ p o n e f. rw (e, f, keeps) refl;
      address_moves = λ p o f. rw (f, keeps) refl;
    }

-- ---- memory
memory_told : (R i : ℕ) (a : Facts) (z : Size) (o : Number) (off : ℕ) → OfMemory R i a z o off
unfolding effect reading reading_both is_never is_mixed load put limit store store_at
memory_told R i a z o off =
    let n = computed 64 Add o (exact off) in
    record {
      load_of_record = λ d s k e f. rw (e, (fits_exactly n (bytes z) R).1 f, k) refl;
      load_past_record = λ d s e f. rw (e, fits_not n (bytes z) R f) refl;
      load_of_stack = λ d s k e f. rw (e, (fits_exactly n (bytes z) 512).1 f, k) refl;
      load_past_stack = λ d s e f. rw (e, fits_not n (bytes z) 512 f) refl;
      store_into_stack = λ d s m e g f. rw (e, g, (fits_exactly n (bytes z) 512).1 f) refl;
    }

-- ---- registers
-- a register that is written holds the value, and every other what it held
having_written : (a : Facts) (d : ℕ) (v : Value) → d < length a.registers → value_of (having a d v) d ≡ v
unfolding value_of having
having_written a d v l = get_or-set_same a.registers d v (Unusable Never) l

having_others : (a : Facts) (d r : ℕ) (v : Value) → (r ≡ d → ⊥) → value_of (having a d v) r ≡ value_of a r
unfolding value_of having
having_others a d r v h = get_or-set_other a.registers d r v (Unusable Never) h

-- register by register
joined_values_at : (us vs : List Value) (r : ℕ) → length us ≡ length vs → get_or (joined_values us vs) r (Unusable Never) ≡ joined_value (get_or us r (Unusable Never)) (get_or vs r (Unusable Never))
unfolding joined_values joined_value joined_gone
joined_values_at [] [] r e = refl
joined_values_at [] (v ∷ vs) r e = absurd (omega arith)
joined_values_at (u ∷ us) [] r e = absurd (omega arith)
joined_values_at (u ∷ us) (v ∷ vs) zero e = refl
joined_values_at (u ∷ us) (v ∷ vs) (suc r) e = joined_values_at us vs r (omega arith)

registers_told : (a : Facts) → OfRegisters a
unfolding value_of operand_of joined_facts joined_value joined_gone same_region
registers_told a =
    record {
      written = having_written a;
      others = having_others a;
      immediate_is_exact = λ n. refl;
      register_as_known = λ r. refl;
      joins = λ b e r. joined_values_at a.registers b.registers r e;
      numbers_join = λ x y. refl;
      offsets_join = same;
      unset_joins = unset;
      mixed_joins = mixed;
      kinds_mix = λ p x y. (refl, refl);
      regions_mix = λ x y. (refl, refl);
    }
  where
    unset : (v : Value) → (joined_value (Unusable Never) v ≡ Unusable Never) × (joined_value v (Unusable Never) ≡ Unusable Never)
    unset (Unusable Never) = (refl, refl)
    unset (Unusable Mixed) = (refl, refl)
    unset (Plain x) = (refl, refl)
    unset (Address p x) = (refl, refl)

    mixed : (v : Value) → ¬ (v ≡ Unusable Never)
        → (joined_value (Unusable Mixed) v ≡ Unusable Mixed) × (joined_value v (Unusable Mixed) ≡ Unusable Mixed)
    mixed (Unusable Never) n = absurd (n refl)
    mixed (Unusable Mixed) n = (refl, refl)
    mixed (Plain x) n = (refl, refl)
    mixed (Address p x) n = (refl, refl)

    same : (p : Region) (x y : Number) → joined_value (Address p x) (Address p y) ≡ Address p (joined_number x y)
    same Record x y = refl
    same Stack x y = refl

-- ---- ways
-- a way out of a jump that is possible
way_out : (a : Facts) (d : ℕ) (s : Operand) (x y : Number) → WayOut a d s x y (along a d s (Some (x, y)))
unfolding with_operand having
way_out a d (Immediate n) x y = record {
  facts = having a d (Plain x);
  followed_on = along_possible a d (Immediate n) x y;
  others = λ r h k. having_others a d r (Plain x) h;
  second = λ r e l. let z : ◌≡◌ {A = ℕ} 0 1 = cc in absurd (omega arith);
  first = λ l k. having_written a d (Plain x) l;
  as_many = simp length-set;
}
way_out a d (Register t) x y = record {
  facts = having (having a d (Plain x)) t (Plain y);
  followed_on = along_possible a d (Register t) x y;
  others = λ r h k. having_others (having a d (Plain x)) t r (Plain y) (λ e. k (ap Register (sym e))) ∙ having_others a d r (Plain x) h;
  second = λ r e l. let q : t ≡ r = cc in subst (λ u. value_of (having (having a d (Plain x)) t (Plain y)) u ≡ Plain y) q
      (having_written (having a d (Plain x)) t (Plain y) (simp length-set (rw q l)));
  first = λ l k. having_others (having a d (Plain x)) t d (Plain y) (λ e. k (ap Register (sym e))) ∙ having_written a d (Plain x) l;
  as_many = simp length-set;
}

ways_told : (R i : ℕ) (a : Facts) → OfWays R i a
unfolding apply effect reading reading_both is_never is_mixed exit fork told
ways_told R i a =
    record {
      put_flows = λ d v. refl;
      keep_flows = refl;
      stop_flows = refl;
      goto_flows = λ off. refl;
      number_may_be_returned = λ x e. rw e refl;
      jump_flows = λ w c d s off x y p q. rw (p, q) refl;
      told_long = λ c way x y. refl;
      told_short = λ c way x y. refl;
      excluded_not_followed = along_excluded a;
      possible_followed = way_out a;
    }

-- ---- all sentences
pub sentences_told : Sentences
unfolding value_of start_facts known
sentences_told =
    record {
      form = form_told;
      arithmetic = arithmetic_told;
      memory = memory_told;
      refusals = refusals_told;
      ways = ways_told;
      registers = registers_told;
      r1_is_the_record = refl;
      r10_is_the_end_of_the_stack = refl;
      eleven = λ program R j a e. subst Eleven e (known_eleven program R j j);
      numbers = all_demanded;
    }
