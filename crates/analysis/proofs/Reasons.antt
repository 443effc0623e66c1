-- Why an instruction is refused is what the sentences of `Promise` say: 7 before 9, and 9 before 8.
use mathlib.Core.Path.{◌≡◌, refl}
use mathlib.Core.Bool.{Bool, true, false, ◌||◌}
use mathlib.Core.Logic.{◌⊎◌, inl, inr}
use Prim.Native.Nat.{ℕ, ◌+◌}
use native.Mathlib.Omega.{arith}
use Rattle.word.specs.declared.Operation.{Operation}
use Rattle.word.specs.declared.Operation.TheVariants.{Add, Sub, Mov}
use Rattle.word.specs.declared.Operation.TheVariants as operation
use Rattle.word.specs.declared.Comparison.{Comparison}
use Rattle.machine.specs.declared.instruction.Width.{Width}
use Rattle.machine.specs.declared.instruction.Width.TheVariants.{Long, Short}
use Rattle.machine.specs.declared.instruction.Operand.{Operand}
use Rattle.machine.specs.declared.instruction.Instruction.TheVariants.{Alu}
use Rattle.machine.specs.Machine.{bits, bytes}
use Rattle.number.specs.Sharpen.{exact}
use Rattle.number.specs.Computed.{computed}
use Rattle.number.proofs.Laws.{fits_not}
use Rattle.analysis.specs.declared.Reason.TheVariants.{LeaksAddress}
use Rattle.analysis.specs.declared.Gone.TheVariants.{Never, Mixed}
use Rattle.analysis.specs.declared.Value.{Value}
use Rattle.analysis.specs.declared.Value.TheVariants.{Unusable, Plain, Address}
use Rattle.analysis.specs.declared.Effect.{Effect}
use Rattle.analysis.specs.declared.Effect.TheVariants.{Refuse}
use Rattle.analysis.specs.Values.{Facts, value_of, operand_of}
use Rattle.analysis.specs.Effects.{is_never, is_mixed, reading, reading_both, calculates, role, calculate, sum, difference, arithmetic, load, store_at, store, fork, exit, effect}
use Rattle.analysis.specs.Promise.{OfReading, Usable, IsAddress, OfRefusals}
use Rattle.analysis.proofs.Roles.{by_role}

-- ---- what may not be used
reading_refuses : (x : Value) (e : Effect) → OfReading x x (reading x e)
unfolding reading is_never is_mixed
reading_refuses x e =
    record { first_unset = λ p. rw p refl; second_unset = λ p. rw p refl; first_mixed = λ p n. rw p refl; second_mixed = λ p n. rw p refl }

or_never : (x : Value) → (is_never x || true) ≡ true
or_never x = go (is_never x)
  where
    go : (b : Bool) → (b || true) ≡ true
    go true = refl
    go false = refl

or_mixed : (x : Value) → (is_mixed x || true) ≡ true
or_mixed x = go (is_mixed x)
  where
    go : (b : Bool) → (b || true) ≡ true
    go true = refl
    go false = refl

not_never : (x : Value) → ¬ (x ≡ Unusable Never) → is_never x ≡ false
unfolding is_never
not_never (Unusable Never) n = absurd (n refl)
not_never (Unusable Mixed) n = refl
not_never (Plain a) n = refl
not_never (Address p a) n = refl

reading_both_refuses : (x y : Value) (e : Effect) → OfReading x y (reading_both x y e)
unfolding reading_both is_never is_mixed
reading_both_refuses x y e =
    record {
      first_unset = λ p. rw p refl;
      second_unset = λ p. rw (p, or_never x) refl;
      first_mixed = λ p n. rw (p, not_never y n) refl;
      second_mixed = λ p n. rw (p, not_never x n, or_mixed x) refl;
    }

module _ (R i : ℕ) (a : Facts) where
  calculating_reads : (w : Width) (op : Operation) (d : ℕ) (s : Operand) → ¬ (op ≡ Mov)
      → OfReading (value_of a d) (operand_of a s) (effect R i a (Alu w op d s))
  unfolding effect arithmetic
  calculating_reads w op d s n =
      by_role (λ v o r. ¬ (o ≡ Mov) → OfReading (value_of a d) (operand_of a s) (arithmetic r (bits v) o d (value_of a d) (operand_of a s)))
      (λ m. reading_both_refuses _ _ _) (λ m. reading_both_refuses _ _ _) (λ m. absurd (m refl)) (λ m. absurd (m refl))
      (λ v o e m. reading_both_refuses _ _ _) w op n

  moving_reads : (w : Width) (d : ℕ) (s : Operand) → OfReading (operand_of a s) (operand_of a s) (effect R i a (Alu w Mov d s))
  unfolding effect arithmetic role
  moving_reads Long d s = reading_refuses _ _
  moving_reads Short d s = reading_refuses _ _

-- ---- addresses
calculate_leaks : (w : ℕ) (op : Operation) (d : ℕ) (x y : Value) → Usable x → Usable y → IsAddress x ⊎ IsAddress y
    → arithmetic calculates w op d x y ≡ Refuse LeaksAddress
unfolding arithmetic reading_both is_never is_mixed calculate
calculate_leaks w op d (Unusable g) y u v h = absurd u
calculate_leaks w op d (Plain m) (Unusable g) u v h = absurd v
calculate_leaks w op d (Plain m) (Plain n) u v (inl h) = absurd h
calculate_leaks w op d (Plain m) (Plain n) u v (inr h) = absurd h
calculate_leaks w op d (Plain m) (Address q n) u v h = refl
calculate_leaks w op d (Address p m) (Unusable g) u v h = absurd v
calculate_leaks w op d (Address p m) (Plain n) u v h = refl
calculate_leaks w op d (Address p m) (Address q n) u v h = refl

sum_leaks : (d : ℕ) (x y : Value) → IsAddress x → IsAddress y → reading_both x y (sum d x y) ≡ Refuse LeaksAddress
unfolding reading_both is_never is_mixed sum
sum_leaks d (Unusable g) y h k = absurd h
sum_leaks d (Plain m) y h k = absurd h
sum_leaks d (Address p m) (Unusable g) h k = absurd k
sum_leaks d (Address p m) (Plain n) h k = absurd k
sum_leaks d (Address p m) (Address q n) h k = refl

difference_leaks : (d : ℕ) (x y : Value) → Usable x → IsAddress y → reading_both x y (difference d x y) ≡ Refuse LeaksAddress
unfolding reading_both is_never is_mixed difference
difference_leaks d (Unusable g) y h k = absurd h
difference_leaks d (Plain m) (Unusable g) h k = absurd k
difference_leaks d (Plain m) (Plain n) h k = absurd k
difference_leaks d (Plain m) (Address q n) h k = refl
difference_leaks d (Address p m) (Unusable g) h k = absurd k
difference_leaks d (Address p m) (Plain n) h k = absurd k
difference_leaks d (Address p m) (Address q n) h k = refl

one_leaks : (w : ℕ) (op : Operation) (d : ℕ) (x : Value) → IsAddress x → reading x (calculate w op d x x) ≡ Refuse LeaksAddress
unfolding reading is_never is_mixed calculate
one_leaks w op d (Unusable g) h = absurd h
one_leaks w op d (Plain m) h = absurd h
one_leaks w op d (Address p m) h = refl

exit_leaks : (x : Value) → IsAddress x → reading x (exit x) ≡ Refuse LeaksAddress
unfolding reading is_never is_mixed exit
exit_leaks (Unusable g) h = absurd h
exit_leaks (Plain m) h = absurd h
exit_leaks (Address p m) h = refl

fork_leaks : (w : Width) (c : Comparison) (d : ℕ) (s : Operand) (t : ℕ) (x y : Value) → Usable x → Usable y → IsAddress x ⊎ IsAddress y
    → reading_both x y (fork w c d s t x y) ≡ Refuse LeaksAddress
unfolding reading_both is_never is_mixed fork
fork_leaks w c d s t (Unusable g) y u v h = absurd u
fork_leaks w c d s t (Plain m) (Unusable g) u v h = absurd v
fork_leaks w c d s t (Plain m) (Plain n) u v (inl h) = absurd h
fork_leaks w c d s t (Plain m) (Plain n) u v (inr h) = absurd h
fork_leaks w c d s t (Plain m) (Address q n) u v h = refl
fork_leaks w c d s t (Address p m) (Unusable g) u v h = absurd v
fork_leaks w c d s t (Address p m) (Plain n) u v h = refl
fork_leaks w c d s t (Address p m) (Address q n) u v h = refl

store_leaks : (z off : ℕ) (x y : Value) → Usable x → IsAddress y → reading_both x y (store z off x y) ≡ Refuse LeaksAddress
unfolding reading_both is_never is_mixed store
store_leaks z off (Unusable g) y u h = absurd u
store_leaks z off (Plain m) (Unusable g) u h = absurd h
store_leaks z off (Plain m) (Plain n) u h = absurd h
store_leaks z off (Plain m) (Address q n) u h = refl
store_leaks z off (Address p m) (Unusable g) u h = absurd h
store_leaks z off (Address p m) (Plain n) u h = absurd h
store_leaks z off (Address p m) (Address q n) u h = refl

module _ (R i : ℕ) (a : Facts) where
  calculated_with : (w : Width) (op : Operation) (d : ℕ) (s : Operand) → ¬ (op ≡ Mov) → (w ≡ Short) ⊎ (¬ (op ≡ Add) × ¬ (op ≡ Sub))
      → Usable (value_of a d) → Usable (operand_of a s) → IsAddress (value_of a d) ⊎ IsAddress (operand_of a s)
      → effect R i a (Alu w op d s) ≡ Refuse LeaksAddress
  unfolding effect
  calculated_with w op d s =
      by_role (λ v o r. ¬ (o ≡ Mov) → (v ≡ Short) ⊎ (¬ (o ≡ Add) × ¬ (o ≡ Sub)) → Usable (value_of a d) → Usable (operand_of a s)
      → IsAddress (value_of a d) ⊎ IsAddress (operand_of a s) → arithmetic r (bits v) o d (value_of a d) (operand_of a s) ≡ Refuse LeaksAddress)
      (λ m h. absurd (neither h)) (λ m h. absurd (neither_sub h)) (λ m. absurd (m refl)) (λ m. absurd (m refl))
      (λ v o e m h. calculate_leaks (bits v) o d (value_of a d) (operand_of a s)) w op
    where
      long_short : Long ≡ Short → ⊥
      long_short e = let z : ◌≡◌ {A = ℕ} 0 1 = cc in omega arith

      neither : (Long ≡ Short) ⊎ (¬ (Add ≡ Add) × ¬ (Add ≡ Sub)) → ⊥
      neither (inl e) = long_short e
      neither (inr h) = h.0 refl

      neither_sub : (Long ≡ Short) ⊎ (¬ (Sub ≡ Add) × ¬ (Sub ≡ Sub)) → ⊥
      neither_sub (inl e) = long_short e
      neither_sub (inr h) = h.1 refl

  pub refusals_told : OfRefusals R i a
  unfolding effect arithmetic role load store store_at reading reading_both is_never is_mixed
  refusals_told =
      record {
        calculating_reads = calculating_reads R i a;
        moving_reads = moving_reads R i a;
        negating_reads = λ w d. reading_refuses _ _;
        jumping_reads = λ w c d s off. reading_both_refuses _ _ _;
        returning_reads = reading_refuses _ _;
        loading_reads = λ z d s off. reading_refuses _ _;
        storing_reads = λ z d off s. reading_both_refuses _ _ _;
        address_calculated_with = calculated_with;
        addresses_added = λ d s. sum_leaks d (value_of a d) (operand_of a s);
        address_subtracted = λ d s. difference_leaks d (value_of a d) (operand_of a s);
        address_cut = λ d s. one_leaks (bits Short) Mov d (operand_of a s);
        address_negated = λ w d. one_leaks (bits w) operation.Neg d (value_of a d);
        address_compared = λ w c d s off. fork_leaks w c d s (i + 1 + off) (value_of a d) (operand_of a s);
        address_returned = exit_leaks (value_of a 0);
        address_stored = λ z d off s. store_leaks (bytes z) off (value_of a d) (operand_of a s);
        load_at_number = λ z d s off x e. rw e refl;
        store_at_number = λ z d off s x n e f. rw (e, f) refl;
        store_into_record = λ z d off s o n e f. rw (e, f) refl;
        store_past_stack = λ z d off s o n e f l. rw (e, f, fits_not (computed 64 Add o (exact off)) (bytes z) 512 l) refl;
      }
