-- Values that are one number: what their words are, what is calculated of two of them, and which way a jump on them goes.
use mathlib.Core.Path.{◌≡◌, refl, sym, ap, subst, ◌∙◌}
use mathlib.Core.Logic.{◌⊎◌, inl, inr}
use mathlib.Core.Bool.{Bool, true, false, cond}
use mathlib.Core.List.{List}
use Prim.Native.Nat.{ℕ, ◌+◌, ◌^◌, ◌<◌}
use Rattle.std.specs.Prelude.{Option, Some, None}
use Rattle.word.specs.declared.Operation.{Operation}
use Rattle.word.specs.declared.Operation.TheVariants.{Add, Sub, Mov}
use Rattle.word.specs.declared.Comparison.{Comparison}
use Rattle.word.specs.Word.{alu, compare}
use Rattle.word.proofs.Cut.{cut_64}
use Rattle.machine.specs.declared.instruction.Width.{Width}
use Rattle.machine.specs.declared.instruction.Operand.{Operand}
use Rattle.machine.specs.declared.instruction.Operand.TheVariants.{Immediate, Register}
use Rattle.machine.specs.Machine.{bits}
use Rattle.number.specs.declared.Number.{Number}
use Rattle.number.specs.Refined.{Refined}
use Rattle.number.specs.Sharpen.{exact}
use Rattle.number.specs.Computed.{computed}
use Rattle.number.proofs.Computing.{computed_exact}
use Rattle.analysis.proofs.Told.{told_exact, told_exact_excluded}
use Rattle.analysis.specs.declared.Value.{Value}
use Rattle.analysis.specs.declared.Value.TheVariants.{Plain}
use Rattle.analysis.specs.declared.Effect.{Effect}
use Rattle.analysis.specs.Values.{Facts, value_of, operand_of}
use Rattle.analysis.specs.Effects.{is_never, is_mixed, reading, reading_both, put, role, calculate, sum, difference, arithmetic, told, fork}
use Rattle.analysis.specs.Judged.{Waiting, Progress, halted, onward, having, with_operand, along, apply, send, and_then, distribute}
use Rattle.analysis.proofs.ExactEffects.{set_get}
use Rattle.analysis.proofs.Roles.{by_role}
use Rattle.analysis.proofs.Sound.{wide}
use Rattle.waiting.specs.declared.value.Held.{Held}
use Rattle.waiting.specs.State.{held_in, facts_at, AreSingle}
use Rattle.waiting.specs.Store.{waiting_in}
use Rattle.verifier.specs.Sending.{Step, Sent}
use Rattle.waiting.specs.Layout.{state_of}

pub both_are_told : {r : Option (ℕ × ℕ)} {u v : Value} (x y : ℕ) → r ≡ Some (x, y) → AreSingle r u v → (u ≡ Plain (exact x)) × (v ≡ Plain (exact y))
both_are_told {r} {u} {v} x y e h = subst (λ s. AreSingle s u v) e h

-- ---- what is calculated of two

module _ (d x y : ℕ) (hx : x < 2 ^ 64) (hy : y < 2 ^ 64) where
  calculated : (w : ℕ) → (w ≡ 64) ⊎ (w ≡ 32) → (op : Operation) → put d (Plain (computed w op (exact x) (exact y))) ≡ put d (Plain (exact (alu w op x y)))
  calculated w wide op = ap (λ n. put d (Plain n)) (computed_exact w wide op x y hx hy)

  pub known_numbers_are_calculated : (width : Width) (op : Operation)
      → arithmetic (role width op) (bits width) op d (Plain (exact x)) (Plain (exact y)) ≡ put d (Plain (exact (alu (bits width) op x y)))
  unfolding arithmetic bits reading reading_both is_never is_mixed calculate sum difference alu
  known_numbers_are_calculated =
      by_role (λ v o r. arithmetic r (bits v) o d (Plain (exact x)) (Plain (exact y)) ≡ put d (Plain (exact (alu (bits v) o x y))))
      (calculated 64 (inl refl) Add) (calculated 64 (inl refl) Sub) (ap (λ z. put d (Plain (exact z))) (sym (cut_64 hy)))
      (ap (λ n. put d (Plain n)) (computed_exact 32 (inr refl) Mov y y hy hy)) (λ v o e. calculated (bits v) (wide v) o)

  pub what_words_make : (width : Width) (op : Operation) (u v : Value) (z : ℕ) (n : Number) (h : Held) (e : Effect) → u ≡ Plain (exact x) → v ≡ Plain (exact y)
      → z ≡ alu (bits width) op x y → n ≡ exact z → held_in h ≡ Plain n → e ≡ put d (held_in h) → e ≡ arithmetic (role width op) (bits width) op d u v
  what_words_make width op u v z n h e is_u is_v is-z is-n is-h is-e =
      rw (is_u, is_v) (is-e ∙ ap (put d) (is-h ∙ ap Plain (is-n ∙ ap exact is-z)) ∙ sym (known_numbers_are_calculated width op))

-- ---- which way a jump goes

nothing_is_changed : (a : Facts) (d x : ℕ) → value_of a d ≡ Plain (exact x) → having a d (Plain (exact x)) ≡ a
unfolding having value_of
nothing_is_changed a d x e = ap (λ rs. record { registers = rs }) (set_get a.registers d _ (Plain (exact x)) e)

no_operand_is_changed : (a : Facts) (s : Operand) (y : ℕ) → operand_of a s ≡ Plain (exact y) → with_operand a s (Plain (exact y)) ≡ a
unfolding with_operand operand_of
no_operand_is_changed a (Immediate n) y e = refl
no_operand_is_changed a (Register r) y e = nothing_is_changed a r y e

no_second_way : (n j : ℕ) (x : Progress) → and_then x (send n j None) ≡ x
unfolding and_then send
no_second_way n j (halted reason p work) = refl
no_second_way n j (onward p work) = refl

module _ (n i work : ℕ) (p : Waiting) (a : Facts) (w : Width) (c : Comparison) (d : ℕ) (s : Operand) (target x y : ℕ) (is_x : value_of a d ≡ Plain (exact x))
    (is_y : operand_of a s ≡ Plain (exact y)) (hx : x < 2 ^ 64) (hy : y < 2 ^ 64) where
  goes_as_it_is : (way : Refined) → way ≡ Some (exact x, exact y) → along a d s way ≡ Some a
  unfolding along
  goes_as_it_is way e = rw (e, nothing_is_changed a d x is_x, no_operand_is_changed a s y is_y)

  does_not_go : (way : Refined) → way ≡ None → along a d s way ≡ None
  unfolding along
  does_not_go way e = rw e

  ways : (onward' taken' : Refined) → onward' ≡ told w c false (exact x) (exact y) → taken' ≡ told w c true (exact x) (exact y)
      → distribute n i p work (apply a (reading_both (value_of a d) (operand_of a s) (fork w c d s target (value_of a d) (operand_of a s))))
      ≡ and_then (send n (i + 1) (along a d s onward') p work) (send n target (along a d s taken'))
  unfolding distribute apply reading_both is_never is_mixed fork
  ways onward' taken' o t = rw (is_x, is_y, o, t)

  a_decided_jump : (b : Bool) → b ≡ compare (bits w) c x y
      → distribute n i p work (apply a (reading_both (value_of a d) (operand_of a s) (fork w c d s target (value_of a d) (operand_of a s))))
      ≡ send n (cond b target (i + 1)) (Some a) p work
  unfolding send and_then
  a_decided_jump true e =
      ways _ _ refl refl
      ∙ rw (does_not_go _ (told_exact_excluded w c false x y hx hy (sym e)), goes_as_it_is _ (told_exact w c true x y hx hy (sym e)))
  a_decided_jump false e =
      ways _ _ refl refl
      ∙ rw (goes_as_it_is _ (told_exact w c false x y hx hy (sym e)), does_not_go _ (told_exact_excluded w c true x y hx hy (sym e)))
      (no_second_way n target (send n (i + 1) (Some a) p work))

-- the jump's own statement, where the state is that of index i
pub a_decided_jump_is_sent : (n i work : ℕ) (m m' : List ℕ) (w : Width) (c : Comparison) (d : ℕ) (s : Operand) (target x y : ℕ) (b : Bool) (r : Step)
    → (value_of (facts_at m (state_of i)) d ≡ Plain (exact x)) × (operand_of (facts_at m (state_of i)) s ≡ Plain (exact y)) → b ≡ compare (bits w) c x y
    → Sent (send n (cond b target (i + 1)) (Some (facts_at m (state_of i))) (waiting_in n m) work) n i r m m' → x < 2 ^ 64 → y < 2 ^ 64
    → Sent (distribute n i (waiting_in n m) work (apply (facts_at m (state_of i)) (reading_both (value_of (facts_at m (state_of i)) d) (operand_of (facts_at m (state_of i)) s)
    (fork w c d s target (value_of (facts_at m (state_of i)) d) (operand_of (facts_at m (state_of i)) s))))) n i r m m'
a_decided_jump_is_sent n i work m m' w c d s target x y b r known goes sent hx hy =
    subst (λ p. Sent p n i r m m') (sym (a_decided_jump n i work (waiting_in n m) (facts_at m (state_of i)) w c d s target x y known.0 known.1 hx hy b goes)) sent
