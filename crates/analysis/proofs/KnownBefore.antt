-- What the test for dead code knows before index i: all that leads there, and nothing that is not reached.
use mathlib.Core.Path.{◌≡◌, refl, sym, ◌∙◌, subst}
use mathlib.Core.Bool.{Bool, true, false, ◌||◌, true≢false}
use mathlib.Core.Logic.{◌⊎◌, inl, inr, ⊎_elim}
use mathlib.Core.List.{List}
use Prim.Native.Nat.{ℕ, ◌+◌, ◌≤◌, ◌<◌}
use native.Mathlib.Nat.{eq-or-lt_of_le}
use native.Mathlib.Omega.{arith}
use Rattle.std.specs.Prelude.{Some}
use Rattle.analysis.specs.Form.{instruction, off_of, goes_on, Reached, at_the_start, by_going_on, by_a_jump}
use Rattle.analysis.specs.Paths.{Targets, no_target, aimed}
use Rattle.analysis.proofs.Targets.{aimed_keeps, aimed_there, aimed_from}

pub record Known (program : List ℕ) (i : ℕ) (on : Bool) (t : Targets) : Type 0 where
  pub on_reached : on ≡ true → Reached program i
  pub target_reached : (x : ℕ) → t x ≡ true → Reached program x
  pub start_known : i ≡ 0 → on ≡ true
  pub step_known : (j : ℕ) → j + 1 ≡ i → goes_on (instruction program j) ≡ true → on ≡ true
  pub jump_known : (j off : ℕ) → j < i → off_of (instruction program j) ≡ Some off → t (j + 1 + off) ≡ true

pub known_at_start : (program : List ℕ) → Known program 0 true no_target
unfolding no_target
known_at_start program =
    record {
      on_reached = λ e. at_the_start;
      target_reached = λ x e. absurd (true≢false (sym e));
      start_known = λ e. refl;
      step_known = λ j e g. refl;
      jump_known = λ j off l e. absurd (omega arith);
    }

module _ (program : List ℕ) (i : ℕ) (on : Bool) (t : Targets) (known : Known program i on t) where
  pub met_reached : (on || t i) ≡ true → Reached program i
  met_reached h = go on refl h
    where
      go : (b : Bool) → on ≡ b → (b || t i) ≡ true → Reached program i
      go true e p = known.on_reached e
      go false e p = known.target_reached i p

  -- an index that is reached is met: what leads to it lies before it
  pub reached_met : Reached program i → (on || t i) ≡ true
  reached_met r = go on refl (last_step i r refl)
    where
      last_step : (x : ℕ) → Reached program x → x ≡ i → (on ≡ true) ⊎ (t i ≡ true)
      last_step x at_the_start e = inl (known.start_known (sym e))
      last_step x (by_going_on j q g) e = inl (known.step_known j e g)
      last_step x (by_a_jump j off q o) e = inr (subst (λ y. t y ≡ true) e (known.jump_known j off (omega arith) o))

      go : (b : Bool) → on ≡ b → (on ≡ true) ⊎ (t i ≡ true) → (b || t i) ≡ true
      go true e h = refl
      go false e (inl p) = absurd (true≢false (sym p ∙ e))
      go false e (inr p) = p

  pub known_after : Reached program i → Known program (i + 1) (goes_on (instruction program i)) (aimed i (off_of (instruction program i)) t)
  known_after r =
      record {
        on_reached = λ e. by_going_on i r e;
        target_reached = λ x e. ⊎_elim (known.target_reached x) (λ h. subst (Reached program) (sym h.2) (by_a_jump i h.0 r h.1)) (aimed_from i t _ x e);
        start_known = λ e. absurd (omega arith);
        step_known = λ j e g. subst (λ x. goes_on (instruction program x) ≡ true) (let s : j ≡ i = omega arith in s) g;
        jump_known = λ j off l e. ⊎_elim (λ (s : j ≡ i). subst (λ x. aimed i (off_of (instruction program i)) t (x + 1 + off) ≡ true) (sym s)
            (aimed_there i t _ off (subst (λ x. off_of (instruction program x) ≡ Some off) s e)))
            (λ (s : j < i). aimed_keeps i t _ _ (known.jump_known j off s e)) (eq-or-lt_of_le (let m : j ≤ i = omega arith in m));
      }
