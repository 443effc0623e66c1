-- A layout-free run to a verdict is the run of the interpreter's definition under every layout and with every budget, and what is left of it
-- does not depend on the layout.
use mathlib.Core.Path.{◌≡◌, refl, sym, ap, ◌∙◌, subst}
use mathlib.Core.Bool.{Bool, true, false, cond}
use mathlib.Core.List.{List, [], ◌∷◌}
use Prim.Native.Nat.{ℕ, zero, suc, ◌+◌, ◌/◌, ◌%◌, ◌^◌, ◌<◌}
use native.Mathlib.Nat.{mod-eq_of_lt}
use native.Mathlib.Omega.{arith}
use lib.ListN.{length, replicate}
use lib.Dec.{leb}
use borrow.Author.Tests.{leb-true, leb-false, le-leb, lt-leb}
use Rattle.machine.specs.declared.outcome.Outcome.{Outcome}
use Rattle.machine.specs.declared.outcome.Outcome.TheVariants.{Verdict, Budget}
use Rattle.machine.specs.Machine.{World, Unset, Holds, obey, step, next, runs, start}
use Rattle.analysis.specs.Form.{instruction}
use Rattle.analysis.proofs.LayoutFree.{Config, after, Comes, at_once, later, start_config}
use Rattle.analysis.proofs.Simulation.{concrete, Same, Apart, free_same}
use Rattle.analysis.proofs.StackSize.{Keeps, free_keeps}

module _ (program : List ℕ) (w : World) (ok : Apart w) where
  stepped : (c : Config) → c.index < length program / 8 → step program w (concrete w c) ≡ obey w (concrete w c) (instruction program c.index)
  unfolding step instruction
  stepped c l = rw (lt-leb (length program / 8) c.index l) refl

  -- what a run of k steps to the verdict v answers with a budget of b, after n steps
  abbrev pub answered : ℕ → ℕ → ℕ → ℕ → Outcome
  answered v k n b = cond (leb k b) (Verdict v (n + k)) (Budget (n + b))

  spent : (v k n : ℕ) → answered v (suc k) n 0 ≡ Budget n
  spent v k n = rw (lt-leb (suc k) 0 (omega arith)) (ap Budget (omega arith))

  ended : (v n b : ℕ) → answered v 1 n (suc b) ≡ Verdict v (n + 1)
  ended v n b = rw (le-leb 1 (suc b) (omega arith)) refl

  one_later : (v k n b : ℕ) → answered v k (n + 1) b ≡ answered v (suc k) n (suc b)
  one_later v k n b = go (leb k b) refl
    where
      go : (t : Bool) → leb k b ≡ t → cond t (Verdict v (n + 1 + k)) (Budget (n + 1 + b)) ≡ answered v (suc k) n (suc b)
      go true e = rw (le-leb (suc k) (suc b) (omega (arith, leb-true k b e))) (ap (Verdict v) (omega arith))
      go false e = rw (lt-leb (suc k) (suc b) (omega (arith, leb-false k b e))) (ap Budget (omega arith))

  -- a layout-free run is the machine's run under this layout, whatever the budget
  pub comes_run : {c : Config} {v k : ℕ} {left : ℕ → List ℕ} → length c.stack ≡ 512 → Comes program w.rec c v k left → (b n : ℕ)
      → runs program w b n (concrete w c) ≡ record { outcome = answered v k n b; stack = left b }
  unfolding runs next after
  comes_run l (at_once {c = c} {v = v} h e) zero n = λ i. record { outcome = sym (spent v 0 n) i; stack = c.stack }
  comes_run l (at_once {c = c} {v = v} h e) (suc b) n =
      ap (next (runs program w b) n (concrete w c)) (stepped c h ∙ subst (λ o. Same w o (obey w (concrete w c) (instruction program c.index))) e (free_same w ok c (instruction program c.index) l))
      ∙ (λ i. record { outcome = sym (ended v n b) i; stack = c.stack })
  comes_run l (later {c = c} {v = v} {k = k} {left = left} c' h e r) zero n = λ i. record { outcome = sym (spent v k n) i; stack = c.stack }
  comes_run l (later {c = c} {v = v} {k = k} {left = left} c' h e r) (suc b) n =
      ap (next (runs program w b) n (concrete w c)) (stepped c h ∙ subst (λ o. Same w o (obey w (concrete w c) (instruction program c.index))) e (free_same w ok c (instruction program c.index) l))
      ∙ comes_run (subst (Keeps c) e (free_keeps c w.rec (instruction program c.index)) ∙ l) r b (n + 1)
      ∙ (λ i. record { outcome = one_later v k n b i; stack = left b })

  pub start_same : concrete w start_config ≡ start w
  unfolding start_config start
  start_same = λ i. record { registers = Unset ∷ Holds (low i) ∷ Unset ∷ Unset ∷ Unset ∷ Unset ∷ Unset ∷ Unset ∷ Unset ∷ Unset ∷ Holds (high i) ∷ []; stack = replicate 512 0; index = 0 }
    where
      low : (w.P + 0) % 2 ^ 64 ≡ w.P
      low = mod-eq_of_lt {n = w.P + 0} {m = 2 ^ 64} (omega (arith, ok.record_high)) ∙ omega arith

      high : (w.S + 512) % 2 ^ 64 ≡ w.S + 512
      high = mod-eq_of_lt {n = w.S + 512} {m = 2 ^ 64} (omega (arith, ok.stack_high))
