-- The test for dead code is exact: it passes if and only if a path leads to each instruction, and it names the lowest index that none leads to.
use mathlib.Core.Path.{◌≡◌, refl, sym, ap, ◌∙◌, subst}
use mathlib.Core.Bool.{Bool, true, false}
use mathlib.Core.Logic.{◌↔◌, ⊎_elim}
use mathlib.Core.List.{List}
use Prim.Native.Nat.{ℕ, ◌/◌, ◌<◌}
use native.Mathlib.Nat.{eq-or-lt_of_le}
use native.Mathlib.Omega.{arith}
use lib.ListN.{length}
use lib.Dec.{ltb}
use borrow.Author.Tests.{ltb-true, ltb-false}
use Rattle.machine.specs.Machine.{bad_program, bad_record}
use Rattle.analysis.specs.declared.Reason.{Reason}
use Rattle.analysis.specs.declared.Reason.TheVariants.{DeadCode}
use Rattle.analysis.specs.declared.Finding.{Finding}
use Rattle.analysis.specs.declared.Finding.TheVariants.{Accepted, Refused}
use Rattle.analysis.specs.Form.{Reached, HasForm, Dead}
use Rattle.analysis.specs.Paths.{no_target, connected}
use Rattle.analysis.specs.Judged.{formed}
use Rattle.analysis.proofs.FormLaws.{passes_orderly}
use Rattle.analysis.proofs.KnownBefore.{known_at_start}
use Rattle.analysis.proofs.Reaching.{Tells, reaching_tells}

module _ (program : List ℕ) where
  connected_tells : Tells program (length program / 8) (connected program)
  unfolding connected
  connected_tells = reaching_tells program (length program / 8) 0 (length program / 8) (omega arith) true no_target (known_at_start program) (λ x l. absurd (omega arith))

  -- ---- both directions

  pub connected_iff : (connected program ≡ Accepted) ↔ ((x : ℕ) → x < length program / 8 → Reached program x)
  connected_iff = (λ e. subst (Tells program (length program / 8)) e connected_tells, λ h. go (connected program) refl connected_tells h)
    where
      go : (f : Finding) → connected program ≡ f → Tells program (length program / 8) f → ((x : ℕ) → x < length program / 8 → Reached program x) → connected program ≡ Accepted
      go Accepted e t h = e
      go (Refused reason place) e t h = absurd (t.2 (h place t.1))

  pub unconnected_dead : (reason : Reason) (place : ℕ) → connected program ≡ Refused reason place → (reason ≡ DeadCode) × Dead program place
  unconnected_dead reason place e =
      let t = subst (Tells program (length program / 8)) e connected_tells in (t.0, record { inside = t.1; unreached = t.2; lowest = t.3 })

  pub dead_unconnected : (place : ℕ) → Dead program place → connected program ≡ Refused DeadCode place
  dead_unconnected place d = go (connected program) refl connected_tells
    where
      go : (f : Finding) → connected program ≡ f → Tells program (length program / 8) f → connected program ≡ Refused DeadCode place
      go Accepted e t = absurd (d.unreached (t place d.inside))
      go (Refused reason x) e t = e ∙ ap (λ r. Refused r x) t.0 ∙ ap (Refused DeadCode) (same (ltb x place) refl)
        where
          same : (b : Bool) → ltb x place ≡ b → x ≡ place
          same true l = absurd (t.2 (d.lowest x (ltb-true _ _ l)))
          same false l = ⊎_elim (λ (s : place ≡ x). sym s) (λ (m : place < x). absurd (d.unreached (t.3 place m))) (eq-or-lt_of_le (ltb-false _ _ l))

module _ (program : List ℕ) (R : ℕ) where
  pub passes_has_form : bad_program (length program) ≡ false → bad_record R ≡ false → formed program (length program / 8) 0 ≡ Accepted → connected program ≡ Accepted
      → HasForm program R
  passes_has_form p r f c = record { orderly = passes_orderly program R p r f; all_reached = (connected_iff program).0 c }
