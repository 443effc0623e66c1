-- The pass of the test for dead code: it says of each index in turn whether it is reached, and stops at the lowest one that is not.
use mathlib.Core.Path.{◌≡◌, refl, sym, ◌∙◌, subst}
use mathlib.Core.Bool.{Bool, true, false, cond, ◌||◌, true≢false}
use mathlib.Core.Logic.{⊎_elim}
use mathlib.Core.List.{List}
use Prim.Native.Nat.{ℕ, zero, suc, ◌+◌, ◌≤◌, ◌<◌}
use native.Mathlib.Nat.{eq-or-lt_of_le}
use native.Mathlib.Omega.{arith}
use Rattle.analysis.specs.declared.Reason.TheVariants.{DeadCode}
use Rattle.analysis.specs.declared.Finding.{Finding}
use Rattle.analysis.specs.declared.Finding.TheVariants.{Accepted, Refused}
use Rattle.analysis.specs.Form.{instruction, off_of, goes_on, Reached}
use Rattle.analysis.specs.Paths.{Targets, aimed, reaching}
use Rattle.analysis.proofs.KnownBefore.{Known, met_reached, reached_met, known_after}

module _ (program : List ℕ) where
  -- what is found among n instructions
  abbrev pub Tells : ℕ → Finding → Type 0
  Tells n Accepted = (x : ℕ) → x < n → Reached program x
  Tells n (Refused reason place) = (reason ≡ DeadCode) × (place < n) × (Reached program place → ⊥) × ((x : ℕ) → x < place → Reached program x)

  below_next : (i : ℕ) → Reached program i → ((x : ℕ) → x < i → Reached program x) → (x : ℕ) → x < i + 1 → Reached program x
  below_next i r before x l = ⊎_elim (λ (s : x ≡ i). subst (Reached program) (sym s) r) (before x) (eq-or-lt_of_le (let m : x ≤ i = omega arith in m))

  pub reaching_tells : (k i n : ℕ) → i + k ≡ n → (on : Bool) (t : Targets) → Known program i on t → ((x : ℕ) → x < i → Reached program x) → Tells n (reaching program k i on t)
  unfolding reaching
  reaching_tells zero i n e on t known before = λ x l. before x (omega arith)
  reaching_tells (suc k) i n e on t known before =
      go (on || t i) refl (λ r. reaching_tells k (i + 1) n (omega arith) _ _ (known_after program i on t known r) (below_next i r before))
    where
      later : Finding
      later = reaching program k (i + 1) (goes_on (instruction program i)) (aimed i (off_of (instruction program i)) t)

      go : (b : Bool) → (on || t i) ≡ b → (Reached program i → Tells n later) → Tells n (cond b later (Refused DeadCode i))
      go true p more = more (met_reached program i on t known p)
      go false p more = (refl, omega arith, λ r. true≢false (sym (reached_met program i on t known r) ∙ p), before)
