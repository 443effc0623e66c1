-- The targets that the test for dead code has met: a jump adds its own, and no other.
use mathlib.Core.Path.{◌≡◌, refl}
use mathlib.Core.Bool.{Bool, true, false, ◌||◌}
use mathlib.Core.Logic.{◌⊎◌, inl, inr}
use Prim.Native.Nat.{ℕ, ◌+◌}
use lib.Dec.{eqb}
use borrow.Author.Tests.{eqb-true, eq-eqb}
use Rattle.std.specs.Prelude.{Option, Some, None}
use Rattle.analysis.specs.Paths.{Targets, aimed}

module _ (i : ℕ) (t : Targets) where
  pub aimed_keeps : (o : Option ℕ) (x : ℕ) → t x ≡ true → aimed i o t x ≡ true
  unfolding aimed
  aimed_keeps None x h = h
  aimed_keeps (Some off) x h = either (eqb x (i + 1 + off))
    where
      either : (b : Bool) → (b || t x) ≡ true
      either true = refl
      either false = h

  pub aimed_there : (o : Option ℕ) (off : ℕ) → o ≡ Some off → aimed i o t (i + 1 + off) ≡ true
  unfolding aimed
  aimed_there o off e = rw e (rw (eq-eqb (i + 1 + off) (i + 1 + off) refl) refl)

  -- an index is a target only by this instruction or by one before
  pub aimed_from : (o : Option ℕ) (x : ℕ) → aimed i o t x ≡ true → (t x ≡ true) ⊎ ((off : ℕ) × (o ≡ Some off) × (x ≡ i + 1 + off))
  unfolding aimed
  aimed_from None x h = inl h
  aimed_from (Some off) x h = go (eqb x (i + 1 + off)) refl h
    where
      go : (b : Bool) → eqb x (i + 1 + off) ≡ b → (b || t x) ≡ true → (t x ≡ true) ⊎ ((o : ℕ) × (Some off ≡ Some o) × (x ≡ i + 1 + o))
      go true e p = inr (off, refl, eqb-true _ _ e)
      go false e p = inl p
