-- A definition that tests: what holds of either outcome, given what the test says, holds of what it gives.
use mathlib.Core.Path.{◌≡◌, refl}
use mathlib.Core.Bool.{Bool, true, false, cond, ◌&&◌}
use Prim.Native.Nat.{ℕ, ◌≤◌, ◌<◌}
use lib.Dec.{eqb, leb, ltb}
use borrow.Author.Tests.{eqb-true, eqb-false, leb-true, leb-false, ltb-true, ltb-false}

module _ {A : Type 0} (P : A → Type 0) where
  pub by_test : (t : Bool) {u v : A} → (t ≡ true → P u) → (t ≡ false → P v) → P (cond t u v)
  by_test true f g = f refl
  by_test false f g = g refl

  module _ (m n : ℕ) {u v : A} where
    pub by_less : (m < n → P u) → (n ≤ m → P v) → P (cond (ltb m n) u v)
    by_less f g = by_test (ltb m n) (λ t. f (ltb-true m n t)) (λ t. g (ltb-false m n t))

    pub by_at_most : (m ≤ n → P u) → (n < m → P v) → P (cond (leb m n) u v)
    by_at_most f g = by_test (leb m n) (λ t. f (leb-true m n t)) (λ t. g (leb-false m n t))

    pub by_equal : (m ≡ n → P u) → ((m ≡ n → ⊥) → P v) → P (cond (eqb m n) u v)
    by_equal f g = by_test (eqb m n) (λ t. f (eqb-true m n t)) (λ t. g (eqb-false m n t))

pub both_hold : (t u : Bool) → (t && u) ≡ true → (t ≡ true) × (u ≡ true)
both_hold true u e = (refl, e)
both_hold false u e = (e, cc)
