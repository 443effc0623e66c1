-- What the default arm of a match on numbers is told, and a rule at every number without an arm: one test that antt computes.
use Rattle.std.proofs.Common.{◌≡◌, ℕ, zero, suc, ◌<◌, Bool, true, false, ◌&&◌, ◌||◌, List, [], ◌∷◌, ◌++◌, sym, refl, ap, ◌∙◌, not-suc-le-zero, arith, ne_eqb}
use native.Mathlib.Decide.{dec_lt}
use mir.Val.{has_key}

-- f holds at each number below n
abbrev pub all_below : (ℕ → Bool) → ℕ → Bool
all_below f zero = true
all_below f (suc n) = f n && all_below f n

both_true : (a b : Bool) → a && b ≡ true → (a ≡ true) × (b ≡ true)
both_true true b e = (refl, e)
both_true false b e = (cc, cc)

pub holds_below : (f : ℕ → Bool) (n : ℕ) → all_below f n ≡ true → (k : ℕ) → k < n → f k ≡ true
holds_below f zero e k h = absurd (not-suc-le-zero h)
holds_below f (suc n) e k h = go (both_true (f n) (all_below f n) e).0 (holds_below f n (both_true (f n) (all_below f n) e).1 k) (dec_lt k n)
  where
    go : f n ≡ true → (k < n → f k ≡ true) → Dec (k < n) → f k ≡ true
    go at below (yes l) = below l
    go at below (no l) = let last : k ≡ n = omega arith in ap f last ∙ at

-- what is known where no arm's key was met, one after the other
abbrev pub Past : Type 0 → List ℕ → ℕ → Type 0
Past N [] x = N
Past N (k ∷ ks) x = Past (N × (x ≡ k → ⊥)) ks x

past_before : (N : Type 0) (ks : List ℕ) (x : ℕ) → Past N ks x → N
past_before N [] x p = p
past_before N (k ∷ ks) x p = (past_before (N × (x ≡ k → ⊥)) ks x p).0

-- what is no key of some arms and of others is no key of all
pub no_key : (N : Type 0) (ks others : List ℕ) (x : ℕ) → Past N ks x → has_key others x ≡ false → has_key (ks ++ others) x ≡ false
no_key N [] others x p e = e
no_key N (k ∷ ks) others x p e =
    let other = (past_before (N × (x ≡ k → ⊥)) ks x p).1 in
    rw (ne_eqb k x (λ e. other (sym e))) (no_key (N × (x ≡ k → ⊥)) ks others x p e)

-- f holds at whatever is no key
pub default_holds : (f : ℕ → Bool) (n : ℕ) (ks : List ℕ) → all_below (λ k. has_key ks k || f k) n ≡ true
    → (x : ℕ) → x < n → has_key ks x ≡ false → f x ≡ true
default_holds f n ks e x h none = let t = holds_below (λ k. has_key ks k || f k) n e x h in rw none at t
