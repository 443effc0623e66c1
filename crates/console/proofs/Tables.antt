-- What a word names, where the names before an index are others.
use Rattle.std.proofs.Common.{◌≡◌, ℕ, suc, ◌+◌, ◌<◌, Bool, true, false, eqb, List, ◌∷◌, length, drop, get_or, Some, Bor, drop-cons, add-one, sym, ap, ◌∙◌}
use lib.Pointwise.{pointwise}
use Rattle.text.proofs.Words.{equal_pointwise}
use Rattle.console.specs.Naming.{named_in}

-- p is the element of the index i, and t whether the word is its name
module _ {T : Type 0} (ps : List (Bor (List ℕ) × T)) (w : List ℕ) (i : ℕ) (p : Bor (List ℕ) × T) (h : i < length ps) (is : p ≡ get_or ps i p) (t : Bool) (e : t ≡ pointwise eqb w p.0.now) where
  turn : drop i ps ≡ p ∷ drop (i + 1) ps
  turn = rw add-one (drop-cons ps i p h ∙ ap (λ x. x ∷ drop (suc i) ps) (sym is))

  pub named_here : t ≡ true → named_in (drop i ps) w ≡ Some p.1
  named_here f = rw (turn, ← equal_pointwise w p.0.now, ← e, f)

  pub named_later : t ≡ false → named_in (drop i ps) w ≡ named_in (drop (i + 1) ps) w
  named_later f = rw (turn, ← equal_pointwise w p.0.now, ← e, f)
