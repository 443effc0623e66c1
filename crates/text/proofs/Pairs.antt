-- The two numbers of a word, by where std finds its first stroke.
use mathlib.Core.List.{List}
use mathlib.Core.Path.{◌≡◌, ap, ap₂, ◌∙◌}
use Prim.Native.Nat.{ℕ, ◌+◌, ◌-◌}
use native.Mathlib.Omega.{arith}
use lib.ListN.{length, take, drop, length-drop}
use lib.Seq.{take_all}
use lib.Dec.{eqb}
use borrow.Author.Tests.{lt-ltb, le-ltb}
use Rattle.std.specs.List.{position}
use Rattle.std.proofs.Common.{Option, Some, None}
use Rattle.text.specs.Number.{number}
use Rattle.text.specs.Pair.{joined, pair}
use Rattle.text.proofs.Words.{stroke_found, stroke_missing}

pub no_stroke : (s : List ℕ) → None ≡ position (λ x. eqb x 47) s → None ≡ pair s
unfolding pair
no_stroke s h = simp (le-ltb _ _ (stroke_missing 47 s h))

module _ (s : List ℕ) (i : ℕ) (h : Some i ≡ position (λ x. eqb x 47) s) where
  all_after : take (length s - (i + 1)) (drop (i + 1) s) ≡ drop (i + 1) s
  all_after = take_all (length s - (i + 1)) (drop (i + 1) s) (simp length-drop (omega arith))

  split : joined (number 16 (take i s)) (number 16 (drop (i + 1) s)) ≡ pair s
  unfolding pair
  split =
      let f : _ = stroke_found 47 s i h in rw f.0 (simp (lt-ltb i (length s) f.1))

  pub no_first : None ≡ number 16 (take i s) → None ≡ pair s
  unfolding joined
  no_first e = ap (λ (a : Option ℕ). joined a (number 16 (drop (i + 1) s))) e ∙ split

  -- x and y are read from the parts of s before and after i
  both_parts : (x y : Option ℕ) → x ≡ number 16 (take i s) → y ≡ number 16 (take (length s - (i + 1)) (drop (i + 1) s)) → joined x y ≡ pair s
  both_parts x y d e = ap₂ joined d (e ∙ ap (number 16) all_after) ∙ split

  pub no_second : (a : ℕ) → Some a ≡ number 16 (take i s) → None ≡ number 16 (take (length s - (i + 1)) (drop (i + 1) s)) → None ≡ pair s
  unfolding joined
  no_second a d e = both_parts (Some a) None d e

  pub both_read : (a b : ℕ) → Some a ≡ number 16 (take i s) → Some b ≡ number 16 (take (length s - (i + 1)) (drop (i + 1) s)) → Some (a, b) ≡ pair s
  unfolding joined
  both_read a b d e = both_parts (Some a) (Some b) d e
