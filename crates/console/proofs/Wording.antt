-- The word that is cut from a line, and what is left of the line, where the ends of the two runs are found.
use mathlib.Core.List.{List}
use mathlib.Core.Path.{◌≡◌}
use Prim.Native.Nat.{ℕ, ◌-◌}
use native.Mathlib.Omega.{arith}
use lib.ListN.{length, take, drop, length-drop}
use lib.Seq.{take_all}
use Rattle.text.specs.Scan.{other, leading}
use Rattle.console.specs.Request.{ink, word, after}

whole : (s : List ℕ) (i : ℕ) → take (length s - i) (drop i s) ≡ drop i s
whole s i = take_all (length s - i) (drop i s) (simp length-drop (omega arith))

-- i is where the first word of s starts, and j how long it is
module _ (s : List ℕ) (i j : ℕ) (e : i ≡ leading 32 s) (f : j ≡ other 32 (take (length s - i) (drop i s))) where
  rest : take (length s - i) (drop i s) ≡ ink s
  unfolding ink
  rest = rw (← e) (whole s i)

  pub word_cut : take j (take (length s - i) (drop i s)) ≡ word s
  unfolding word
  word_cut = let k : j ≡ other 32 (ink s) = rw rest at f in rw (rest, k)

  pub after_left : take (length (take (length s - i) (drop i s)) - j) (drop j (take (length s - i) (drop i s))) ≡ after s
  unfolding after
  after_left = let k : j ≡ other 32 (ink s) = rw rest at f in rw (rest, k) (whole (ink s) (other 32 (ink s)))
