-- What makes a section's bytes an answer.
use mathlib.Core.Bool.{Bool, true, false, ◌&&◌}
use mathlib.Core.List.{List}
use mathlib.Core.Path.{◌≡◌, refl}
use Prim.Native.Nat.{ℕ, ◌+◌}
use lib.Dec.{ltb}
use Rattle.object.specs.Object.{word64, executable, coded}

first_of_both : (a b : Bool) → (a && b) ≡ true → a ≡ true
first_of_both true b e = refl
first_of_both false b e = e

pub coded_executable : (file : List ℕ) (h : ℕ) → coded file h ≡ true → executable file h ≡ true
unfolding coded
coded_executable file h e = first_of_both (executable file h) (ltb 0 (word64 file (h + 32))) e
