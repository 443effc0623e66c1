-- Words go a way where they stand in its relation.
use mathlib.Core.Path.{◌≡◌}
use mathlib.Core.Bool.{Bool}
use mathlib.Core.Logic.{◌↔◌}
use Prim.Native.Nat.{ℕ, ◌^◌, ◌<◌}
use Rattle.word.specs.Word.{compare}
use Rattle.word.specs.declared.Comparison.{Comparison}
use Rattle.word.proofs.Cut.{cut_64}
use Rattle.number.proofs.Relations.{Holds, relation, low_words_go}

pub goes_if_it_holds : (c : Comparison) (way : Bool) (x y : ℕ) → x < 2 ^ 64 → y < 2 ^ 64 → (compare 64 c x y ≡ way) ↔ Holds (relation c way) x y
goes_if_it_holds c way x y hx hy = rw (cut_64 {x = x} hx, cut_64 {x = y} hy) at (low_words_go c way x y)
