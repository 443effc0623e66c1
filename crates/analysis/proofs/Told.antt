-- What a way out of a comparison tells, by the width that is compared: one law each for both widths.
use mathlib.Core.Path.{◌≡◌}
use mathlib.Core.Bool.{Bool, not}
use Prim.Native.Nat.{ℕ, ◌^◌, ◌<◌}
use Rattle.std.specs.Prelude.{Some, None}
use Rattle.word.specs.Word.{compare}
use Rattle.word.specs.declared.Comparison.{Comparison}
use Rattle.machine.specs.declared.instruction.Width.{Width}
use Rattle.machine.specs.declared.instruction.Width.TheVariants.{Long, Short}
use Rattle.machine.specs.Machine.{bits}
use Rattle.number.specs.declared.Number.{Number}
use Rattle.number.specs.Meaning.{In, Kept}
use Rattle.number.specs.Sharpen.{exact}
use Rattle.number.proofs.Laws.{refined_sound, refined_exact, refined_exact_excluded, refined32_sound, refined32_exact, refined32_exact_excluded}
use Rattle.analysis.specs.Effects.{told}

-- every pair that goes the way is kept
pub told_sound : (w : Width) (k : Comparison) (way : Bool) (m n : Number) (x y : ℕ) → In m x → In n y → compare (bits w) k x y ≡ way
    → Kept (told w k way m n) x y
unfolding told bits
told_sound Long = refined_sound
told_sound Short = refined32_sound

-- and of known numbers it says which way they go
pub told_exact : (w : Width) (k : Comparison) (way : Bool) (x y : ℕ) → x < 2 ^ 64 → y < 2 ^ 64 → compare (bits w) k x y ≡ way
    → told w k way (exact x) (exact y) ≡ Some (exact x, exact y)
unfolding told bits
told_exact Long = refined_exact
told_exact Short = refined32_exact

pub told_exact_excluded : (w : Width) (k : Comparison) (way : Bool) (x y : ℕ) → x < 2 ^ 64 → y < 2 ^ 64 → compare (bits w) k x y ≡ not way
    → told w k way (exact x) (exact y) ≡ None
unfolding told bits
told_exact_excluded Long = refined_exact_excluded
told_exact_excluded Short = refined32_exact_excluded
