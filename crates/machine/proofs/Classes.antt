-- The two classes of arithmetic, and those of jumps, told apart by their width alone.
use mathlib.Core.Path.{◌≡◌}
use mathlib.Core.Logic.{◌⊎◌, ◌≢◌, inl, inr}
use mathlib.Core.Bool.{cond}
use Prim.Native.Nat.{ℕ, ◌%◌, ◌<◌}
use native.Mathlib.Decide.{dec_lt}
use native.Mathlib.Omega.{arith}
use lib.Dec.{eqb}
use Rattle.machine.specs.declared.instruction.Width.{Width}
use Rattle.machine.specs.declared.instruction.Width.TheVariants.{Long, Short}
use Rattle.machine.specs.declared.instruction.Fields.{Fields}
use Rattle.machine.specs.Instruction.{arithmetic, jump, by_class}

module _ (f : Fields) (w : Width) (width : w ≡ cond (eqb (f.opcode % 2) 1) Long Short) where
  even : f.opcode % 2 ≡ 0 → w ≡ Short
  even e = rw e at width

  odd : f.opcode % 2 ≡ 1 → w ≡ Long
  odd e = rw e at width

  pub arithmetic_of_either_width : (f.opcode % 8 ≡ 4) ⊎ (f.opcode % 8 ≡ 7) → arithmetic w f ≡ by_class f
  unfolding by_class
  arithmetic_of_either_width (inl e) = rw (even (omega arith), e)
  arithmetic_of_either_width (inr e) = rw (odd (omega arith), e)

  pub jump_of_either_width : (f.opcode % 8 ≡ 5) ⊎ (f.opcode % 8 ≡ 6) → jump w f ≡ by_class f
  unfolding by_class
  jump_of_either_width (inl e) = rw (odd (omega arith), e)
  jump_of_either_width (inr e) = rw (even (omega arith), e)

pub five_or_six : (n : ℕ) → n % 8 ≢ 0 → n % 8 ≢ 1 → n % 8 ≢ 2 → n % 8 ≢ 3 → n % 8 ≢ 4 → n % 8 ≢ 7 → (n % 8 ≡ 5) ⊎ (n % 8 ≡ 6)
five_or_six n n0 n1 n2 n3 n4 n7 = go (dec_lt (n % 8) 6)
  where
    go : Dec (n % 8 < 6) → (n % 8 ≡ 5) ⊎ (n % 8 ≡ 6)
    go (yes l) = inl (omega arith)
    go (no l) = inr (omega arith)
