-- Every instruction that the analysis lets pass: the layout-free machine is not stuck on it, and goes where the analysis says, to what it
-- says.
use mathlib.Core.Path.{refl}
use mathlib.Core.Logic.{inr}
use mathlib.Core.List.{List}
use Prim.Native.Nat.{ℕ}
use native.Mathlib.Omega.{arith}
use lib.ListN.{length}
use Rattle.word.specs.declared.Operation.TheVariants.{Add, Sub, Mul, Div, Or, And, Lsh, Rsh, Mod, Xor, Mov, Arsh}
use Rattle.word.specs.declared.Operation.TheVariants as operation
use Rattle.machine.specs.declared.instruction.Instruction.{Instruction}
use Rattle.machine.specs.declared.instruction.Instruction.TheVariants.{Alu, Neg, Jump, Always, Exit, Load, Store, NoInstruction}
use Rattle.machine.specs.Machine.{bits}
use Rattle.analysis.specs.Values.{Facts}
use Rattle.analysis.specs.Effects.{role, effect}
use Rattle.analysis.specs.Judged.{apply}
use Rattle.analysis.specs.Safe.{Bytes}
use Rattle.analysis.proofs.LayoutFree.{Config, jumped_to, free}
use Rattle.analysis.proofs.Meaning.{Describes}
use Rattle.analysis.proofs.Sound.{Words, Follows, wide, value_stands, reading_follows, reading_both_follows, operand_stands, calculate_follows, arithmetic_follows, fork_follows, exit_follows, load_follows, store_follows}

module _ (a : Facts) (c : Config) (d : Describes a c) (rec : List ℕ) (record_bytes : Bytes rec) where
  pub effect_follows : (ins : Instruction) → Words ins → Follows c.index (apply a (effect (length rec) c.index a ins)) (free rec c ins)
  unfolding effect free apply jumped_to
  effect_follows (Alu w op r s) h = arithmetic_follows a c d (role w op) (bits w) (wide w) op r _ _ _ _ (value_stands a c d r) (operand_stands a c d s h)
  effect_follows (Neg w r) h = reading_follows a c d _ _ _ (calculate_follows a c d (bits w) (wide w) operation.Neg r _ _ _ _ (value_stands a c d r) (value_stands a c d r))
  effect_follows (Jump w k r s off) h = reading_both_follows a c d _ _ _ _ (fork_follows a c d w k r s off _ _ _ _ refl refl (value_stands a c d r) (operand_stands a c d s h))
  effect_follows (Always off) h =
      inr (omega arith, refl, record { registers = d.registers; stack_size = d.stack_size; stack_bytes = d.stack_bytes })
  effect_follows Exit h = exit_follows a c d _ _ (value_stands a c d 0)
  effect_follows (Load z r s off) h = reading_follows a c d _ _ _ (load_follows a c d rec record_bytes z r off h _ _ (value_stands a c d s))
  effect_follows (Store z r off s) h = reading_both_follows a c d _ _ _ _ (store_follows a c d rec record_bytes z off h.0 _ _ _ _ (value_stands a c d r) (operand_stands a c d s h.1))
  effect_follows NoInstruction h = tt
