-- What an instruction that is no jump does, as routines answer it: which effect an answer stands for.
use Rattle.std.specs.Prelude.{Bool, true, false, cond, ◌||◌, Result, Ok, Err}
use Rattle.machine.specs.declared.instruction.Instruction.{Instruction}
use Rattle.machine.specs.declared.instruction.Instruction.TheVariants.{Alu, Neg, Jump, Always, Exit, Load, Store, NoInstruction}
use Rattle.analysis.specs.declared.Reason.{Reason}
use Rattle.analysis.specs.declared.Reason.TheVariants.{ReadsUnset, LeaksAddress}
use Rattle.analysis.specs.declared.Effect.{Effect}
use Rattle.analysis.specs.declared.Effect.TheVariants as effect
use Rattle.verifier.specs.declared.effect.Outcome.{Outcome}
use Rattle.verifier.specs.declared.effect.Outcome.TheVariants.{Put, Keep, Stop}
use Rattle.waiting.specs.declared.value.Kind.{Kind}
use Rattle.waiting.specs.declared.value.Kind.TheVariants as kind
use Rattle.waiting.specs.State.{held_in}

unfoldable pub effect_in : Result Outcome Reason → Effect
effect_in (Ok (Put d h)) = effect.Put d (held_in h)
effect_in (Ok Keep) = effect.Keep
effect_in (Ok Stop) = effect.Stop
effect_in (Err reason) = effect.Refuse reason

-- a jump counts as no instruction
unfoldable pub without_jumps : Instruction → Instruction
without_jumps (Jump w c d s off) = NoInstruction
without_jumps (Always off) = NoInstruction
without_jumps (Alu w op d s) = Alu w op d s
without_jumps (Neg w d) = Neg w d
without_jumps Exit = Exit
without_jumps (Load z d s off) = Load z d s off
without_jumps (Store z d off s) = Store z d off s
without_jumps NoInstruction = NoInstruction

unfoldable pub is_unset : Kind → Bool
is_unset kind.Unset = true
is_unset kind.Mixed = false
is_unset kind.Plain = false
is_unset kind.Record = false
is_unset kind.Stack = false

-- why values of these kinds may not be used: unset comes before address
unfoldable pub unusable : Kind → Kind → Reason
unusable x y = cond (is_unset x || is_unset y) ReadsUnset LeaksAddress
