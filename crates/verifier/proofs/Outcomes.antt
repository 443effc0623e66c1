-- The arms of a match on an instruction or an operation that are not written out.
use Rattle.std.proofs.Common.{◌≡◌, ℕ, refl}
use Rattle.word.specs.declared.Comparison.{Comparison}
use Rattle.word.specs.declared.Operation.{Operation}
use Rattle.word.specs.declared.Operation.TheVariants.{Add, Sub, Mul, Div, Or, And, Lsh, Rsh, Neg, Mod, Xor, Mov, Arsh}
use Rattle.machine.specs.declared.instruction.Width.{Width}
use Rattle.machine.specs.declared.instruction.Width.TheVariants.{Long, Short}
use Rattle.machine.specs.declared.instruction.Operand.{Operand}
use Rattle.machine.specs.declared.instruction.Size.{Size}
use Rattle.machine.specs.declared.instruction.Instruction.{Instruction}
use Rattle.machine.specs.declared.instruction.Instruction.TheVariants as instruction
use Rattle.machine.specs.declared.instruction.Instruction.TheVariants.{Alu, Jump, Always, Exit, Load, Store, NoInstruction}
use Rattle.analysis.specs.Effects.{calculates, role}
use Rattle.verifier.specs.Sending.{shortened}
use Rattle.verifier.specs.Outcome.{without_jumps}

pub no_jump : (n : ℕ) (ins : Instruction)
    → ((w : Width) (c : Comparison) (d : ℕ) (s : Operand) (off : ℕ) → ins ≡ Jump w c d s off → ⊥) → ((off : ℕ) → ins ≡ Always off → ⊥)
    → without_jumps ins ≡ shortened n ins
unfolding without_jumps shortened
no_jump n (Alu w op d s) jumps always = refl
no_jump n (instruction.Neg w d) jumps always = refl
no_jump n (Jump w c d s off) jumps always = absurd (jumps w c d s off refl)
no_jump n (Always off) jumps always = absurd (always off refl)
no_jump n Exit jumps always = refl
no_jump n (Load z d s off) jumps always = refl
no_jump n (Store z d off s) jumps always = refl
no_jump n NoInstruction jumps always = refl

pub jumps_or_nothing : (ins : Instruction)
    → ((w : Width) (op : Operation) (d : ℕ) (s : Operand) → ins ≡ Alu w op d s → ⊥) → ((w : Width) (d : ℕ) → ins ≡ instruction.Neg w d → ⊥)
    → (ins ≡ Exit → ⊥) → ((z : Size) (d s off : ℕ) → ins ≡ Load z d s off → ⊥) → ((z : Size) (d off : ℕ) (s : Operand) → ins ≡ Store z d off s → ⊥)
    → without_jumps ins ≡ NoInstruction
unfolding without_jumps
jumps_or_nothing (Alu w op d s) alu neg exits load store = absurd (alu w op d s refl)
jumps_or_nothing (instruction.Neg w d) alu neg exits load store = absurd (neg w d refl)
jumps_or_nothing (Jump w c d s off) alu neg exits load store = refl
jumps_or_nothing (Always off) alu neg exits load store = refl
jumps_or_nothing Exit alu neg exits load store = absurd (exits refl)
jumps_or_nothing (Load z d s off) alu neg exits load store = absurd (load z d s off refl)
jumps_or_nothing (Store z d off s) alu neg exits load store = absurd (store z d off s refl)
jumps_or_nothing NoInstruction alu neg exits load store = refl

-- ---- operations that only calculate

pub long_calculates : (op : Operation) → (op ≡ Mov → ⊥) → (op ≡ Add → ⊥) → (op ≡ Sub → ⊥) → role Long op ≡ calculates
unfolding role
long_calculates Add mov add sub = absurd (add refl)
long_calculates Sub mov add sub = absurd (sub refl)
long_calculates Mul mov add sub = refl
long_calculates Div mov add sub = refl
long_calculates Or mov add sub = refl
long_calculates And mov add sub = refl
long_calculates Lsh mov add sub = refl
long_calculates Rsh mov add sub = refl
long_calculates Neg mov add sub = refl
long_calculates Mod mov add sub = refl
long_calculates Xor mov add sub = refl
long_calculates Mov mov add sub = absurd (mov refl)
long_calculates Arsh mov add sub = refl

pub short_calculates : (op : Operation) → (op ≡ Mov → ⊥) → role Short op ≡ calculates
unfolding role
short_calculates Add mov = refl
short_calculates Sub mov = refl
short_calculates Mul mov = refl
short_calculates Div mov = refl
short_calculates Or mov = refl
short_calculates And mov = refl
short_calculates Lsh mov = refl
short_calculates Rsh mov = refl
short_calculates Neg mov = refl
short_calculates Mod mov = refl
short_calculates Xor mov = refl
short_calculates Mov mov = absurd (mov refl)
short_calculates Arsh mov = refl
