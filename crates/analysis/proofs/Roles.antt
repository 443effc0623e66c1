-- A law about arithmetic of either width holds if it holds of each role: of ADD and SUB at 64 bits, which take addresses, of MOV at either width,
-- and of all that calculates.
use mathlib.Core.Path.{◌≡◌, refl}
use mathlib.Core.List.{[], ◌∷◌}
use Prim.Native.Nat.{ℕ}
use Rattle.word.specs.declared.Operation.{Operation}
use Rattle.word.specs.declared.Operation.TheVariants.{Add, Sub, Mul, Div, Or, And, Lsh, Rsh, Mod, Xor, Mov, Arsh}
use Rattle.word.specs.declared.Operation.TheVariants as operation
use Rattle.machine.specs.declared.instruction.Width.{Width}
use Rattle.machine.specs.declared.instruction.Width.TheVariants.{Long, Short}
use Rattle.machine.specs.Instruction.{reads_dst}
use Rattle.analysis.specs.Effects.{Role, copies, converts, adds, subtracts, calculates, role}

pub by_role : (P : Width → Operation → Role → Type 0) → P Long Add adds → P Long Sub subtracts → P Long Mov copies → P Short Mov converts
    → ((w : Width) (op : Operation) → ((d : ℕ) → reads_dst op d ≡ d ∷ []) → P w op calculates) → (w : Width) (op : Operation) → P w op (role w op)
unfolding role reads_dst
by_role P a s c m f Long Add = a
by_role P a s c m f Long Sub = s
by_role P a s c m f Long Mul = f Long Mul (λ d. refl)
by_role P a s c m f Long Div = f Long Div (λ d. refl)
by_role P a s c m f Long Or = f Long Or (λ d. refl)
by_role P a s c m f Long And = f Long And (λ d. refl)
by_role P a s c m f Long Lsh = f Long Lsh (λ d. refl)
by_role P a s c m f Long Rsh = f Long Rsh (λ d. refl)
by_role P a s c m f Long operation.Neg = f Long operation.Neg (λ d. refl)
by_role P a s c m f Long Mod = f Long Mod (λ d. refl)
by_role P a s c m f Long Xor = f Long Xor (λ d. refl)
by_role P a s c m f Long Mov = c
by_role P a s c m f Long Arsh = f Long Arsh (λ d. refl)
by_role P a s c m f Short Add = f Short Add (λ d. refl)
by_role P a s c m f Short Sub = f Short Sub (λ d. refl)
by_role P a s c m f Short Mul = f Short Mul (λ d. refl)
by_role P a s c m f Short Div = f Short Div (λ d. refl)
by_role P a s c m f Short Or = f Short Or (λ d. refl)
by_role P a s c m f Short And = f Short And (λ d. refl)
by_role P a s c m f Short Lsh = f Short Lsh (λ d. refl)
by_role P a s c m f Short Rsh = f Short Rsh (λ d. refl)
by_role P a s c m f Short operation.Neg = f Short operation.Neg (λ d. refl)
by_role P a s c m f Short Mod = f Short Mod (λ d. refl)
by_role P a s c m f Short Xor = f Short Xor (λ d. refl)
by_role P a s c m f Short Mov = m
by_role P a s c m f Short Arsh = f Short Arsh (λ d. refl)
