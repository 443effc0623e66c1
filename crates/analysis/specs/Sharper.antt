-- When what is known says no less than something else that is known: of a number, of the registers, of what flows out of an index. And when
-- what is known does not contradict itself.
use Rattle.std.specs.Prelude.{◌≡◌, List, [], ◌∷◌, ℕ, ◌≤◌, Option, Some, None}
use Rattle.word.specs.declared.Operation.{Operation}
use Rattle.word.specs.declared.Operation.TheVariants.{Add, Sub}
use Rattle.word.specs.declared.Operation.TheVariants as operation
use Rattle.machine.specs.declared.instruction.Instruction.{Instruction}
use Rattle.machine.specs.declared.instruction.Instruction.TheVariants.{Alu, Neg, Jump, Always, Exit, Load, Store, NoInstruction}
use Rattle.machine.specs.Machine.{bits}
use Rattle.known_bits.specs.KnownBits.{Well}
use Rattle.number.specs.declared.Number.{Number}
use Rattle.number.specs.Meaning.{In, Narrower, NoneEmpty}
use Rattle.number.specs.Sharpen.{exact}
use Rattle.number.specs.Computed.{computed}
use Rattle.analysis.specs.declared.Gone.TheVariants.{Never, Mixed}
use Rattle.analysis.specs.declared.Value.{Value}
use Rattle.analysis.specs.declared.Value.TheVariants.{Unusable, Plain, Address}
use Rattle.analysis.specs.Values.{Facts, value_of, operand_of}
use Rattle.analysis.specs.Effects.{Role, copies, converts, adds, subtracts, calculates, role, effect}
use Rattle.analysis.specs.Judged.{Flow, refuses, flows, apply}

-- a narrower Number; the pairs of both have the form
pub record SharperNumber (n' n : Number) : Type 0 where
  pub narrower : Narrower n' n
  pub sharper_form : Well 64 n'.bits
  pub form : Well 64 n.bits

-- of a register that is unset nothing is known, and of a mixed one that it is set
abbrev pub SharperValue : Value → Value → Type 0
SharperValue (Unusable Never) (Unusable Never) = Unit {0}
SharperValue (Unusable Never) (Unusable Mixed) = ⊥
SharperValue (Unusable Never) (Plain n) = ⊥
SharperValue (Unusable Never) (Address q n) = ⊥
SharperValue (Unusable Mixed) (Unusable g) = Unit {0}
SharperValue (Unusable Mixed) (Plain n) = ⊥
SharperValue (Unusable Mixed) (Address q n) = ⊥
SharperValue (Plain m) (Unusable g) = Unit {0}
SharperValue (Plain m) (Plain n) = SharperNumber m n
SharperValue (Plain m) (Address q n) = ⊥
SharperValue (Address p m) (Unusable g) = Unit {0}
SharperValue (Address p m) (Plain n) = ⊥
SharperValue (Address p m) (Address q n) = (p ≡ q) × SharperNumber m n

-- register by register
abbrev pub SharperAll : List Value → List Value → Type 0
SharperAll [] [] = Unit {0}
SharperAll [] (v ∷ vs) = ⊥
SharperAll (u ∷ us) [] = ⊥
SharperAll (u ∷ us) (v ∷ vs) = SharperValue u v × SharperAll us vs

pub record SharperFacts (a' a : Facts) : Type 0 where
  pub registers : SharperAll a'.registers a.registers

-- that nothing comes says more than anything that comes
abbrev pub SharperComing : Option Facts → Option Facts → Type 0
SharperComing None o = Unit {0}
SharperComing (Some a') None = ⊥
SharperComing (Some a') (Some a) = SharperFacts a' a

-- what goes to a target goes to the same one
abbrev pub SharperThere : Option Facts → ℕ → Option Facts → ℕ → Type 0
SharperThere None t' o t = Unit {0}
SharperThere (Some a') t' None t = ⊥
SharperThere (Some a') t' (Some a) t = SharperFacts a' a × (t' ≡ t)

-- where less is known, a refusal says nothing of what happens where more is known; and there nothing is refused that was not
abbrev pub SharperFlow : Flow → Flow → Type 0
SharperFlow (refuses r) (refuses s) = Unit {0}
SharperFlow (refuses r) (flows next there target) = ⊥
SharperFlow (flows next' there' target') (refuses s) = Unit {0}
SharperFlow (flows next' there' target') (flows next there target) = SharperComing next' next × SharperThere there' target' there target

-- ---- P holds of what an instruction calculates: of an operation at w bits and two Numbers
abbrev pub OfNumbers : (ℕ → Operation → Number → Number → Type 0) → ℕ → Operation → Value → Value → Type 0
OfNumbers P w op (Unusable g) y = Unit {0}
OfNumbers P w op (Plain a) (Unusable h) = Unit {0}
OfNumbers P w op (Plain a) (Plain b) = P w op a b
OfNumbers P w op (Plain a) (Address q b) = P w op b a
OfNumbers P w op (Address p a) (Unusable h) = Unit {0}
OfNumbers P w op (Address p a) (Plain b) = P w op a b
OfNumbers P w op (Address p a) (Address q b) = Unit {0}

abbrev pub OfRole : (ℕ → Operation → Number → Number → Type 0) → Role → ℕ → Operation → Value → Value → Type 0
OfRole P copies w op x y = Unit {0}
OfRole P converts w op x y = OfNumbers P w op y y
OfRole P adds w op x y = OfNumbers P 64 Add x y
OfRole P subtracts w op x y = OfNumbers P 64 Sub x y
OfRole P calculates w op x y = OfNumbers P w op x y

-- a load and a store add the offset to the address
abbrev pub Calculating : (ℕ → Operation → Number → Number → Type 0) → Facts → Instruction → Type 0
Calculating P a (Alu w op d s) = OfRole P (role w op) (bits w) op (value_of a d) (operand_of a s)
Calculating P a (Neg w d) = OfNumbers P (bits w) operation.Neg (value_of a d) (value_of a d)
Calculating P a (Jump w c d s off) = Unit {0}
Calculating P a (Always off) = Unit {0}
Calculating P a Exit = Unit {0}
Calculating P a (Load z d s off) = OfNumbers P 64 Add (value_of a s) (Plain (exact off))
Calculating P a (Store z d off s) = OfNumbers P 64 Add (value_of a d) (Plain (exact off))
Calculating P a NoInstruction = Unit {0}

-- the result is not empty: there is a number from lo to hi
abbrev pub SomeResult : ℕ → Operation → Number → Number → Type 0
SomeResult w op a b = (computed w op a b).range.lo ≤ (computed w op a b).range.hi

-- an instruction tells no less than another, with a record of S bytes for one of R, where no range is empty that it calculates with
abbrev pub TellsMore : ℕ → ℕ → ℕ → Instruction → Instruction → Type 0
TellsMore R S i new old =
    (a' a : Facts) → SharperFacts a' a → Calculating NoneEmpty a' new
    → SharperFlow (apply a' (effect S i a' new)) (apply a (effect R i a old))

-- ---- every Number has a number, as at each index that a run comes to
abbrev pub PossibleValue : Value → Type 0
PossibleValue (Unusable g) = Unit {0}
PossibleValue (Plain n) = (x : ℕ) × In n x
PossibleValue (Address p n) = (x : ℕ) × In n x

pub record PossibleFacts (a : Facts) : Type 0 where
  pub each : (r : ℕ) → PossibleValue (value_of a r)
