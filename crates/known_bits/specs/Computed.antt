-- What an operation on two pairs promises, for each of the thirteen at either width.
use Rattle.std.specs.Prelude.{◌≡◌, ℕ, ◌%◌}
use Rattle.word.specs.Word.{alu}
use Rattle.word.specs.declared.Operation.{Operation}
use Rattle.word.specs.declared.Operation.TheVariants.{Add, Sub, Mul, Div, Or, And, Lsh, Rsh, Neg, Mod, Xor, Mov, Arsh}
use Rattle.known_bits.specs.declared.Bits.{Bits}
use Rattle.known_bits.specs.KnownBits.{Well, Sound, Best, Results}
use Rattle.known_bits.specs.Pair.{exactly}

-- where the best pair is demanded: never of MUL, DIV and MOD, and of a shift where the low 6 bits of its count, at 32 bits the low 5,
-- are known
abbrev pub Demanded : ℕ → Operation → Bits → Type 0
Demanded w Add b = Unit {0}
Demanded w Sub b = Unit {0}
Demanded w Mul b = ⊥
Demanded w Div b = ⊥
Demanded w Or b = Unit {0}
Demanded w And b = Unit {0}
Demanded w Lsh b = b.mask % w ≡ 0
Demanded w Rsh b = b.mask % w ≡ 0
Demanded w Neg b = Unit {0}
Demanded w Mod b = ⊥
Demanded w Xor b = Unit {0}
Demanded w Mov b = Unit {0}
Demanded w Arsh b = b.mask % w ≡ 0

-- r is sound, the best where that is demanded, and exact for exact operands
pub record Computed (w : ℕ) (op : Operation) (a b r : Bits) : Type 0 where
  pub sound : Well 64 a → Well 64 b → Sound 64 (Results w op a b) r
  pub best : Demanded w op b → Well 64 a → Well 64 b → Best 64 (Results w op a b) r
  pub exact : a.mask ≡ 0 → b.mask ≡ 0 → r ≡ exactly (alu w op a.value b.value)
