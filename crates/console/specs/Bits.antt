-- What a request about known bits says, and which numbers the pair that answers it must have.
use Rattle.std.specs.Prelude.{cond, List, ◌⊎◌, ℕ, eqb, Option, Some, None}
use Rattle.std.specs.Int.Bits.{bit_and}
use Rattle.word.specs.declared.Operation.TheVariants.{Add, Sub, Mul, Div, Or, And, Lsh, Rsh, Neg, Mod, Xor, Mov, Arsh}
use Rattle.machine.specs.declared.instruction.Width.{Width}
use Rattle.machine.specs.declared.instruction.Width.TheVariants.{Long, Short}
use Rattle.known_bits.specs.declared.Bits.{Bits}
use Rattle.known_bits.specs.KnownBits.{Well, Sound, Best, Results, Cuts}
use Rattle.known_bits.specs.Computed.{Demanded}
use Rattle.text.specs.Buffer.{chars}
use Rattle.text.specs.Pair.{pair}
use Rattle.text.specs.Scan.{equal}
use Rattle.console.specs.declared.bits.Task.{Task}
use Rattle.console.specs.declared.bits.Task.TheVariants.{Alu, Join, Cut}
use Rattle.console.specs.declared.bits.Asked.{Asked}
use Rattle.console.specs.Request.{word, after, blank}

unfoldable pub later_task : List ℕ → Option Task
later_task s =
    cond (equal s (chars "RSH")) (Some (Alu Rsh))
    (cond (equal s (chars "NEG")) (Some (Alu Neg))
    (cond (equal s (chars "MOD")) (Some (Alu Mod))
    (cond (equal s (chars "XOR")) (Some (Alu Xor))
    (cond (equal s (chars "MOV")) (Some (Alu Mov))
    (cond (equal s (chars "ARSH")) (Some (Alu Arsh))
    (cond (equal s (chars "JOIN")) (Some Join)
    (cond (equal s (chars "CUT")) (Some Cut) None)))))))

-- what the word OP names
unfoldable pub task_named : List ℕ → Option Task
task_named s =
    cond (equal s (chars "ADD")) (Some (Alu Add))
    (cond (equal s (chars "SUB")) (Some (Alu Sub))
    (cond (equal s (chars "MUL")) (Some (Alu Mul))
    (cond (equal s (chars "DIV")) (Some (Alu Div))
    (cond (equal s (chars "OR")) (Some (Alu Or))
    (cond (equal s (chars "AND")) (Some (Alu And))
    (cond (equal s (chars "LSH")) (Some (Alu Lsh)) (later_task s)))))))

-- what the word WIDTH names
unfoldable pub width_named : List ℕ → Option Width
width_named s = cond (equal s (chars "64")) (Some Long) (cond (equal s (chars "32")) (Some Short) None)

-- the numbers of a word v/m where no bit is in both
unfoldable pub apart : Option (ℕ × ℕ) → Option Bits
apart None = None
apart (Some (v, m)) = cond (eqb (bit_and v m) 0) (Some (record { value = v; mask = m })) None

unfoldable pub bits_of : List ℕ → Option Bits
bits_of s = apart (pair s)

-- the request where every part of it is
unfoldable pub gathered : Option Task → Option Width → Option Bits → Option Bits → Option Asked
gathered None w a b = None
gathered (Some t) None a b = None
gathered (Some t) (Some w) None b = None
gathered (Some t) (Some w) (Some a) None = None
gathered (Some t) (Some w) (Some a) (Some b) = Some (record { task = t; width = w; a = a; b = b })

-- OP WIDTH v/m v/m at the start of s, and no word after them
unfoldable pub asked_of : List ℕ → Option Asked
asked_of s =
    let t : List ℕ = after (after s) in
    cond (blank (after (after t))) (gathered (task_named (word s)) (width_named (word (after s))) (bits_of (word t)) (bits_of (word (after t)))) None

unfoldable pub places : Width → ℕ
places Long = 64
places Short = 32

-- the numbers that a task is about: what the operation gives for a number of a and one of b, the low bits of the numbers of
-- either pair, and the low bits of the numbers of a
abbrev pub Wanted : Task → ℕ → Bits → Bits → ℕ → Type 0
Wanted (Alu op) w a b z = Results w op a b z
Wanted Join w a b z = Cuts w a z ⊎ Cuts w b z
Wanted Cut w a b z = Cuts w a z

-- where the best pair is demanded: of an operation as docs/VERIFIER.md says, of a join and of a cut always
abbrev pub BestWanted : Task → ℕ → Bits → Type 0
BestWanted (Alu op) w b = Demanded w op b
BestWanted Join w b = Unit {0}
BestWanted Cut w b = Unit {0}

-- the pair r has all the numbers that the task is about, and is the best one where that is demanded
pub record Serves (task : Task) (w : ℕ) (a b r : Bits) : Type 0 where
  pub sound : Well 64 a → Well 64 b → Sound 64 (Wanted task w a b) r
  pub best : BestWanted task w b → Well 64 a → Well 64 b → Best 64 (Wanted task w a b) r
