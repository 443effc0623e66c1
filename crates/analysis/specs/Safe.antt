-- What the analysis' yes means, in terms of the machine's own definition.
use Rattle.std.specs.Prelude.{◌≡◌, ◌⊎◌, false, cond, List, ℕ, ◌+◌, ◌/◌, ◌^◌, ◌≤◌, ◌<◌, length, get_or, leb}
use Rattle.machine.specs.declared.outcome.Outcome.TheVariants.{Verdict, Budget}
use Rattle.machine.specs.Machine.{bad_program, bad_record, interpreted}

-- where the unit may lay a record of R bytes and the stack, and what the stack's buffer holds before; an empty record overlaps nothing
pub record Laid (R : ℕ) : Type 0 where
  pub P : ℕ
  pub S : ℕ
  pub before : List ℕ
  pub record_low : 2 ^ 16 ≤ P
  pub record_high : P ≤ 2 ^ 47
  pub stack_low : 2 ^ 16 ≤ S
  pub stack_high : S ≤ 2 ^ 47
  pub apart : (R ≡ 0) ⊎ ((P + R ≤ S) ⊎ (S + 512 ≤ P))
  pub stack_size : length before ≡ 512

-- every element is a byte
abbrev pub Bytes : List ℕ → Type 0
Bytes m = (i : ℕ) → get_or m i 0 < 256

-- one verdict, one number of steps and the stacks left for each budget, all chosen before it is known where memory lies
pub record Answer (program rec : List ℕ) : Type 0 where
  pub verdict : ℕ
  pub steps : ℕ
  pub few : steps ≤ length program / 8
  pub left : ℕ → List ℕ
  pub everywhere : (world : Laid (length rec)) (budget : ℕ) → interpreted program rec world.P world.S world.before budget
      ≡ record { outcome = cond (leb steps budget) (Verdict verdict steps) (Budget budget); stack = left budget }

unfoldable pub Safe : List ℕ → ℕ → Type 0
Safe program R = (rec : List ℕ) → length rec ≡ R → Bytes rec → Answer program rec

-- the lengths are right, and memory is laid as the unit may lay it
pub record Allowed (program rec stack : List ℕ) (P S : ℕ) : Type 0 where
  pub good_length : bad_program (length program) ≡ false
  pub good_record : bad_record (length rec) ≡ false
  pub world : Laid (length rec)
  pub same_P : world.P ≡ P
  pub same_S : world.S ≡ S
  pub same_stack : world.before ≡ stack
