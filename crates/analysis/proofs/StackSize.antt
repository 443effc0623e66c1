-- No instruction changes the size of the layout-free machine's stack.
use mathlib.Core.Path.{◌≡◌, refl}
use mathlib.Core.Bool.{Bool, true, false, cond}
use mathlib.Core.List.{List}
use Prim.Native.Nat.{ℕ, ◌+◌}
use lib.ListN.{length}
use lib.Dec.{eqb, leb}
use Rattle.word.specs.Word.{alu, read_bytes, write_bytes}
use Rattle.word.specs.declared.Operation.{Operation}
use Rattle.word.specs.declared.Operation.TheVariants.{Add}
use Rattle.word.specs.declared.Operation.TheVariants as operation
use Rattle.word.specs.declared.Comparison.{Comparison}
use Rattle.word.proofs.Bytes.{write_length}
use Rattle.machine.specs.declared.instruction.Width.{Width}
use Rattle.machine.specs.declared.instruction.Instruction.{Instruction}
use Rattle.machine.specs.declared.instruction.Instruction.TheVariants.{Alu, Neg, Jump, Always, Exit, Load, Store, NoInstruction}
use Rattle.machine.specs.Machine.{bits, bytes}
use Rattle.analysis.specs.declared.Region.TheVariants.{Record, Stack}
use Rattle.analysis.specs.Effects.{Role, copies, converts, adds, subtracts, calculates, role, limit}
use Rattle.analysis.proofs.LayoutFree.{Cell, unset, number, offset, Config, Course, stuck, ends, goes, cell_of, put_cell, copied, calculated, summed, subtracted, worked, region, loaded_at, loaded, stored_at, stored, jumped_to, forked, exited, free}

abbrev pub Keeps : Config → Course → Type 0
Keeps c stuck = Unit {0}
Keeps c (ends v) = Unit {0}
Keeps c (goes c') = length c'.stack ≡ length c.stack

module _ (c : Config) where
  guard_keeps : (b : Bool) (c' : Config) → length c'.stack ≡ length c.stack → Keeps c (cond b stuck (goes c'))
  guard_keeps true c' e = tt
  guard_keeps false c' e = e

  put_keeps : (d : ℕ) (x : Cell) → Keeps c (put_cell c d x)
  unfolding put_cell
  put_keeps d x = guard_keeps (eqb d 10) _ refl

  calculated_keeps : (w : ℕ) (op : Operation) (d : ℕ) (x y : Cell) → Keeps c (calculated w op c d x y)
  unfolding calculated
  calculated_keeps w op d unset y = tt
  calculated_keeps w op d (number a) unset = tt
  calculated_keeps w op d (number a) (number b) = put_keeps d _
  calculated_keeps w op d (number a) (offset q u) = tt
  calculated_keeps w op d (offset p o) y = tt

  worked_keeps : (r : Role) (w : ℕ) (op : Operation) (d : ℕ) (x y : Cell) → Keeps c (worked r w op c d x y)
  unfolding worked copied summed subtracted
  worked_keeps copies w op d x unset = tt
  worked_keeps copies w op d x (number b) = put_keeps d _
  worked_keeps copies w op d x (offset q u) = put_keeps d _
  worked_keeps converts w op d x y = calculated_keeps w op d y y
  worked_keeps adds w op d unset y = tt
  worked_keeps adds w op d (number a) unset = tt
  worked_keeps adds w op d (number a) (number b) = put_keeps d _
  worked_keeps adds w op d (number a) (offset q u) = put_keeps d _
  worked_keeps adds w op d (offset p o) unset = tt
  worked_keeps adds w op d (offset p o) (number b) = put_keeps d _
  worked_keeps adds w op d (offset p o) (offset q u) = tt
  worked_keeps subtracts w op d unset y = tt
  worked_keeps subtracts w op d (number a) unset = tt
  worked_keeps subtracts w op d (number a) (number b) = put_keeps d _
  worked_keeps subtracts w op d (number a) (offset q u) = tt
  worked_keeps subtracts w op d (offset p o) unset = tt
  worked_keeps subtracts w op d (offset p o) (number b) = put_keeps d _
  worked_keeps subtracts w op d (offset p o) (offset q u) = tt
  worked_keeps calculates w op d x y = calculated_keeps w op d x y

  loaded_keeps : (rec : List ℕ) (size d off : ℕ) (x : Cell) → Keeps c (loaded rec size c d off x)
  unfolding loaded loaded_at
  loaded_keeps rec size d off unset = tt
  loaded_keeps rec size d off (number a) = tt
  loaded_keeps rec size d off (offset p o) = go (leb (alu 64 Add o off + size) (limit (length rec) p))
    where
      go : (b : Bool) → Keeps c (cond b (put_cell c d (number (read_bytes size (region rec c p) (alu 64 Add o off)))) stuck)
      go true = put_keeps d _
      go false = tt

  stored_keeps : (size off : ℕ) (x y : Cell) → Keeps c (stored size c off x y)
  unfolding stored stored_at
  stored_keeps size off unset y = tt
  stored_keeps size off (number a) y = tt
  stored_keeps size off (offset Record o) y = tt
  stored_keeps size off (offset Stack o) unset = tt
  stored_keeps size off (offset Stack o) (number b) = go (leb (alu 64 Add o off + size) 512)
    where
      go : (t : Bool) → Keeps c (cond t (goes (record { registers = c.registers; stack = write_bytes size c.stack (alu 64 Add o off) b; index = c.index + 1 })) stuck)
      go true = write_length size c.stack (alu 64 Add o off) b
      go false = tt
  stored_keeps size off (offset Stack o) (offset q u) = tt

  forked_keeps : (w : Width) (k : Comparison) (off : ℕ) (x y : Cell) → Keeps c (forked w k c off x y)
  unfolding forked jumped_to
  forked_keeps w k off unset y = tt
  forked_keeps w k off (number a) unset = tt
  forked_keeps w k off (number a) (number b) = refl
  forked_keeps w k off (number a) (offset q u) = tt
  forked_keeps w k off (offset p o) y = tt

  exited_keeps : (x : Cell) → Keeps c (exited x)
  unfolding exited
  exited_keeps unset = tt
  exited_keeps (number v) = tt
  exited_keeps (offset p o) = tt

  pub free_keeps : (rec : List ℕ) (i : Instruction) → Keeps c (free rec c i)
  unfolding free jumped_to
  free_keeps rec (Alu w op d s) = worked_keeps (role w op) (bits w) op d _ _
  free_keeps rec (Neg w d) = calculated_keeps (bits w) operation.Neg d _ _
  free_keeps rec (Jump w k d s off) = forked_keeps w k off _ _
  free_keeps rec (Always off) = refl
  free_keeps rec Exit = exited_keeps (cell_of c 0)
  free_keeps rec (Load z d s off) = loaded_keeps rec (bytes z) d off _
  free_keeps rec (Store z d off s) = stored_keeps (bytes z) off _ _
  free_keeps rec NoInstruction = tt
