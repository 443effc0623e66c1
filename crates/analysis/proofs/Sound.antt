-- Each kind of instruction that the analysis lets pass: the layout-free machine is not stuck on it, and goes where the analysis says, to
-- what it says.
use mathlib.Core.Path.{◌≡◌, refl, sym, ◌∙◌, subst}
use mathlib.Core.Bool.{Bool, true, false, cond, ◌||◌}
use mathlib.Core.Logic.{◌⊎◌, inl, inr}
use mathlib.Core.List.{List}
use Prim.Native.Nat.{ℕ, ◌+◌, ◌%◌, ◌^◌, ◌≤◌, ◌<◌}
use native.Mathlib.Omega.{arith}
use lib.ListN.{length, set}
use lib.Dec.{eqb}
use borrow.Author.Tests.{le-leb}
use Rattle.std.specs.Prelude.{Some, None, Option}
use Rattle.word.specs.Word.{cut, alu, compare}
use Rattle.word.specs.declared.Operation.{Operation}
use Rattle.word.specs.declared.Operation.TheVariants.{Add, Sub}
use Rattle.word.specs.declared.Comparison.{Comparison}
use Rattle.word.proofs.Bytes.{read_below, write_length, write_keeps_bytes}
use Rattle.word.proofs.Cut.{cut_64}
use Rattle.machine.specs.declared.instruction.Width.{Width}
use Rattle.machine.specs.declared.instruction.Width.TheVariants.{Long, Short}
use Rattle.machine.specs.declared.instruction.Size.{Size}
use Rattle.machine.specs.declared.instruction.Size.TheVariants.{One, Two, Four, Eight}
use Rattle.machine.specs.declared.instruction.Operand.{Operand}
use Rattle.machine.specs.declared.instruction.Operand.TheVariants.{Immediate, Register}
use Rattle.machine.specs.declared.instruction.Instruction.{Instruction}
use Rattle.machine.specs.declared.instruction.Instruction.TheVariants.{Alu, Neg, Jump, Always, Exit, Load, Store, NoInstruction}
use Rattle.machine.specs.Machine.{bits, bytes}
use Rattle.number.specs.declared.Number.{Number}
use Rattle.number.specs.Refined.{Refined}
use Rattle.number.specs.Meaning.{In, Kept}
use Rattle.number.specs.Sharpen.{exact}
use Rattle.number.specs.Sharpen as numbers
use Rattle.number.specs.Computed.{computed, fits}
use Rattle.analysis.specs.declared.Reason.TheVariants.{WritesR10, ReadsUnset, Outside, LeaksAddress}
use Rattle.analysis.specs.declared.Region.{Region}
use Rattle.analysis.specs.declared.Region.TheVariants.{Record, Stack}
use Rattle.analysis.specs.declared.Gone.TheVariants.{Never, Mixed}
use Rattle.analysis.specs.declared.Value.{Value}
use Rattle.analysis.specs.declared.Value.TheVariants.{Unusable, Plain, Address}
use Rattle.analysis.specs.declared.Effect.{Effect}
use Rattle.analysis.specs.declared.Effect.TheVariants.{Refuse, Put, Keep, Fork}
use Rattle.analysis.specs.Values.{Facts, value_of, operand_of}
use Rattle.analysis.specs.Effects.{is_never, is_mixed, reading, reading_both, put, Role, copies, converts, adds, subtracts, calculates, calculate, sum, difference, arithmetic, limit, load, store_at, store, told, fork, exit}
use Rattle.analysis.specs.Judged.{having, with_operand, along, Flow, refuses, flows, apply}
use Rattle.analysis.specs.Safe.{Bytes}
use Rattle.analysis.proofs.Literal.{along_possible}
use Rattle.analysis.proofs.Told.{told_sound}
use Rattle.analysis.proofs.LayoutFree.{Cell, unset, number, offset, Config, Course, stuck, ends, goes, cell_of, operand_cell, put_cell, copied, calculated, summed, subtracted, worked, region, loaded_at, loaded, stored_at, stored, jumped_to, forked, exited}
use Rattle.analysis.proofs.Meaning.{Stands, Describes, Awaits, stand_get, stand_set, stand_learn}
use Rattle.number.proofs.Laws.{exact_in, loaded_in, computed_sound, fits_sound}

-- what the instruction holds is of 64 bits
abbrev pub WordOperand : Operand → Type 0
WordOperand (Immediate n) = n < 2 ^ 64
WordOperand (Register r) = Unit {0}

abbrev pub Words : Instruction → Type 0
Words (Alu w op d s) = WordOperand s
Words (Neg w d) = Unit {0}
Words (Jump w k d s off) = WordOperand s
Words (Always off) = Unit {0}
Words Exit = Unit {0}
Words (Load z d s off) = off < 2 ^ 64
Words (Store z d off s) = (off < 2 ^ 64) × WordOperand s
Words NoInstruction = Unit {0}

-- from index i: not stuck; it ends, or goes on to what is awaited at the next index, or at the target
abbrev pub Follows : ℕ → Flow → Course → Type 0
Follows i (refuses reason) o = Unit {0}
Follows i (flows next there target) stuck = ⊥
Follows i (flows next there target) (ends v) = Unit {0}
Follows i (flows next there target) (goes c) = ((c.index ≡ i + 1) × Awaits next c) ⊎ ((i < target) × (c.index ≡ target % 2 ^ 64) × Awaits there c)

abbrev IsStack : Region → Type 0
IsStack Record = ⊥
IsStack Stack = Unit {0}

stack_not_record : Stack ≡ Record → ⊥
stack_not_record e = subst IsStack e tt

pub wide : (w : Width) → (bits w ≡ 64) ⊎ (bits w ≡ 32)
unfolding bits
wide Long = inl refl
wide Short = inr refl

module _ (a : Facts) (c : Config) (d : Describes a c) where
  put_follows : (r : ℕ) (v : Value) (x : Cell) → Stands v x → Follows c.index (apply a (put r v)) (put_cell c r x)
  unfolding put put_cell apply having
  put_follows r v x h = go (eqb r 10)
    where
      go : (b : Bool) → Follows c.index (apply a (cond b (Refuse WritesR10) (Put r v))) (cond b stuck (goes (record { registers = set c.registers r x; stack = c.stack; index = c.index + 1 })))
      go true = tt
      go false = inl (refl, record { registers = stand_set a.registers c.registers r v x d.registers h; stack_size = d.stack_size; stack_bytes = d.stack_bytes })

  -- a refusal comes before any effect
  pub reading_follows : (v : Value) (e : Effect) (o : Course) → Follows c.index (apply a e) o → Follows c.index (apply a (reading v e)) o
  unfolding reading apply
  reading_follows v e o h = go (is_never v) (is_mixed v)
    where
      go : (p q : Bool) → Follows c.index (apply a (cond p (Refuse ReadsUnset) (cond q (Refuse LeaksAddress) e))) o
      go true q = tt
      go false true = tt
      go false false = h

  pub reading_both_follows : (u v : Value) (e : Effect) (o : Course) → Follows c.index (apply a e) o → Follows c.index (apply a (reading_both u v e)) o
  unfolding reading_both apply
  reading_both_follows u v e o h = go (is_never u || is_never v) (is_mixed u || is_mixed v)
    where
      go : (p q : Bool) → Follows c.index (apply a (cond p (Refuse ReadsUnset) (cond q (Refuse LeaksAddress) e))) o
      go true q = tt
      go false true = tt
      go false false = h

  pub value_stands : (r : ℕ) → Stands (value_of a r) (cell_of c r)
  unfolding value_of cell_of
  value_stands r = stand_get a.registers c.registers r d.registers

  pub operand_stands : (s : Operand) → WordOperand s → Stands (operand_of a s) (operand_cell c s)
  unfolding operand_of operand_cell
  operand_stands (Immediate n) h = exact_in n h
  operand_stands (Register r) h = value_stands r

  -- ---- arithmetic
  pub calculate_follows : (w : ℕ) → (w ≡ 64) ⊎ (w ≡ 32) → (op : Operation) (r : ℕ) (u v : Value) (x y : Cell) → Stands u x → Stands v y
      → Follows c.index (apply a (calculate w op r u v)) (calculated w op c r x y)
  unfolding calculate calculated apply
  calculate_follows w ww op r (Unusable g) v x y h k = tt
  calculate_follows w ww op r (Plain m) (Unusable g) x y h k = tt
  calculate_follows w ww op r (Plain m) (Plain n) unset y h k = absurd h
  calculate_follows w ww op r (Plain m) (Plain n) (number x) unset h k = absurd k
  calculate_follows w ww op r (Plain m) (Plain n) (number x) (number y) h k = put_follows r _ _ (computed_sound w ww op m n x y h k)
  calculate_follows w ww op r (Plain m) (Plain n) (number x) (offset q o) h k = absurd k
  calculate_follows w ww op r (Plain m) (Plain n) (offset p o) y h k = absurd h
  calculate_follows w ww op r (Plain m) (Address q n) x y h k = tt
  calculate_follows w ww op r (Address p m) v x y h k = tt

  sum_follows : (r : ℕ) (u v : Value) (x y : Cell) → Stands u x → Stands v y → Follows c.index (apply a (sum r u v)) (summed c r x y)
  unfolding sum summed apply
  sum_follows r (Unusable g) v x y h k = tt
  sum_follows r (Plain m) (Unusable g) x y h k = tt
  sum_follows r (Plain m) (Plain n) unset y h k = absurd h
  sum_follows r (Plain m) (Plain n) (number x) unset h k = absurd k
  sum_follows r (Plain m) (Plain n) (number x) (number y) h k = put_follows r _ _ (computed_sound 64 (inl refl) Add m n x y h k)
  sum_follows r (Plain m) (Plain n) (number x) (offset q o) h k = absurd k
  sum_follows r (Plain m) (Plain n) (offset p o) y h k = absurd h
  sum_follows r (Plain m) (Address q n) unset y h k = absurd h
  sum_follows r (Plain m) (Address q n) (number x) unset h k = absurd k
  sum_follows r (Plain m) (Address q n) (number x) (number y) h k = absurd k
  sum_follows r (Plain m) (Address q n) (number x) (offset l o) h k = put_follows r _ _ (k.0, computed_sound 64 (inl refl) Add n m o x k.1 h)
  sum_follows r (Plain m) (Address q n) (offset p o) y h k = absurd h
  sum_follows r (Address p m) (Unusable g) x y h k = tt
  sum_follows r (Address p m) (Plain n) unset y h k = absurd h
  sum_follows r (Address p m) (Plain n) (number x) y h k = absurd h
  sum_follows r (Address p m) (Plain n) (offset l o) unset h k = absurd k
  sum_follows r (Address p m) (Plain n) (offset l o) (number y) h k = put_follows r _ _ (h.0, computed_sound 64 (inl refl) Add m n o y h.1 k)
  sum_follows r (Address p m) (Plain n) (offset l o) (offset q u) h k = absurd k
  sum_follows r (Address p m) (Address q n) x y h k = tt

  difference_follows : (r : ℕ) (u v : Value) (x y : Cell) → Stands u x → Stands v y → Follows c.index (apply a (difference r u v)) (subtracted c r x y)
  unfolding difference subtracted apply
  difference_follows r (Unusable g) v x y h k = tt
  difference_follows r (Plain m) (Unusable g) x y h k = tt
  difference_follows r (Plain m) (Plain n) unset y h k = absurd h
  difference_follows r (Plain m) (Plain n) (number x) unset h k = absurd k
  difference_follows r (Plain m) (Plain n) (number x) (number y) h k = put_follows r _ _ (computed_sound 64 (inl refl) Sub m n x y h k)
  difference_follows r (Plain m) (Plain n) (number x) (offset q o) h k = absurd k
  difference_follows r (Plain m) (Plain n) (offset p o) y h k = absurd h
  difference_follows r (Plain m) (Address q n) x y h k = tt
  difference_follows r (Address p m) (Unusable g) x y h k = tt
  difference_follows r (Address p m) (Plain n) unset y h k = absurd h
  difference_follows r (Address p m) (Plain n) (number x) y h k = absurd h
  difference_follows r (Address p m) (Plain n) (offset l o) unset h k = absurd k
  difference_follows r (Address p m) (Plain n) (offset l o) (number y) h k = put_follows r _ _ (h.0, computed_sound 64 (inl refl) Sub m n o y h.1 k)
  difference_follows r (Address p m) (Plain n) (offset l o) (offset q u) h k = absurd k
  difference_follows r (Address p m) (Address q n) x y h k = tt

  copy_follows : (r : ℕ) (v : Value) (y : Cell) → Stands v y → Follows c.index (apply a (reading v (put r v))) (copied c r y)
  unfolding reading is_never is_mixed copied apply
  copy_follows r (Unusable Never) y k = tt
  copy_follows r (Unusable Mixed) y k = tt
  copy_follows r (Plain n) unset k = absurd k
  copy_follows r (Plain n) (number y) k = put_follows r (Plain n) (number (cut 64 y)) (subst (In n) (sym (cut_64 k.bits.fits)) k)
  copy_follows r (Plain n) (offset q o) k = absurd k
  copy_follows r (Address q n) unset k = absurd k
  copy_follows r (Address q n) (number y) k = absurd k
  copy_follows r (Address q n) (offset l o) k = put_follows r (Address q n) (offset l o) k

  pub arithmetic_follows : (e : Role) (w : ℕ) → (w ≡ 64) ⊎ (w ≡ 32) → (op : Operation) (r : ℕ) (u v : Value) (x y : Cell) → Stands u x → Stands v y
      → Follows c.index (apply a (arithmetic e w op r u v)) (worked e w op c r x y)
  unfolding arithmetic worked
  arithmetic_follows copies w ww op r u v x y h k = copy_follows r v y k
  arithmetic_follows converts w ww op r u v x y h k = reading_follows v _ _ (calculate_follows w ww op r v v y y k k)
  arithmetic_follows adds w ww op r u v x y h k = reading_both_follows u v _ _ (sum_follows r u v x y h k)
  arithmetic_follows subtracts w ww op r u v x y h k = reading_both_follows u v _ _ (difference_follows r u v x y h k)
  arithmetic_follows calculates w ww op r u v x y h k = reading_both_follows u v _ _ (calculate_follows w ww op r u v x y h k)

  -- ---- jumps
  learn_operand : (b : Facts) (s : Operand) (y : ℕ) (v : Number) → Describes b c → operand_cell c s ≡ number y → In v y → Describes (with_operand b s (Plain v)) c
  unfolding with_operand having operand_cell cell_of
  learn_operand b (Immediate n) y v e q h = e
  learn_operand b (Register r) y v e q h =
      record { registers = stand_learn b.registers c.registers r (Plain v) e.registers (rw q h); stack_size = e.stack_size; stack_bytes = e.stack_bytes }

  along_awaits : (r : ℕ) (s : Operand) (x y : ℕ) (o : Refined) → cell_of c r ≡ number x → operand_cell c s ≡ number y → Kept o x y → Awaits (along a r s o) c
  unfolding having cell_of
  along_awaits r s x y None p q h = absurd h
  along_awaits r s x y (Some (m, n)) p q h =
      rw (along_possible a r s m n)
      (learn_operand _ s y n
      (record { registers = stand_learn a.registers c.registers r (Plain m) d.registers (rw p h.0); stack_size = d.stack_size; stack_bytes = d.stack_bytes })
      q h.1)

  compare_follows : (w : Width) (k : Comparison) (r : ℕ) (s : Operand) (off : ℕ) (m n : Number) (x y : ℕ) → cell_of c r ≡ number x → operand_cell c s ≡ number y → In m x → In n y
      → Follows c.index (apply a (Fork r s (told w k false m n) (told w k true m n) (c.index + 1 + off))) (jumped_to (compare (bits w) k x y) c off)
  unfolding apply jumped_to
  compare_follows w k r s off m n x y p q h l = go (compare (bits w) k x y) refl
    where
      same : (j : ℕ) (o : Option Facts) → Awaits o c → Awaits o (record { registers = c.registers; stack = c.stack; index = j })
      same j None e = e
      same j (Some b) e = record { registers = e.registers; stack_size = e.stack_size; stack_bytes = e.stack_bytes }

      go : (t : Bool) → compare (bits w) k x y ≡ t
          → Follows c.index (flows (along a r s (told w k false m n)) (along a r s (told w k true m n)) (c.index + 1 + off))
          (goes (record { registers = c.registers; stack = c.stack; index = cond t ((c.index + 1 + off) % 2 ^ 64) (c.index + 1) }))
      go true e = inr (omega arith, refl, same _ (along a r s (told w k true m n)) (along_awaits r s x y (told w k true m n) p q (told_sound w k true m n x y h l e)))
      go false e = inl (refl, same _ (along a r s (told w k false m n)) (along_awaits r s x y (told w k false m n) p q (told_sound w k false m n x y h l e)))

  pub fork_follows : (w : Width) (k : Comparison) (r : ℕ) (s : Operand) (off : ℕ) (u v : Value) (x y : Cell) → cell_of c r ≡ x → operand_cell c s ≡ y → Stands u x → Stands v y
      → Follows c.index (apply a (fork w k r s (c.index + 1 + off) u v)) (forked w k c off x y)
  unfolding fork forked apply
  fork_follows w k r s off (Unusable g) v x y p q h l = tt
  fork_follows w k r s off (Plain m) (Unusable g) x y p q h l = tt
  fork_follows w k r s off (Plain m) (Plain n) unset y p q h l = absurd h
  fork_follows w k r s off (Plain m) (Plain n) (number x) unset p q h l = absurd l
  fork_follows w k r s off (Plain m) (Plain n) (number x) (number y) p q h l = compare_follows w k r s off m n x y p q h l
  fork_follows w k r s off (Plain m) (Plain n) (number x) (offset b o) p q h l = absurd l
  fork_follows w k r s off (Plain m) (Plain n) (offset b o) y p q h l = absurd h
  fork_follows w k r s off (Plain m) (Address b n) x y p q h l = tt
  fork_follows w k r s off (Address b m) v x y p q h l = tt

  pub exit_follows : (v : Value) (x : Cell) → Stands v x → Follows c.index (apply a (reading v (exit v))) (exited x)
  unfolding reading is_never is_mixed exit exited apply
  exit_follows (Unusable Never) x h = tt
  exit_follows (Unusable Mixed) x h = tt
  exit_follows (Plain n) unset h = absurd h
  exit_follows (Plain n) (number x) h = tt
  exit_follows (Plain n) (offset q o) h = absurd h
  exit_follows (Address q n) x h = tt

  -- ---- memory
  few_bytes : (z : Size) → bytes z ≤ 8
  unfolding bytes
  few_bytes One = omega arith
  few_bytes Two = omega arith
  few_bytes Four = omega arith
  few_bytes Eight = omega arith

  module _ (rec : List ℕ) (record_bytes : Bytes rec) where
    region_bytes : (p : Region) → Bytes (region rec c p)
    unfolding region
    region_bytes Record = record_bytes
    region_bytes Stack = d.stack_bytes

    pub load_follows : (z : Size) (r off : ℕ) → off < 2 ^ 64 → (v : Value) (x : Cell) → Stands v x
        → Follows c.index (apply a (load (length rec) (bytes z) r off v)) (loaded rec (bytes z) c r off x)
    unfolding load loaded loaded_at apply
    load_follows z r off f (Unusable g) x h = tt
    load_follows z r off f (Plain n) x h = tt
    load_follows z r off f (Address p n) unset h = absurd h
    load_follows z r off f (Address p n) (number x) h = absurd h
    load_follows z r off f (Address p n) (offset q o) h =
        subst (λ l. Follows c.index (apply a (cond (fits (computed 64 Add n (exact off)) (bytes z) (limit (length rec) p)) (put r (Plain (numbers.loaded (bytes z)))) (Refuse Outside))) (loaded_at rec (bytes z) c r l (alu 64 Add o off))) h.0
        (go (fits (computed 64 Add n (exact off)) (bytes z) (limit (length rec) p)) refl)
      where
        go : (t : Bool) → fits (computed 64 Add n (exact off)) (bytes z) (limit (length rec) p) ≡ t
            → Follows c.index (apply a (cond t (put r (Plain (numbers.loaded (bytes z)))) (Refuse Outside))) (loaded_at rec (bytes z) c r p (alu 64 Add o off))
        go true e =
            rw (le-leb _ _ (fits_sound (computed 64 Add n (exact off)) (bytes z) (limit (length rec) p) (alu 64 Add o off) e (computed_sound 64 (inl refl) Add n (exact off) o off h.1 (exact_in off f))))
            (put_follows r _ _ (loaded_in (bytes z) (few_bytes z) _ (read_below (bytes z) (region rec c p) (alu 64 Add o off) (region_bytes p))))
        go false e = tt

    store_at_follows : (z : Size) (off : ℕ) → off < 2 ^ 64 → (u : Value) (x : Cell) (m : Number) (y : ℕ) → Stands u x
        → Follows c.index (apply a (store_at (bytes z) off u)) (stored (bytes z) c off x (number y))
    unfolding store_at stored stored_at apply
    store_at_follows z off f (Unusable g) x m y h = tt
    store_at_follows z off f (Plain n) x m y h = tt
    store_at_follows z off f (Address Record n) x m y h = tt
    store_at_follows z off f (Address Stack n) unset m y h = absurd h
    store_at_follows z off f (Address Stack n) (number x) m y h = absurd h
    store_at_follows z off f (Address Stack n) (offset Record o) m y h = absurd (stack_not_record h.0)
    store_at_follows z off f (Address Stack n) (offset Stack o) m y h = go (fits (computed 64 Add n (exact off)) (bytes z) 512) refl
      where
        go : (t : Bool) → fits (computed 64 Add n (exact off)) (bytes z) 512 ≡ t
            → Follows c.index (apply a (cond t Keep (Refuse Outside))) (stored_at (bytes z) c (alu 64 Add o off) y)
        go true e =
            rw (le-leb _ _ (fits_sound (computed 64 Add n (exact off)) (bytes z) 512 (alu 64 Add o off) e (computed_sound 64 (inl refl) Add n (exact off) o off h.1 (exact_in off f))))
            (inl (
              refl,
              record {
                registers = d.registers;
                stack_size = write_length (bytes z) c.stack (alu 64 Add o off) y ∙ d.stack_size;
                stack_bytes = write_keeps_bytes (bytes z) c.stack (alu 64 Add o off) y d.stack_bytes;
              },
            ))
        go false e = tt

    pub store_follows : (z : Size) (off : ℕ) → off < 2 ^ 64 → (u v : Value) (x y : Cell) → Stands u x → Stands v y
        → Follows c.index (apply a (store (bytes z) off u v)) (stored (bytes z) c off x y)
    unfolding store apply
    store_follows z off f u (Unusable g) x y h k = tt
    store_follows z off f u (Plain n) x unset h k = absurd k
    store_follows z off f u (Plain n) x (number y) h k = store_at_follows z off f u x n y h
    store_follows z off f u (Plain n) x (offset q o) h k = absurd k
    store_follows z off f u (Address q n) x y h k = tt
