-- The machine does under every layout what the layout-free machine does, until that is stuck.
use Rattle.std.proofs.Common.{ℕ, Some}
use mathlib.Core.Path.{◌≡◌, refl, sym, ap, ap₂, ◌∙◌}
use mathlib.Core.Bool.{Bool, true, false, cond, ◌&&◌, ◌||◌}
use mathlib.Core.Logic.{◌⊎◌, inl, inr, ⊎_elim}
use mathlib.Core.List.{List, [], ◌∷◌, map}
use Prim.Native.Nat.{ℕ, zero, suc, ◌+◌, ◌-◌, ◌%◌, ◌^◌, ◌≤◌, ◌<◌}
use native.Mathlib.Nat.{mod-eq_of_lt, mod-mod, mod-add-mod, add-mod-mod, add_assoc, add_comm}
use native.Mathlib.Decide.{dec_lt}
use native.Mathlib.Omega.{arith}
use lib.ListN.{length, set, get_or-map}
use lib.Dec.{eqb, leb}
use borrow.Author.Tests.{leb-true, le-leb, lt-leb}
use Rattle.word.specs.Word.{cut, alu, compare, read_bytes, write_bytes}
use Rattle.word.specs.declared.Operation.{Operation}
use Rattle.word.specs.declared.Operation.TheVariants.{Add, Sub, Mov}
use Rattle.word.specs.declared.Operation.TheVariants as operation
use Rattle.word.specs.declared.Comparison.{Comparison}
use Rattle.machine.specs.declared.instruction.Width.{Width}
use Rattle.machine.specs.declared.instruction.Width.TheVariants.{Long, Short}
use Rattle.machine.specs.declared.instruction.Size.{Size}
use Rattle.machine.specs.declared.instruction.Size.TheVariants.{One, Two, Four, Eight}
use Rattle.machine.specs.declared.instruction.Operand.{Operand}
use Rattle.machine.specs.declared.instruction.Operand.TheVariants.{Immediate, Register}
use Rattle.machine.specs.declared.instruction.Instruction.{Instruction}
use Rattle.machine.specs.declared.instruction.Instruction.TheVariants.{Alu, Neg, Jump, Always, Exit, Load, Store, NoInstruction}
use Rattle.machine.specs.Instruction.{reads_operand, reads_dst, reads, writes}
use Rattle.machine.specs.Machine.{World, Content, Unset, Holds, State, After, content, held, value, operand_value, put, jumped, bits, bytes, address, within, after_load, after_store, effect, is_no_instruction, names10, is_unset, any_unset, obey, start}
use Rattle.machine.specs.Machine as machine
use Rattle.analysis.specs.declared.Region.{Region}
use Rattle.analysis.specs.declared.Region.TheVariants.{Record, Stack}
use Rattle.analysis.specs.Effects.{role, limit}
use Rattle.analysis.proofs.Roles.{by_role}
use Rattle.analysis.proofs.LayoutFree.{Cell, unset, number, offset, Config, Course, stuck, ends, goes, cell_of, operand_cell, put_cell, copied, calculated, summed, subtracted, worked, region, loaded_at, loaded, stored_at, stored, jumped_to, forked, exited, free}

pub map_set : {A B : Type 0} (f : A → B) (l : List A) (i : ℕ) (a : A) → map f (set l i a) ≡ set (map f l) i (f a)
map_set f [] i a = refl
map_set f (x ∷ xs) zero a = refl
map_set f (x ∷ xs) (suc i) a = ap (λ t. f x ∷ t) (map_set f xs i a)

-- ---- moving an address by a number moves its offset by it

offset_moves : (A o c : ℕ) → (A + (o % 2 ^ 64 + c) % 2 ^ 64) % 2 ^ 64 ≡ ((A + o) % 2 ^ 64 % 2 ^ 64 + c) % 2 ^ 64
offset_moves A o c =
    add-mod-mod A (o % 2 ^ 64 + c) (2 ^ 64) ∙ ap (λ n. n % 2 ^ 64) (sym (add_assoc A (o % 2 ^ 64) c)) ∙ sym (mod-add-mod (A + o % 2 ^ 64) (2 ^ 64) c)
    ∙ ap (λ n. (n + c) % 2 ^ 64) (add-mod-mod A o (2 ^ 64) ∙ sym (mod-mod (A + o) (2 ^ 64)))

add_moves : (A o b : ℕ) → (A + alu 64 Add o b) % 2 ^ 64 ≡ alu 64 Add ((A + o) % 2 ^ 64) b
unfolding alu cut
add_moves A o b = offset_moves A o (b % 2 ^ 64)

add_moves_back : (A o a : ℕ) → (A + alu 64 Add o a) % 2 ^ 64 ≡ alu 64 Add a ((A + o) % 2 ^ 64)
unfolding alu cut
add_moves_back A o a = offset_moves A o (a % 2 ^ 64) ∙ ap (λ n. n % 2 ^ 64) (add_comm ((A + o) % 2 ^ 64 % 2 ^ 64) (a % 2 ^ 64))

sub_moves : (A o b : ℕ) → (A + alu 64 Sub o b) % 2 ^ 64 ≡ alu 64 Sub ((A + o) % 2 ^ 64) b
unfolding alu cut
sub_moves A o b = offset_moves A o (2 ^ 64 - b % 2 ^ 64)

address_moves : (A o off : ℕ) → (A + alu 64 Add o off) % 2 ^ 64 ≡ address ((A + o) % 2 ^ 64) off
unfolding alu cut address
address_moves A o off =
    offset_moves A o (off % 2 ^ 64) ∙ ap (λ n. (n + off % 2 ^ 64) % 2 ^ 64) (mod-mod (A + o) (2 ^ 64)) ∙ add-mod-mod ((A + o) % 2 ^ 64) off (2 ^ 64)

-- ---- a layout-free configuration under a layout

module _ (w : World) where
  abbrev pub base : Region → ℕ
  base Record = w.P
  base Stack = w.S

  abbrev pub conc : Cell → Content
  conc unset = Unset
  conc (number n) = Holds n
  conc (offset p o) = Holds ((base p + o) % 2 ^ 64)

  abbrev pub concrete : Config → State
  concrete c = record { registers = map conc c.registers; stack = c.stack; index = c.index }

  -- the machine did the same, unless the layout-free one was stuck
  abbrev pub Same : Course → After → Type 0
  Same stuck o = Unit {0}
  Same (ends v) o = o ≡ machine.ends v
  Same (goes c) o = o ≡ machine.goes (concrete c)

  content_conc : (c : Config) (r : ℕ) → content (concrete c) r ≡ conc (cell_of c r)
  unfolding content cell_of
  content_conc c r = get_or-map conc c.registers r unset

  operand_unset : (c : Config) (s : Operand) → any_unset (concrete c) (reads_operand s) ≡ is_unset (conc (operand_cell c s))
  unfolding any_unset reads_operand operand_cell is_unset
  operand_unset c (Immediate n) = refl
  operand_unset c (Register r) = ap (λ b. is_unset b || false) (content_conc c r) ∙ or-false (is_unset (conc (cell_of c r)))
    where
      or-false : (b : Bool) → (b || false) ≡ b
      or-false true = refl
      or-false false = refl

  operand_conc : (c : Config) (s : Operand) → operand_value (concrete c) s ≡ held (conc (operand_cell c s))
  unfolding operand_value operand_cell value held
  operand_conc c (Immediate n) = refl
  operand_conc c (Register r) = ap held (content_conc c r)

  -- an instruction that passes the tests has its effect
  obeyed : (t : State) (i : Instruction) → is_no_instruction i ≡ false → names10 (writes i) ≡ false → any_unset t (reads i) ≡ false → obey w t i ≡ effect w t i
  unfolding obey
  obeyed t i p q r = rw (p, q, r) refl

  put_same : (c : Config) (d : ℕ) (x : Cell) (v : ℕ) (o : After) → conc x ≡ Holds v → (eqb d 10 ≡ false → o ≡ machine.goes (put (concrete c) d v)) → Same (put_cell c d x) o
  unfolding put_cell put
  put_same c d x v o e h = go (eqb d 10) refl
    where
      go : (b : Bool) → eqb d 10 ≡ b → Same (cond b stuck (goes (record { registers = set c.registers d x; stack = c.stack; index = c.index + 1 }))) o
      go true q = tt
      go false q =
          h q ∙ ap (λ r. machine.goes (record { registers = r; stack = c.stack; index = c.index + 1 }))
          (ap (set (map conc c.registers) d) (sym e) ∙ sym (map_set conc c.registers d x))

  -- ---- arithmetic: all operations but MOV read dst and the operand
  module _ (c : Config) (wd : Width) (op : Operation) (d : ℕ) (s : Operand) where
    both_read : reads_dst op d ≡ d ∷ [] → is_unset (conc (cell_of c d)) ≡ false → is_unset (conc (operand_cell c s)) ≡ false
        → eqb d 10 ≡ false
        → obey w (concrete c) (Alu wd op d s)
        ≡ machine.goes (put (concrete c) d (alu (bits wd) op (held (conc (cell_of c d))) (held (conc (operand_cell c s)))))
    unfolding effect reads writes is_no_instruction names10 any_unset value
    both_read r x y e =
        obeyed (concrete c) (Alu wd op d s) refl (rw e refl) (rw r (rw (content_conc c d) (rw x (operand_unset c s ∙ y))))
        ∙ ap₂ (λ a b. machine.goes (put (concrete c) d (alu (bits wd) op a b))) (ap held (content_conc c d)) (operand_conc c s)

    operand_read : reads_dst op d ≡ [] → is_unset (conc (operand_cell c s)) ≡ false → eqb d 10 ≡ false
        → obey w (concrete c) (Alu wd op d s)
        ≡ machine.goes (put (concrete c) d (alu (bits wd) op (value (concrete c) d) (held (conc (operand_cell c s)))))
    unfolding effect reads writes is_no_instruction names10 any_unset
    operand_read r y e =
        obeyed (concrete c) (Alu wd op d s) refl (rw e refl) (rw r (operand_unset c s ∙ y))
        ∙ ap (λ b. machine.goes (put (concrete c) d (alu (bits wd) op (value (concrete c) d) b))) (operand_conc c s)

    calculated_same : reads_dst op d ≡ d ∷ [] → (x y : Cell) → cell_of c d ≡ x → operand_cell c s ≡ y
        → Same (calculated (bits wd) op c d x y) (obey w (concrete c) (Alu wd op d s))
    unfolding calculated is_unset held
    calculated_same r unset y p q = tt
    calculated_same r (number a) unset p q = tt
    calculated_same r (number a) (number b) p q =
        put_same c d (number (alu (bits wd) op a b)) _ _ refl
        (λ e. both_read r (rw p refl) (rw q refl) e ∙ rw (p, q) refl)
    calculated_same r (number a) (offset l u) p q = tt
    calculated_same r (offset k o) y p q = tt

  summed_same : (c : Config) (d : ℕ) (s : Operand) (x y : Cell) → cell_of c d ≡ x → operand_cell c s ≡ y
      → Same (summed c d x y) (obey w (concrete c) (Alu Long Add d s))
  unfolding summed is_unset held reads_dst bits
  summed_same c d s unset y p q = tt
  summed_same c d s (number a) unset p q = tt
  summed_same c d s (number a) (number b) p q =
      put_same c d (number (alu 64 Add a b)) _ _ refl (λ e. both_read c Long Add d s refl (rw p refl) (rw q refl) e ∙ rw (p, q) refl)
  summed_same c d s (number a) (offset l u) p q =
      put_same c d (offset l (alu 64 Add u a)) _ _ (ap Holds (add_moves_back (base l) u a))
      (λ e. both_read c Long Add d s refl (rw p refl) (rw q refl) e ∙ rw (p, q) refl)
  summed_same c d s (offset k o) unset p q = tt
  summed_same c d s (offset k o) (number b) p q =
      put_same c d (offset k (alu 64 Add o b)) _ _ (ap Holds (add_moves (base k) o b))
      (λ e. both_read c Long Add d s refl (rw p refl) (rw q refl) e ∙ rw (p, q) refl)
  summed_same c d s (offset k o) (offset l u) p q = tt

  subtracted_same : (c : Config) (d : ℕ) (s : Operand) (x y : Cell) → cell_of c d ≡ x → operand_cell c s ≡ y
      → Same (subtracted c d x y) (obey w (concrete c) (Alu Long Sub d s))
  unfolding subtracted is_unset held reads_dst bits
  subtracted_same c d s unset y p q = tt
  subtracted_same c d s (number a) unset p q = tt
  subtracted_same c d s (number a) (number b) p q =
      put_same c d (number (alu 64 Sub a b)) _ _ refl (λ e. both_read c Long Sub d s refl (rw p refl) (rw q refl) e ∙ rw (p, q) refl)
  subtracted_same c d s (number a) (offset l u) p q = tt
  subtracted_same c d s (offset k o) unset p q = tt
  subtracted_same c d s (offset k o) (number b) p q =
      put_same c d (offset k (alu 64 Sub o b)) _ _ (ap Holds (sub_moves (base k) o b))
      (λ e. both_read c Long Sub d s refl (rw p refl) (rw q refl) e ∙ rw (p, q) refl)
  subtracted_same c d s (offset k o) (offset l u) p q = tt

  copied_same : (c : Config) (d : ℕ) (s : Operand) (y : Cell) → operand_cell c s ≡ y → Same (copied c d y) (obey w (concrete c) (Alu Long Mov d s))
  unfolding copied is_unset held reads_dst bits alu cut
  copied_same c d s unset q = tt
  copied_same c d s (number b) q =
      put_same c d (number (b % 2 ^ 64)) _ _ refl (λ e. operand_read c Long Mov d s refl (rw q refl) e ∙ rw q refl)
  copied_same c d s (offset l u) q =
      put_same c d (offset l u) _ _ (ap Holds (sym (mod-mod (base l + u) (2 ^ 64)))) (λ e. operand_read c Long Mov d s refl (rw q refl) e ∙ rw q refl)

  converted_same : (c : Config) (d : ℕ) (s : Operand) (y : Cell) → operand_cell c s ≡ y
      → Same (calculated 32 Mov c d y y) (obey w (concrete c) (Alu Short Mov d s))
  unfolding calculated is_unset held reads_dst bits alu
  converted_same c d s unset q = tt
  converted_same c d s (number b) q =
      put_same c d (number (cut 32 b)) _ _ refl (λ e. operand_read c Short Mov d s refl (rw q refl) e ∙ rw q refl)
  converted_same c d s (offset l u) q = tt

  alu_same : (c : Config) (wd : Width) (op : Operation) (d : ℕ) (s : Operand)
      → Same (worked (role wd op) (bits wd) op c d (cell_of c d) (operand_cell c s)) (obey w (concrete c) (Alu wd op d s))
  unfolding worked bits
  alu_same c wd op d s =
      by_role (λ v o r. Same (worked r (bits v) o c d (cell_of c d) (operand_cell c s)) (obey w (concrete c) (Alu v o d s)))
      (summed_same c d s _ _ refl refl) (subtracted_same c d s _ _ refl refl) (copied_same c d s _ refl) (converted_same c d s _ refl)
      (λ v o e. calculated_same c v o d s (e d) _ _ refl refl) wd op

  neg_same : (c : Config) (wd : Width) (d : ℕ) (x : Cell) → cell_of c d ≡ x
      → Same (calculated (bits wd) operation.Neg c d x x) (obey w (concrete c) (Neg wd d))
  unfolding calculated effect reads writes is_no_instruction names10 any_unset is_unset value held alu
  neg_same c wd d unset p = tt
  neg_same c wd d (number a) p =
      put_same c d _ _ _ refl
      (λ e. obeyed (concrete c) (Neg wd d) refl (rw e refl) (rw (content_conc c d) (rw p refl))
      ∙ ap (λ n. machine.goes (put (concrete c) d n)) (rw (content_conc c d) (rw p refl)))
  neg_same c wd d (offset k o) p = tt

  -- ---- jumps
  forked_same : (c : Config) (wd : Width) (k : Comparison) (d : ℕ) (s : Operand) (off : ℕ) (x y : Cell) → cell_of c d ≡ x → operand_cell c s ≡ y
      → Same (forked wd k c off x y) (obey w (concrete c) (Jump wd k d s off))
  unfolding forked jumped_to jumped effect reads writes is_no_instruction names10 any_unset is_unset value held
  forked_same c wd k d s off unset y p q = tt
  forked_same c wd k d s off (number a) unset p q = tt
  forked_same c wd k d s off (number a) (number b) p q =
      obeyed (concrete c) (Jump wd k d s off) refl refl (rw (content_conc c d) (rw p (operand_unset c s ∙ rw q refl)))
      ∙ ap₂ (λ m n. machine.goes (jumped (compare (bits wd) k m n) (concrete c) off)) (ap held (content_conc c d ∙ ap conc p)) (operand_conc c s ∙ ap (λ z. held (conc z)) q)
  forked_same c wd k d s off (number a) (offset l u) p q = tt
  forked_same c wd k d s off (offset l o) y p q = tt

  exited_same : (c : Config) (x : Cell) → cell_of c 0 ≡ x → Same (exited x) (obey w (concrete c) Exit)
  unfolding exited effect reads writes is_no_instruction names10 any_unset is_unset value held
  exited_same c unset p = tt
  exited_same c (number v) p =
      obeyed (concrete c) Exit refl refl (rw (content_conc c 0) (rw p refl)) ∙ ap machine.ends (ap held (content_conc c 0 ∙ ap conc p))
  exited_same c (offset k o) p = tt

  -- ---- memory, where the record and the stack lie as the unit may lay them
  pub record Apart : Type 0 where
    pub small : length w.rec ≤ 1024
    pub record_high : w.P ≤ 2 ^ 47
    pub stack_high : w.S ≤ 2 ^ 47
    pub apart : (length w.rec ≡ 0) ⊎ ((w.P + length w.rec ≤ w.S) ⊎ (w.S + 512 ≤ w.P))

  pub within_yes : (start len a n : ℕ) → start ≤ a → a + n ≤ start + len → within start len a n ≡ true
  unfolding within
  within_yes start len a n p q = rw (le-leb start a p, le-leb (a + n) (start + len) q) refl

  pub within_no : (start len a n : ℕ) → (a < start) ⊎ (start + len < a + n) → within start len a n ≡ false
  unfolding within
  within_no start len a n (inl h) = rw (lt-leb start a h) refl
  within_no start len a n (inr h) = rw (lt-leb (a + n) (start + len) h) (and-false (leb start a))
    where
      and-false : (b : Bool) → (b && false) ≡ false
      and-false true = refl
      and-false false = refl

  some_bytes : (z : Size) → 0 < bytes z
  unfolding bytes
  some_bytes One = omega arith
  some_bytes Two = omega arith
  some_bytes Four = omega arith
  some_bytes Eight = omega arith

  module _ (ok : Apart) where
    -- no access within the stack lies in the record too
    outside_record : (e n : ℕ) → 0 < n → e + n ≤ 512 → within w.P (length w.rec) (w.S + e) n ≡ false
    outside_record e n p q =
        ⊎_elim (λ z. within_no _ _ _ _ (go z (dec_lt (w.S + e) w.P)))
        (⊎_elim (λ z. within_no w.P (length w.rec) (w.S + e) n (inr (omega arith))) (λ z. within_no w.P (length w.rec) (w.S + e) n (inl (omega arith)))) ok.apart
      where
        go : length w.rec ≡ 0 → Dec (w.S + e < w.P) → (w.S + e < w.P) ⊎ (w.P + length w.rec < w.S + e + n)
        go z (yes l) = inl l
        go z (no l) = inr (omega arith)

    found : (c : Config) (z : Size) (p : Region) (e : ℕ) → length c.stack ≡ 512 → e + bytes z ≤ limit (length w.rec) p
        → machine.loaded w c.stack ((base p + e) % 2 ^ 64) z ≡ Some (read_bytes (bytes z) (region w.rec c p) e)
    unfolding machine.loaded limit region
    found c z Record e l h =
        rw (mod-eq_of_lt {n = w.P + e} {m = 2 ^ 64} (omega arith))
        (rw (within_yes w.P (length w.rec) (w.P + e) (bytes z) (omega arith) (omega arith))
        (ap (λ i. Some (read_bytes (bytes z) w.rec i)) (omega arith)))
    found c z Stack e l h =
        rw (mod-eq_of_lt {n = w.S + e} {m = 2 ^ 64} (omega arith))
        (rw (outside_record e (bytes z) (some_bytes z) h, within_yes w.S (length c.stack) (w.S + e) (bytes z) (omega arith) (omega arith))
        (ap (λ i. Some (read_bytes (bytes z) c.stack i)) (omega arith)))

    load_obeyed : (c : Config) (z : Size) (d s off : ℕ) (p : Region) (o : ℕ) → cell_of c s ≡ offset p o → eqb d 10 ≡ false
        → obey w (concrete c) (Load z d s off) ≡ after_load (concrete c) d (machine.loaded w c.stack ((base p + alu 64 Add o off) % 2 ^ 64) z)
    unfolding effect reads writes is_no_instruction names10 any_unset is_unset value held
    load_obeyed c z d s off p o e n =
        obeyed (concrete c) (Load z d s off) refl (rw n refl) (rw (content_conc c s) (rw e refl))
        ∙ ap (λ a. after_load (concrete c) d (machine.loaded w c.stack a z))
        (ap (λ a. address (held a) off) (content_conc c s ∙ ap conc e) ∙ sym (address_moves (base p) o off))

    loaded_same : (c : Config) (z : Size) (d s off : ℕ) → length c.stack ≡ 512 → (x : Cell) → cell_of c s ≡ x
        → Same (loaded w.rec (bytes z) c d off x) (obey w (concrete c) (Load z d s off))
    unfolding loaded loaded_at after_load
    loaded_same c z d s off l unset p = tt
    loaded_same c z d s off l (number a) p = tt
    loaded_same c z d s off l (offset k o) p = go (leb (e + bytes z) (limit (length w.rec) k)) refl
      where
        e : ℕ
        e = alu 64 Add o off

        go : (b : Bool) → leb (e + bytes z) (limit (length w.rec) k) ≡ b
            → Same (cond b (put_cell c d (number (read_bytes (bytes z) (region w.rec c k) e))) stuck) (obey w (concrete c) (Load z d s off))
        go true h =
            put_same c d _ _ _ refl
            (λ n. load_obeyed c z d s off k o p n ∙ ap (after_load (concrete c) d) (found c z k e l (leb-true _ _ h)))
        go false h = tt

    store_obeyed : (c : Config) (z : Size) (d off : ℕ) (s : Operand) (o b : ℕ) → cell_of c d ≡ offset Stack o → operand_cell c s ≡ number b
        → obey w (concrete c) (Store z d off s) ≡ after_store w (concrete c) ((w.S + alu 64 Add o off) % 2 ^ 64) z b
    unfolding effect reads writes is_no_instruction names10 any_unset is_unset value held
    store_obeyed c z d off s o b p q =
        obeyed (concrete c) (Store z d off s) refl refl (rw (content_conc c d) (rw p (operand_unset c s ∙ rw q refl)))
        ∙ ap₂ (λ a v. after_store w (concrete c) a z v)
        (ap (λ a. address (held a) off) (content_conc c d ∙ ap conc p) ∙ sym (address_moves w.S o off)) (operand_conc c s ∙ ap (λ y. held (conc y)) q)

    stored_same : (c : Config) (z : Size) (d off : ℕ) (s : Operand) → length c.stack ≡ 512 → (x y : Cell) → cell_of c d ≡ x → operand_cell c s ≡ y
        → Same (stored (bytes z) c off x y) (obey w (concrete c) (Store z d off s))
    unfolding stored stored_at after_store
    stored_same c z d off s l unset y p q = tt
    stored_same c z d off s l (number a) y p q = tt
    stored_same c z d off s l (offset Record o) y p q = tt
    stored_same c z d off s l (offset Stack o) unset p q = tt
    stored_same c z d off s l (offset Stack o) (number b) p q = go (leb (e + bytes z) 512) refl
      where
        e : ℕ
        e = alu 64 Add o off

        go : (t : Bool) → leb (e + bytes z) 512 ≡ t
            → Same (cond t (goes (record { registers = c.registers; stack = write_bytes (bytes z) c.stack e b; index = c.index + 1 })) stuck) (obey w (concrete c) (Store z d off s))
        go true h =
            let f : e + bytes z ≤ 512 = leb-true _ _ h in
            store_obeyed c z d off s o b p q
            ∙ rw (mod-eq_of_lt {n = w.S + e} {m = 2 ^ 64} (omega arith))
            (rw (within_yes w.S (length c.stack) (w.S + e) (bytes z) (omega arith) (omega arith))
            (ap (λ i. machine.goes (record { registers = map conc c.registers; stack = write_bytes (bytes z) c.stack i b; index = c.index + 1 })) (omega arith)))
        go false h = tt
    stored_same c z d off s l (offset Stack o) (offset k u) p q = tt

    -- ---- the simulation
    pub free_same : (c : Config) (i : Instruction) → length c.stack ≡ 512 → Same (free w.rec c i) (obey w (concrete c) i)
    unfolding free jumped_to jumped effect reads writes is_no_instruction names10 any_unset
    free_same c (Alu wd op d s) l = alu_same c wd op d s
    free_same c (Neg wd d) l = neg_same c wd d _ refl
    free_same c (Jump wd k d s off) l = forked_same c wd k d s off _ _ refl refl
    free_same c (Always off) l = obeyed (concrete c) (Always off) refl refl refl
    free_same c Exit l = exited_same c _ refl
    free_same c (Load z d s off) l = loaded_same c z d s off l _ refl
    free_same c (Store z d off s) l = stored_same c z d off s l _ _ refl refl
    free_same c NoInstruction l = tt
