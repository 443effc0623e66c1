-- On facts that say exactly what a configuration has, each instruction but a load has an effect that says exactly what the layout-free
-- machine does.
use mathlib.Core.Path.{◌≡◌, refl, sym, ap, ◌∙◌, subst}
use mathlib.Core.Bool.{Bool, true, false, cond, true≢false}
use mathlib.Core.Logic.{◌⊎◌, inl, inr}
use mathlib.Core.List.{List, [], ◌∷◌, map}
use Prim.Native.Nat.{ℕ, zero, suc, ◌+◌, ◌%◌, ◌^◌, ◌<◌}
use lib.ListN.{get_or, set, get_or-map}
use lib.Dec.{eqb, leb}
use Rattle.std.specs.Prelude.{Some, None}
use Rattle.word.specs.Word.{alu, compare, write_bytes}
use Rattle.word.specs.declared.Operation.{Operation}
use Rattle.word.specs.declared.Operation.TheVariants.{Add, Sub, Mov}
use Rattle.word.specs.declared.Operation.TheVariants as operation
use Rattle.word.specs.declared.Comparison.{Comparison}
use Rattle.word.proofs.Cut.{cut_64}
use Rattle.machine.specs.declared.instruction.Width.{Width}
use Rattle.machine.specs.declared.instruction.Operand.{Operand}
use Rattle.machine.specs.declared.instruction.Operand.TheVariants.{Immediate, Register}
use Rattle.machine.specs.declared.instruction.Instruction.{Instruction}
use Rattle.machine.specs.declared.instruction.Instruction.TheVariants.{Alu, Neg, Jump, Always, Exit, Load, Store, NoInstruction}
use Rattle.machine.specs.Machine.{bits, bytes}
use Rattle.number.specs.Refined.{Refined}
use Rattle.number.specs.Sharpen.{exact, just}
use Rattle.number.specs.Computed.{computed, fits}
use Rattle.number.proofs.Laws.{computed_exact}
use Rattle.analysis.specs.declared.Reason.TheVariants.{WritesR10, Outside}
use Rattle.analysis.specs.declared.Region.{Region}
use Rattle.analysis.specs.declared.Region.TheVariants.{Record, Stack}
use Rattle.analysis.specs.declared.Gone.TheVariants.{Never}
use Rattle.analysis.specs.declared.Value.{Value}
use Rattle.analysis.specs.declared.Value.TheVariants.{Unusable, Plain, Address}
use Rattle.analysis.specs.declared.Effect.{Effect}
use Rattle.analysis.specs.declared.Effect.TheVariants.{Refuse, Put, Keep, Fork, Goto, Stop}
use Rattle.analysis.specs.Values.{Facts, value_of, operand_of}
use Rattle.analysis.specs.Effects.{is_never, is_mixed, reading, reading_both, put, Role, copies, converts, adds, subtracts, calculates, role, calculate, sum, difference, arithmetic, store_at, store, told, fork, exit, effect}
use Rattle.analysis.specs.Judged.{having, with_operand, along}
use Rattle.analysis.proofs.Literal.{along_possible, along_excluded}
use Rattle.analysis.proofs.Told.{told_exact, told_exact_excluded}
use Rattle.analysis.proofs.LayoutFree.{Cell, unset, number, offset, Config, Course, stuck, ends, goes, cell_of, operand_cell, put_cell, copied, calculated, summed, subtracted, worked, stored_at, stored, jumped_to, forked, exited, free}
use Rattle.analysis.proofs.Meaning.{Stands, Describes}
use Rattle.analysis.proofs.Sound.{WordOperand, Words, wide, value_stands}
use Rattle.analysis.proofs.Simulation.{map_set}

-- ---- the facts that say exactly what a configuration has

abbrev pub exactly : Cell → Value
exactly unset = Unusable Never
exactly (number n) = Plain (exact n)
exactly (offset p o) = Address p (exact o)

abbrev pub facts : Config → Facts
facts c = record { registers = map exactly c.registers }

value_exact : (c : Config) (r : ℕ) → value_of (facts c) r ≡ exactly (cell_of c r)
unfolding value_of cell_of
value_exact c r = get_or-map exactly c.registers r unset

operand_exact : (c : Config) (s : Operand) → operand_of (facts c) s ≡ exactly (operand_cell c s)
unfolding operand_of operand_cell
operand_exact c (Immediate n) = refl
operand_exact c (Register r) = value_exact c r

-- the cell is of 64 bits
abbrev Small : Cell → Type 0
Small unset = Unit {0}
Small (number n) = n < 2 ^ 64
Small (offset p o) = o < 2 ^ 64

small_cell : (x : Cell) → Stands (exactly x) x → Small x
small_cell unset h = tt
small_cell (number n) h = h.bits.fits
small_cell (offset p o) h = h.1.bits.fits

-- writing what is there changes nothing
pub set_get : {A : Type 0} (l : List A) (d : ℕ) (none_there x : A) → get_or l d none_there ≡ x → set l d x ≡ l
set_get [] d n x e = refl
set_get (y ∷ l) zero n x e = ap (λ z. z ∷ l) (sym e)
set_get (y ∷ l) (suc d) n x e = ap (λ m. y ∷ m) (set_get l d n x e)

-- ---- the effect does what the layout-free machine does, and says no less

abbrev pub Matches : Config → Effect → Course → Type 0
Matches c (Refuse reason) stuck = Unit {0}
Matches c (Refuse reason) (ends v) = ⊥
Matches c (Refuse reason) (goes c') = ⊥
Matches c (Put d v) stuck = ⊥
Matches c (Put d v) (ends u) = ⊥
Matches c (Put d v) (goes c') = (c'.index ≡ c.index + 1) × (having (facts c) d v ≡ facts c')
Matches c Keep stuck = ⊥
Matches c Keep (ends v) = ⊥
Matches c Keep (goes c') = (c'.index ≡ c.index + 1) × (facts c ≡ facts c')
Matches c (Fork d s o t target) stuck = ⊥
Matches c (Fork d s o t target) (ends v) = ⊥
Matches c (Fork d s o t target) (goes c') =
    ((c'.index ≡ c.index + 1) × (along (facts c) d s o ≡ Some (facts c')) × (along (facts c) d s t ≡ None))
    ⊎ ((c'.index ≡ target % 2 ^ 64) × (along (facts c) d s o ≡ None) × (along (facts c) d s t ≡ Some (facts c')))
Matches c (Goto target) stuck = ⊥
Matches c (Goto target) (ends v) = ⊥
Matches c (Goto target) (goes c') = (c'.index ≡ target % 2 ^ 64) × (facts c ≡ facts c')
Matches c Stop stuck = ⊥
Matches c Stop (ends v) = Unit {0}
Matches c Stop (goes c') = ⊥

module _ (c : Config) where
  put_matches : (d : ℕ) (x : Cell) → Matches c (put d (exactly x)) (put_cell c d x)
  unfolding put put_cell having
  put_matches d x = go (eqb d 10)
    where
      go : (b : Bool) → Matches c (cond b (Refuse WritesR10) (Put d (exactly x))) (cond b stuck (goes (record { registers = set c.registers d x; stack = c.stack; index = c.index + 1 })))
      go true = tt
      go false = (refl, λ i. record { registers = sym (map_set exactly c.registers d x) i })

  number_matches : (w : ℕ) → (w ≡ 64) ⊎ (w ≡ 32) → (op : Operation) (d a b : ℕ) → a < 2 ^ 64 → b < 2 ^ 64
      → Matches c (put d (Plain (computed w op (exact a) (exact b)))) (put_cell c d (number (alu w op a b)))
  number_matches w ww op d a b p q = rw (computed_exact w ww op a b p q) (put_matches d (number (alu w op a b)))

  offset_matches : (op : Operation) (r : Region) (d a b : ℕ) → a < 2 ^ 64 → b < 2 ^ 64
      → Matches c (put d (Address r (computed 64 op (exact a) (exact b)))) (put_cell c d (offset r (alu 64 op a b)))
  offset_matches op r d a b p q = rw (computed_exact 64 (inl refl) op a b p q) (put_matches d (offset r (alu 64 op a b)))

  calculate_matches : (w : ℕ) → (w ≡ 64) ⊎ (w ≡ 32) → (op : Operation) (d : ℕ) (x y : Cell) → Small x → Small y
      → Matches c (reading_both (exactly x) (exactly y) (calculate w op d (exactly x) (exactly y))) (calculated w op c d x y)
  unfolding reading_both is_never is_mixed calculate calculated
  calculate_matches w ww op d unset unset p q = tt
  calculate_matches w ww op d unset (number b) p q = tt
  calculate_matches w ww op d unset (offset l u) p q = tt
  calculate_matches w ww op d (number a) unset p q = tt
  calculate_matches w ww op d (number a) (number b) p q = number_matches w ww op d a b p q
  calculate_matches w ww op d (number a) (offset l u) p q = tt
  calculate_matches w ww op d (offset k o) unset p q = tt
  calculate_matches w ww op d (offset k o) (number b) p q = tt
  calculate_matches w ww op d (offset k o) (offset l u) p q = tt

  -- one operand that is read, for both
  convert_matches : (w : ℕ) → (w ≡ 64) ⊎ (w ≡ 32) → (op : Operation) (d : ℕ) (y : Cell) → Small y
      → Matches c (reading (exactly y) (calculate w op d (exactly y) (exactly y))) (calculated w op c d y y)
  unfolding reading is_never is_mixed calculate calculated
  convert_matches w ww op d unset q = tt
  convert_matches w ww op d (number b) q = number_matches w ww op d b b q q
  convert_matches w ww op d (offset l u) q = tt

  sum_matches : (d : ℕ) (x y : Cell) → Small x → Small y → Matches c (reading_both (exactly x) (exactly y) (sum d (exactly x) (exactly y))) (summed c d x y)
  unfolding reading_both is_never is_mixed sum summed
  sum_matches d unset unset p q = tt
  sum_matches d unset (number b) p q = tt
  sum_matches d unset (offset l u) p q = tt
  sum_matches d (number a) unset p q = tt
  sum_matches d (number a) (number b) p q = number_matches 64 (inl refl) Add d a b p q
  sum_matches d (number a) (offset l u) p q = offset_matches Add l d u a q p
  sum_matches d (offset k o) unset p q = tt
  sum_matches d (offset k o) (number b) p q = offset_matches Add k d o b p q
  sum_matches d (offset k o) (offset l u) p q = tt

  difference_matches : (d : ℕ) (x y : Cell) → Small x → Small y
      → Matches c (reading_both (exactly x) (exactly y) (difference d (exactly x) (exactly y))) (subtracted c d x y)
  unfolding reading_both is_never is_mixed difference subtracted
  difference_matches d unset unset p q = tt
  difference_matches d unset (number b) p q = tt
  difference_matches d unset (offset l u) p q = tt
  difference_matches d (number a) unset p q = tt
  difference_matches d (number a) (number b) p q = number_matches 64 (inl refl) Sub d a b p q
  difference_matches d (number a) (offset l u) p q = tt
  difference_matches d (offset k o) unset p q = tt
  difference_matches d (offset k o) (number b) p q = offset_matches Sub k d o b p q
  difference_matches d (offset k o) (offset l u) p q = tt

  copy_matches : (d : ℕ) (y : Cell) → Small y → Matches c (reading (exactly y) (put d (exactly y))) (copied c d y)
  unfolding reading is_never is_mixed copied
  copy_matches d unset q = tt
  copy_matches d (number b) q = rw (cut_64 q) (put_matches d (number b))
  copy_matches d (offset l u) q = put_matches d (offset l u)

  worked_matches : (e : Role) (w : ℕ) → (w ≡ 64) ⊎ (w ≡ 32) → (op : Operation) (d : ℕ) (x y : Cell) → Small x → Small y
      → Matches c (arithmetic e w op d (exactly x) (exactly y)) (worked e w op c d x y)
  unfolding arithmetic worked
  worked_matches copies w ww op d x y p q = copy_matches d y q
  worked_matches converts w ww op d x y p q = convert_matches w ww op d y q
  worked_matches adds w ww op d x y p q = sum_matches d x y p q
  worked_matches subtracts w ww op d x y p q = difference_matches d x y p q
  worked_matches calculates w ww op d x y p q = calculate_matches w ww op d x y p q

  -- ---- stores: an exact offset fits or does not
  fits_matches : (size e b : ℕ) → Matches c (cond (fits (exact e) size 512) Keep (Refuse Outside)) (stored_at size c e b)
  unfolding fits exact just stored_at
  fits_matches size e b = go (leb (e + size) 512)
    where
      go : (t : Bool) → Matches c (cond t Keep (Refuse Outside)) (cond t (goes (record { registers = c.registers; stack = write_bytes size c.stack e b; index = c.index + 1 })) stuck)
      go true = (refl, refl)
      go false = tt

  store_matches : (size off : ℕ) → off < 2 ^ 64 → (x y : Cell) → Small x → Small y
      → Matches c (reading_both (exactly x) (exactly y) (store size off (exactly x) (exactly y))) (stored size c off x y)
  unfolding reading_both is_never is_mixed store store_at stored
  store_matches size off f unset unset p q = tt
  store_matches size off f unset (number b) p q = tt
  store_matches size off f unset (offset l u) p q = tt
  store_matches size off f (number a) unset p q = tt
  store_matches size off f (number a) (number b) p q = tt
  store_matches size off f (number a) (offset l u) p q = tt
  store_matches size off f (offset Record o) unset p q = tt
  store_matches size off f (offset Record o) (number b) p q = tt
  store_matches size off f (offset Record o) (offset l u) p q = tt
  store_matches size off f (offset Stack o) unset p q = tt
  store_matches size off f (offset Stack o) (number b) p q = rw (computed_exact 64 (inl refl) Add o off p f) (fits_matches size (alu 64 Add o off) b)
  store_matches size off f (offset Stack o) (offset l u) p q = tt

  -- ---- jumps: one way is excluded, and what the other tells is known already
  same_register : (r x : ℕ) → cell_of c r ≡ number x → having (facts c) r (Plain (exact x)) ≡ facts c
  unfolding having cell_of
  same_register r x p =
      λ i. record { registers = set_get (map exactly c.registers) r (Unusable Never) (Plain (exact x)) (get_or-map exactly c.registers r unset ∙ ap exactly p) i }

  same_operand : (s : Operand) (y : ℕ) → operand_cell c s ≡ number y → with_operand (facts c) s (Plain (exact y)) ≡ facts c
  unfolding with_operand operand_cell
  same_operand (Immediate n) y q = refl
  same_operand (Register r) y q = same_register r y q

  along_exact : (d : ℕ) (s : Operand) (x y : ℕ) (o : Refined) → cell_of c d ≡ number x → operand_cell c s ≡ number y → o ≡ Some (exact x, exact y)
      → along (facts c) d s o ≡ Some (facts c)
  along_exact d s x y o p q e =
      ap (along (facts c) d s) e ∙ along_possible (facts c) d s (exact x) (exact y) ∙ ap Some (ap (λ b. with_operand b s (Plain (exact y))) (same_register d x p) ∙ same_operand s y q)

  not_followed : (d : ℕ) (s : Operand) (o : Refined) → o ≡ None → along (facts c) d s o ≡ None
  not_followed d s o e = ap (along (facts c) d s) e ∙ along_excluded (facts c) d s

  compare_matches : (w : Width) (k : Comparison) (d : ℕ) (s : Operand) (off x y : ℕ) → x < 2 ^ 64 → y < 2 ^ 64 → cell_of c d ≡ number x → operand_cell c s ≡ number y
      → Matches c (Fork d s (told w k false (exact x) (exact y)) (told w k true (exact x) (exact y)) (c.index + 1 + off)) (jumped_to (compare (bits w) k x y) c off)
  unfolding jumped_to
  compare_matches w k d s off x y p q e f = go (compare (bits w) k x y) refl
    where
      go : (t : Bool) → compare (bits w) k x y ≡ t
          → Matches c (Fork d s (told w k false (exact x) (exact y)) (told w k true (exact x) (exact y)) (c.index + 1 + off))
          (goes (record { registers = c.registers; stack = c.stack; index = cond t ((c.index + 1 + off) % 2 ^ 64) (c.index + 1) }))
      go true h = inr (refl, not_followed d s _ (told_exact_excluded w k false x y p q h), along_exact d s x y _ e f (told_exact w k true x y p q h))
      go false h = inl (refl, along_exact d s x y _ e f (told_exact w k false x y p q h), not_followed d s _ (told_exact_excluded w k true x y p q h))

  fork_matches : (w : Width) (k : Comparison) (d : ℕ) (s : Operand) (off : ℕ) (x y : Cell) → Small x → Small y → cell_of c d ≡ x → operand_cell c s ≡ y
      → Matches c (reading_both (exactly x) (exactly y) (fork w k d s (c.index + 1 + off) (exactly x) (exactly y))) (forked w k c off x y)
  unfolding reading_both is_never is_mixed fork forked
  fork_matches w k d s off unset unset p q e f = tt
  fork_matches w k d s off unset (number b) p q e f = tt
  fork_matches w k d s off unset (offset l u) p q e f = tt
  fork_matches w k d s off (number a) unset p q e f = tt
  fork_matches w k d s off (number a) (number b) p q e f = compare_matches w k d s off a b p q e f
  fork_matches w k d s off (number a) (offset l u) p q e f = tt
  fork_matches w k d s off (offset j o) unset p q e f = tt
  fork_matches w k d s off (offset j o) (number b) p q e f = tt
  fork_matches w k d s off (offset j o) (offset l u) p q e f = tt

  exit_matches : (x : Cell) → Matches c (reading (exactly x) (exit (exactly x))) (exited x)
  unfolding reading is_never is_mixed exit exited
  exit_matches unset = tt
  exit_matches (number v) = tt
  exit_matches (offset p o) = tt

-- ---- each instruction but a load

unfoldable pub is_load : Instruction → Bool
is_load (Alu w op d s) = false
is_load (Neg w d) = false
is_load (Jump w k d s off) = false
is_load (Always off) = false
is_load Exit = false
is_load (Load z d s off) = true
is_load (Store z d off s) = false
is_load NoInstruction = false

module _ (R : ℕ) (rec : List ℕ) (c : Config) (here : Describes (facts c) c) where
  small_register : (r : ℕ) → Small (cell_of c r)
  small_register r = small_cell (cell_of c r) (subst (λ v. Stands v (cell_of c r)) (value_exact c r) (value_stands (facts c) c here r))

  small_operand : (s : Operand) → WordOperand s → Small (operand_cell c s)
  unfolding operand_cell
  small_operand (Immediate n) h = h
  small_operand (Register r) h = small_register r

  pub effect_matches : (ins : Instruction) → Words ins → is_load ins ≡ false → Matches c (effect R c.index (facts c) ins) (free rec c ins)
  unfolding effect free is_load jumped_to
  effect_matches (Alu w op d s) h l =
      rw (value_exact c d, operand_exact c s) (worked_matches c (role w op) (bits w) (wide w) op d (cell_of c d) (operand_cell c s) (small_register d) (small_operand s h))
  effect_matches (Neg w d) h l = rw (value_exact c d) (convert_matches c (bits w) (wide w) operation.Neg d (cell_of c d) (small_register d))
  effect_matches (Jump w k d s off) h l =
      rw (value_exact c d, operand_exact c s) (fork_matches c w k d s off (cell_of c d) (operand_cell c s) (small_register d) (small_operand s h) refl refl)
  effect_matches (Always off) h l = (refl, refl)
  effect_matches Exit h l = rw (value_exact c 0) (exit_matches c (cell_of c 0))
  effect_matches (Load z d s off) h l = absurd (true≢false l)
  effect_matches (Store z d off s) h l =
      rw (value_exact c d, operand_exact c s) (store_matches c (bytes z) off h.0 (cell_of c d) (operand_cell c s) (small_register d) (small_operand s h.1))
  effect_matches NoInstruction h l = tt
