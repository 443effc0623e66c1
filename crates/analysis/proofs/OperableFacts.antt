-- Where no result is empty, no range is that an instruction calculates with: every Number that is known can be an operand.
use mathlib.Core.Path.{◌≡◌, refl, subst}
use mathlib.Core.Bool.{Bool, true, false, cond, ◌||◌}
use mathlib.Core.Logic.{◌⊎◌, inl}
use mathlib.Core.List.{List, [], ◌∷◌}
use Prim.Native.Nat.{ℕ, zero, suc, ◌+◌, ◌-◌, ◌*◌, ◌^◌, ◌≤◌, ◌<◌}
use native.Mathlib.Omega.{arith}
use lib.Bits.{or_zero_l, or_zero_r}
use lib.Dec.{eqb, lit<}
use lib.ListN.{get_or, set}
use lib.Pow.{pow_pos}
use Rattle.std.specs.Prelude.{Some, None, Option}
use Rattle.word.specs.declared.Operation.{Operation}
use Rattle.word.specs.declared.Operation.TheVariants.{Add, Sub}
use Rattle.word.specs.declared.Operation.TheVariants as operation
use Rattle.word.specs.declared.Comparison.{Comparison}
use Rattle.machine.specs.declared.instruction.Width.{Width}
use Rattle.machine.specs.declared.instruction.Width.TheVariants.{Long, Short}
use Rattle.machine.specs.declared.instruction.Operand.{Operand}
use Rattle.machine.specs.declared.instruction.Operand.TheVariants.{Immediate, Register}
use Rattle.machine.specs.declared.instruction.Instruction.{Instruction}
use Rattle.machine.specs.declared.instruction.Instruction.TheVariants.{Alu, Neg, Jump, Always, Exit, Load, Store, NoInstruction}
use Rattle.machine.specs.Machine.{bits, bytes}
use Rattle.known_bits.specs.Formula.{among}
use Rattle.number.specs.declared.Number.{Number}
use Rattle.number.specs.Refined.{Refined}
use Rattle.number.specs.Meaning.{NoneEmpty, Left}
use Rattle.number.specs.Sharpen.{just, exact, everything, loaded, joined_number}
use Rattle.number.specs.Computed.{computed, fits}
use Rattle.number.proofs.Laws.{exact_in, loaded_in, Operable, joined_operable, member_operable, none_empty_but_the_result, computed_operable, refined_operable, refined32_operable}
use Rattle.analysis.specs.declared.Reason.TheVariants.{WritesR10, ReadsUnset, Outside, LeaksAddress}
use Rattle.analysis.specs.declared.Region.{Region}
use Rattle.analysis.specs.declared.Region.TheVariants.{Record, Stack}
use Rattle.analysis.specs.declared.Gone.TheVariants.{Never}
use Rattle.analysis.specs.declared.Value.{Value}
use Rattle.analysis.specs.declared.Value.TheVariants.{Unusable, Plain, Address}
use Rattle.analysis.specs.declared.Effect.{Effect}
use Rattle.analysis.specs.declared.Effect.TheVariants.{Refuse, Put, Keep}
use Rattle.analysis.specs.Values.{Facts, value_of, operand_of, start_facts, same_region, joined_value, joined_values, joined_facts}
use Rattle.analysis.specs.Effects.{is_never, is_mixed, reading, reading_both, put, Role, copies, converts, adds, subtracts, calculates, role, calculate, sum, difference, arithmetic, limit, load, store_at, store, told, fork, exit, effect}
use Rattle.analysis.specs.Form.{instruction}
use Rattle.analysis.specs.Judged.{having, with_operand, along, Flow, refuses, flows, apply}
use Rattle.analysis.specs.Promise.{together, flowing, flow, known_from, known}
use Rattle.analysis.specs.Sharper.{OfNumbers, OfRole, Calculating, SomeResult}
use Rattle.analysis.proofs.Literal.{along_possible, along_excluded}
use Rattle.analysis.proofs.Annotated.{instruction_words}
use Rattle.analysis.proofs.SharperEffects.{size_at_most_8}
use Rattle.analysis.proofs.Sound.{WordOperand, Words, wide}

-- ---- every Number that is known
abbrev OperableValue : Value → Type 0
OperableValue (Unusable g) = Unit {0}
OperableValue (Plain n) = Operable n
OperableValue (Address p n) = Operable n

abbrev OperableAll : List Value → Type 0
OperableAll [] = Unit {0}
OperableAll (v ∷ vs) = OperableValue v × OperableAll vs

abbrev OperableFacts : Facts → Type 0
OperableFacts a = OperableAll a.registers

abbrev OperableComing : Option Facts → Type 0
OperableComing None = Unit {0}
OperableComing (Some a) = OperableFacts a

abbrev OperableFlow : Flow → Type 0
OperableFlow (refuses reason) = Unit {0}
OperableFlow (flows next there target) = OperableComing next × OperableComing there

exact_operable : (n : ℕ) → n < 2 ^ 64 → Operable (exact n)
unfolding exact just
exact_operable n h = member_operable (exact n) n (exact_in n h) (omega arith) (omega (arith, or_zero_r n))

loaded_operable : (k : ℕ) → k ≤ 8 → Operable (loaded k)
unfolding loaded everything among
loaded_operable k h =
    member_operable (loaded k) 0 (loaded_in k h 0 (pow_pos (8 * k))) (omega arith) (omega (arith, or_zero_l (2 ^ (8 * k) - 1)))

-- ---- registers
operable_get : (vs : List Value) (r : ℕ) → OperableAll vs → OperableValue (get_or vs r (Unusable Never))
operable_get [] r h = tt
operable_get (v ∷ vs) zero h = h.0
operable_get (v ∷ vs) (suc r) h = operable_get vs r h.1

operable_set : (vs : List Value) (d : ℕ) (v : Value) → OperableAll vs → OperableValue v → OperableAll (set vs d v)
operable_set [] d v h k = tt
operable_set (u ∷ vs) zero v h k = (k, h.1)
operable_set (u ∷ vs) (suc d) v h k = (h.0, operable_set vs d v h.1 k)

region_operable : (p q : Region) (n : Number) → Operable n → OperableValue (same_region p q n)
unfolding same_region
region_operable Record Record n h = h
region_operable Record Stack n h = tt
region_operable Stack Record n h = tt
region_operable Stack Stack n h = h

value_joined : (u v : Value) → OperableValue u → OperableValue v → OperableValue (joined_value u v)
unfolding joined_value
value_joined (Unusable g) (Unusable k) h l = tt
value_joined (Unusable g) (Plain b) h l = tt
value_joined (Unusable g) (Address q b) h l = tt
value_joined (Plain a) (Unusable k) h l = tt
value_joined (Plain a) (Plain b) h l = joined_operable a b h l
value_joined (Plain a) (Address q b) h l = tt
value_joined (Address p a) (Unusable k) h l = tt
value_joined (Address p a) (Plain b) h l = tt
value_joined (Address p a) (Address q b) h l = region_operable p q (joined_number a b) (joined_operable a b h l)

values_joined : (us vs : List Value) → OperableAll us → OperableAll vs → OperableAll (joined_values us vs)
unfolding joined_values
values_joined [] vs h k = tt
values_joined (u ∷ us) [] h k = tt
values_joined (u ∷ us) (v ∷ vs) h k = (value_joined u v h.0 k.0, values_joined us vs h.1 k.1)

together_operable : (u v : Option Facts) → OperableComing u → OperableComing v → OperableComing (together u v)
unfolding together joined_facts
together_operable u None h k = h
together_operable None (Some b) h k = k
together_operable (Some a) (Some b) h k = values_joined a.registers b.registers h k

cond_operable : (t : Bool) (o : Option Facts) → OperableComing o → OperableComing (cond t o None)
cond_operable true o h = h
cond_operable false o h = tt

flowing_operable : (i j : ℕ) (f : Flow) (w : Option Facts) → OperableFlow f → OperableComing w → OperableComing (flowing i j f w)
unfolding flowing
flowing_operable i j (refuses reason) w h k = k
flowing_operable i j (flows next there target) w h k =
    together_operable _ _ (together_operable w _ k (cond_operable (eqb j (i + 1)) next h.0)) (cond_operable (eqb j target) there h.1)

-- ---- what an instruction does
module _ (a : Facts) (h : OperableFacts a) where
  value_operable : (r : ℕ) → OperableValue (value_of a r)
  unfolding value_of
  value_operable r = operable_get a.registers r h

  operand_operable : (o : Operand) → WordOperand o → OperableValue (operand_of a o)
  unfolding operand_of
  operand_operable (Immediate n) w = exact_operable n w
  operand_operable (Register r) w = value_operable r

  put_operable : (d : ℕ) (v : Value) → OperableValue v → OperableFlow (apply a (put d v))
  unfolding put apply having
  put_operable d v k = go (eqb d 10)
    where
      go : (b : Bool) → OperableFlow (apply a (cond b (Refuse WritesR10) (Put d v)))
      go true = tt
      go false = (operable_set a.registers d v h k, tt)

  reading_operable : (x : Value) (e : Effect) → OperableFlow (apply a e) → OperableFlow (apply a (reading x e))
  unfolding reading apply
  reading_operable x e k = go (is_never x) (is_mixed x)
    where
      go : (p q : Bool) → OperableFlow (apply a (cond p (Refuse ReadsUnset) (cond q (Refuse LeaksAddress) e)))
      go true q = tt
      go false true = tt
      go false false = k

  reading_both_operable : (x y : Value) (e : Effect) → OperableFlow (apply a e) → OperableFlow (apply a (reading_both x y e))
  unfolding reading_both apply
  reading_both_operable x y e k = go (is_never x || is_never y) (is_mixed x || is_mixed y)
    where
      go : (p q : Bool) → OperableFlow (apply a (cond p (Refuse ReadsUnset) (cond q (Refuse LeaksAddress) e)))
      go true q = tt
      go false true = tt
      go false false = k

  calculate_operable : (w : ℕ) → (w ≡ 64) ⊎ (w ≡ 32) → (op : Operation) (d : ℕ) (x y : Value) → OperableValue x → OperableValue y
      → OfNumbers SomeResult w op x y
      → OperableFlow (apply a (calculate w op d x y))
  unfolding calculate apply
  calculate_operable w ww op d (Unusable g) y k l r = tt
  calculate_operable w ww op d (Address p m) y k l r = tt
  calculate_operable w ww op d (Plain m) (Unusable g) k l r = tt
  calculate_operable w ww op d (Plain m) (Address q n) k l r = tt
  calculate_operable w ww op d (Plain m) (Plain n) k l r = put_operable d _ (computed_operable w ww op m n k l r)

  sum_operable : (d : ℕ) (x y : Value) → OperableValue x → OperableValue y → OfNumbers SomeResult 64 Add x y
      → OperableFlow (apply a (sum d x y))
  unfolding sum apply
  sum_operable d (Unusable g) y k l r = tt
  sum_operable d (Plain m) (Unusable g) k l r = tt
  sum_operable d (Plain m) (Plain n) k l r = put_operable d _ (computed_operable 64 (inl refl) Add m n k l r)
  sum_operable d (Plain m) (Address q n) k l r = put_operable d _ (computed_operable 64 (inl refl) Add n m l k r)
  sum_operable d (Address p m) (Unusable g) k l r = tt
  sum_operable d (Address p m) (Plain n) k l r = put_operable d _ (computed_operable 64 (inl refl) Add m n k l r)
  sum_operable d (Address p m) (Address q n) k l r = tt

  difference_operable : (d : ℕ) (x y : Value) → OperableValue x → OperableValue y → OfNumbers SomeResult 64 Sub x y
      → OperableFlow (apply a (difference d x y))
  unfolding difference apply
  difference_operable d (Unusable g) y k l r = tt
  difference_operable d (Plain m) (Unusable g) k l r = tt
  difference_operable d (Plain m) (Plain n) k l r = put_operable d _ (computed_operable 64 (inl refl) Sub m n k l r)
  difference_operable d (Plain m) (Address q n) k l r = tt
  difference_operable d (Address p m) (Unusable g) k l r = tt
  difference_operable d (Address p m) (Plain n) k l r = put_operable d _ (computed_operable 64 (inl refl) Sub m n k l r)
  difference_operable d (Address p m) (Address q n) k l r = tt

  arithmetic_operable : (e : Role) (w : ℕ) → (w ≡ 64) ⊎ (w ≡ 32) → (op : Operation) (d : ℕ) (x y : Value) → OperableValue x
      → OperableValue y
      → OfRole SomeResult e w op x y → OperableFlow (apply a (arithmetic e w op d x y))
  unfolding arithmetic
  arithmetic_operable copies w ww op d x y k l r = reading_operable y _ (put_operable d y l)
  arithmetic_operable converts w ww op d x y k l r = reading_operable y _ (calculate_operable w ww op d y y l l r)
  arithmetic_operable adds w ww op d x y k l r = reading_both_operable x y _ (sum_operable d x y k l r)
  arithmetic_operable subtracts w ww op d x y k l r = reading_both_operable x y _ (difference_operable d x y k l r)
  arithmetic_operable calculates w ww op d x y k l r = reading_both_operable x y _ (calculate_operable w ww op d x y k l r)

  if_allowed : (t : Bool) (e : Effect) → OperableFlow (apply a e) → OperableFlow (apply a (cond t e (Refuse Outside)))
  unfolding apply
  if_allowed true e k = k
  if_allowed false e k = tt

  load_operable : (R size d off : ℕ) → size ≤ 8 → (x : Value) → OperableFlow (apply a (load R size d off x))
  unfolding load apply
  load_operable R size d off l (Unusable g) = tt
  load_operable R size d off l (Plain m) = tt
  load_operable R size d off l (Address p m) =
      if_allowed (fits (computed 64 Add m (exact off)) size (limit R p)) (put d (Plain (loaded size)))
      (put_operable d (Plain (loaded size)) (loaded_operable size l))

  store_at_operable : (size off : ℕ) (x : Value) → OperableFlow (apply a (store_at size off x))
  unfolding store_at apply
  store_at_operable size off (Unusable g) = tt
  store_at_operable size off (Plain m) = tt
  store_at_operable size off (Address Record m) = tt
  store_at_operable size off (Address Stack m) = if_allowed (fits (computed 64 Add m (exact off)) size 512) Keep (h, tt)

  store_operable : (size off : ℕ) (x y : Value) → OperableFlow (apply a (store size off x y))
  unfolding store apply
  store_operable size off x (Unusable g) = tt
  store_operable size off x (Plain m) = store_at_operable size off x
  store_operable size off x (Address q m) = tt

  along_operable : (d : ℕ) (o : Operand) (r : Refined) → Left r (λ x y. Operable x × Operable y) → OperableComing (along a d o r)
  unfolding with_operand having
  along_operable d o None k = rw (along_excluded a d o) tt
  along_operable d (Immediate n) (Some (x, y)) k = rw (along_possible a d (Immediate n) x y) (operable_set a.registers d (Plain x) h k.0)
  along_operable d (Register r) (Some (x, y)) k =
      rw (along_possible a d (Register r) x y)
      (operable_set (set a.registers d (Plain x)) r (Plain y) (operable_set a.registers d (Plain x) h k.0) k.1)

  told_operable : (w : Width) (c : Comparison) (way : Bool) (m n : Number) → Operable m → Operable n
      → Left (told w c way m n) (λ x y. Operable x × Operable y)
  unfolding told
  told_operable Long c way m n k l = refined_operable c way m n k.form l.form
  told_operable Short c way m n k l = refined32_operable m n k l c way

  fork_operable : (w : Width) (c : Comparison) (d : ℕ) (o : Operand) (target : ℕ) (x y : Value) → OperableValue x → OperableValue y
      → OperableFlow (apply a (fork w c d o target x y))
  unfolding fork apply
  fork_operable w c d o target (Unusable g) y k l = tt
  fork_operable w c d o target (Address p m) y k l = tt
  fork_operable w c d o target (Plain m) (Unusable g) k l = tt
  fork_operable w c d o target (Plain m) (Address q n) k l = tt
  fork_operable w c d o target (Plain m) (Plain n) k l = (
    along_operable d o (told w c false m n) (told_operable w c false m n k l),
    along_operable d o (told w c true m n) (told_operable w c true m n k l),
  )

  exit_operable : (x : Value) → OperableFlow (apply a (exit x))
  unfolding exit apply
  exit_operable (Unusable g) = tt
  exit_operable (Plain m) = (tt, tt)
  exit_operable (Address p m) = tt

  effect_operable : (R i : ℕ) (ins : Instruction) → Words ins → Calculating SomeResult a ins → OperableFlow (apply a (effect R i a ins))
  unfolding effect apply
  effect_operable R i (Alu w op d o) ok r =
      arithmetic_operable (role w op) (bits w) (wide w) op d _ _ (value_operable d) (operand_operable o ok) r
  effect_operable R i (Neg w d) ok r =
      reading_operable (value_of a d) _ (calculate_operable (bits w) (wide w) operation.Neg d _ _ (value_operable d) (value_operable d) r)
  effect_operable R i (Jump w c d o off) ok r =
      reading_both_operable (value_of a d) (operand_of a o) _ (fork_operable w c d o (i + 1 + off) _ _ (value_operable d)
      (operand_operable o ok))
  effect_operable R i (Always off) ok r = (tt, h)
  effect_operable R i Exit ok r = reading_operable (value_of a 0) _ (exit_operable (value_of a 0))
  effect_operable R i (Load z d s off) ok r =
      reading_operable (value_of a s) _ (load_operable R (bytes z) d off (size_at_most_8 z) (value_of a s))
  effect_operable R i (Store z d off o) ok r =
      reading_both_operable (value_of a d) (operand_of a o) _ (store_operable (bytes z) off (value_of a d) (operand_of a o))
  effect_operable R i NoInstruction ok r = tt

  -- ---- so no range is empty that it calculates with
  none_empty : (w : ℕ) → (w ≡ 64) ⊎ (w ≡ 32) → (op : Operation) (x y : Value) → OperableValue x → OperableValue y
      → OfNumbers SomeResult w op x y
      → OfNumbers NoneEmpty w op x y
  none_empty w ww op (Unusable g) y k l r = tt
  none_empty w ww op (Plain m) (Unusable g) k l r = tt
  none_empty w ww op (Plain m) (Plain n) k l r = none_empty_but_the_result w ww op m n k l r
  none_empty w ww op (Plain m) (Address q n) k l r = none_empty_but_the_result w ww op n m l k r
  none_empty w ww op (Address p m) (Unusable g) k l r = tt
  none_empty w ww op (Address p m) (Plain n) k l r = none_empty_but_the_result w ww op m n k l r
  none_empty w ww op (Address p m) (Address q n) k l r = tt

  none_empty_by_role : (e : Role) (w : ℕ) → (w ≡ 64) ⊎ (w ≡ 32) → (op : Operation) (x y : Value) → OperableValue x → OperableValue y
      → OfRole SomeResult e w op x y → OfRole NoneEmpty e w op x y
  none_empty_by_role copies w ww op x y k l r = tt
  none_empty_by_role converts w ww op x y k l r = none_empty w ww op y y l l r
  none_empty_by_role adds w ww op x y k l r = none_empty 64 (inl refl) Add x y k l r
  none_empty_by_role subtracts w ww op x y k l r = none_empty 64 (inl refl) Sub x y k l r
  none_empty_by_role calculates w ww op x y k l r = none_empty w ww op x y k l r

  none_empty_but_results : (ins : Instruction) → Words ins → Calculating SomeResult a ins → Calculating NoneEmpty a ins
  none_empty_but_results (Alu w op d o) ok r =
      none_empty_by_role (role w op) (bits w) (wide w) op (value_of a d) (operand_of a o) (value_operable d) (operand_operable o ok) r
  none_empty_but_results (Neg w d) ok r =
      none_empty (bits w) (wide w) operation.Neg (value_of a d) (value_of a d) (value_operable d) (value_operable d) r
  none_empty_but_results (Jump w c d o off) ok r = tt
  none_empty_but_results (Always off) ok r = tt
  none_empty_but_results Exit ok r = tt
  none_empty_but_results (Load z d s off) ok r =
      none_empty 64 (inl refl) Add (value_of a s) (Plain (exact off)) (value_operable s) (exact_operable off ok) r
  none_empty_but_results (Store z d off o) ok r =
      none_empty 64 (inl refl) Add (value_of a d) (Plain (exact off)) (value_operable d) (exact_operable off ok.0) r
  none_empty_but_results NoInstruction ok r = tt

-- ---- a program
start_operable : OperableFacts start_facts
unfolding start_facts
start_operable = (tt, (exact_operable 0 (lit< tt), (tt, (tt, (tt, (tt, (tt, (tt, (tt, (tt, (exact_operable 512 (lit< tt), tt)))))))))))

module _ (program : List ℕ) (R n : ℕ)
    (results : (j : ℕ) → j < n → (a : Facts) → known program R j ≡ Some a → Calculating SomeResult a (instruction program j)) where
  flow_operable : (i : ℕ) → i < n → (o : Option Facts) → known_from program R i i ≡ o → OperableComing o → (j : ℕ) (w : Option Facts)
      → OperableComing w
      → OperableComing (flow program R i o j w)
  unfolding flow known
  flow_operable i l None e k j w h = h
  flow_operable i l (Some a) e k j w h =
      flowing_operable i j _ w (effect_operable a k R i (instruction program i) (instruction_words program i) (results i l a e)) h

  known_operable : (i : ℕ) → i ≤ n → (j : ℕ) → OperableComing (known_from program R i j)
  unfolding known_from
  known_operable zero l j = cond_operable (eqb j 0) (Some start_facts) start_operable
  known_operable (suc i) l j =
      flow_operable i (omega arith) _ refl (known_operable i (omega arith) i) j _ (known_operable i (omega arith) j)

  -- no range is empty that a program calculates with, unless a result is
  pub none_empty_unless_a_result_is : (j : ℕ) → j < n → (a : Facts) → known program R j ≡ Some a
      → Calculating NoneEmpty a (instruction program j)
  unfolding known
  none_empty_unless_a_result_is j l a e =
      none_empty_but_results a (subst OperableComing e (known_operable j (omega arith) j)) (instruction program j)
      (instruction_words program j) (results j l a e)
