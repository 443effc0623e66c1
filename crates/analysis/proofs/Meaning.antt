-- Which layout-free configurations the facts at an index stand for, and that joined facts stand for both.
use mathlib.Core.Path.{◌≡◌}
use mathlib.Core.Logic.{◌⊎◌, inl, inr}
use mathlib.Core.List.{List, [], ◌∷◌}
use Prim.Native.Nat.{ℕ, zero, suc}
use lib.ListN.{length, get_or, set}
use Rattle.std.specs.Prelude.{Option, Some, None}
use Rattle.number.specs.declared.Number.{Number}
use Rattle.number.specs.Meaning.{In}
use Rattle.number.specs.Sharpen.{joined_number}
use Rattle.analysis.specs.declared.Region.{Region}
use Rattle.analysis.specs.declared.Region.TheVariants.{Record, Stack}
use Rattle.analysis.specs.declared.Gone.TheVariants.{Never}
use Rattle.analysis.specs.declared.Value.{Value}
use Rattle.analysis.specs.declared.Value.TheVariants.{Unusable, Plain, Address}
use Rattle.analysis.specs.Values.{Facts, same_region, joined_value, joined_values, joined_facts, meeting}
use Rattle.analysis.specs.Safe.{Bytes}
use Rattle.analysis.proofs.LayoutFree.{Cell, unset, number, offset, Config}
use Rattle.number.proofs.Laws.{joined_covers_left, joined_covers_right}

-- a value that may not be used stands for anything
abbrev pub Stands : Value → Cell → Type 0
Stands (Unusable g) x = Unit {0}
Stands (Plain a) unset = ⊥
Stands (Plain a) (number n) = In a n
Stands (Plain a) (offset q o) = ⊥
Stands (Address p a) unset = ⊥
Stands (Address p a) (number n) = ⊥
Stands (Address p a) (offset q o) = (p ≡ q) × In a o

abbrev pub StandAll : List Value → List Cell → Type 0
StandAll [] xs = Unit {0}
StandAll (v ∷ vs) [] = ⊥
StandAll (v ∷ vs) (x ∷ xs) = Stands v x × StandAll vs xs

pub record Describes (a : Facts) (c : Config) : Type 0 where
  pub registers : StandAll a.registers c.registers
  pub stack_size : length c.stack ≡ 512
  pub stack_bytes : Bytes c.stack

-- what waits at an index; nothing waits for nothing
abbrev pub Awaits : Option Facts → Config → Type 0
Awaits None c = ⊥
Awaits (Some a) c = Describes a c

-- ---- registers

pub stand_get : (vs : List Value) (xs : List Cell) (r : ℕ) → StandAll vs xs → Stands (get_or vs r (Unusable Never)) (get_or xs r unset)
stand_get [] xs r h = tt
stand_get (v ∷ vs) [] r h = absurd h
stand_get (v ∷ vs) (x ∷ xs) zero h = h.0
stand_get (v ∷ vs) (x ∷ xs) (suc r) h = stand_get vs xs r h.1

pub stand_set : (vs : List Value) (xs : List Cell) (d : ℕ) (v : Value) (x : Cell) → StandAll vs xs → Stands v x → StandAll (set vs d v) (set xs d x)
stand_set [] xs d v x h k = tt
stand_set (u ∷ vs) [] d v x h k = absurd h
stand_set (u ∷ vs) (y ∷ xs) zero v x h k = (k, h.1)
stand_set (u ∷ vs) (y ∷ xs) (suc d) v x h k = (h.0, stand_set vs xs d v x h.1 k)

-- a register that stays as it is, of which more is known
pub stand_learn : (vs : List Value) (xs : List Cell) (d : ℕ) (v : Value) → StandAll vs xs → Stands v (get_or xs d unset) → StandAll (set vs d v) xs
stand_learn [] xs d v h k = tt
stand_learn (u ∷ vs) [] d v h k = absurd h
stand_learn (u ∷ vs) (y ∷ xs) zero v h k = (k, h.1)
stand_learn (u ∷ vs) (y ∷ xs) (suc d) v h k = (h.0, stand_learn vs xs d v h.1 k)

-- ---- joins

same_region_lem : (p q : Region) (n : Number) (r : Region) (o : ℕ) → (p ≡ r) ⊎ (q ≡ r) → In n o → Stands (same_region p q n) (offset r o)
unfolding same_region
same_region_lem Record Record n r o (inl e) h = (e, h)
same_region_lem Record Record n r o (inr e) h = (e, h)
same_region_lem Record Stack n r o e h = tt
same_region_lem Stack Record n r o e h = tt
same_region_lem Stack Stack n r o (inl e) h = (e, h)
same_region_lem Stack Stack n r o (inr e) h = (e, h)

value_left : (u v : Value) (x : Cell) → Stands u x → Stands (joined_value u v) x
unfolding joined_value
value_left (Unusable g) (Unusable k) x h = tt
value_left (Unusable g) (Plain b) x h = tt
value_left (Unusable g) (Address q b) x h = tt
value_left (Plain a) (Unusable k) x h = tt
value_left (Plain a) (Plain b) unset h = h
value_left (Plain a) (Plain b) (number n) h = joined_covers_left a b n h
value_left (Plain a) (Plain b) (offset r o) h = h
value_left (Plain a) (Address q b) x h = tt
value_left (Address p a) (Unusable k) x h = tt
value_left (Address p a) (Plain b) x h = tt
value_left (Address p a) (Address q b) unset h = absurd h
value_left (Address p a) (Address q b) (number n) h = absurd h
value_left (Address p a) (Address q b) (offset r o) h = same_region_lem p q (joined_number a b) r o (inl h.0) (joined_covers_left a b o h.1)

value_right : (u v : Value) (x : Cell) → Stands v x → Stands (joined_value u v) x
unfolding joined_value
value_right (Unusable g) (Unusable k) x h = tt
value_right (Unusable g) (Plain b) x h = tt
value_right (Unusable g) (Address q b) x h = tt
value_right (Plain a) (Unusable k) x h = tt
value_right (Plain a) (Plain b) unset h = h
value_right (Plain a) (Plain b) (number n) h = joined_covers_right a b n h
value_right (Plain a) (Plain b) (offset r o) h = h
value_right (Plain a) (Address q b) x h = tt
value_right (Address p a) (Unusable k) x h = tt
value_right (Address p a) (Plain b) x h = tt
value_right (Address p a) (Address q b) unset h = absurd h
value_right (Address p a) (Address q b) (number n) h = absurd h
value_right (Address p a) (Address q b) (offset r o) h = same_region_lem p q (joined_number a b) r o (inr h.0) (joined_covers_right a b o h.1)

values_left : (us vs : List Value) (xs : List Cell) → StandAll us xs → StandAll (joined_values us vs) xs
unfolding joined_values
values_left [] vs xs h = tt
values_left (u ∷ us) [] xs h = tt
values_left (u ∷ us) (v ∷ vs) [] h = absurd h
values_left (u ∷ us) (v ∷ vs) (x ∷ xs) h = (value_left u v x h.0, values_left us vs xs h.1)

values_right : (us vs : List Value) (xs : List Cell) → StandAll vs xs → StandAll (joined_values us vs) xs
unfolding joined_values
values_right [] vs xs h = tt
values_right (u ∷ us) [] xs h = tt
values_right (u ∷ us) (v ∷ vs) [] h = absurd h
values_right (u ∷ us) (v ∷ vs) (x ∷ xs) h = (value_right u v x h.0, values_right us vs xs h.1)

-- what waited is still awaited, and what comes now is
pub meeting_covers_waiting : (w : Option Facts) (b : Facts) (c : Config) → Awaits w c → Describes (meeting w b) c
unfolding meeting joined_facts
meeting_covers_waiting None b c h = absurd h
meeting_covers_waiting (Some a) b c h =
    record { registers = values_left a.registers b.registers c.registers h.registers; stack_size = h.stack_size; stack_bytes = h.stack_bytes }

pub meeting_covers_coming : (w : Option Facts) (b : Facts) (c : Config) → Describes b c → Describes (meeting w b) c
unfolding meeting joined_facts
meeting_covers_coming None b c h = h
meeting_covers_coming (Some a) b c h =
    record { registers = values_right a.registers b.registers c.registers h.registers; stack_size = h.stack_size; stack_bytes = h.stack_bytes }
