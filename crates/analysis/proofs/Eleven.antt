-- What is known at an index is known of eleven registers, so that joins are register by register.
use mathlib.Core.Path.{◌≡◌, refl, sym, ap, ◌∙◌}
use mathlib.Core.Bool.{Bool, true, false, cond}
use mathlib.Core.List.{List, [], ◌∷◌}
use Prim.Native.Nat.{ℕ, zero, suc, ◌+◌}
use native.Mathlib.Omega.{arith}
use lib.ListN.{length, length-set}
use lib.Dec.{eqb}
use Rattle.std.specs.Prelude.{Some, None, Option}
use Rattle.machine.specs.declared.instruction.Operand.{Operand}
use Rattle.machine.specs.declared.instruction.Operand.TheVariants.{Immediate, Register}
use Rattle.number.specs.Refined.{Refined}
use Rattle.analysis.specs.declared.Value.{Value}
use Rattle.analysis.specs.declared.Effect.{Effect}
use Rattle.analysis.specs.declared.Effect.TheVariants.{Refuse, Put, Keep, Fork, Goto, Stop}
use Rattle.analysis.specs.Values.{Facts, start_facts, joined_values, joined_facts}
use Rattle.analysis.specs.Effects.{effect}
use Rattle.analysis.specs.Form.{instruction}
use Rattle.analysis.specs.Judged.{Flow, refuses, flows, having, with_operand, along, apply}
use Rattle.analysis.specs.Promise.{together, flowing, flow, known_from}
use Rattle.analysis.proofs.Literal.{along_possible, along_excluded}

abbrev pub Eleven : Option Facts → Type 0
Eleven None = Unit {0}
Eleven (Some a) = length a.registers ≡ 11

joined_length : (us vs : List Value) → length us ≡ length vs → length (joined_values us vs) ≡ length us
unfolding joined_values
joined_length [] vs e = refl
joined_length (u ∷ us) [] e = absurd (omega arith)
joined_length (u ∷ us) (v ∷ vs) e = ap suc (joined_length us vs (omega arith))

pub together_eleven : (u v : Option Facts) → Eleven u → Eleven v → Eleven (together u v)
unfolding together joined_facts
together_eleven u None g h = g
together_eleven None (Some b) g h = h
together_eleven (Some a) (Some b) g h = joined_length a.registers b.registers (g ∙ sym h) ∙ g

pub cond_eleven : (t : Bool) (o : Option Facts) → Eleven o → Eleven (cond t o None)
cond_eleven true o h = h
cond_eleven false o h = tt

along_eleven : (a : Facts) (d : ℕ) (s : Operand) (r : Refined) → length a.registers ≡ 11 → Eleven (along a d s r)
unfolding with_operand having
along_eleven a d s None e = rw (along_excluded a d s) tt
along_eleven a d (Immediate n) (Some (x, y)) e = rw (along_possible a d (Immediate n) x y) (simp length-set e)
along_eleven a d (Register t) (Some (x, y)) e = rw (along_possible a d (Register t) x y) (simp length-set e)

-- what flows out of an index
abbrev pub ElevenFlow : Flow → Type 0
ElevenFlow (refuses reason) = Unit {0}
ElevenFlow (flows next there target) = Eleven next × Eleven there

pub apply_eleven : (a : Facts) (e : Effect) → length a.registers ≡ 11 → ElevenFlow (apply a e)
unfolding apply having
apply_eleven a (Refuse reason) h = tt
apply_eleven a (Put d v) h = (simp length-set h, tt)
apply_eleven a Keep h = (h, tt)
apply_eleven a (Fork d s o t target) h = (along_eleven a d s o h, along_eleven a d s t h)
apply_eleven a (Goto target) h = (tt, h)
apply_eleven a Stop h = (tt, tt)

flowing_eleven : (i j : ℕ) (f : Flow) (w : Option Facts) → ElevenFlow f → Eleven w → Eleven (flowing i j f w)
unfolding flowing
flowing_eleven i j (refuses reason) w h g = g
flowing_eleven i j (flows next there target) w h g =
    together_eleven _ _ (together_eleven w _ g (cond_eleven (eqb j (i + 1)) next h.0)) (cond_eleven (eqb j target) there h.1)

flow_eleven : (program : List ℕ) (R i : ℕ) (o : Option Facts) (j : ℕ) (w : Option Facts) → Eleven o → Eleven w → Eleven (flow program R i o j w)
unfolding flow
flow_eleven program R i None j w h g = g
flow_eleven program R i (Some a) j w h g = flowing_eleven i j _ w (apply_eleven a (effect R i a (instruction program i)) h) g

pub known_eleven : (program : List ℕ) (R i j : ℕ) → Eleven (known_from program R i j)
unfolding known_from start_facts
known_eleven program R zero j = cond_eleven (eqb j 0) (Some start_facts) refl
known_eleven program R (suc i) j = flow_eleven program R i (known_from program R i i) j (known_from program R i j) (known_eleven program R i i) (known_eleven program R i j)
