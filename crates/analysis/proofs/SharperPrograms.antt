-- Knowing more never hurts a program: one of the same length each of whose instructions tells no less than the other's is accepted where
-- the other is, unless a result that it calculates is empty; so where what is known at each of its indices is possible.
use mathlib.Core.Path.{◌≡◌, refl, sym, subst}
use mathlib.Core.Bool.{Bool, true, false, cond}
use mathlib.Core.List.{List}
use Prim.Native.Nat.{ℕ, zero, suc, ◌+◌, ◌/◌, ◌≤◌, ◌<◌}
use native.Mathlib.Decide.{ℕ_discrete}
use native.Mathlib.Omega.{arith}
use lib.ListN.{length}
use lib.Dec.{eqb}
use Rattle.std.specs.Prelude.{Option, Some, None}
use Rattle.machine.specs.declared.instruction.Instruction.{Instruction}
use Rattle.number.specs.Meaning.{NoneEmpty}
use Rattle.analysis.specs.declared.Reason.{Reason}
use Rattle.analysis.specs.declared.Finding.TheVariants.{Accepted}
use Rattle.analysis.specs.declared.Effect.{Effect}
use Rattle.analysis.specs.declared.Effect.TheVariants.{Refuse, Put, Keep, Fork, Goto, Stop}
use Rattle.analysis.specs.Values.{Facts, start_facts}
use Rattle.analysis.specs.Effects.{effect}
use Rattle.analysis.specs.Form.{instruction, HasForm}
use Rattle.analysis.specs.Judged.{Flow, refuses, flows, apply, judged}
use Rattle.analysis.specs.Promise.{together, flowing, flow, known_from, known, Allows}
use Rattle.analysis.specs.Sharper.{SharperComing, SharperThere, SharperFlow, Calculating, SomeResult, TellsMore, PossibleFacts}
use Rattle.analysis.proofs.Annotated.{instruction_words}
use Rattle.analysis.proofs.Eleven.{Eleven, ElevenFlow, together_eleven, cond_eleven, apply_eleven, known_eleven}
use Rattle.analysis.proofs.OperableFacts.{none_empty_unless_a_result_is}
use Rattle.analysis.proofs.SharperEffects.{same_tells_more, possible_has_results}
use Rattle.analysis.proofs.SharperValues.{together_sharper, start_sharper}
use Rattle.analysis.proofs.Whole.{accepted_exactly}

-- ---- what flows to an index
cond_sharper : (t : Bool) (o' o : Option Facts) → SharperComing o' o → SharperComing (cond t o' None) (cond t o None)
cond_sharper true o' o h = h
cond_sharper false o' o h = tt

there_sharper : (j t' t : ℕ) (o' o : Option Facts) → SharperThere o' t' o t
    → SharperComing (cond (eqb j t') o' None) (cond (eqb j t) o None)
there_sharper j t' t None o h = none_first (eqb j t') (cond (eqb j t) o None)
  where
    none_first : (b : Bool) (o : Option Facts) → SharperComing (cond b None None) o
    none_first true o = tt
    none_first false o = tt
there_sharper j t' t (Some a') None h = absurd h
there_sharper j t' t (Some a') (Some a) h = rw h.1 (cond_sharper (eqb j t) (Some a') (Some a) h.0)

-- joined to what was known, and what was known is not forgotten
module _ (i j : ℕ) (w' w : Option Facts) (ew : Eleven w) (h : SharperComing w' w) where
  flowing_sharper : (f' f : Flow) → ElevenFlow f → SharperFlow f' f → ((reason : Reason) → f ≡ refuses reason → ⊥)
      → SharperComing (flowing i j f' w') (flowing i j f w)
  unfolding flowing
  flowing_sharper f' (refuses reason) e s n = absurd (n reason refl)
  flowing_sharper (refuses r) (flows next there target) e s n = absurd s
  flowing_sharper (flows next' there' target') (flows next there target) e s n =
      together_sharper _ _ _ _ (together_eleven w _ ew (cond_eleven (eqb j (i + 1)) next e.0)) (cond_eleven (eqb j target) there e.1)
      (together_sharper w' _ w _ ew (cond_eleven (eqb j (i + 1)) next e.0) h (cond_sharper (eqb j (i + 1)) next' next s.0))
      (there_sharper j target' target there' there s.1)

  flowing_keeps : (f : Flow) → ElevenFlow f → SharperComing w' (flowing i j f w)
  unfolding flowing together
  flowing_keeps (refuses reason) e = h
  flowing_keeps (flows next there target) e =
      let n = cond (eqb j (i + 1)) next None in
      let en = cond_eleven (eqb j (i + 1)) next e.0 in
      together_sharper w' None (together w n) (cond (eqb j target) there None) (together_eleven w n ew en)
      (cond_eleven (eqb j target) there e.1)
      (together_sharper w' None w n ew en h tt) tt

-- ---- two programs
apply_refuses : (a : Facts) (e : Effect) (reason : Reason) → apply a e ≡ refuses reason → e ≡ Refuse reason
unfolding apply
apply_refuses a (Refuse r) reason q = cc
apply_refuses a (Put d v) reason q = absurd (let z : ◌≡◌ {A = ℕ} 0 1 = cc in omega arith)
apply_refuses a Keep reason q = absurd (let z : ◌≡◌ {A = ℕ} 0 1 = cc in omega arith)
apply_refuses a (Fork d s o t target) reason q = absurd (let z : ◌≡◌ {A = ℕ} 0 1 = cc in omega arith)
apply_refuses a (Goto target) reason q = absurd (let z : ◌≡◌ {A = ℕ} 0 1 = cc in omega arith)
apply_refuses a Stop reason q = absurd (let z : ◌≡◌ {A = ℕ} 0 1 = cc in omega arith)

module _ (old new : List ℕ) (R S n : ℕ) (allowed : (j : ℕ) → j < n → Allows old R j)
    (more : (i : ℕ) → i < n → TellsMore R S i (instruction new i) (instruction old i))
    (fine : (j : ℕ) → j < n → (a : Facts) → known new S j ≡ Some a → Calculating NoneEmpty a (instruction new j)) where
  not_refused : (i : ℕ) → i < n → (a : Facts) → known_from old R i i ≡ Some a → (reason : Reason)
      → apply a (effect R i a (instruction old i)) ≡ refuses reason → ⊥
  unfolding known
  not_refused i l a e reason q = allowed i l reason (record { facts = a; knows = e; refuses_it = apply_refuses a _ reason q })

  flow_sharper : (i : ℕ) → i < n → (o' o : Option Facts) → known_from new S i i ≡ o' → known_from old R i i ≡ o → SharperComing o' o
      → (j : ℕ) (w' w : Option Facts) → Eleven w
      → SharperComing w' w → SharperComing (flow new S i o' j w') (flow old R i o j w)
  unfolding flow known
  flow_sharper i l None None p q s j w' w ew h = h
  flow_sharper i l None (Some a) p q s j w' w ew h =
      flowing_keeps i j w' w ew h _ (apply_eleven a (effect R i a (instruction old i)) (subst Eleven q (known_eleven old R i i)))
  flow_sharper i l (Some a') None p q s j w' w ew h = absurd s
  flow_sharper i l (Some a') (Some a) p q s j w' w ew h =
      flowing_sharper i j w' w ew h _ _ (apply_eleven a (effect R i a (instruction old i)) (subst Eleven q (known_eleven old R i i)))
      (more i l a' a s (fine i l a' p)) (not_refused i l a q)

  -- at each index no less is known
  pub known_sharper : (i : ℕ) → i ≤ n → (j : ℕ) → SharperComing (known_from new S i j) (known_from old R i j)
  unfolding known_from
  known_sharper zero l j = cond_sharper (eqb j 0) (Some start_facts) (Some start_facts) start_sharper
  known_sharper (suc i) l j =
      flow_sharper i (omega arith) _ _ refl refl (known_sharper i (omega arith) i) j _ _ (known_eleven old R i j)
      (known_sharper i (omega arith) j)

  -- so nothing is refused
  allows_sharper : (j : ℕ) → j < n → Allows new S j
  unfolding known apply
  allows_sharper j l reason r =
      go (known_from old R j j) refl (subst (λ o. SharperComing o (known_from old R j j)) r.knows (known_sharper j (omega arith) j))
    where
      go : (o : Option Facts) → known_from old R j j ≡ o → SharperComing (Some r.facts) o → ⊥
      go None q s = s
      go (Some a) q s =
          contradiction (apply a (effect R j a (instruction old j))) (not_refused j l a q)
          (subst (λ e. SharperFlow (apply r.facts e) (apply a (effect R j a (instruction old j)))) r.refuses_it
          (more j l r.facts a s (fine j l r.facts r.knows)))
        where
          contradiction : (f : Flow) → ((reason : Reason) → f ≡ refuses reason → ⊥) → SharperFlow (apply r.facts (Refuse reason)) f → ⊥
          contradiction (refuses s) m k = m s refl
          contradiction (flows x y z) m k = k

-- a program of good form that tells no less is accepted, unless a result that it calculates is empty
pub accepted_with_more_told : (old new : List ℕ) (R S : ℕ) → (judged old R).finding ≡ Accepted → HasForm new S → length new ≡ length old
    → ((i : ℕ) → i < length new / 8 → TellsMore R S i (instruction new i) (instruction old i))
    → ((j : ℕ) → j < length new / 8 → (a : Facts) → known new S j ≡ Some a → Calculating SomeResult a (instruction new j))
    → (judged new S).finding ≡ Accepted
accepted_with_more_told old new R S e form same more results =
    let n = length new / 8 in
    let all = ((accepted_exactly old R).0 e).1 in
    (accepted_exactly new S).1 (
      form,
      allows_sharper old new R S n (λ j l. all j (subst (λ (k : ℕ). j < k / 8) same l)) more
          (none_empty_unless_a_result_is new S n results),
    )

-- so where one instruction is replaced by one that tells more
module _ (old new : List ℕ) (R k : ℕ) (e : (judged old R).finding ≡ Accepted) (form : HasForm new R) (same : length new ≡ length old)
    (others : (i : ℕ) → (i ≡ k → ⊥) → instruction new i ≡ instruction old i)
    (this : TellsMore R R k (instruction new k) (instruction old k)) where
  each_tells_more : (i : ℕ) → TellsMore R R i (instruction new i) (instruction old i)
  each_tells_more i = go (ℕ_discrete i k)
    where
      go : Dec (i ≡ k) → TellsMore R R i (instruction new i) (instruction old i)
      go (yes q) = subst (λ (m : ℕ). TellsMore R R m (instruction new m) (instruction old m)) (sym q) this
      go (no q) =
          subst (λ (ins : Instruction). TellsMore R R i ins (instruction old i)) (sym (others i q))
          (same_tells_more R R i (omega arith) (instruction old i) (instruction_words old i))

  pub accepted_with_one_that_tells_more :
      ((j : ℕ) → j < length new / 8 → (a : Facts) → known new R j ≡ Some a → Calculating SomeResult a (instruction new j))
      → (judged new R).finding ≡ Accepted
  accepted_with_one_that_tells_more = accepted_with_more_told old new R R e form same (λ i l. each_tells_more i)

  -- and where what is known at each index is possible
  pub accepted_where_possible : ((j : ℕ) → j < length new / 8 → (a : Facts) → known new R j ≡ Some a → PossibleFacts a)
      → (judged new R).finding ≡ Accepted
  accepted_where_possible possible =
      accepted_with_one_that_tells_more (λ j l a q. possible_has_results a (instruction new j) (instruction_words new j) (possible j l a q))
