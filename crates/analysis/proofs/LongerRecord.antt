-- A longer record never hurts.
use mathlib.Core.Path.{◌≡◌, refl, sym, ap, ap₂, ◌∙◌}
use mathlib.Core.Bool.{Bool, true, false, cond}
use mathlib.Core.Logic.{◌⊎◌, inl, inr, ⊎_elim}
use mathlib.Core.List.{List}
use Prim.Native.Nat.{ℕ, zero, suc, ◌/◌, ◌≤◌, ◌<◌}
use native.Mathlib.Omega.{arith}
use lib.ListN.{length}
use borrow.Author.Tests.{le-ltb}
use Rattle.std.specs.Prelude.{Option, Some, None}
use Rattle.word.specs.declared.Operation.TheVariants.{Add}
use Rattle.machine.specs.declared.instruction.Instruction.{Instruction}
use Rattle.machine.specs.declared.instruction.Instruction.TheVariants.{Alu, Neg, Jump, Always, Exit, Load, Store, NoInstruction}
use Rattle.machine.specs.Machine.{bytes, bad_record}
use Rattle.number.specs.Sharpen.{exact, loaded}
use Rattle.number.specs.Computed.{computed, fits}
use Rattle.number.proofs.Laws.{fits_exactly}
use Rattle.analysis.specs.declared.Reason.{Reason}
use Rattle.analysis.specs.declared.Reason.TheVariants.{Outside}
use Rattle.analysis.specs.declared.Finding.TheVariants.{Accepted}
use Rattle.analysis.specs.declared.Value.{Value}
use Rattle.analysis.specs.declared.Value.TheVariants.{Unusable, Plain, Address}
use Rattle.analysis.specs.declared.Effect.TheVariants.{Refuse}
use Rattle.analysis.specs.Values.{Facts, value_of}
use Rattle.analysis.specs.Effects.{is_never, is_mixed, reading, put, limit, load, effect}
use Rattle.analysis.specs.Form.{instruction}
use Rattle.analysis.specs.Judged.{apply, judged}
use Rattle.analysis.specs.Promise.{flowing, flow, known_from, known, Allows}
use Rattle.analysis.proofs.Literal.{limit_grows}
use Rattle.analysis.proofs.Whole.{accepted_exactly}

load_longer : (R S : ℕ) → R ≤ S → (size d off : ℕ) (v : Value)
    → (reading v (load S size d off v) ≡ reading v (load R size d off v)) ⊎ ((reason : Reason) × (reading v (load R size d off v) ≡ Refuse reason))
unfolding reading is_never is_mixed load
load_longer R S l size d off (Unusable g) = inl refl
load_longer R S l size d off (Plain x) = inl refl
load_longer R S l size d off (Address p o) = go (fits (computed 64 Add o (exact off)) size (limit R p)) refl
  where
    go : (t : Bool) → fits (computed 64 Add o (exact off)) size (limit R p) ≡ t
        → (cond (fits (computed 64 Add o (exact off)) size (limit S p)) (put d (Plain (loaded size))) (Refuse Outside) ≡ cond t (put d (Plain (loaded size))) (Refuse Outside))
        ⊎ ((reason : Reason) × (cond t (put d (Plain (loaded size))) (Refuse Outside) ≡ Refuse reason))
    go true e =
        let n = computed 64 Add o (exact off) in
        inl (rw ((fits_exactly n size (limit S p)).1 (omega (arith, (fits_exactly n size (limit R p)).0 e, limit_grows R S l p))) refl)
    go false e = inr (Outside, refl)

-- what an instruction does with a record of R bytes it does with one of S, unless it refuses
effect_longer : (R S i : ℕ) → R ≤ S → (a : Facts) (ins : Instruction)
    → (effect S i a ins ≡ effect R i a ins) ⊎ ((reason : Reason) × (effect R i a ins ≡ Refuse reason))
unfolding effect
effect_longer R S i l a (Alu w op d s) = inl refl
effect_longer R S i l a (Neg w d) = inl refl
effect_longer R S i l a (Jump w c d s off) = inl refl
effect_longer R S i l a (Always off) = inl refl
effect_longer R S i l a Exit = inl refl
effect_longer R S i l a (Store z d off s) = inl refl
effect_longer R S i l a NoInstruction = inl refl
effect_longer R S i l a (Load z d s off) = load_longer R S l (bytes z) d off (value_of a s)

module _ (program : List ℕ) (R S : ℕ) (l : R ≤ S) (all : (j : ℕ) → j < length program / 8 → Allows program R j) where
  flow_longer : (i : ℕ) → i < length program / 8 → (o : Option Facts) → known_from program R i i ≡ o → (j : ℕ) (w : Option Facts) → flow program S i o j w ≡ flow program R i o j w
  unfolding flow known
  flow_longer i m None e j w = refl
  flow_longer i m (Some a) e j w =
      ⊎_elim (λ (q : effect S i a (instruction program i) ≡ effect R i a (instruction program i)). ap (λ f. flowing i j (apply a f) w) q)
      (λ (q : (reason : Reason) × (effect R i a (instruction program i) ≡ Refuse reason)). absurd (all i m q.0 (record { facts = a; knows = e; refuses_it = q.1 })))
      (effect_longer R S i l a (instruction program i))

  known_longer : (i : ℕ) → i ≤ length program / 8 → (j : ℕ) → known_from program S i j ≡ known_from program R i j
  unfolding known_from
  known_longer zero m j = refl
  known_longer (suc i) m j =
      ap₂ (λ u v. flow program S i u j v) (known_longer i (omega arith) i) (known_longer i (omega arith) j)
      ∙ flow_longer i (omega arith) (known_from program R i i) refl j (known_from program R i j)

  allows_longer : (j : ℕ) → j < length program / 8 → Allows program S j
  unfolding known
  allows_longer j m reason r =
      let k : known_from program R j j ≡ Some r.facts = sym (known_longer j (omega arith) j) ∙ r.knows in
      ⊎_elim (λ (q : effect S j r.facts (instruction program j) ≡ effect R j r.facts (instruction program j)).
      all j m reason (record { facts = r.facts; knows = k; refuses_it = sym q ∙ r.refuses_it }))
      (λ (q : (s : Reason) × (effect R j r.facts (instruction program j) ≡ Refuse s)). all j m q.0 (record { facts = r.facts; knows = k; refuses_it = q.1 }))
      (effect_longer R S j l r.facts (instruction program j))

-- a program accepted with a record of R bytes is accepted with every longer one that a record may have
pub accepted_with_longer : (program : List ℕ) (R S : ℕ) → R ≤ S → S ≤ 1024 → (judged program R).finding ≡ Accepted → (judged program S).finding ≡ Accepted
unfolding bad_record
accepted_with_longer program R S l b e =
    let h = (accepted_exactly program R).0 e in
    (accepted_exactly program S).1 (
      record {
        orderly = record { good_length = h.0.orderly.good_length; good_record = le-ltb 1024 S b; fine = h.0.orderly.fine };
        all_reached = h.0.all_reached;
      },
      allows_longer program R S l h.1,
    )
