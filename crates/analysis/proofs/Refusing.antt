-- Where a program of good form is refused for its values: at the lowest index whose instruction refuses the facts that wait there, with the
-- instruction's own reason.
use mathlib.Core.Path.{◌≡◌, refl, sym, ap, ◌∙◌, subst}
use mathlib.Core.Bool.{Bool, true, false, cond, ◌||◌, true≢false}
use mathlib.Core.Logic.{⊎_elim}
use mathlib.Core.List.{List}
use Prim.Native.Nat.{ℕ, zero, suc, ◌+◌, ◌*◌, ◌/◌, ◌%◌, ◌≤◌, ◌<◌}
use native.Mathlib.Nat.{eq-or-lt_of_le}
use native.Mathlib.Omega.{arith}
use lib.ListN.{length}
use lib.Dec.{eqb}
use borrow.Author.Tests.{leb-false, lt-ltb, eqb-true, eqb-false, not-false}
use Rattle.std.specs.Prelude.{Option, Some, None}
use Rattle.word.specs.declared.Operation.{Operation}
use Rattle.word.specs.declared.Operation.TheVariants as operation
use Rattle.word.specs.declared.Comparison.{Comparison}
use Rattle.machine.specs.declared.instruction.Width.{Width}
use Rattle.machine.specs.declared.instruction.Operand.{Operand}
use Rattle.machine.specs.declared.instruction.Instruction.{Instruction}
use Rattle.machine.specs.declared.instruction.Instruction.TheVariants.{Alu, Neg, Jump, Always, Exit, Load, Store, NoInstruction}
use Rattle.machine.specs.Instruction.{writes}
use Rattle.machine.specs.Machine.{bits, bytes, is_no_instruction, names10, bad_program}
use Rattle.number.specs.Computed.{computed, fits}
use Rattle.number.specs.Sharpen.{exact, loaded}
use Rattle.analysis.specs.declared.Reason.{Reason}
use Rattle.analysis.specs.declared.Reason.TheVariants.{ReadsUnset, Outside, LeaksAddress}
use Rattle.analysis.specs.declared.Region.TheVariants.{Record, Stack}
use Rattle.analysis.specs.declared.Finding.TheVariants.{Refused}
use Rattle.analysis.specs.declared.Value.{Value}
use Rattle.analysis.specs.declared.Value.TheVariants.{Unusable, Plain, Address}
use Rattle.analysis.specs.declared.Effect.{Effect}
use Rattle.analysis.specs.declared.Effect.TheVariants.{Refuse, Put, Keep, Fork, Goto, Stop}
use Rattle.analysis.specs.Values.{Facts, start_facts}
use Rattle.analysis.specs.Effects.{is_never, is_mixed, reading, reading_both, put, Role, copies, converts, adds, subtracts, calculates, role, calculate, sum, difference, arithmetic, limit, load, store_at, store, fork, exit, effect}
use Rattle.analysis.specs.Form.{instruction, off_of, goes_out, may_be_last, Fine, HasForm}
use Rattle.analysis.specs.Judged.{on_values, flows, along, apply, Waiting, nobody, Progress, halted, onward, send, and_then, distribute, visit, Walk, conclude, pass, followed}
use Rattle.analysis.proofs.Literal.{conclude_halted, conclude_onward}
use Rattle.analysis.proofs.Annotated.{refused_not_accepted}
use Rattle.analysis.proofs.FormLaws.{refused_injective}
use Rattle.analysis.proofs.Tests.{or_left, or_right}

-- an effect at index i of n: a refusal is for values, and it goes nowhere but to a later index of the program
abbrev pub Lawful : ℕ → ℕ → Effect → Type 0
Lawful n i (Refuse reason) = on_values reason ≡ true
Lawful n i (Put d v) = i + 1 < n
Lawful n i Keep = i + 1 < n
Lawful n i (Fork d s not_taken taken target) = (i + 1 < n) × (target < n) × (i < target)
Lawful n i (Goto target) = (target < n) × (i < target)
Lawful n i Stop = Unit {0}

module _ (n i : ℕ) where
  unset_lawful : on_values ReadsUnset ≡ true
  unfolding on_values
  unset_lawful = refl

  outside_lawful : on_values Outside ≡ true
  unfolding on_values
  outside_lawful = refl

  leak_lawful : on_values LeaksAddress ≡ true
  unfolding on_values
  leak_lawful = refl

  reading_lawful : (v : Value) (e : Effect) → Lawful n i e → Lawful n i (reading v e)
  unfolding reading
  reading_lawful v e h = go (is_never v) (is_mixed v)
    where
      go : (p q : Bool) → Lawful n i (cond p (Refuse ReadsUnset) (cond q (Refuse LeaksAddress) e))
      go true q = unset_lawful
      go false true = leak_lawful
      go false false = h

  reading_both_lawful : (u v : Value) (e : Effect) → Lawful n i e → Lawful n i (reading_both u v e)
  unfolding reading_both
  reading_both_lawful u v e h = go (is_never u || is_never v) (is_mixed u || is_mixed v)
    where
      go : (p q : Bool) → Lawful n i (cond p (Refuse ReadsUnset) (cond q (Refuse LeaksAddress) e))
      go true q = unset_lawful
      go false true = leak_lawful
      go false false = h

  -- r10 is not written, and this is not the last instruction
  module _ (d : ℕ) (keeps : eqb d 10 ≡ false) (on : i + 1 < n) where
    put_lawful : (v : Value) → Lawful n i (put d v)
    unfolding put
    put_lawful v = rw keeps on

    calculate_lawful : (w : ℕ) (op : Operation) (u v : Value) → Lawful n i (calculate w op d u v)
    unfolding calculate
    calculate_lawful w op (Plain a) (Plain b) = put_lawful _
    calculate_lawful w op (Plain a) (Unusable h) = leak_lawful
    calculate_lawful w op (Plain a) (Address q b) = leak_lawful
    calculate_lawful w op (Unusable g) v = leak_lawful
    calculate_lawful w op (Address p a) v = leak_lawful

    sum_lawful : (u v : Value) → Lawful n i (sum d u v)
    unfolding sum
    sum_lawful (Plain a) (Plain b) = put_lawful _
    sum_lawful (Plain a) (Address q b) = put_lawful _
    sum_lawful (Plain a) (Unusable h) = leak_lawful
    sum_lawful (Address p a) (Plain b) = put_lawful _
    sum_lawful (Address p a) (Address q b) = leak_lawful
    sum_lawful (Address p a) (Unusable h) = leak_lawful
    sum_lawful (Unusable g) v = leak_lawful

    difference_lawful : (u v : Value) → Lawful n i (difference d u v)
    unfolding difference
    difference_lawful (Plain a) (Plain b) = put_lawful _
    difference_lawful (Plain a) (Address q b) = leak_lawful
    difference_lawful (Plain a) (Unusable h) = leak_lawful
    difference_lawful (Address p a) (Plain b) = put_lawful _
    difference_lawful (Address p a) (Address q b) = leak_lawful
    difference_lawful (Address p a) (Unusable h) = leak_lawful
    difference_lawful (Unusable g) v = leak_lawful

    arithmetic_lawful : (e : Role) (w : ℕ) (op : Operation) (u v : Value) → Lawful n i (arithmetic e w op d u v)
    unfolding arithmetic
    arithmetic_lawful copies w op u v = reading_lawful v _ (put_lawful v)
    arithmetic_lawful converts w op u v = reading_lawful v _ (calculate_lawful w op v v)
    arithmetic_lawful adds w op u v = reading_both_lawful u v _ (sum_lawful u v)
    arithmetic_lawful subtracts w op u v = reading_both_lawful u v _ (difference_lawful u v)
    arithmetic_lawful calculates w op u v = reading_both_lawful u v _ (calculate_lawful w op u v)

    load_lawful : (R size off : ℕ) (v : Value) → Lawful n i (load R size d off v)
    unfolding load
    load_lawful R size off (Address p a) = go (fits (computed 64 operation.Add a (exact off)) size (limit R p))
      where
        go : (b : Bool) → Lawful n i (cond b (put d (Plain (loaded size))) (Refuse Outside))
        go true = put_lawful _
        go false = outside_lawful
    load_lawful R size off (Plain a) = outside_lawful
    load_lawful R size off (Unusable g) = outside_lawful

  store_lawful : (size off : ℕ) (u v : Value) → i + 1 < n → Lawful n i (store size off u v)
  unfolding store store_at
  store_lawful size off (Address Stack a) (Plain b) on = go (fits (computed 64 operation.Add a (exact off)) size 512)
    where
      go : (t : Bool) → Lawful n i (cond t Keep (Refuse Outside))
      go true = on
      go false = outside_lawful
  store_lawful size off (Address Record a) (Plain b) on = outside_lawful
  store_lawful size off (Plain a) (Plain b) on = outside_lawful
  store_lawful size off (Unusable g) (Plain b) on = outside_lawful
  store_lawful size off u (Address q b) on = leak_lawful
  store_lawful size off u (Unusable h) on = leak_lawful

  fork_lawful : (w : Width) (c : Comparison) (d : ℕ) (s : Operand) (target : ℕ) (u v : Value) → i + 1 < n → target < n → i < target → Lawful n i (fork w c d s target u v)
  unfolding fork
  fork_lawful w c d s target (Plain a) (Plain b) on to ahead = (on, to, ahead)
  fork_lawful w c d s target (Plain a) (Address q b) on to ahead = leak_lawful
  fork_lawful w c d s target (Plain a) (Unusable h) on to ahead = leak_lawful
  fork_lawful w c d s target (Address p a) v on to ahead = leak_lawful
  fork_lawful w c d s target (Unusable g) v on to ahead = leak_lawful

  exit_lawful : (v : Value) → Lawful n i (exit v)
  unfolding exit
  exit_lawful (Plain a) = tt
  exit_lawful (Address p a) = leak_lawful
  exit_lawful (Unusable g) = leak_lawful

  -- only EXIT and JA may stand last
  not_last : (ins : Instruction) → i < n → Fine n i ins → may_be_last ins ≡ false → i + 1 < n
  not_last ins l f e = ⊎_elim (λ (q : i + 1 ≡ n). absurd (true≢false (sym (f.ends_well q) ∙ e))) (λ (q : i + 1 < n). q) (eq-or-lt_of_le (let q : i + 1 ≤ n = omega arith in q))

  keeps_10 : (d : ℕ) → (eqb d 10 || false) ≡ false → eqb d 10 ≡ false
  keeps_10 d = go (eqb d 10)
    where
      go : (b : Bool) → (b || false) ≡ false → b ≡ false
      go true e = absurd (true≢false e)
      go false e = refl

  pub effect_lawful : (R : ℕ) (a : Facts) (ins : Instruction) → i < n → Fine n i ins → Lawful n i (effect R i a ins)
  unfolding effect writes names10 off_of goes_out may_be_last is_no_instruction
  effect_lawful R a (Alu w op d s) l f = arithmetic_lawful d (keeps_10 d f.keeps_r10) (not_last (Alu w op d s) l f refl) (role w op) (bits w) op _ _
  effect_lawful R a (Neg w d) l f = reading_lawful _ _ (calculate_lawful d (keeps_10 d f.keeps_r10) (not_last (Neg w d) l f refl) (bits w) operation.Neg _ _)
  effect_lawful R a (Jump w c d s off) l f =
      reading_both_lawful _ _ _ (fork_lawful w c d s (i + 1 + off) _ _ (not_last (Jump w c d s off) l f refl) (leb-false n (i + 1 + off) f.stays_in) (omega arith))
  effect_lawful R a (Always off) l f = (leb-false n (i + 1 + off) f.stays_in, omega arith)
  effect_lawful R a Exit l f = reading_lawful _ _ (exit_lawful _)
  effect_lawful R a (Load z d s off) l f = reading_lawful _ _ (load_lawful d (keeps_10 d f.keeps_r10) (not_last (Load z d s off) l f refl) R (bytes z) off _)
  effect_lawful R a (Store z d off s) l f = reading_both_lawful _ _ _ (store_lawful (bytes z) off _ _ (not_last (Store z d off s) l f refl))
  effect_lawful R a NoInstruction l f = absurd (true≢false f.instructs)

-- ---- a lawful effect is sent on without a refusal

abbrev pub Goes : Progress → Type 0
Goes (halted reason p work) = ⊥
Goes (onward p work) = Unit {0}

pub send_goes : (n j : ℕ) (o : Option Facts) (p : Waiting) (work : ℕ) → j < n → Goes (send n j o p work)
unfolding send
send_goes n j None p work l = tt
send_goes n j (Some a) p work l = rw (lt-ltb j n l) tt

distribute_goes : (n i : ℕ) (p : Waiting) (work : ℕ) (next there : Option Facts) (target : ℕ)
    → Goes (send n (i + 1) next p work) → ((q : Waiting) (k : ℕ) → Goes (send n target there q k)) → Goes (distribute n i p work (flows next there target))
unfolding distribute and_then
distribute_goes n i p work next there target h k = go (send n (i + 1) next p work) h
  where
    go : (r : Progress) → Goes r → Goes (and_then r (send n target there))
    go (halted reason q m) g = absurd g
    go (onward q m) g = k q m

none_goes : (n j : ℕ) (p : Waiting) (work : ℕ) → Goes (send n j None p work)
unfolding send
none_goes n j p work = tt

-- a halt is the effect's refusal, and leaves what waits as it was
abbrev HaltedBy : ℕ → ℕ → Waiting → ℕ → Facts → Effect → Type 0
HaltedBy n i p work a (Refuse reason) = distribute n i p work (apply a (Refuse reason)) ≡ halted reason p work
HaltedBy n i p work a (Put d v) = Goes (distribute n i p work (apply a (Put d v)))
HaltedBy n i p work a Keep = Goes (distribute n i p work (apply a Keep))
HaltedBy n i p work a (Fork d s o t target) = Goes (distribute n i p work (apply a (Fork d s o t target)))
HaltedBy n i p work a (Goto target) = Goes (distribute n i p work (apply a (Goto target)))
HaltedBy n i p work a Stop = Goes (distribute n i p work (apply a Stop))

halted_by : (n i : ℕ) (p : Waiting) (work : ℕ) (a : Facts) (e : Effect) → Lawful n i e → HaltedBy n i p work a e
unfolding apply distribute
halted_by n i p work a (Refuse reason) h = refl
halted_by n i p work a (Put d v) h = distribute_goes n i p work _ None 0 (send_goes n (i + 1) _ p work h) (none_goes n 0)
halted_by n i p work a Keep h = distribute_goes n i p work _ None 0 (send_goes n (i + 1) _ p work h) (none_goes n 0)
halted_by n i p work a (Fork d s o t target) h =
    distribute_goes n i p work (along a d s o) (along a d s t) target (send_goes n (i + 1) (along a d s o) p work h.0) (λ q k. send_goes n target (along a d s t) q k h.1)
halted_by n i p work a (Goto target) h = distribute_goes n i p work None (Some a) target (none_goes n (i + 1) p work) (λ q k. send_goes n target (Some a) q k h.0)
halted_by n i p work a Stop h = distribute_goes n i p work None None 0 (none_goes n (i + 1) p work) (none_goes n 0)

-- ---- the refusal of a pass

-- the facts that wait at the place, and the instruction there that refuses them
pub record RefusedAt (program : List ℕ) (R : ℕ) (walk : Walk) (reason : Reason) (place : ℕ) : Type 0 where
  pub inside : place < length program / 8
  pub facts : Facts
  pub wait : walk.waiting place ≡ Some facts
  pub refused : effect R place facts (instruction program place) ≡ Refuse reason

-- a program has an instruction
length_some : (l : ℕ) → bad_program l ≡ false → 0 < l / 8
unfolding bad_program
length_some l e =
    let h = or_left _ _ (or_left _ _ e) in
    let n : l ≡ 0 → ⊥ = eqb-false l 0 h in
    let m : l % 8 ≡ 0 = eqb-true _ _ (not-false _ (or_right (eqb l 0) _ (or_left _ _ e))) in
    omega arith

pub some_instruction : (program : List ℕ) (R : ℕ) → HasForm program R → 0 < length program / 8
some_instruction program R form = length_some (length program) form.orderly.good_length

module _ (program : List ℕ) (R : ℕ) (form : HasForm program R) where
  abbrev pub Tells : ℕ → Waiting → Option Facts → Progress → Type 0
  Tells i p w (halted reason q work) = (a : Facts) × (w ≡ Some a) × (effect R i a (instruction program i) ≡ Refuse reason) × (q ≡ p)
  Tells i p w (onward q work) = Unit {0}

  pub visit_tells : (i : ℕ) → i < length program / 8 → (p : Waiting) (work : ℕ) (w : Option Facts) → Tells i p w (visit program R i p work w)
  unfolding visit
  visit_tells i l p work None = tt
  visit_tells i l p work (Some a) =
      go (effect R i a (instruction program i)) refl (halted_by (length program / 8) i p (work + 1) a (effect R i a (instruction program i)) (effect_lawful (length program / 8) i R a (instruction program i) l (form.orderly.fine i l)))
    where
      goes_tells : (r : Progress) → Goes r → Tells i p (Some a) r
      goes_tells (halted reason q k) g = absurd g
      goes_tells (onward q k) g = tt

      go : (e : Effect) → effect R i a (instruction program i) ≡ e → HaltedBy (length program / 8) i p (work + 1) a e
          → Tells i p (Some a) (distribute (length program / 8) i p (work + 1) (apply a e))
      go (Refuse reason) q h = rw h (a, refl, q, refl)
      go (Put d v) q h = goes_tells (distribute (length program / 8) i p (work + 1) (apply a (Put d v))) h
      go Keep q h = goes_tells (distribute (length program / 8) i p (work + 1) (apply a Keep)) h
      go (Fork d s o t target) q h = goes_tells (distribute (length program / 8) i p (work + 1) (apply a (Fork d s o t target))) h
      go (Goto target) q h = goes_tells (distribute (length program / 8) i p (work + 1) (apply a (Goto target))) h
      go Stop q h = goes_tells (distribute (length program / 8) i p (work + 1) (apply a Stop)) h

  pass_refused : (k i : ℕ) → i + k ≡ length program / 8 → (p : Waiting) (work : ℕ) (reason : Reason) (place : ℕ)
      → (pass program R k i p work).finding ≡ Refused reason place → RefusedAt program R (pass program R k i p work) reason place
  unfolding pass
  pass_refused zero i m p work reason place e = absurd (refused_not_accepted reason place (sym e))
  pass_refused (suc k) i m p work reason place e =
      go (visit program R i p work (p i)) (visit_tells i (omega arith) p work (p i)) e (λ q w. pass_refused k (i + 1) (omega arith) q w)
    where
      go : (r : Progress) → Tells i p (p i) r → (conclude r i (pass program R k (i + 1))).finding ≡ Refused reason place
          → ((q : Waiting) (w : ℕ) (s : Reason) (x : ℕ) → (pass program R k (i + 1) q w).finding ≡ Refused s x → RefusedAt program R (pass program R k (i + 1) q w) s x)
          → RefusedAt program R (conclude r i (pass program R k (i + 1))) reason place
      go (halted s q w) t h more =
          let e = conclude_halted s q w i (pass program R k (i + 1)) in
          let j = refused_injective s reason i place (sym (ap (λ (x : Walk). x.finding) e) ∙ h) in
          rw e
          (subst (λ x. RefusedAt program R (record { finding = Refused s i; work = w; waiting = q }) reason x) j.1
          (subst (λ x. RefusedAt program R (record { finding = Refused s i; work = w; waiting = q }) x i) j.0
          (record { inside = omega arith; facts = t.0; wait = ap (λ f. f i) t.3 ∙ t.1; refused = t.2 })))
      go (onward q w) t h more =
          let e = conclude_onward q w i (pass program R k (i + 1)) in
          rw e (more q w reason place (sym (ap (λ (x : Walk). x.finding) e) ∙ h))

  pub followed_refused : (reason : Reason) (place : ℕ) → (followed program R).finding ≡ Refused reason place → RefusedAt program R (followed program R) reason place
  unfolding followed conclude
  followed_refused reason place e = go (send (length program / 8) 0 (Some start_facts) nobody (2 * (length program / 8))) (λ w. start_goes w) e
    where
      start_goes : 0 < length program / 8 → Goes (send (length program / 8) 0 (Some start_facts) nobody (2 * (length program / 8)))
      start_goes l = send_goes (length program / 8) 0 (Some start_facts) nobody (2 * (length program / 8)) l

      go : (r : Progress) → (0 < length program / 8 → Goes r) → (conclude r 0 (pass program R (length program / 8) 0)).finding ≡ Refused reason place
          → RefusedAt program R (conclude r 0 (pass program R (length program / 8) 0)) reason place
      go (halted s q w) g h = absurd (g (some_instruction program R form))
      go (onward q w) g h = pass_refused (length program / 8) 0 (omega arith) q w reason place h

  -- and so for no reason of form
  pub followed_for_values : (reason : Reason) (place : ℕ) → (followed program R).finding ≡ Refused reason place → on_values reason ≡ true
  followed_for_values reason place e =
      let r = followed_refused reason place e in
      subst (Lawful (length program / 8) place) r.refused
      (effect_lawful (length program / 8) place R r.facts (instruction program place) r.inside (form.orderly.fine place r.inside))
