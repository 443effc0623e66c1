-- The steps of the pass over scratch memory: what is sent, how two steps join to one, and a turn of the loop.
use Prim.Native.Nat.{ℕ, suc, ◌+◌, ◌-◌, ◌*◌, ◌/◌, ◌≤◌, ◌<◌, min}
use mathlib.Core.Path.{◌≡◌, refl, sym, ap, ◌∙◌, subst, fun_ext}
use mathlib.Core.Bool.{Bool, true, false, cond, ◌||◌}
use mathlib.Core.List.{List}
use lib.ListN.{length, get_or}
use lib.Dec.{ltb, leb, eqb}
use native.Mathlib.Omega.{arith}
use native.Mathlib.Nat.{sub-zero}
use borrow.Author.Tests.{ne_eqb, lt-ltb, le-ltb, leb-true, leb-false}
use Rattle.std.specs.Prelude.{Option, Some, None, Ok, Err}
use Rattle.word.specs.declared.Comparison.{Comparison}
use Rattle.machine.specs.declared.instruction.Width.{Width}
use Rattle.machine.specs.declared.instruction.Operand.{Operand}
use Rattle.machine.specs.declared.instruction.Instruction.{Instruction}
use Rattle.machine.specs.declared.instruction.Instruction.TheVariants.{Alu, Neg, Jump, Always, Exit, Load, Store, NoInstruction}
use Rattle.number.specs.Refined.{Refined}
use Rattle.analysis.specs.declared.Reason.{Reason}
use Rattle.analysis.specs.declared.Reason.TheVariants.{JumpsOut, ReadsUnset, LeaksAddress}
use Rattle.analysis.specs.declared.Finding.TheVariants.{Accepted, Refused}
use Rattle.analysis.specs.declared.Value.{Value}
use Rattle.analysis.specs.declared.Value.TheVariants.{Unusable, Plain, Address}
use Rattle.analysis.specs.declared.Effect.{Effect}
use Rattle.analysis.specs.declared.Effect.TheVariants.{Refuse, Goto}
use Rattle.analysis.specs.Values.{Facts, value_of, operand_of, meeting}
use Rattle.analysis.specs.Effects.{is_never, is_mixed, reading_both, told, fork, effect}
use Rattle.analysis.specs.Form.{instruction}
use Rattle.analysis.specs.Judged.{Waiting, having, arrive, Flow, refuses, flows, apply, along, Progress, halted, onward, send, and_then, distribute, visit, Walk, conclude, pass, followed}
use Rattle.verifier.specs.declared.Halt.{Halt}
use Rattle.waiting.specs.declared.value.Held.{Held}
use Rattle.waiting.specs.State.{held_in, facts_at, Changed, PutBack}
use Rattle.waiting.specs.Store.{waiting_in, Arrived, Begun}
use Rattle.verifier.specs.Sending.{Step, shortened, Says, Sent, Followed}
use Rattle.verifier.specs.Outcome.{unusable}
use Rattle.waiting.specs.declared.value.Kind.TheVariants as kind
use Rattle.number.specs.declared.Number.{Number}
use Rattle.waiting.proofs.States.{a_state_is_kept, a_changed_register_is_stored}
use Rattle.waiting.proofs.Blocks.{a_marked_block_waits, nothing_waits_in_an_unmarked_block, what_was_is_back, what_is_done_is_done}
use Rattle.waiting.specs.Layout.{value_words, block_words, state_of}
use Rattle.verifier.proofs.ByKind.{they_may_not_be_compared}

-- ---- a state is sent

pub what_is_sent_arrives : (n i : ℕ) (m m' : List ℕ) (j : ℕ) (a : Facts) (work : ℕ) → j < n → Arrived n i m m' j a
    → Sent (send n j (Some a) (waiting_in n m) work) n i (Ok (work + 11)) m m'
unfolding send
what_is_sent_arrives n i m m' j a work l h =
    record { made = record { size = h.size; says = rw (lt-ltb j n l) (refl, h.waits) }; kept = h.kept }

pub what_leads_out_is_refused : (n i : ℕ) (m : List ℕ) (j : ℕ) (a : Facts) (work : ℕ) → n ≤ j
    → Sent (send n j (Some a) (waiting_in n m) work) n i (Err (record { reason = JumpsOut; work = work })) m m
unfolding send
what_leads_out_is_refused n i m j a work l =
    record { made = record { size = refl; says = rw (le-ltb j n l) (refl, refl) }; kept = λ k h. refl }

pub going_on_changes_nothing : (p : Waiting) (n i : ℕ) (m : List ℕ) (work : ℕ) → waiting_in n m ≡ p → Sent (onward p work) n i (Ok work) m m
going_on_changes_nothing p n i m work e = record { made = record { size = refl; says = (refl, e) }; kept = λ k h. refl }

pub halting_changes_nothing : (n i : ℕ) (m : List ℕ) (reason : Reason) (work : ℕ) → Sent (halted reason (waiting_in n m) work) n i (Err (record { reason = reason; work = work })) m m
halting_changes_nothing n i m reason work = record { made = record { size = refl; says = (refl, refl) }; kept = λ k h. refl }

-- ---- a state is sent with a register changed

arrivals_are_apart : (p q : Waiting) (j : ℕ) (a : Facts) (x : ℕ) → p x ≡ q x → arrive p j a x ≡ arrive q j a x
unfolding arrive
arrivals_are_apart p q j a x e = ap (λ o. cond (eqb x j) (Some (meeting o a)) o) e

nothing_arrives_before : (p : Waiting) (i j : ℕ) (a : Facts) → i < j → arrive p j a i ≡ p i
unfolding arrive
nothing_arrives_before p i j a l = rw (ne_eqb i j (λ e. omega arith))

-- f is what is changed further
pub a_changed_state_is_sent : (f : Facts → Facts) (n i j d work : ℕ) (m sent done m' : List ℕ) (h : Held) (old : List ℕ) (v : Value) (r : Step) → i < j
    → held_in h ≡ v → (d < 11 → (k : ℕ) → k < value_words → get_or old k 0 ≡ get_or m (state_of i + value_words * d + k) 0)
    → Changed m sent (state_of i) d h → PutBack done m' (state_of i) d old
    → Sent (send n j (Some (f (facts_at sent (state_of i)))) (waiting_in n sent) work) n i r sent done
    → Sent (send n j (Some (f (having (facts_at m (state_of i)) d v))) (waiting_in n m) work) n i r m m'
unfolding send
a_changed_state_is_sent f n i j d work m sent done m' h old v r l is was put back s =
    subst (λ x. Sent (send n j (Some (f x)) (waiting_in n m) work) n i r m m')
    ((a_changed_register_is_stored m sent (state_of i) d h put).held ∙ ap (having (facts_at m (state_of i)) d) is)
    (record {
      made = record { size = back.size ∙ s.made.size ∙ put.size; says = go (ltb j n) s.made.says };
      kept = what_was_is_back n i d m sent done m' h old was put back s.kept;
    })
  where
    a : Facts
    a = f (facts_at sent (state_of i))

    becomes : (g : Waiting → Waiting) → ((p q : Waiting) (x : ℕ) → p x ≡ q x → g p x ≡ g q x) → ((p : Waiting) → g p i ≡ p i)
        → waiting_in n done ≡ g (waiting_in n sent) → waiting_in n m' ≡ g (waiting_in n m)
    becomes = what_is_done_is_done n i d m sent done m' h old was put back s.kept

    go : (b : Bool) → Says (cond b (onward (arrive (waiting_in n sent) j a) (work + 11)) (halted JumpsOut (waiting_in n sent) work)) n r done
        → Says (cond b (onward (arrive (waiting_in n m) j a) (work + 11)) (halted JumpsOut (waiting_in n m) work)) n r m'
    go true e = (e.0, becomes (λ p. arrive p j a) (λ p q x. arrivals_are_apart p q j a x) (λ p. nothing_arrives_before p i j a l) e.1)
    go false e = (e.0, becomes (λ p. p) (λ p q x y. y) (λ p. refl) e.1)

pub a_state_changed_twice_is_sent : (n i j d e work : ℕ) (m sent done m' : List ℕ) (h : Held) (old : List ℕ) (v w : Value) (r : Step) → i < j
    → held_in h ≡ v → (d < 11 → (k : ℕ) → k < value_words → get_or old k 0 ≡ get_or m (state_of i + value_words * d + k) 0)
    → Changed m sent (state_of i) d h → PutBack done m' (state_of i) d old
    → Sent (send n j (Some (having (facts_at sent (state_of i)) e w)) (waiting_in n sent) work) n i r sent done
    → Sent (send n j (Some (having (having (facts_at m (state_of i)) d v) e w)) (waiting_in n m) work) n i r m m'
a_state_changed_twice_is_sent n i j d e work m sent done m' h old v w r =
    a_changed_state_is_sent (λ a. having a e w) n i j d work m sent done m' h old v r

-- ---- two steps

pub a_step_that_halts : (x : Progress) (more : Waiting → ℕ → Progress) (n i : ℕ) (m m' : List ℕ) (reason : Reason) (work : ℕ)
    → Sent x n i (Err (record { reason = reason; work = work })) m m' → Sent (and_then x more) n i (Err (record { reason = reason; work = work })) m m'
unfolding and_then
a_step_that_halts (halted reason' p work') more n i m m' reason work h = h
a_step_that_halts (onward p work') more n i m m' reason work h = absurd (let e = h.made.says.0 in let z : ◌≡◌ {A = ℕ} 0 1 = cc in omega arith)

pub a_step_that_goes_on : (x : Progress) (more : Waiting → ℕ → Progress) (n i : ℕ) (r : Step) (m m' m'' : List ℕ) (work : ℕ)
    → Sent x n i (Ok work) m m' → Sent (more (waiting_in n m') work) n i r m' m'' → Sent (and_then x more) n i r m m''
unfolding and_then
a_step_that_goes_on (halted reason p work') more n i r m m' m'' work h g =
    absurd (let e = h.made.says.0 in let z : ◌≡◌ {A = ℕ} 0 1 = cc in omega arith)
a_step_that_goes_on (onward p work') more n i r m m' m'' work h g = record {
  made = record { size = g.made.size ∙ h.made.size; says = both };
  kept = λ k l. g.kept k l ∙ h.kept k l;
}
  where
    worked : work ≡ work'
    worked = let e = h.made.says.0 in cc

    both : Says (more p work') n r m''
    both = subst (λ w. Says (more p w) n r m'') worked (subst (λ q. Says (more q work) n r m'') h.made.says.1 g.made.says)

pub a_step_with_no_second : (x : Progress) (n i : ℕ) (r : Step) (m m' : List ℕ) → Sent x n i r m m' → Sent (and_then x (send n 0 None)) n i r m m'
unfolding and_then send
a_step_with_no_second (halted reason p work) n i r m m' h = h
a_step_with_no_second (onward p work) n i r m m' h = h

pub a_step_keeps_its_state : (x : Progress) (n i : ℕ) (r : Step) (m m' : List ℕ) → Sent x n i r m m'
    → facts_at m' (state_of i) ≡ facts_at m (state_of i)
a_step_keeps_its_state x n i r m m' h = a_state_is_kept m m' (state_of i) (λ k l. h.kept k (omega arith))

-- ---- how much a step does

unfoldable pub spent : Progress → ℕ
spent (halted reason p work) = work
spent (onward p work) = work

pub a_send_spends : (n j : ℕ) (o : Option Facts) (p : Waiting) (work : ℕ) → spent (send n j o p work) ≤ work + 11
unfolding send spent
a_send_spends n j None p work = omega arith
a_send_spends n j (Some a) p work = pick (ltb j n)
  where
    pick : (b : Bool) → spent (cond b (onward (arrive p j a) (work + 11)) (halted JumpsOut p work)) ≤ work + 11
    pick true = omega arith
    pick false = omega arith

two_steps_spend : (x : Progress) (n j : ℕ) (o : Option Facts) (bound : ℕ) → spent x ≤ bound → spent (and_then x (send n j o)) ≤ bound + 11
unfolding and_then spent
two_steps_spend (halted reason p work) n j o bound h = omega arith
two_steps_spend (onward p work) n j o bound h = let q = a_send_spends n j o p work in omega arith

pub a_flow_spends : (n i : ℕ) (p : Waiting) (work : ℕ) (f : Flow) → spent (distribute n i p work f) ≤ work + 22
unfolding distribute spent
a_flow_spends n i p work (refuses reason) = omega arith
a_flow_spends n i p work (flows next there target) =
    let q = two_steps_spend (send n (i + 1) next p work) n target there (work + 11) (a_send_spends n (i + 1) next p work) in omega arith

pub a_visit_spends : (program : List ℕ) (R i : ℕ) (p : Waiting) (work : ℕ) (o : Option Facts) → spent (visit program R i p work o) ≤ work + 23
unfolding visit spent
a_visit_spends program R i p work None = omega arith
a_visit_spends program R i p work (Some a) =
    let q = a_flow_spends (length program / 8) i p (work + 1) (apply a (effect R i a (instruction program i))) in omega arith

pub more_is_what_was_spent : (x : Progress) (n i : ℕ) (m m' : List ℕ) (work : ℕ) → Sent x n i (Ok work) m m' → work ≡ spent x
unfolding spent
more_is_what_was_spent (halted reason p work') n i m m' work h = absurd (let e = h.made.says.0 in let z : ◌≡◌ {A = ℕ} 0 1 = cc in omega arith)
more_is_what_was_spent (onward p work') n i m m' work h = let e = h.made.says.0 in cc

pub a_send_leaves : (n j : ℕ) (o : Option Facts) (p : Waiting) (work i : ℕ) (r : Step) (m m' : List ℕ) (done : ℕ)
    → Sent (send n j o p work) n i r m m' → r ≡ Ok done → done ≤ work + 11
a_send_leaves n j o p work i r m m' done h more =
    let e = more_is_what_was_spent (send n j o p work) n i m m' done (rw more at h) in let q = a_send_spends n j o p work in omega arith

-- ---- a jump that leads out may be shortened

farther_out : (n i off : ℕ) (o : Option Facts) (p : Waiting) (work : ℕ) → send n (i + 1 + min off n) o p work ≡ send n (i + 1 + off) o p work
unfolding send
farther_out n i off None p work = refl
farther_out n i off (Some a) p work = pick (leb off n) refl
  where
    pick : (b : Bool) → leb off n ≡ b
        → cond (ltb (i + 1 + min off n) n) (onward (arrive p (i + 1 + min off n) a) (work + 11)) (halted JumpsOut p work)
        ≡ cond (ltb (i + 1 + off) n) (onward (arrive p (i + 1 + off) a) (work + 11)) (halted JumpsOut p work)
    pick true e = let q : off ≤ n = leb-true _ _ e in rw (let z : min off n ≡ off = omega arith in z)
    pick false e = let q : n < off = leb-false _ _ e in rw (le-ltb (i + 1 + min off n) n (omega arith), le-ltb (i + 1 + off) n (omega arith))

-- what is distributed for two effects is the same
abbrev Alike : ℕ → ℕ → Waiting → ℕ → Facts → Effect → Effect → Type 0
Alike n i p work a e f = distribute n i p work (apply a e) ≡ distribute n i p work (apply a f)

alike_where_read : (n i : ℕ) (p : Waiting) (work : ℕ) (a : Facts) (x y : Value) (e f : Effect) → Alike n i p work a e f
    → Alike n i p work a (reading_both x y e) (reading_both x y f)
unfolding reading_both
alike_where_read n i p work a x y e f h = unset (is_never x || is_never y)
  where
    mixed : (b : Bool) → Alike n i p work a (cond b (Refuse LeaksAddress) e) (cond b (Refuse LeaksAddress) f)
    mixed true = refl
    mixed false = h

    unset : (b : Bool) → Alike n i p work a (cond b (Refuse ReadsUnset) (cond (is_mixed x || is_mixed y) (Refuse LeaksAddress) e))
        (cond b (Refuse ReadsUnset) (cond (is_mixed x || is_mixed y) (Refuse LeaksAddress) f))
    unset true = refl
    unset false = mixed (is_mixed x || is_mixed y)

alike_forks : (n i : ℕ) (p : Waiting) (work : ℕ) (a : Facts) (v : Width) (c : Comparison) (d : ℕ) (s : Operand) (off : ℕ) (x y : Value)
    → Alike n i p work a (fork v c d s (i + 1 + min off n) x y) (fork v c d s (i + 1 + off) x y)
unfolding fork apply distribute
alike_forks n i p work a v c d s off (Plain x) (Plain y) =
    ap (and_then (send n (i + 1) (along a d s _) p work)) (fun_ext (λ q. fun_ext (λ w. farther_out n i off (along a d s _) q w)))
alike_forks n i p work a v c d s off (Plain x) (Address q y) = refl
alike_forks n i p work a v c d s off (Plain u) (Unusable h) = refl
alike_forks n i p work a v c d s off (Address q u) y = refl
alike_forks n i p work a v c d s off (Unusable g) y = refl

pub a_shortened_jump_leads_out_as_well : (n i R : ℕ) (p : Waiting) (work : ℕ) (a : Facts) (ins : Instruction)
    → distribute n i p work (apply a (effect R i a (shortened n ins))) ≡ distribute n i p work (apply a (effect R i a ins))
unfolding effect shortened apply distribute
a_shortened_jump_leads_out_as_well n i R p work a (Jump v c d s off) =
    alike_where_read n i p work a (value_of a d) (operand_of a s) _ _ (alike_forks n i p work a v c d s off (value_of a d) (operand_of a s))
a_shortened_jump_leads_out_as_well n i R p work a (Always off) =
    ap (and_then (send n (i + 1) None p work)) (fun_ext (λ q. fun_ext (λ w. farther_out n i off (Some a) q w)))
a_shortened_jump_leads_out_as_well n i R p work a (Alu w op d s) = refl
a_shortened_jump_leads_out_as_well n i R p work a (Neg w d) = refl
a_shortened_jump_leads_out_as_well n i R p work a Exit = refl
a_shortened_jump_leads_out_as_well n i R p work a (Load z d s off) = refl
a_shortened_jump_leads_out_as_well n i R p work a (Store z d off s) = refl
a_shortened_jump_leads_out_as_well n i R p work a NoInstruction = refl

-- ---- a jump

module _ (n i work : ℕ) (m : List ℕ) (w : Width) (c : Comparison) (d : ℕ) (s : Operand) (target : ℕ) (u v : Held)
    (is_u : held_in u ≡ value_of (facts_at m (state_of i)) d) (is_v : held_in v ≡ operand_of (facts_at m (state_of i)) s) where
  abbrev Jumps : Progress
  Jumps =
      distribute n i (waiting_in n m) work (apply (facts_at m (state_of i))
      (reading_both (value_of (facts_at m (state_of i)) d) (operand_of (facts_at m (state_of i)) s)
      (fork w c d s target (value_of (facts_at m (state_of i)) d) (operand_of (facts_at m (state_of i)) s))))

  pub a_jump_on_no_numbers : (u.kind ≡ kind.Plain → v.kind ≡ kind.Plain → ⊥)
      → Sent Jumps n i (Err (record { reason = unusable u.kind v.kind; work = work })) m m
  unfolding apply distribute
  a_jump_on_no_numbers apart = rw (sym is_u, sym is_v, they_may_not_be_compared u v w c d s target apart) (halting_changes_nothing n i m _ work)

  module _ (a b : Number) (numbers : (held_in u ≡ Plain a) × (held_in v ≡ Plain b)) (x : Refined) (is_x : x ≡ told w c false a b) where
    both_ways : (y : Refined) → y ≡ told w c true a b
        → Jumps ≡ and_then (send n (i + 1) (along (facts_at m (state_of i)) d s x) (waiting_in n m) work) (send n target (along (facts_at m (state_of i)) d s y))
    unfolding apply distribute reading_both is_never is_mixed fork
    both_ways y is_y = rw (sym is_u, sym is_v, numbers.0, numbers.1, sym is_x, sym is_y)

    pub a_jump_that_halts : (m' : List ℕ) (reason : Reason) (done : ℕ)
        → Sent (send n (i + 1) (along (facts_at m (state_of i)) d s x) (waiting_in n m) work) n i (Err (record { reason = reason; work = done })) m m' → Sent Jumps n i (Err (record { reason = reason; work = done })) m m'
    a_jump_that_halts m' reason done h =
        subst (λ p. Sent p n i (Err (record { reason = reason; work = done })) m m') (sym (both_ways _ refl)) (a_step_that_halts _ _ n i m m' reason done h)

    pub a_jump_that_goes_on : (y : Refined) (m' m'' : List ℕ) (done : ℕ) (r : Step) → y ≡ told w c true a b
        → Sent (send n (i + 1) (along (facts_at m (state_of i)) d s x) (waiting_in n m) work) n i (Ok done) m m'
        → Sent (send n target (along (facts_at m' (state_of i)) d s y) (waiting_in n m') done) n i r m' m'' → Sent Jumps n i r m m''
    a_jump_that_goes_on y m' m'' done r is_y h g =
        subst (λ p. Sent p n i r m m'') (sym (both_ways y is_y))
        (a_step_that_goes_on _ _ n i r m m' m'' done h
        (subst (λ a. Sent (send n target (along a d s y) (waiting_in n m') done) n i r m' m'') (a_step_keeps_its_state _ n i _ m m' h) g))

-- ---- one index

pub an_index_that_no_path_reaches : (program : List ℕ) (R n i : ℕ) (m : List ℕ) (work : ℕ) → (get_or m (block_words * i) 0 ≡ 1 → ⊥)
    → Sent (visit program R i (waiting_in n m) work (waiting_in n m i)) n i (Ok work) m m
unfolding visit
an_index_that_no_path_reaches program R n i m work ne =
    rw (nothing_waits_in_an_unmarked_block n m i ne) (going_on_changes_nothing (waiting_in n m) n i m work refl)

pub an_index_that_a_path_reaches : (program : List ℕ) (R n i : ℕ) (m m' : List ℕ) (work : ℕ) (r : Step) (ins : Instruction) (e : Effect)
    → i < n → n ≡ length program / 8 → get_or m (block_words * i) 0 ≡ 1 → ins ≡ instruction program i
    → e ≡ effect R i (facts_at m (state_of i)) (shortened n ins)
    → Sent (distribute n i (waiting_in n m) (work + 1) (apply (facts_at m (state_of i)) e)) n i r m m'
    → Sent (visit program R i (waiting_in n m) work (waiting_in n m i)) n i r m m'
unfolding visit
an_index_that_a_path_reaches program R n i m m' work r ins e l size mark is does h =
    subst (λ o. Sent (visit program R i (waiting_in n m) work o) n i r m m') (sym (a_marked_block_waits n m i l mark))
    (subst (λ k. Sent (distribute k i (waiting_in n m) (work + 1) (apply a (effect R i a (instruction program i)))) n i r m m') size
    (subst (λ x. Sent (distribute n i (waiting_in n m) (work + 1) (apply a (effect R i a x))) n i r m m') is
    (subst (λ x. Sent x n i r m m') (a_shortened_jump_leads_out_as_well n i R (waiting_in n m) (work + 1) a ins)
    (subst (λ x. Sent (distribute n i (waiting_in n m) (work + 1) (apply a x)) n i r m m') does h))))
  where
    a : Facts
    a = facts_at m (state_of i)

module _ (program : List ℕ) (R n i : ℕ) (m m' : List ℕ) (work : ℕ) (r : Step) (ins : Instruction) (off target : ℕ) (l : i < n) (size : n ≡ length program / 8)
    (mark : get_or m (block_words * i) 0 ≡ 1) (is : ins ≡ instruction program i) (leads : target ≡ i + 1 + min off n) where
  abbrev a : Facts
  a = facts_at m (state_of i)

  pub a_jump_is_reached : (w : Width) (c : Comparison) (d : ℕ) (s : Operand) → ins ≡ Jump w c d s off
      → Sent (distribute n i (waiting_in n m) (work + 1) (apply a (reading_both (value_of a d) (operand_of a s) (fork w c d s target (value_of a d) (operand_of a s))))) n i r m m'
      → Sent (visit program R i (waiting_in n m) work (waiting_in n m i)) n i r m m'
  unfolding effect shortened
  a_jump_is_reached w c d s jumps h = an_index_that_a_path_reaches program R n i m m' work r ins _ l size mark is does h
    where
      does : reading_both (value_of a d) (operand_of a s) (fork w c d s target (value_of a d) (operand_of a s)) ≡ effect R i a (shortened n ins)
      does = rw (jumps, leads)

  pub a_way_is_reached : ins ≡ Always off → Sent (send n target (Some a) (waiting_in n m) (work + 1)) n i r m m'
      → Sent (visit program R i (waiting_in n m) work (waiting_in n m i)) n i r m m'
  unfolding effect shortened distribute apply and_then send
  a_way_is_reached goes h = an_index_that_a_path_reaches program R n i m m' work r ins (Goto target) l size mark is (rw (goes, leads)) h

-- ---- a turn of the loop

one_less : (n i : ℕ) → i < n → n - i ≡ suc (n - (i + 1))
one_less n i l = omega arith

concludes_halted : (x : Progress) (n i : ℕ) (m m' : List ℕ) (reason : Reason) (work : ℕ) (more : Waiting → ℕ → Walk)
    → Sent x n i (Err (record { reason = reason; work = work })) m m' → conclude x i more ≡ record { finding = Refused reason i; work = work; waiting = waiting_in n m' }
unfolding conclude
concludes_halted (halted reason' p work') n i m m' reason work more h = told h.made.says.0 h.made.says.1
  where
    told : ◌≡◌ {A = Step} (Err (record { reason = reason; work = work })) (Err (record { reason = reason'; work = work' })) → waiting_in n m' ≡ p
        → ◌≡◌ {A = Walk} (record { finding = Refused reason' i; work = work'; waiting = p }) (record { finding = Refused reason i; work = work; waiting = waiting_in n m' })
    told e w =
        let q : ◌≡◌ {A = Halt} (record { reason = reason; work = work }) (record { reason = reason'; work = work' }) = cc in
        rw (ap (λ (h : Halt). h.reason) q, ap (λ (h : Halt). h.work) q, w)
concludes_halted (onward p work') n i m m' reason work more h = absurd (let e = h.made.says.0 in let z : ◌≡◌ {A = ℕ} 0 1 = cc in omega arith)

concludes_onward : (x : Progress) (n i : ℕ) (m m' : List ℕ) (work : ℕ) (more : Waiting → ℕ → Walk)
    → Sent x n i (Ok work) m m' → conclude x i more ≡ more (waiting_in n m') work
unfolding conclude
concludes_onward (halted reason p work') n i m m' work more h = absurd (let e = h.made.says.0 in let z : ◌≡◌ {A = ℕ} 0 1 = cc in omega arith)
concludes_onward (onward p work') n i m m' work more h = told h.made.says.0 h.made.says.1
  where
    told : ◌≡◌ {A = Step} (Ok work) (Ok work') → waiting_in n m' ≡ p → more p work' ≡ more (waiting_in n m') work
    told e w = rw (let z : work ≡ work' = cc in z, w)

-- the pass from index i on ends as the whole does
pub record Passing (program : List ℕ) (R n i : ℕ) (m : List ℕ) (work : ℕ) : Type 0 where
  pub within : i ≤ n
  pub little : work ≤ 2 * n + 11 + 23 * i
  pub left : pass program R (n - i) i (waiting_in n m) work ≡ followed program R

pub the_pass_begins : (program : List ℕ) (R n : ℕ) (m m' : List ℕ) → 0 < n → n ≡ length program / 8 → Begun n m m'
    → Passing program R n 0 m' (2 * n + 11)
unfolding followed send conclude
the_pass_begins program R n m m' l size h = record {
  within = omega arith;
  little = omega arith;
  left = rw (sym size, lt-ltb 0 n l, sub-zero n) (ap (λ p. pass program R n 0 p (2 * n + 11)) h.waits);
}

pub the_pass_goes_on : (program : List ℕ) (R n i : ℕ) (m m' : List ℕ) (work work' : ℕ) → i < n → Passing program R n i m work
    → Sent (visit program R i (waiting_in n m) work (waiting_in n m i)) n i (Ok work') m m' → Passing program R n (i + 1) m' work'
unfolding pass
the_pass_goes_on program R n i m m' work work' l h g = record {
  within = omega arith;
  little = let p = h.little in
      let q = more_is_what_was_spent (visit program R i (waiting_in n m) work (waiting_in n m i)) n i m m' work' g in
      let z = a_visit_spends program R i (waiting_in n m) work (waiting_in n m i) in omega arith;
  left = sym (concludes_onward (visit program R i (waiting_in n m) work (waiting_in n m i)) n i m m' work' (pass program R (n - (i + 1)) (i + 1)) g)
      ∙ ap (λ k. pass program R k i (waiting_in n m) work) (sym (one_less n i l)) ∙ h.left;
}

pub the_pass_halts : (program : List ℕ) (R n i : ℕ) (m₀ m m' : List ℕ) (work work' : ℕ) (reason : Reason) → i < n → length m ≡ length m₀
    → Passing program R n i m work
    → Sent (visit program R i (waiting_in n m) work (waiting_in n m i)) n i (Err (record { reason = reason; work = work' })) m m'
    → Followed program R n (record { finding = Refused reason i; work = work' }) m₀ m'
unfolding pass
the_pass_halts program R n i m₀ m m' work work' reason l size h g = record {
  size = g.made.size ∙ size;
  found = ap (λ w. record { finding = w.finding; work = w.work }) whole;
  waits = ap (λ w. w.waiting) whole;
}
  where
    whole : ◌≡◌ {A = Walk} (record { finding = Refused reason i; work = work'; waiting = waiting_in n m' }) (followed program R)
    whole = sym (concludes_halted (visit program R i (waiting_in n m) work (waiting_in n m i)) n i m m' reason work' (pass program R (n - (i + 1)) (i + 1)) g)
        ∙ ap (λ k. pass program R k i (waiting_in n m) work) (sym (one_less n i l)) ∙ h.left

pub the_pass_ends : (program : List ℕ) (R n i : ℕ) (m₀ m : List ℕ) (work : ℕ) → n ≤ i → length m ≡ length m₀ → Passing program R n i m work
    → Followed program R n (record { finding = Accepted; work = work }) m₀ m
unfolding pass
the_pass_ends program R n i m₀ m work l size h = record {
  size = size;
  found = ap (λ w. record { finding = w.finding; work = w.work }) whole;
  waits = ap (λ w. w.waiting) whole;
}
  where
    whole : ◌≡◌ {A = Walk} (record { finding = Accepted; work = work; waiting = waiting_in n m }) (followed program R)
    whole = subst (λ k. pass program R k i (waiting_in n m) work ≡ followed program R) (let z : n - i ≡ 0 = omega arith in z) h.left
