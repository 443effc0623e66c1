-- The analysis as a whole: what waits at an index is what is known there by `Promise`; a program of good form is accepted if and only if no
-- index refuses what is known there, and refused at the lowest that does.
use mathlib.Core.Path.{◌≡◌, refl, sym, ap, ap₂, ◌∙◌, subst}
use mathlib.Core.Bool.{Bool, true, false, cond}
use mathlib.Core.Logic.{◌↔◌, ⊎_elim}
use mathlib.Core.List.{List}
use Prim.Native.Nat.{ℕ, zero, suc, ◌+◌, ◌-◌, ◌*◌, ◌/◌, ◌≤◌, ◌<◌}
use native.Mathlib.Nat.{eq-or-lt_of_le}
use native.Mathlib.Numerals.{add-one}
use native.Mathlib.Omega.{arith}
use lib.ListN.{length}
use lib.Dec.{eqb, leb, ltb}
use borrow.Author.Tests.{ne_eqb, leb-true, leb-false}
use Rattle.std.specs.Prelude.{Option, Some, None}
use Rattle.analysis.specs.declared.Reason.{Reason}
use Rattle.analysis.specs.declared.Reason.TheVariants.{JumpsOut}
use Rattle.analysis.specs.declared.Finding.{Finding}
use Rattle.analysis.specs.declared.Finding.TheVariants.{Accepted, Refused}
use Rattle.analysis.specs.declared.Effect.{Effect}
use Rattle.analysis.specs.declared.Effect.TheVariants.{Refuse, Put, Keep, Fork, Goto, Stop}
use Rattle.analysis.specs.Values.{Facts, start_facts, meeting}
use Rattle.analysis.specs.Effects.{effect}
use Rattle.analysis.specs.Form.{instruction, HasForm}
use Rattle.analysis.specs.Judged.{on_values, Flow, refuses, flows, apply, Waiting, nobody, arrive, Progress, halted, onward, send, and_then, distribute, visit, Walk, conclude, pass, followed, on_paths, on_form, judged}
use Rattle.analysis.specs.Promise.{together, flowing, flow, known_from, known, Allows, LowestRefusal, Whole}
use Rattle.analysis.proofs.Literal.{conclude_halted, conclude_onward}
use Rattle.analysis.proofs.Annotated.{Unless}
use Rattle.analysis.proofs.FormLaws.{orderly_passes}
use Rattle.analysis.proofs.Paths.{connected_iff}
use Rattle.analysis.proofs.Refusing.{Lawful, effect_lawful, Goes, send_goes, Tells, visit_tells, some_instruction}
use Rattle.analysis.proofs.Judgement.{NotForForm, answers_form}

-- ---- one flow

-- what comes is joined to what is known
pub arriving : (p : Waiting) (j : ℕ) (a : Facts) (x : ℕ) → arrive p j a x ≡ together (p x) (cond (eqb x j) (Some a) None)
unfolding arrive meeting together
arriving p j a x = go (eqb x j) (p x)
  where
    go : (b : Bool) (w : Option Facts) → cond b (Some (meeting w a)) w ≡ together w (cond b (Some a) None)
    go true None = refl
    go true (Some c) = refl
    go false w = refl

together_none : (b : Bool) (w : Option Facts) → w ≡ together w (cond b None None)
unfolding together
together_none true w = refl
together_none false w = refl

send_brings : (n j : ℕ) (o : Option Facts) (p : Waiting) (work : ℕ) → Unless (send n j o p work) (λ q. (x : ℕ) → q x ≡ together (p x) (cond (eqb x j) o None))
unfolding send
send_brings n j None p work = λ x. together_none (eqb x j) (p x)
send_brings n j (Some a) p work = go (ltb j n)
  where
    go : (b : Bool) → Unless (cond b (onward (arrive p j a) (work + 11)) (halted JumpsOut p work)) (λ q. (x : ℕ) → q x ≡ together (p x) (cond (eqb x j) (Some a) None))
    go true = arriving p j a
    go false = tt

distribute_brings : (n i : ℕ) (p : Waiting) (work : ℕ) (f : Flow) → Unless (distribute n i p work f) (λ q. (x : ℕ) → q x ≡ flowing i x f (p x))
unfolding distribute and_then flowing
distribute_brings n i p work (refuses reason) = tt
distribute_brings n i p work (flows next there target) = go (send n (i + 1) next p work) (send_brings n (i + 1) next p work)
  where
    two : (q : Waiting) → ((x : ℕ) → q x ≡ together (p x) (cond (eqb x (i + 1)) next None)) → (r : Progress)
        → Unless r (λ u. (x : ℕ) → u x ≡ together (q x) (cond (eqb x target) there None))
        → Unless r (λ u. (x : ℕ) → u x ≡ together (together (p x) (cond (eqb x (i + 1)) next None)) (cond (eqb x target) there None))
    two q g (halted reason v k) h = tt
    two q g (onward u k) h = λ x. h x ∙ ap (λ w. together w (cond (eqb x target) there None)) (g x)

    go : (r : Progress) → Unless r (λ q. (x : ℕ) → q x ≡ together (p x) (cond (eqb x (i + 1)) next None))
        → Unless (and_then r (send n target there)) (λ u. (x : ℕ) → u x ≡ together (together (p x) (cond (eqb x (i + 1)) next None)) (cond (eqb x target) there None))
    go (halted reason u k) h = tt
    go (onward q k) h = two q h (send n target there q k) (send_brings n target there q k)

-- ---- the pass

module _ (program : List ℕ) (R : ℕ) where
  -- what is sent on, and that the instruction allows it
  abbrev Brings : ℕ → Waiting → Option Facts → Progress → Type 0
  Brings i p w r =
      Unless r (λ q. ((x : ℕ) → q x ≡ flow program R i w x (p x)) × ((a : Facts) (reason : Reason) → w ≡ Some a → effect R i a (instruction program i) ≡ Refuse reason → ⊥))

  visit_brings : (i : ℕ) (p : Waiting) (work : ℕ) (w : Option Facts) → Brings i p w (visit program R i p work w)
  unfolding visit flow apply distribute
  visit_brings i p work None = (λ x. refl, λ a reason e h. let z : ◌≡◌ {A = ℕ} 0 1 = cc in omega arith)
  visit_brings i p work (Some a) = go (effect R i a (instruction program i)) refl
    where
      Allowed : Type 0
      Allowed = (b : Facts) (reason : Reason) → Some a ≡ Some b → effect R i b (instruction program i) ≡ Refuse reason → ⊥

      both : (f : Flow) (r : Progress) → Unless r (λ q. (x : ℕ) → q x ≡ flowing i x f (p x)) → Allowed
          → Unless r (λ q. ((x : ℕ) → q x ≡ flowing i x f (p x)) × Allowed)
      both f (halted reason u k) g h = tt
      both f (onward q k) g h = (g, h)

      sent : (e : Effect) → Allowed → Unless (distribute (length program / 8) i p (work + 1) (apply a e)) (λ q. ((x : ℕ) → q x ≡ flowing i x (apply a e) (p x)) × Allowed)
      sent e h = both (apply a e) (distribute (length program / 8) i p (work + 1) (apply a e)) (distribute_brings (length program / 8) i p (work + 1) (apply a e)) h

      go : (e : Effect) → effect R i a (instruction program i) ≡ e
          → Unless (distribute (length program / 8) i p (work + 1) (apply a e)) (λ q. ((x : ℕ) → q x ≡ flowing i x (apply a e) (p x)) × Allowed)
      go (Refuse reason) h = tt
      go (Put d v) h = sent (Put d v) (λ b r e g. let z : ◌≡◌ {A = ℕ} 0 1 = cc in omega arith)
      go Keep h = sent Keep (λ b r e g. let z : ◌≡◌ {A = ℕ} 0 1 = cc in omega arith)
      go (Fork d s o t target) h = sent (Fork d s o t target) (λ b r e g. let z : ◌≡◌ {A = ℕ} 0 1 = cc in omega arith)
      go (Goto target) h = sent (Goto target) (λ b r e g. let z : ◌≡◌ {A = ℕ} 0 1 = cc in omega arith)
      go Stop h = sent Stop (λ b r e g. let z : ◌≡◌ {A = ℕ} 0 1 = cc in omega arith)

  -- how a pass ends: nothing refuses, or the lowest refusal; and what waits then is what is known from the indices looked at
  abbrev pub Ended : Walk → Finding → Type 0
  Ended walk Accepted = ((j : ℕ) → j < length program / 8 → Allows program R j) × ((x : ℕ) → walk.waiting x ≡ known_from program R (length program / 8) x)
  Ended walk (Refused reason place) = LowestRefusal program R reason place × ((x : ℕ) → walk.waiting x ≡ known_from program R place x)

  one_more : (i : ℕ) (p : Waiting) → ((x : ℕ) → p x ≡ known_from program R i x) → ((j : ℕ) → j < i → Allows program R j)
      → ((a : Facts) (reason : Reason) → p i ≡ Some a → effect R i a (instruction program i) ≡ Refuse reason → ⊥) → (j : ℕ) → j < i + 1 → Allows program R j
  unfolding known
  one_more i p same lower here j l =
      ⊎_elim (λ (e : j ≡ i). subst (Allows program R) (sym e) (λ reason r. here r.facts reason (same i ∙ r.knows) r.refuses_it))
      (λ (m : j < i). lower j m) (eq-or-lt_of_le (let q : j ≤ i = omega arith in q))

  module _ (form : HasForm program R) where
    pass_ends : (k i : ℕ) → i + k ≡ length program / 8 → (p : Waiting) (work : ℕ) → ((x : ℕ) → p x ≡ known_from program R i x) → ((j : ℕ) → j < i → Allows program R j)
        → Ended (pass program R k i p work) (pass program R k i p work).finding
    unfolding pass known known_from
    pass_ends zero i m p work same lower =
        let e : i ≡ length program / 8 = omega arith in
        (λ j l. lower j (omega arith), λ x. same x ∙ ap (λ n. known_from program R n x) e)
    pass_ends (suc k) i m p work same lower =
        go (visit program R i p work (p i)) (visit_tells program R form i (omega arith) p work (p i)) (visit_brings i p work (p i))
        (λ q w. pass_ends k (i + 1) (omega arith) q w)
      where
        go : (r : Progress) → Tells program R form i p (p i) r → Brings i p (p i) r
            → ((q : Waiting) (w : ℕ) → ((x : ℕ) → q x ≡ known_from program R (i + 1) x) → ((j : ℕ) → j < i + 1 → Allows program R j)
            → Ended (pass program R k (i + 1) q w) (pass program R k (i + 1) q w).finding)
            → Ended (conclude r i (pass program R k (i + 1))) (conclude r i (pass program R k (i + 1))).finding
        go (halted reason q w) t b more = rw (conclude_halted reason q w i (pass program R k (i + 1))) (
          record {
            inside = omega arith;
            refusal = record { facts = t.0; knows = sym (same i) ∙ t.1; refuses_it = t.2 };
            lower_allow = lower;
          },
          λ x. ap (λ f. f x) t.3 ∙ same x,
        )
        go (onward q w) t b more =
            rw (conclude_onward q w i (pass program R k (i + 1)))
            (more q w (λ x. rw add-one (b.0 x ∙ ap₂ (λ u v. flow program R i u x v) (same i) (same x))) (one_more i p same lower b.1))

    pub followed_ends : Ended (followed program R) (followed program R).finding
    unfolding followed conclude known_from together nobody
    followed_ends =
        go (send (length program / 8) 0 (Some start_facts) nobody (2 * (length program / 8))) (send_goes (length program / 8) 0 (Some start_facts) nobody (2 * (length program / 8)) (some_instruction program R form))
        (send_brings (length program / 8) 0 (Some start_facts) nobody (2 * (length program / 8)))
      where
        first : (o : Option Facts) → together None o ≡ o
        first None = refl
        first (Some a) = refl

        go : (r : Progress) → Goes r → Unless r (λ q. (x : ℕ) → q x ≡ together None (cond (eqb x 0) (Some start_facts) None))
            → Ended (conclude r 0 (pass program R (length program / 8) 0)) (conclude r 0 (pass program R (length program / 8) 0)).finding
        go (halted s q w) g h = absurd g
        go (onward q w) g h = pass_ends (length program / 8) 0 (omega arith) q w (λ x. h x ∙ first (cond (eqb x 0) (Some start_facts) None)) (λ j l. absurd (omega arith))

    -- of a program of good form the answer is that of the pass
    pub judged_followed : (judged program R).finding ≡ (followed program R).finding
    unfolding judged on_form on_paths
    judged_followed = rw (form.orderly.good_length, form.orderly.good_record, orderly_passes program R form.orderly, (connected_iff program).1 form.all_reached) refl

    pub judged_ends : Ended (followed program R) (judged program R).finding
    judged_ends = subst (Ended (followed program R)) (sym judged_followed) followed_ends

  -- there is one lowest refusal
  lowest_once : (r s : Reason) (i j : ℕ) → LowestRefusal program R r i → LowestRefusal program R s j → Refused r i ≡ Refused s j
  lowest_once r s i j a b = go (leb i j) refl
    where
      alike : (k : ℕ) → i ≡ k → LowestRefusal program R s k → Refused r i ≡ Refused s k
      alike k e c =
          let p = a.refusal.knows in
          let q = c.refusal.knows in
          let u = a.refusal.refuses_it in
          let v = c.refusal.refuses_it in
          cc

      same : i ≤ j → Refused r i ≡ Refused s j
      same l = ⊎_elim (λ (e : i ≡ j). alike j e b) (λ (m : i < j). absurd (b.lower_allow i m r a.refusal)) (eq-or-lt_of_le l)

      go : (t : Bool) → leb i j ≡ t → Refused r i ≡ Refused s j
      go true e = same (leb-true i j e)
      go false e = absurd (a.lower_allow j (leb-false i j e) s b.refusal)

  -- a program of good form is accepted if and only if no index refuses what is known there
  pub accepted_if_and_only_if_allowed : HasForm program R → ((judged program R).finding ≡ Accepted) ↔ ((j : ℕ) → j < length program / 8 → Allows program R j)
  accepted_if_and_only_if_allowed form = (λ e. (subst (Ended (followed program R)) e (judged_ends form)).0, go (judged program R).finding (judged_ends form))
    where
      go : (f : Finding) → Ended (followed program R) f → ((j : ℕ) → j < length program / 8 → Allows program R j) → f ≡ Accepted
      go Accepted h all = refl
      go (Refused reason place) h all = absurd (all place h.0.inside reason h.0.refusal)

  -- and refused at the lowest index that does, with the reason of its instruction, if and only if there is one
  pub refused_if_and_only_if_lowest : HasForm program R → (reason : Reason) (place : ℕ)
      → ((judged program R).finding ≡ Refused reason place) ↔ LowestRefusal program R reason place
  refused_if_and_only_if_lowest form reason place = (λ e. (subst (Ended (followed program R)) e (judged_ends form)).0, go (judged program R).finding (judged_ends form))
    where
      go : (f : Finding) → Ended (followed program R) f → LowestRefusal program R reason place → f ≡ Refused reason place
      go Accepted h l = absurd (h.0 place l.inside reason l.refusal)
      go (Refused s j) h l = lowest_once s reason j place h.0 l

  -- for any program: a yes
  pub accepted_exactly : ((judged program R).finding ≡ Accepted) ↔ (HasForm program R × ((j : ℕ) → j < length program / 8 → Allows program R j))
  accepted_exactly = (
    λ e. let form = (answers_form program R).1 (subst (NotForForm program R) (sym e) tt) in (form, (accepted_if_and_only_if_allowed form).0 e),
    λ h. (accepted_if_and_only_if_allowed h.0).1 h.1,
  )

  -- and a no for the values
  pub refused_for_values_exactly : (reason : Reason) (place : ℕ) → on_values reason ≡ true
      → ((judged program R).finding ≡ Refused reason place) ↔ (HasForm program R × LowestRefusal program R reason place)
  refused_for_values_exactly reason place v = (
    λ e. let form = (answers_form program R).1 (subst (NotForForm program R) (sym e) v) in (form, (refused_if_and_only_if_lowest form reason place).0 e),
    λ h. (refused_if_and_only_if_lowest h.0 reason place).1 h.1,
  )

  pub judged_whole : Whole program R (judged program R).finding
  judged_whole = record { yes = accepted_exactly; no = refused_for_values_exactly }

  -- ---- the pass as an equation

  -- what is known at an index comes from the indices below it: nothing flows back, or stays
  forward : (i j : ℕ) (a : Facts) (e : Effect) (w : Option Facts) → Lawful (length program / 8) i e → j ≤ i → flowing i j (apply a e) w ≡ w
  unfolding apply flowing together
  forward i j a (Refuse reason) w h l = refl
  forward i j a (Put d v) w h l = rw (ne_eqb j (i + 1) (λ q. omega arith)) (sym (together_none (eqb j 0) w))
  forward i j a Keep w h l = rw (ne_eqb j (i + 1) (λ q. omega arith)) (sym (together_none (eqb j 0) w))
  forward i j a (Fork d s o t target) w h l = rw (ne_eqb j (i + 1) (λ q. omega arith), ne_eqb j target (λ q. omega (arith, h.2, q))) refl
  forward i j a (Goto target) w h l = rw (ne_eqb j (i + 1) (λ q. omega arith), ne_eqb j target (λ q. omega (arith, h.1, q))) refl
  forward i j a Stop w h l = rw (ne_eqb j (i + 1) (λ q. omega arith)) (sym (together_none (eqb j 0) w))

  module _ (form : HasForm program R) where
    flow_forward : (i j : ℕ) → i < length program / 8 → j ≤ i → (o : Option Facts) (w : Option Facts) → flow program R i o j w ≡ w
    unfolding flow
    flow_forward i j l m None w = refl
    flow_forward i j l m (Some a) w =
        forward i j a (effect R i a (instruction program i)) w (effect_lawful (length program / 8) i R a (instruction program i) l (form.orderly.fine i l)) m

    pub known_settles : (k j : ℕ) → j + k ≤ length program / 8 → known_from program R (j + k) j ≡ known program R j
    unfolding known known_from
    known_settles zero j l = ap (λ n. known_from program R n j) (let e : j + 0 ≡ j = omega arith in e)
    known_settles (suc k) j l =
        let e : j + suc k ≡ suc (j + k) = omega arith in
        rw e (flow_forward (j + k) j (omega arith) (omega arith) (known_from program R (j + k) (j + k)) (known_from program R (j + k) j) ∙ known_settles k j (omega arith))

    known_later : (n j : ℕ) → j ≤ n → n ≤ length program / 8 → known_from program R n j ≡ known program R j
    known_later n j l m =
        let e : j + (n - j) ≡ n = omega arith in
        ap (λ x. known_from program R x j) (sym e) ∙ known_settles (n - j) j (omega arith)

    -- what waits at each index of an accepted program is what is known there
    pub waiting_is_known : (judged program R).finding ≡ Accepted → (j : ℕ) → j < length program / 8 → (followed program R).waiting j ≡ known program R j
    waiting_is_known e j l =
        (subst (Ended (followed program R)) e (judged_ends form)).1 j ∙ known_later (length program / 8) j (omega arith) (omega arith)

    -- and so up to the index where a program is refused
    pub waiting_is_known_up_to : (reason : Reason) (place : ℕ) → (judged program R).finding ≡ Refused reason place → (j : ℕ) → j ≤ place
        → (followed program R).waiting j ≡ known program R j
    waiting_is_known_up_to reason place e j l =
        let h = subst (Ended (followed program R)) e (judged_ends form) in
        h.1 j ∙ known_later place j l (omega (arith, h.0.inside))
