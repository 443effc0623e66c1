-- What each answer of the analysis says, in both directions: (1, 0), (2, 0), the reasons of form with their place, dead code, and the rest.
use mathlib.Core.Path.{◌≡◌, refl, sym, ap, ◌∙◌, subst}
use mathlib.Core.Bool.{Bool, true, false, cond, true≢false}
use mathlib.Core.Logic.{◌↔◌, ◌⊎◌, inl, inr}
use mathlib.Core.List.{List}
use Prim.Native.Nat.{ℕ, ◌+◌, ◌/◌, ◌≤◌, ◌<◌}
use native.Mathlib.Omega.{arith}
use lib.ListN.{length}
use Rattle.machine.specs.declared.instruction.Instruction.{Instruction}
use Rattle.machine.specs.Machine.{bad_program, bad_record}
use Rattle.analysis.specs.declared.Reason.{Reason}
use Rattle.analysis.specs.declared.Reason.TheVariants.{BadLength, LongRecord, NoCode, WritesR10, JumpsBack, JumpsOut, ReadsUnset, Outside, LeaksAddress, DeadCode}
use Rattle.analysis.specs.declared.Finding.{Finding}
use Rattle.analysis.specs.declared.Finding.TheVariants.{Accepted, Refused}
use Rattle.analysis.specs.declared.Judged.{Judged}
use Rattle.analysis.specs.Form.{instruction, Orderly, Reached, HasForm, Fails, FirstFailure, Dead}
use Rattle.analysis.specs.Paths.{connected}
use Rattle.analysis.specs.Judged.{reason_number, on_values, formed, followed, on_paths, on_form, judged}
use Rattle.analysis.proofs.Annotated.{refused_not_accepted}
use Rattle.analysis.proofs.FormLaws.{refused_injective, passes_orderly, orderly_passes, form_refusal, failure_is_refused}
use Rattle.analysis.proofs.Paths.{connected_iff, unconnected_dead, dead_unconnected, passes_has_form}
use Rattle.analysis.proofs.Refusing.{RefusedAt, followed_refused, followed_for_values}

-- how an answer comes about
pub data Cause (program : List ℕ) (R : ℕ) : Judged → Type 0 where
  length_bad : bad_program (length program) ≡ true → Cause program R (record { finding = Refused BadLength 0; work = 0 })
  record_long : bad_program (length program) ≡ false → bad_record R ≡ true → Cause program R (record { finding = Refused LongRecord 0; work = 0 })
  form_fails : bad_program (length program) ≡ false → bad_record R ≡ false → (reason : Reason) (place work : ℕ) → formed program (length program / 8) 0 ≡ Refused reason place
      → Cause program R (record { finding = Refused reason place; work = work })
  code_dead : Orderly program R → (place work : ℕ) → Dead program place → Cause program R (record { finding = Refused DeadCode place; work = work })
  values_tell : HasForm program R → Cause program R (record { finding = (followed program R).finding; work = (followed program R).work })

pub judged_cause : (program : List ℕ) (R : ℕ) → Cause program R (judged program R)
unfolding judged on_form on_paths
judged_cause program R = go (bad_program (length program)) refl (bad_record R) refl (formed program (length program / 8) 0) refl
  where
    paths : bad_program (length program) ≡ false → bad_record R ≡ false → formed program (length program / 8) 0 ≡ Accepted
        → (g : Finding) → connected program ≡ g → Cause program R (on_paths program R g)
    paths p q f Accepted c = values_tell (passes_has_form program R p q f c)
    paths p q f (Refused reason place) c =
        let d = unconnected_dead program reason place c in
        subst (λ r. Cause program R (record { finding = Refused r place; work = length program / 8 + (place + 1) })) (sym d.0)
        (code_dead (passes_orderly program R p q f) place _ d.1)

    go : (a : Bool) → bad_program (length program) ≡ a → (b : Bool) → bad_record R ≡ b → (f : Finding) → formed program (length program / 8) 0 ≡ f
        → Cause program R (cond a (record { finding = Refused BadLength 0; work = 0 }) (cond b (record { finding = Refused LongRecord 0; work = 0 }) (on_form program R f)))
    go true p b q f e = length_bad p
    go false p true q f e = record_long p q
    go false p false q Accepted e = paths p q e (connected program) refl
    go false p false q (Refused reason place) e = form_fails p q reason place (place + 1) e

-- ---- the numbers of the reasons

form_reason : (reason : Reason) (n i : ℕ) (ins : Instruction) → Fails reason n i ins → (3 ≤ reason_number reason) × (reason_number reason ≤ 6)
unfolding reason_number
form_reason BadLength n i ins h = absurd h
form_reason LongRecord n i ins h = absurd h
form_reason NoCode n i ins h = (omega arith, omega arith)
form_reason WritesR10 n i ins h = (omega arith, omega arith)
form_reason JumpsBack n i ins h = (omega arith, omega arith)
form_reason JumpsOut n i ins h = (omega arith, omega arith)
form_reason ReadsUnset n i ins h = absurd h
form_reason Outside n i ins h = absurd h
form_reason LeaksAddress n i ins h = absurd h
form_reason DeadCode n i ins h = absurd h

values_reason : (reason : Reason) → on_values reason ≡ true → 7 ≤ reason_number reason
unfolding reason_number on_values
values_reason BadLength v = absurd (true≢false (sym v))
values_reason LongRecord v = absurd (true≢false (sym v))
values_reason NoCode v = absurd (true≢false (sym v))
values_reason WritesR10 v = absurd (true≢false (sym v))
values_reason JumpsBack v = absurd (true≢false (sym v))
values_reason JumpsOut v = absurd (true≢false (sym v))
values_reason ReadsUnset v = omega arith
values_reason Outside v = omega arith
values_reason LeaksAddress v = omega arith
values_reason DeadCode v = omega arith

-- no reason's number is 0, which says that a program is accepted
pub reason_not_0 : (reason : Reason) → 0 < reason_number reason
unfolding reason_number
reason_not_0 BadLength = omega arith
reason_not_0 LongRecord = omega arith
reason_not_0 NoCode = omega arith
reason_not_0 WritesR10 = omega arith
reason_not_0 JumpsBack = omega arith
reason_not_0 JumpsOut = omega arith
reason_not_0 ReadsUnset = omega arith
reason_not_0 Outside = omega arith
reason_not_0 LeaksAddress = omega arith
reason_not_0 DeadCode = omega arith

abbrev pub number : Finding → ℕ
number Accepted = 0
number (Refused reason place) = reason_number reason

-- where the values are followed the number is 0 or at least 7
values_number : (program : List ℕ) (R : ℕ) → HasForm program R → (f : Finding) → (followed program R).finding ≡ f → 0 < number f → 7 ≤ number f
values_number program R form Accepted e l = absurd (omega arith)
values_number program R form (Refused reason place) e l = values_reason reason (followed_for_values program R form reason place e)

module _ (program : List ℕ) (R : ℕ) where
  abbrev Numbered : Judged → Type 0
  Numbered j =
      (number j.finding ≡ 1 → bad_program (length program) ≡ true) × (number j.finding ≡ 2 → (bad_program (length program) ≡ false) × (bad_record R ≡ true))
      × (bad_program (length program) ≡ true → j.finding ≡ Refused BadLength 0)
      × ((bad_program (length program) ≡ false) × (bad_record R ≡ true) → j.finding ≡ Refused LongRecord 0)

  refused_form : (reason : Reason) (place : ℕ) → formed program (length program / 8) 0 ≡ Refused reason place → (3 ≤ reason_number reason) × (reason_number reason ≤ 6)
  refused_form reason place e =
      form_reason reason (length program / 8) place (instruction program place) (form_refusal program reason place e).fails_first.fails

  numbered : (j : Judged) → Cause program R j → Numbered j
  unfolding reason_number
  numbered j (length_bad p) = (λ e. p, λ e. absurd (omega arith), λ e. refl, λ h. absurd (true≢false (sym p ∙ h.0)))
  numbered j (record_long p q) = (λ e. absurd (omega arith), λ e. (p, q), λ e. absurd (true≢false (sym e ∙ p)), λ h. refl)
  numbered j (form_fails p q reason place work e) =
      let b = refused_form reason place e in
      (λ i. absurd (omega (arith, b.0, i)), λ i. absurd (omega (arith, b.0, i)), λ i. absurd (true≢false (sym i ∙ p)), λ h. absurd (true≢false (sym h.1 ∙ q)))
  numbered j (code_dead o place work d) = (
    λ e. absurd (omega arith),
    λ e. absurd (omega arith),
    λ e. absurd (true≢false (sym e ∙ o.good_length)),
    λ h. absurd (true≢false (sym h.1 ∙ o.good_record)),
  )
  numbered j (values_tell form) =
      let v = values_number program R form (followed program R).finding refl in (
        λ e. absurd (omega (arith, v (omega (arith, e)), e)),
        λ e. absurd (omega (arith, v (omega (arith, e)), e)),
        λ e. absurd (true≢false (sym e ∙ form.orderly.good_length)),
        λ h. absurd (true≢false (sym h.1 ∙ form.orderly.good_record)),
      )

  pub answers_1 : ((judged program R).finding ≡ Refused BadLength 0) ↔ (bad_program (length program) ≡ true)
  unfolding reason_number
  answers_1 = let n = numbered (judged program R) (judged_cause program R) in (λ e. n.0 (ap number e), n.2)

  pub answers_2 : ((judged program R).finding ≡ Refused LongRecord 0) ↔ ((bad_program (length program) ≡ false) × (bad_record R ≡ true))
  unfolding reason_number
  answers_2 = let n = numbered (judged program R) (judged_cause program R) in (λ e. n.1 (ap number e), n.3)

  abbrev Placed : Judged → Type 0
  Placed j = (reason : Reason) (place : ℕ) → j.finding ≡ Refused reason place → 3 ≤ reason_number reason
      → ((reason_number reason ≤ 6) × FirstFailure program reason place) ⊎ (((reason ≡ DeadCode) × Orderly program R × Dead program place)
      ⊎ ((on_values reason ≡ true) × HasForm program R × RefusedAt program R (followed program R) reason place))

  placed : (j : Judged) → Cause program R j → Placed j
  unfolding reason_number
  placed j (length_bad p) reason place e l = absurd (omega (arith, ap number e, l))
  placed j (record_long p q) reason place e l = absurd (omega (arith, ap number e, l))
  placed j (form_fails p q s x work f) reason place e l = inl ((refused_form reason place (f ∙ e)).1, form_refusal program reason place (f ∙ e))
  placed j (code_dead o x work d) reason place e l =
      let s = refused_injective DeadCode reason x place e in inr (inl (sym s.0, o, subst (Dead program) s.1 d))
  placed j (values_tell form) reason place e l = inr (inr (followed_for_values program R form reason place e, form, followed_refused program R form reason place e))

  -- a refusal with reason 3 to 6 names the first index that fails, with the lowest reason there; one with 12 the first that no path leads to;
  -- any other is for the values
  pub answers_place : Placed (judged program R)
  answers_place = placed (judged program R) (judged_cause program R)

  -- the reasons 3 to 6 are answered for the lowest index that fails a test, with the lowest reason there, and for nothing else
  abbrev Tested : Judged → Type 0
  Tested j = (reason : Reason) (place : ℕ) → reason_number reason ≤ 6 → 3 ≤ reason_number reason → j.finding ≡ Refused reason place
      → (bad_program (length program) ≡ false) × (bad_record R ≡ false) × FirstFailure program reason place

  tested : (j : Judged) → Cause program R j → Tested j
  unfolding reason_number
  tested j (length_bad p) reason place h l e = absurd (omega (arith, ap number e, l))
  tested j (record_long p q) reason place h l e = absurd (omega (arith, ap number e, l))
  tested j (form_fails p q s x work f) reason place h l e = (p, q, form_refusal program reason place (f ∙ e))
  tested j (code_dead o x work d) reason place h l e = absurd (omega (arith, ap number e, h))
  tested j (values_tell form) reason place h l e = absurd (omega (arith, values_reason reason (followed_for_values program R form reason place e), h))

  pub answers_tests : (reason : Reason) (place : ℕ) → reason_number reason ≤ 6 → 3 ≤ reason_number reason
      → ((judged program R).finding ≡ Refused reason place) ↔ ((bad_program (length program) ≡ false) × (bad_record R ≡ false) × FirstFailure program reason place)
  unfolding judged on_form
  answers_tests reason place h l =
      (tested (judged program R) (judged_cause program R) reason place h l, λ f. rw (f.0, f.1, failure_is_refused program reason place f.2) refl)

  -- reason 12 is answered for dead code, at its lowest index, and for nothing else
  pub answers_12 : (place : ℕ) → ((judged program R).finding ≡ Refused DeadCode place) ↔ (Orderly program R × Dead program place)
  unfolding judged on_form on_paths reason_number on_values
  answers_12 place = (
    λ e. go (answers_place DeadCode place e (omega arith)),
    λ h. rw (h.0.good_length, h.0.good_record, orderly_passes program R h.0, dead_unconnected program place h.1) refl,
  )
    where
      go : ((12 ≤ 6) × FirstFailure program DeadCode place) ⊎ (((DeadCode ≡ DeadCode) × Orderly program R × Dead program place)
          ⊎ ((false ≡ true) × HasForm program R × RefusedAt program R (followed program R) DeadCode place)) → Orderly program R × Dead program place
      go (inl h) = absurd (omega (arith, h.0))
      go (inr (inl h)) = (h.1, h.2)
      go (inr (inr h)) = absurd (true≢false (sym h.0))

  -- so an orderly program is refused for dead code if and only if it has an instruction that no path leads to
  pub dead_iff_12 : Orderly program R
      → (((place : ℕ) × ((judged program R).finding ≡ Refused DeadCode place)) ↔ ((i : ℕ) × (i < length program / 8) × (Reached program i → ⊥)))
  dead_iff_12 o = (λ a. let d = ((answers_12 a.0).0 a.1).1 in (a.0, d.inside, d.unreached), go (connected program) refl)
    where
      go : (f : Finding) → connected program ≡ f → (i : ℕ) × (i < length program / 8) × (Reached program i → ⊥)
          → (place : ℕ) × ((judged program R).finding ≡ Refused DeadCode place)
      go Accepted e u = absurd (u.2 ((connected_iff program).0 e u.0 u.1))
      go (Refused reason place) e u = (place, (answers_12 place).1 (o, (unconnected_dead program reason place e).1))

  -- a yes, or a no for the values
  abbrev pub NotForForm : Finding → Type 0
  NotForForm Accepted = Unit {0}
  NotForForm (Refused reason place) = on_values reason ≡ true

  -- a program has the form if and only if it is not refused for its form
  abbrev FormTold : Judged → Type 0
  FormTold j = HasForm program R ↔ NotForForm j.finding

  followed_not_for_form : HasForm program R → (f : Finding) → (followed program R).finding ≡ f → NotForForm f
  followed_not_for_form form Accepted e = tt
  followed_not_for_form form (Refused reason place) e = followed_for_values program R form reason place e

  form_told : (j : Judged) → Cause program R j → FormTold j
  unfolding on_values
  form_told j (length_bad p) = (λ h. absurd (true≢false (sym p ∙ h.orderly.good_length)), λ v. absurd (true≢false (sym v)))
  form_told j (record_long p q) = (λ h. absurd (true≢false (sym q ∙ h.orderly.good_record)), λ v. absurd (true≢false (sym v)))
  form_told j (form_fails p q reason place work e) = (
    λ h. absurd (refused_not_accepted reason place (sym e ∙ orderly_passes program R h.orderly)),
    λ v. absurd (omega (arith, values_reason reason v, (refused_form reason place e).1)),
  )
  form_told j (code_dead o place work d) = (λ h. absurd (d.unreached (h.all_reached place d.inside)), λ v. absurd (true≢false (sym v)))
  form_told j (values_tell form) = (λ h. followed_not_for_form form (followed program R).finding refl, λ v. form)

  pub answers_form : FormTold (judged program R)
  answers_form = form_told (judged program R) (judged_cause program R)
