-- What the code and the words of an answer of the verifier mean, by what the verifier promises of that answer.
use mathlib.Core.Path.{◌≡◌, refl, sym, ◌∙◌, subst}
use mathlib.Core.Bool.{Bool, true, false, cond, ◌&&◌}
use mathlib.Core.Logic.{◌↔◌}
use mathlib.Core.List.{List}
use Prim.Native.Nat.{ℕ, ◌/◌, ◌≤◌, ◌<◌}
use lib.ListN.{length, drop, get_or, get_or-append}
use lib.Dec.{ltb}
use native.Mathlib.Omega.{arith}
use borrow.Author.Tests.{le-ltb, ltb-true, ltb-false}
use Rattle.analysis.specs.declared.Reason.{Reason}
use Rattle.analysis.specs.declared.Finding.{Finding}
use Rattle.analysis.specs.declared.Finding.TheVariants.{Accepted, Refused}
use Rattle.analysis.specs.declared.Judged.{Judged}
use Rattle.analysis.specs.Form.{Orderly, HasForm}
use Rattle.analysis.specs.Judged.{reason_number, on_values, judged}
use Rattle.analysis.specs.Promise.{Allows, LowestRefusal, Whole, Promise}
use Rattle.waiting.specs.Layout.{words}
use Rattle.std.specs.Prelude.{Ok, Err}
use Rattle.analysis.specs.Answer.{Answer}
use Rattle.verifier.specs.Answered.{Promises, is_orderly, answered}
use Rattle.verifier.proofs.Memory.{too_small_iff}
use Rattle.probewarden.specs.Encoding.{finding_said, answer_said, headed}
use Rattle.probewarden.specs.Exported.{Says, Taken, Tells, Means}
use Rattle.probewarden.proofs.Injective.{a_reason_has_its_own_number}

abbrev count : List ℕ → ℕ
count program = length program / 8

-- ---- what is said of a finding and of an answer

said_zero_is_yes : (n : ℕ) (f : Finding) (work : ℕ) → (finding_said n f work).code ≡ 0 → f ≡ Accepted
unfolding finding_said
said_zero_is_yes n Accepted work e = refl
said_zero_is_yes n (Refused reason place) work e = absurd (omega arith)

said_one_is_no : (n : ℕ) (f : Finding) (work : ℕ) (reason : Reason) (place : ℕ) → (finding_said n f work).code ≡ 1
    → get_or (finding_said n f work).words 0 0 ≡ reason_number reason → get_or (finding_said n f work).words 1 0 ≡ place
    → f ≡ Refused reason place
unfolding finding_said
said_one_is_no n Accepted work reason place e p q = absurd (omega arith)
said_one_is_no n (Refused r x) work reason place e p q = rw (a_reason_has_its_own_number r reason p, q) refl

a_finding_is_not_two : (n : ℕ) (f : Finding) (work : ℕ) → (finding_said n f work).code ≡ 2 → ⊥
unfolding finding_said
a_finding_is_not_two n Accepted work e = omega arith
a_finding_is_not_two n (Refused reason place) work e = omega arith

finding_words : (n : ℕ) (f : Finding) (work : ℕ)
    → (length (finding_said n f work).words ≡ 4) × (get_or (finding_said n f work).words 2 0 ≡ work)
unfolding finding_said
finding_words n Accepted work = (refl, refl)
finding_words n (Refused reason place) work = (refl, refl)

four_words : (n : ℕ) (a : Answer) → length (answer_said n a).words ≡ 4
unfolding answer_said
four_words n (Ok j) = (finding_words n j.finding j.work).0
four_words n (Err small) = refl

a_finding_says_its_bound : (n : ℕ) (f : Finding) (work : ℕ) → (finding_said n f work).code ≡ 0 → get_or (finding_said n f work).words 3 0 ≡ n
unfolding finding_said
a_finding_says_its_bound n Accepted work e = refl
a_finding_says_its_bound n (Refused reason place) work e = absurd (omega arith)

a_yes_says_its_bound : (n : ℕ) (a : Answer) → (answer_said n a).code ≡ 0 → get_or (answer_said n a).words 3 0 ≡ n
unfolding answer_said
a_yes_says_its_bound n (Ok j) e = a_finding_says_its_bound n j.finding j.work e
a_yes_says_its_bound n (Err small) e = absurd (omega arith)

-- ---- the answer by the memory that is lent

abbrev IsJudgement : Answer → Type 0
IsJudgement (Ok j) = Unit {0}
IsJudgement (Err small) = ⊥

judged_where_enough : (program : List ℕ) (R size : ℕ) → words (count program) ≤ size → answered program R size ≡ Ok (judged program R)
unfolding answered
judged_where_enough program R size h = rw (le-ltb size (words (count program)) h) (go (is_orderly program R))
  where
    go : (b : Bool) → cond {A = Answer} (b && false) (Err (record { words = words (count program) })) (Ok (judged program R)) ≡ Ok (judged program R)
    go true = refl
    go false = refl

module _ (program : List ℕ) (R size : ℕ) (a : Answer) (is : a ≡ answered program R size) (promises : Promises program R a) where
  whole_where_enough : words (count program) ≤ size → Whole program R (judged program R).finding
  whole_where_enough h = (subst (Promises program R) (is ∙ judged_where_enough program R size h) promises).whole

  judged_only_where_enough : (j : Judged) → a ≡ Ok j → Orderly program R → words (count program) ≤ size
  judged_only_where_enough j e o = go (ltb size (words (count program))) refl
    where
      go : (b : Bool) → ltb size (words (count program)) ≡ b → words (count program) ≤ size
      go true p = absurd (subst IsJudgement (sym e ∙ is ∙ (too_small_iff program R size _).1 (o, refl, ltb-true _ _ p)) tt)
      go false p = ltb-false _ _ p

  promised_said : (f : Finding) → Tells f (answer_said (count program) a).code (answer_said (count program) a).words
      → Promise program R (record { finding = f; work = get_or (answer_said (count program) a).words 2 0 })
  unfolding answer_said
  promised_said = go a refl
    where
      same : (j : Judged) (f : Finding) (w : ℕ) → j.finding ≡ f → w ≡ j.work → Promise program R j → Promise program R (record { finding = f; work = w })
      same j f w p q h = subst (Promise program R) (λ i. record { finding = p i; work = sym q i }) h

      go : (b : Answer) → a ≡ b → (f : Finding) → Tells f (answer_said (count program) b).code (answer_said (count program) b).words
          → Promise program R (record { finding = f; work = get_or (answer_said (count program) b).words 2 0 })
      go (Ok j) e Accepted h =
          same j Accepted _ (said_zero_is_yes (count program) j.finding j.work h) (finding_words (count program) j.finding j.work).1
          (subst (Promises program R) e promises)
      go (Ok j) e (Refused reason place) h =
          same j (Refused reason place) _ (said_one_is_no (count program) j.finding j.work reason place h.0 h.1 h.2)
          (finding_words (count program) j.finding j.work).1 (subst (Promises program R) e promises)
      go (Err small) e Accepted h = absurd (omega arith)
      go (Err small) e (Refused reason place) h = absurd (omega (arith, h.0))

  yes_said : ((answer_said (count program) a).code ≡ 0)
      ↔ ((words (count program) ≤ size) × HasForm program R × ((j : ℕ) → j < count program → Allows program R j))
  unfolding answer_said finding_said
  yes_said = (λ h. go a refl h ((promised_said Accepted h).whole.yes.0 refl), back)
    where
      go : (b : Answer) → a ≡ b → (answer_said (count program) b).code ≡ 0
          → HasForm program R × ((j : ℕ) → j < count program → Allows program R j)
          → (words (count program) ≤ size) × HasForm program R × ((j : ℕ) → j < count program → Allows program R j)
      go (Ok j) e h (form, allow) = (judged_only_where_enough j e form.orderly, form, allow)
      go (Err small) e h r = absurd (omega arith)

      back : (words (count program) ≤ size) × HasForm program R × ((j : ℕ) → j < count program → Allows program R j)
          → (answer_said (count program) a).code ≡ 0
      back h = rw (is, judged_where_enough program R size h.0, (whole_where_enough h.0).yes.1 (h.1, h.2)) refl

  no_said : (reason : Reason) (place : ℕ) → on_values reason ≡ true
      → Tells (Refused reason place) (answer_said (count program) a).code (answer_said (count program) a).words
      ↔ ((words (count program) ≤ size) × HasForm program R × LowestRefusal program R reason place)
  unfolding answer_said finding_said
  no_said reason place v = (λ h. go a refl h (((promised_said (Refused reason place) h).whole.no reason place v).0 refl), back)
    where
      go : (b : Answer) → a ≡ b → Tells (Refused reason place) (answer_said (count program) b).code (answer_said (count program) b).words
          → HasForm program R × LowestRefusal program R reason place
          → (words (count program) ≤ size) × HasForm program R × LowestRefusal program R reason place
      go (Ok j) e h (form, lowest) = (judged_only_where_enough j e form.orderly, form, lowest)
      go (Err small) e h r = absurd (omega (arith, h.0))

      back : (words (count program) ≤ size) × HasForm program R × LowestRefusal program R reason place
          → Tells (Refused reason place) (answer_said (count program) a).code (answer_said (count program) a).words
      back h =
          rw (is, judged_where_enough program R size h.0, ((whole_where_enough h.0).no reason place v).1 (h.1, h.2)) (refl, refl, refl)

  too_small_said : ((answer_said (count program) a).code ≡ 2) ↔ (Orderly program R × (size < words (count program)))
  unfolding answer_said
  too_small_said = (go a refl, λ h. rw (is, (too_small_iff program R size _).1 (h.0, refl, h.1)) refl)
    where
      go : (b : Answer) → a ≡ b → (answer_said (count program) b).code ≡ 2 → Orderly program R × (size < words (count program))
      go (Ok j) e h = absurd (a_finding_is_not_two (count program) j.finding j.work h)
      go (Err small) e h = let t = (too_small_iff program R size small.words).0 (sym is ∙ e) in (t.0, t.2)

  pub an_answer_means : (before after : List ℕ) (rules code : ℕ) → Taken rules before → Says (answer_said (count program) a) before after code
      → Means program R rules size before after code
  unfolding headed
  an_answer_means before after rules code taken says = record {
    promised = told_promised;
    yes = (
      λ e. let t = yes_said.0 (sym says.code_said ∙ e) in (taken, t.0, t.1, t.2),
      λ h. says.code_said ∙ yes_said.1 (h.1, h.2, h.3),
    );
    no = λ reason place v. (
      λ e. let t = (no_said reason place v).0 (sym says.code_said ∙ e.0, sym first ∙ e.1, sym second ∙ e.2) in (taken, t.0, t.1, t.2),
      λ h. let t = (no_said reason place v).1 (h.1, h.2, h.3) in (says.code_said ∙ t.0, first ∙ t.1, second ∙ t.2),
    );
    too_small = (
      λ e. let t = too_small_said.0 (sym says.code_said ∙ e) in (taken, t.0, t.1),
      λ h. says.code_said ∙ too_small_said.1 (h.1, h.2),
    );
    yes_has_bound = λ e. word 3 (omega arith) ∙ a_yes_says_its_bound (count program) a (sym says.code_said ∙ e);
  }
    where
      word : (k : ℕ) → k < 4 → get_or after k 0 ≡ get_or (answer_said (count program) a).words k 0
      word k l =
          let said : List ℕ = (answer_said (count program) a).words in
          rw says.words_said (get_or-append said (drop (length said) before) 0 k (rw (four_words (count program) a) l))

      first : get_or after 0 0 ≡ get_or (answer_said (count program) a).words 0 0
      first = word 0 (omega arith)

      second : get_or after 1 0 ≡ get_or (answer_said (count program) a).words 1 0
      second = word 1 (omega arith)

      told_promised : (f : Finding) → Tells f code after → Promise program R (record { finding = f; work = get_or after 2 0 })
      told_promised Accepted h = rw (word 2 (omega arith)) (promised_said Accepted (sym says.code_said ∙ h))
      told_promised (Refused reason place) h =
          rw (word 2 (omega arith)) (promised_said (Refused reason place) (sym says.code_said ∙ h.0, sym first ∙ h.1, sym second ∙ h.2))
