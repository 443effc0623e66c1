-- Scratch memory is answered to be too small if and only if the tests with the reasons 1 to 6 are passed and scratch is shorter than the
-- words that the program needs.
use mathlib.Core.Path.{◌≡◌, refl, sym, ap, subst}
use mathlib.Core.Bool.{Bool, true, false, cond, not, ◌&&◌, true≢false, and-eq-true_iff}
use mathlib.Core.Logic.{◌↔◌}
use mathlib.Core.List.{List}
use Prim.Native.Nat.{ℕ, ◌/◌, ◌<◌}
use lib.ListN.{length}
use Rattle.std.specs.Prelude.{Ok, Err}
use lib.Dec.{ltb}
use borrow.Author.Tests.{ltb-true, lt-ltb, not-true}
use Rattle.machine.specs.Machine.{bad_program, bad_record}
use Rattle.analysis.specs.declared.Finding.{Finding}
use Rattle.analysis.specs.declared.Finding.TheVariants.{Accepted, Refused}
use Rattle.analysis.specs.Form.{Orderly}
use Rattle.analysis.specs.Judged.{formed, judged}
use Rattle.analysis.proofs.FormLaws.{passes_orderly, orderly_passes}
use Rattle.analysis.specs.Answer.{Answer}
use Rattle.waiting.specs.Layout.{words}
use Rattle.verifier.specs.Answered.{is_accepted, is_orderly, answered}

accepted_is : (f : Finding) → is_accepted f ≡ true → f ≡ Accepted
unfolding is_accepted
accepted_is Accepted e = refl
accepted_is (Refused reason place) e = absurd (true≢false (sym e))

module _ (program : List ℕ) (R : ℕ) where
  pub is_orderly_lem : is_orderly program R ≡ true → Orderly program R
  unfolding is_orderly
  is_orderly_lem e =
      let good = not (bad_program (length program)) && not (bad_record R) in
      let (bc, f) = (and-eq-true_iff good (is_accepted (formed program (length program / 8) 0))).0 e in
      let (b, c) = (and-eq-true_iff (not (bad_program (length program))) (not (bad_record R))).0 bc in
      passes_orderly program R (not-true _ b) (not-true _ c) (accepted_is _ f)

  pub orderly_is : Orderly program R → is_orderly program R ≡ true
  unfolding is_orderly is_accepted
  orderly_is h = rw (h.good_length, h.good_record, orderly_passes program R h) refl

words_in : Answer → ℕ
words_in (Ok j) = 0
words_in (Err e) = e.words

abbrev IsTooSmall : Answer → Type 0
IsTooSmall (Ok j) = ⊥
IsTooSmall (Err e) = Unit {0}

pub too_small_iff : (program : List ℕ) (R size w : ℕ)
    → (answered program R size ≡ Err (record { words = w }))
    ↔ (Orderly program R × (w ≡ words (length program / 8)) × (size < words (length program / 8)))
unfolding answered words_in
too_small_iff program R size w = (
  λ e. go (is_orderly program R) refl (ltb size (words (length program / 8))) refl e,
  λ h. rw (orderly_is program R h.0, lt-ltb _ _ h.2) (ap (λ (w : ℕ). Err (record { words = w })) (sym h.1)),
)
  where
    go : (a : Bool) → is_orderly program R ≡ a → (b : Bool) → ltb size (words (length program / 8)) ≡ b
        → cond {A = Answer} (a && b) (Err (record { words = words (length program / 8) })) (Ok (judged program R)) ≡ Err (record { words = w })
        → Orderly program R × (w ≡ words (length program / 8)) × (size < words (length program / 8))
    go true p true q e = (is_orderly_lem program R p, sym (ap words_in e), ltb-true _ _ q)
    go true p false q e = absurd (subst IsTooSmall (sym e) tt)
    go false p b q e = absurd (subst IsTooSmall (sym e) tt)
