-- The verifier's answer in each case, and what scratch memory holds then.
use Prim.Native.Nat.{ℕ, ◌+◌, ◌*◌, ◌/◌, ◌%◌, ◌≤◌, ◌<◌}
use mathlib.Core.Path.{◌≡◌, refl, sym, ap, ◌∙◌}
use mathlib.Core.Bool.{Bool, true, false, not, ◌||◌}
use mathlib.Core.List.{List}
use lib.ListN.{length}
use Rattle.std.specs.Prelude.{Ok, Err}
use lib.Dec.{eqb, ltb}
use native.Mathlib.Omega.{arith}
use borrow.Author.Tests.{lt-ltb, le-ltb, eqb-true, eqb-false, ltb-false}
use Rattle.machine.specs.Machine.{bad_program, bad_record}
use Rattle.analysis.specs.declared.Reason.{Reason}
use Rattle.analysis.specs.declared.Reason.TheVariants.{BadLength, LongRecord}
use Rattle.analysis.specs.declared.Finding.{Finding}
use Rattle.analysis.specs.declared.Finding.TheVariants.{Accepted, Refused}
use Rattle.analysis.specs.declared.Judged.{Judged}
use Rattle.analysis.specs.Judged.{formed, on_paths, on_form, judged}
use Rattle.analysis.specs.Paths.{connected}
use Rattle.analysis.specs.Answer.{Answer}
use Rattle.waiting.specs.Layout.{words, block_words}
use Rattle.verifier.specs.Sending.{Followed}
use Rattle.verifier.specs.Answered.{is_accepted, is_orderly, passes_form, answered, Untouched, Answers}

true_is_not_false : (b : Bool) → b ≡ true → b ≡ false → ⊥
true_is_not_false b p q = let z : ◌≡◌ {A = Bool} true false = sym p ∙ q in let y : ◌≡◌ {A = ℕ} 0 1 = cc in omega arith

-- nothing was done to scratch memory
pub unchanged : (program : List ℕ) (R : ℕ) (m : List ℕ) → Untouched program R m m
unchanged program R m = record { order = λ p. refl; paths = λ p. refl; small = λ p. refl }

where_order_fails : (program : List ℕ) (R : ℕ) (m : List ℕ) (r : Answer) → is_orderly program R ≡ false → r ≡ Ok (judged program R)
    → Answers program R m m r
unfolding answered passes_form
where_order_fails program R m r fails is = (
  rw fails is,
  (
    record { holds = λ p q j. absurd (true_is_not_false _ p (rw fails refl)) },
    unchanged program R m,
  ),
)

pub a_bad_length : (program : List ℕ) (R : ℕ) (m : List ℕ) (r : Answer) → bad_program (length program) ≡ true
    → r ≡ Ok (record { finding = Refused BadLength 0; work = 0 }) → Answers program R m m r
unfolding is_orderly judged
a_bad_length program R m r bad is = where_order_fails program R m r (rw bad) (rw bad is)

pub a_long_record : (program : List ℕ) (R : ℕ) (m : List ℕ) (r : Answer) → bad_program (length program) ≡ false → 1024 < R
    → r ≡ Ok (record { finding = Refused LongRecord 0; work = 0 }) → Answers program R m m r
unfolding is_orderly judged bad_record
a_long_record program R m r good long is =
    where_order_fails program R m r (rw (good, lt-ltb 1024 R long)) (rw (good, lt-ltb 1024 R long) is)

pub a_test_that_fails : (program : List ℕ) (R : ℕ) (m : List ℕ) (f : Finding) (reason : Reason) (place : ℕ)
    → bad_program (length program) ≡ false → R ≤ 1024 → f ≡ formed program (length program / 8) 0 → f ≡ Refused reason place
    → Answers program R m m (Ok (record { finding = Refused reason place; work = place + 1 }))
unfolding is_orderly judged on_form bad_record is_accepted
a_test_that_fails program R m f reason place good short tests is =
    where_order_fails program R m _ (rw (good, le-ltb 1024 R short, sym tests, is)) (rw (good, le-ltb 1024 R short, sym tests, is))

-- the tests at each index have been passed
module _ (program : List ℕ) (R n : ℕ) (m : List ℕ) (good : bad_program (length program) ≡ false) (short : R ≤ 1024)
    (size : n ≡ length program / 8) (tests : formed program (length program / 8) 0 ≡ Accepted) where
  orderly : is_orderly program R ≡ true
  unfolding is_orderly bad_record is_accepted
  orderly = rw (good, le-ltb 1024 R short, tests)

  pub too_little_memory : length m < block_words * n → Answers program R m m (Err (record { words = block_words * n }))
  unfolding answered words
  too_little_memory less = (
    rw (orderly, sym size, lt-ltb (length m) (block_words * n) less),
    (
      record { holds = λ p q j. absurd (true_is_not_false _ (rw (sym size) (lt-ltb (length m) (block_words * n) less)) q) },
      unchanged program R m,
    ),
  )

  module _ (g : Finding) (enough : block_words * n ≤ length m) (paths : g ≡ connected program) where
    is_enough : ltb (length m) (words (length program / 8)) ≡ false
    unfolding words
    is_enough = rw (sym size) (le-ltb (length m) (block_words * n) enough)

    pub dead_code : (reason : Reason) (place : ℕ) → g ≡ Refused reason place
        → Answers program R m m (Ok (record { finding = Refused reason place; work = n + (place + 1) }))
    unfolding answered passes_form judged on_form on_paths bad_record is_accepted
    dead_code reason place is = (
      rw (orderly, is_enough, good, le-ltb 1024 R short, size, tests, sym paths, is),
      (
        record { holds = λ p q j. absurd (true_is_not_false _ p (rw (orderly, sym paths, is) refl)) },
        unchanged program R m,
      ),
    )

    pub the_values_were_followed : (m' : List ℕ) (r : Judged) → g ≡ Accepted → Followed program R n r m m'
        → Answers program R m m' (Ok r)
    unfolding answered judged on_form on_paths bad_record is_accepted
    the_values_were_followed m' r is h = (
      rw (orderly, is_enough, good, le-ltb 1024 R short, tests, sym paths, is) (ap Ok h.found),
      (
        record { holds = λ p q j. rw (sym size) (ap (λ w. w j) h.waits) },
        record {
          order = λ p. absurd (true_is_not_false _ orderly p);
          paths = λ p. absurd (true_is_not_false _ (rw (sym paths, is) refl) p);
          small = λ p. absurd (true_is_not_false _ p is_enough);
        },
      ),
    )

-- ---- the length of a program of good form

pub a_good_length : (size : ℕ) → bad_program size ≡ false → (0 < size / 8) × (size / 8 ≤ 4096)
unfolding bad_program
a_good_length size h = go (eqb size 0) (eqb (size % 8) 0) (ltb (8 * 4096) size) refl refl refl h
  where
    go : (a b d : Bool) → eqb size 0 ≡ a → eqb (size % 8) 0 ≡ b → ltb (8 * 4096) size ≡ d → (a || not b || d) ≡ false → (0 < size / 8) × (size / 8 ≤ 4096)
    go true b d p q r e = absurd (let y : ◌≡◌ {A = ℕ} 0 1 = cc in omega arith)
    go false false d p q r e = absurd (let y : ◌≡◌ {A = ℕ} 0 1 = cc in omega arith)
    go false true true p q r e = absurd (let y : ◌≡◌ {A = ℕ} 0 1 = cc in omega arith)
    go false true false p q r e =
        let x : size ≡ 0 → ⊥ = eqb-false _ _ p in let y : size % 8 ≡ 0 = eqb-true _ _ q in let z : size ≤ 8 * 4096 = ltb-false _ _ r in
        (omega arith, omega arith)
