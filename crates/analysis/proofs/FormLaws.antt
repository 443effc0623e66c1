-- The tests with the reasons 1 to 6 are exact: a program passes them if and only if it is orderly, and a refusal names the lowest index that
-- fails, with the lowest reason there.
use mathlib.Core.Path.{◌≡◌, refl, sym, ap, ◌∙◌, subst}
use mathlib.Core.Bool.{Bool, true, false, cond, not, ◌&&◌, ◌||◌, true≢false}
use mathlib.Core.Logic.{inl, inr, ⊎_elim}
use mathlib.Core.List.{List}
use Prim.Native.Nat.{ℕ, zero, suc, ◌+◌, ◌/◌, ◌≤◌, ◌<◌}
use native.Mathlib.Nat.{eq-or-lt_of_le}
use native.Mathlib.Omega.{arith}
use lib.ListN.{length}
use lib.Dec.{eqb}
use borrow.Author.Tests.{eqb-true, eqb-false, eq-eqb}
use Rattle.std.specs.Prelude.{Option, Some, None}
use Rattle.machine.specs.declared.instruction.Instruction.{Instruction}
use Rattle.machine.specs.Instruction.{writes}
use Rattle.machine.specs.Machine.{is_no_instruction, names10, bad_program, bad_record}
use Rattle.analysis.specs.declared.Reason.{Reason}
use Rattle.analysis.specs.declared.Reason.TheVariants.{BadLength, LongRecord, NoCode, WritesR10, JumpsBack, JumpsOut, ReadsUnset, Outside, LeaksAddress, DeadCode}
use Rattle.analysis.specs.declared.Finding.{Finding}
use Rattle.analysis.specs.declared.Finding.TheVariants.{Accepted, Refused}
use Rattle.analysis.specs.Form.{instruction, off_of, goes_back, goes_out, may_be_last, failing, Fine, Orderly, Fails, FailsFirst, FirstFailure}
use Rattle.analysis.specs.Judged.{reason_number, or_else, formed}
use Rattle.analysis.proofs.Annotated.{refused_not_accepted}

abbrev IsSome : Option Reason → Type 0
IsSome None = ⊥
IsSome (Some reason) = Unit {0}

some_not_none : (reason : Reason) → Some reason ≡ None → ⊥
some_not_none reason e = subst IsSome e tt

reason_or : Reason → Option Reason → Reason
reason_or r None = r
reason_or r (Some s) = s

some_injective : (r s : Reason) → Some r ≡ Some s → r ≡ s
unfolding reason_or
some_injective r s e = ap (reason_or r) e

reason_in : Finding → Reason
reason_in Accepted = NoCode
reason_in (Refused r x) = r

place_in : Finding → ℕ
place_in Accepted = 0
place_in (Refused r x) = x

pub refused_injective : (r s : Reason) (x y : ℕ) → Refused r x ≡ Refused s y → (r ≡ s) × (x ≡ y)
unfolding reason_in place_in
refused_injective r s x y e = (ap reason_in e, ap place_in e)

-- ---- the tests at one index

module _ (n i : ℕ) (ins : Instruction) where
  out_fails : (a b c : Bool) → goes_out n i (off_of ins) ≡ a → eqb (i + 1) n ≡ b → may_be_last ins ≡ c → (a || (b && not c)) ≡ true → Fails JumpsOut n i ins
  out_fails true b c p q r e = inl p
  out_fails false true true p q r e = absurd (true≢false (sym e))
  out_fails false true false p q r e = inr (eqb-true _ _ q, r)
  out_fails false false c p q r e = absurd (true≢false (sym e))

  out_passes : (a b c : Bool) → goes_out n i (off_of ins) ≡ a → eqb (i + 1) n ≡ b → may_be_last ins ≡ c → (a || (b && not c)) ≡ false
      → (goes_out n i (off_of ins) ≡ false) × (i + 1 ≡ n → may_be_last ins ≡ true)
  out_passes true b c p q r e = absurd (true≢false e)
  out_passes false true true p q r e = (p, λ _. r)
  out_passes false true false p q r e = absurd (true≢false e)
  out_passes false false c p q r e = (p, λ h. absurd (eqb-false _ _ q h))

  fine_passes : goes_out n i (off_of ins) ≡ false → (i + 1 ≡ n → may_be_last ins ≡ true) → (goes_out n i (off_of ins) || (eqb (i + 1) n && not (may_be_last ins))) ≡ false
  fine_passes p q = rw p (go (eqb (i + 1) n) refl)
    where
      go : (b : Bool) → eqb (i + 1) n ≡ b → (b && not (may_be_last ins)) ≡ false
      go true e = rw (q (eqb-true _ _ e)) refl
      go false e = refl

  pub passing_fine : failing n i ins ≡ None → Fine n i ins
  unfolding failing
  passing_fine e =
      go (is_no_instruction ins) refl (names10 (writes ins)) refl (goes_back (off_of ins)) refl (goes_out n i (off_of ins) || (eqb (i + 1) n && not (may_be_last ins))) refl e
    where
      go : (a : Bool) → is_no_instruction ins ≡ a → (b : Bool) → names10 (writes ins) ≡ b → (c : Bool) → goes_back (off_of ins) ≡ c
          → (d : Bool) → (goes_out n i (off_of ins) || (eqb (i + 1) n && not (may_be_last ins))) ≡ d
          → cond a (Some NoCode) (cond b (Some WritesR10) (cond c (Some JumpsBack) (cond d (Some JumpsOut) None))) ≡ None → Fine n i ins
      go true p b q c r d s h = absurd (some_not_none _ h)
      go false p true q c r d s h = absurd (some_not_none _ h)
      go false p false q true r d s h = absurd (some_not_none _ h)
      go false p false q false r true s h = absurd (some_not_none _ h)
      go false p false q false r false s h =
          let o = out_passes _ _ _ refl refl refl s in
          record { instructs = p; keeps_r10 = q; forward = r; stays_in = o.0; ends_well = o.1 }

  pub fine_passing : Fine n i ins → failing n i ins ≡ None
  unfolding failing
  fine_passing f = rw (f.instructs, f.keeps_r10, f.forward, fine_passes f.stays_in f.ends_well) refl

  -- the reasons below one that fails first
  none_below_no_code : (r : Reason) → reason_number r < 3 → Fails r n i ins → ⊥
  unfolding reason_number
  none_below_no_code BadLength l h = h
  none_below_no_code LongRecord l h = h
  none_below_no_code NoCode l h = omega arith
  none_below_no_code WritesR10 l h = omega arith
  none_below_no_code JumpsBack l h = omega arith
  none_below_no_code JumpsOut l h = omega arith
  none_below_no_code ReadsUnset l h = h
  none_below_no_code Outside l h = h
  none_below_no_code LeaksAddress l h = h
  none_below_no_code DeadCode l h = h

  none_below_writes : is_no_instruction ins ≡ false → (r : Reason) → reason_number r < 4 → Fails r n i ins → ⊥
  unfolding reason_number
  none_below_writes a BadLength l h = h
  none_below_writes a LongRecord l h = h
  none_below_writes a NoCode l h = true≢false (sym h ∙ a)
  none_below_writes a WritesR10 l h = omega arith
  none_below_writes a JumpsBack l h = omega arith
  none_below_writes a JumpsOut l h = omega arith
  none_below_writes a ReadsUnset l h = h
  none_below_writes a Outside l h = h
  none_below_writes a LeaksAddress l h = h
  none_below_writes a DeadCode l h = h

  none_below_back : is_no_instruction ins ≡ false → names10 (writes ins) ≡ false → (r : Reason) → reason_number r < 5 → Fails r n i ins → ⊥
  unfolding reason_number
  none_below_back a b BadLength l h = h
  none_below_back a b LongRecord l h = h
  none_below_back a b NoCode l h = true≢false (sym h ∙ a)
  none_below_back a b WritesR10 l h = true≢false (sym h ∙ b)
  none_below_back a b JumpsBack l h = omega arith
  none_below_back a b JumpsOut l h = omega arith
  none_below_back a b ReadsUnset l h = h
  none_below_back a b Outside l h = h
  none_below_back a b LeaksAddress l h = h
  none_below_back a b DeadCode l h = h

  none_below_out : is_no_instruction ins ≡ false → names10 (writes ins) ≡ false → goes_back (off_of ins) ≡ false
      → (r : Reason) → reason_number r < 6 → Fails r n i ins → ⊥
  unfolding reason_number
  none_below_out a b c BadLength l h = h
  none_below_out a b c LongRecord l h = h
  none_below_out a b c NoCode l h = true≢false (sym h ∙ a)
  none_below_out a b c WritesR10 l h = true≢false (sym h ∙ b)
  none_below_out a b c JumpsBack l h = true≢false (sym h ∙ c)
  none_below_out a b c JumpsOut l h = omega arith
  none_below_out a b c ReadsUnset l h = h
  none_below_out a b c Outside l h = h
  none_below_out a b c LeaksAddress l h = h
  none_below_out a b c DeadCode l h = h

  pub failing_first : (reason : Reason) → failing n i ins ≡ Some reason → FailsFirst reason n i ins
  unfolding failing reason_number
  failing_first reason e =
      go (is_no_instruction ins) refl (names10 (writes ins)) refl (goes_back (off_of ins)) refl (goes_out n i (off_of ins) || (eqb (i + 1) n && not (may_be_last ins))) refl e
    where
      named : (r : Reason) → Some r ≡ Some reason → FailsFirst r n i ins → FailsFirst reason n i ins
      named r p f = subst (λ x. FailsFirst x n i ins) (some_injective r reason p) f

      go : (a : Bool) → is_no_instruction ins ≡ a → (b : Bool) → names10 (writes ins) ≡ b → (c : Bool) → goes_back (off_of ins) ≡ c
          → (d : Bool) → (goes_out n i (off_of ins) || (eqb (i + 1) n && not (may_be_last ins))) ≡ d
          → cond a (Some NoCode) (cond b (Some WritesR10) (cond c (Some JumpsBack) (cond d (Some JumpsOut) None))) ≡ Some reason → FailsFirst reason n i ins
      go true p b q c r d s h = named NoCode h (record { fails = p; no_lower = none_below_no_code })
      go false p true q c r d s h = named WritesR10 h (record { fails = q; no_lower = none_below_writes p })
      go false p false q true r d s h = named JumpsBack h (record { fails = r; no_lower = none_below_back p q })
      go false p false q false r true s h = named JumpsOut h (record { fails = out_fails _ _ _ refl refl refl s; no_lower = none_below_out p q r })
      go false p false q false r false s h = absurd (some_not_none reason (sym h))

-- ---- the tests at all indices

abbrev InForm : List ℕ → ℕ → Type 0
InForm program x = Fine (length program / 8) x (instruction program x)

-- the first test of k from index i on, and the others
accepted_all : (program : List ℕ) (k i : ℕ) → formed program k i ≡ Accepted → (x : ℕ) → i ≤ x → x < i + k → InForm program x
unfolding formed or_else
accepted_all program zero i e x l m = absurd (omega arith)
accepted_all program (suc k) i e x l m = go (failing (length program / 8) i (instruction program i)) refl e (accepted_all program k (i + 1))
  where
    go : (o : Option Reason) → failing (length program / 8) i (instruction program i) ≡ o → or_else i o (formed program k (i + 1)) ≡ Accepted
        → (formed program k (i + 1) ≡ Accepted → (y : ℕ) → i + 1 ≤ y → y < i + 1 + k → InForm program y) → InForm program x
    go None p h more =
        ⊎_elim (λ (s : i ≡ x). subst (InForm program) s (passing_fine (length program / 8) i (instruction program i) p))
        (λ (s : i < x). more h x (omega arith) (omega arith)) (eq-or-lt_of_le l)
    go (Some reason) p h more = absurd (refused_not_accepted reason i h)

all_accepted : (program : List ℕ) (k i : ℕ) → ((x : ℕ) → i ≤ x → x < i + k → InForm program x) → formed program k i ≡ Accepted
unfolding formed or_else
all_accepted program zero i h = refl
all_accepted program (suc k) i h =
    rw (fine_passing (length program / 8) i (instruction program i) (h i (omega arith) (omega arith)))
    (all_accepted program k (i + 1) (λ x l m. h x (omega arith) (omega arith)))

-- a refusal names the lowest index that fails
record Refusal (program : List ℕ) (reason : Reason) (from place : ℕ) : Type 0 where
  inside : (from ≤ place) × (place < length program / 8)
  fails_first : FailsFirst reason (length program / 8) place (instruction program place)
  fine_before : (x : ℕ) → from ≤ x → x < place → InForm program x

refused_first : (program : List ℕ) (k i : ℕ) → i + k ≡ length program / 8 → (reason : Reason) (place : ℕ) → formed program k i ≡ Refused reason place
    → Refusal program reason i place
unfolding formed or_else
refused_first program zero i m reason place e = absurd (refused_not_accepted reason place (sym e))
refused_first program (suc k) i m reason place e =
    go (failing (length program / 8) i (instruction program i)) refl e (refused_first program k (i + 1) (omega arith))
  where
    go : (o : Option Reason) → failing (length program / 8) i (instruction program i) ≡ o → or_else i o (formed program k (i + 1)) ≡ Refused reason place
        → ((r : Reason) (y : ℕ) → formed program k (i + 1) ≡ Refused r y → Refusal program r (i + 1) y) → Refusal program reason i place
    go None p h more =
        let w = more reason place h in
        record {
          inside = (omega (arith, w.inside.0), w.inside.1);
          fails_first = w.fails_first;
          fine_before = λ x l b. ⊎_elim (λ (s : i ≡ x). subst (InForm program) s (passing_fine (length program / 8) i (instruction program i) p))
              (λ (s : i < x). w.fine_before x (omega arith) b) (eq-or-lt_of_le l);
        }
    go (Some r) p h more =
        let s = refused_injective r reason i place h in
        subst (λ y. Refusal program reason i y) s.1
        (subst (λ q. Refusal program q i i) s.0
        (record {
          inside = (omega arith, omega arith);
          fails_first = failing_first (length program / 8) i (instruction program i) r p;
          fine_before = λ x l b. absurd (omega arith);
        }))

pub passes_fine : (program : List ℕ) → formed program (length program / 8) 0 ≡ Accepted
    → (i : ℕ) → i < length program / 8 → Fine (length program / 8) i (instruction program i)
passes_fine program f i l = accepted_all program (length program / 8) 0 f i (omega arith) (omega arith)

module _ (program : List ℕ) (R : ℕ) where
  pub passes_orderly : bad_program (length program) ≡ false → bad_record R ≡ false → formed program (length program / 8) 0 ≡ Accepted → Orderly program R
  passes_orderly p r f = record { good_length = p; good_record = r; fine = passes_fine program f }

  pub orderly_passes : Orderly program R → formed program (length program / 8) 0 ≡ Accepted
  orderly_passes h = all_accepted program (length program / 8) 0 (λ x l m. h.fine x (omega arith))

pub form_refusal : (program : List ℕ) (reason : Reason) (place : ℕ) → formed program (length program / 8) 0 ≡ Refused reason place → FirstFailure program reason place
form_refusal program reason place e =
    let r = refused_first program (length program / 8) 0 (omega arith) reason place e in
    record { inside = r.inside.1; fails_first = r.fails_first; fine_before = λ x l. r.fine_before x (omega arith) l }

-- ---- and the lowest index that fails is refused
is_false : (b : Bool) → (b ≡ true → ⊥) → b ≡ false
is_false true n = absurd (n refl)
is_false false n = refl

out_is_tested : (n i : ℕ) (ins : Instruction) → Fails JumpsOut n i ins → (goes_out n i (off_of ins) || (eqb (i + 1) n && not (may_be_last ins))) ≡ true
out_is_tested n i ins (inl e) = rw e refl
out_is_tested n i ins (inr e) = rw (eq-eqb (i + 1) n e.0, e.1) (or-true (goes_out n i (off_of ins)))
  where
    or-true : (b : Bool) → (b || true) ≡ true
    or-true true = refl
    or-true false = refl

first_failing : (reason : Reason) (n i : ℕ) (ins : Instruction) → FailsFirst reason n i ins → failing n i ins ≡ Some reason
unfolding failing reason_number
first_failing BadLength n i ins f = absurd f.fails
first_failing LongRecord n i ins f = absurd f.fails
first_failing NoCode n i ins f = rw f.fails refl
first_failing WritesR10 n i ins f = rw (is_false _ (f.no_lower NoCode (omega arith)), f.fails) refl
first_failing JumpsBack n i ins f = rw (is_false _ (f.no_lower NoCode (omega arith)), is_false _ (f.no_lower WritesR10 (omega arith)), f.fails) refl
first_failing JumpsOut n i ins f =
    rw (is_false _ (f.no_lower NoCode (omega arith)), is_false _ (f.no_lower WritesR10 (omega arith)), is_false _ (f.no_lower JumpsBack (omega arith)), out_is_tested n i ins f.fails) refl
first_failing ReadsUnset n i ins f = absurd f.fails
first_failing Outside n i ins f = absurd f.fails
first_failing LeaksAddress n i ins f = absurd f.fails
first_failing DeadCode n i ins f = absurd f.fails

first_refused : (program : List ℕ) (k i : ℕ) → i + k ≡ length program / 8 → (reason : Reason) (place : ℕ) → i ≤ place → FirstFailure program reason place
    → formed program k i ≡ Refused reason place
unfolding formed or_else
first_refused program zero i m reason place l f = absurd (omega (arith, f.inside))
first_refused program (suc k) i m reason place l f =
    ⊎_elim
    (λ (s : i ≡ place). rw (s, first_failing reason (length program / 8) place (instruction program place) f.fails_first) refl)
    (λ (s : i < place). rw (fine_passing (length program / 8) i (instruction program i) (f.fine_before i s)) (first_refused program k (i + 1) (omega arith) reason place (omega arith) f))
    (eq-or-lt_of_le l)

pub failure_is_refused : (program : List ℕ) (reason : Reason) (place : ℕ) → FirstFailure program reason place
    → formed program (length program / 8) 0 ≡ Refused reason place
failure_is_refused program reason place f = first_refused program (length program / 8) 0 (omega arith) reason place (omega arith) f
