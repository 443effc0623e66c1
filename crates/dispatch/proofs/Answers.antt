-- How an answer leads on: a fault, whatever its cause, a test that passes, an effect.
use Rattle.std.proofs.Common.{◌≡◌, ℕ, ◌+◌, ◌-◌, ◌%◌, ◌^◌, ◌<◌, Bool, true, false, cond, not, ◌||◌, List, [], length, sym, refl, ap, ◌∙◌, subst, true≢false, lit<, Option, None, Some}
use Rattle.word.specs.Word.{write_bytes}
use Rattle.machine.specs.declared.outcome.Cause.{Cause}
use Rattle.machine.specs.declared.outcome.Cause.TheVariants.{BadCode, Unset, WriteR10, BadAccess}
use Rattle.machine.specs.declared.outcome.Outcome.TheVariants.{Verdict, Fault, Budget}
use Rattle.machine.specs.declared.instruction.Size.{Size}
use Rattle.machine.specs.Machine.{World, State, After, goes, ends, faults, Done, put, jumped, bytes, within, after_load, after_store}
use Rattle.machine.specs.Machine.{next as following}
use Rattle.dispatch.specs.declared.answer.Next.{Next}
use Rattle.dispatch.specs.declared.answer.Next.TheVariants.{Go, Exit, Stop}
use Rattle.dispatch.specs.Represent.{state_of, cause_of, comes, mask_of, Leads, guarded}

-- an answer that leads to one thing leads to whatever equals it
pub leads_to : {r : Next} {numbers stack : List ℕ} {t : State} {a b : After} → a ≡ b → Leads r numbers stack t a → Leads r numbers stack t b
leads_to {r} {numbers} {stack} {t} e h = subst (λ (x : After). Leads r numbers stack t x) e h

-- the mask that is handed on has no bit above the registers'
pub go_narrow : {r : Next} {numbers stack : List ℕ} {t : State} {after : After} → Leads r numbers stack t after
    → (index live : ℕ) → r ≡ Go index live → live < 2 ^ 11
unfolding mask_of
go_narrow h index live e = subst (λ (x : Next). mask_of x < 2 ^ 11) e h.narrow

module _ (g numbers stack : List ℕ) (live index : ℕ) (sixteen : length numbers ≡ 16) where
  pub leads_fault : (c : Cause) → Leads Stop numbers stack (state_of g live stack index) (faults c)
  unfolding comes following state_of cause_of mask_of
  leads_fault c = record { leads = λ more n. refl; sixteen = sixteen; narrow = lit< tt }

  pub leads_end : (v : ℕ) → Leads (Exit v) numbers stack (state_of g live stack index) (ends v)
  unfolding comes following state_of mask_of
  leads_end v = record { leads = λ more n. refl; sixteen = sixteen; narrow = lit< tt }

  pub leads_go : (live' index' : ℕ) (stack' : List ℕ) (t : State) → live' < 2 ^ 11 → state_of numbers live' stack' index' ≡ t
      → Leads (Go index' live') numbers stack' (state_of g live stack index) (goes t)
  unfolding comes following mask_of
  leads_go live' index' stack' t narrow e = record { leads = λ more n. ap (more (n + 1)) e; sixteen = sixteen; narrow = narrow }

-- an answer that leads to a fault stops, and so leads to a fault of any cause
pub fault_any : (r : Next) {numbers stack : List ℕ} {t : State} {c : Cause} → Leads r numbers stack t (faults c) → (c' : Cause) → Leads r numbers stack t (faults c')
unfolding comes following cause_of
fault_any (Go index live) {t = t} {c = c} h c' =
    let e : Budget 0 ≡ Fault c t.index 0 = ap (λ (d : Done). d.outcome) (h.leads (λ n u. record { outcome = Budget 0; stack = [] }) 0) in
    absurd (true≢false (cc))
fault_any (Exit v) {t = t} {c = c} h c' =
    let e : Verdict v 1 ≡ Fault c t.index 0 = ap (λ (d : Done). d.outcome) (h.leads (λ n u. record { outcome = Budget 0; stack = [] }) 0) in
    absurd (true≢false (cc))
fault_any Stop {t = t} h c' =
    record {
      leads = λ more n. ap (λ (m : List ℕ). record { outcome = Fault c' t.index n; stack = m }) (ap (λ (d : Done). d.stack) (h.leads more n));
      sixteen = h.sixteen;
      narrow = h.narrow;
    }

-- where an answer stops, the machine faults
pub stopped : {numbers stack : List ℕ} {t : State} (after : After) → Leads Stop numbers stack t after → after ≡ faults (cause_of after)
unfolding comes following cause_of
stopped {t = t} (goes u) h =
    let e : Fault BadCode t.index 0 ≡ Budget 0 = ap (λ (d : Done). d.outcome) (h.leads (λ n u. record { outcome = Budget 0; stack = [] }) 0) in
    absurd (true≢false (cc))
stopped {t = t} (ends v) h =
    let e : Fault BadCode t.index 0 ≡ Verdict v 1 = ap (λ (d : Done). d.outcome) (h.leads (λ n u. record { outcome = Budget 0; stack = [] }) 0) in
    absurd (true≢false (cc))
stopped (faults c) h = refl

-- ---- the tests before the effect

-- a test that does not pass: a field that must be 0 is not, r10 would be written, something unset would be read
pub data Barred (fits writes10 unset : Bool) : Type 0 where
  unfit : fits ≡ false → Barred fits writes10 unset
  writing : writes10 ≡ true → Barred fits writes10 unset
  reading : unset ≡ true → Barred fits writes10 unset

-- then the guard is a fault
some_fault : (fits writes10 unset : Bool) → Barred fits writes10 unset → (after : After)
    → (c : Cause) × (guarded fits writes10 unset after ≡ faults c)
unfolding guarded
some_fault false writes10 unset b after = (BadCode, refl)
some_fault true true unset b after = (WriteR10, refl)
some_fault true false true b after = (Unset, refl)
some_fault true false false (unfit e) after = absurd (true≢false e)
some_fault true false false (writing e) after = absurd (true≢false (sym e))
some_fault true false false (reading e) after = absurd (true≢false (sym e))

module _ (fits writes10 unset : Bool) where
  pub stops : Barred fits writes10 unset → (g numbers stack : List ℕ) → length numbers ≡ 16 → (live index : ℕ) (after : After)
      → Leads Stop numbers stack (state_of g live stack index) (guarded fits writes10 unset after)
  stops b g numbers stack sixteen live index after =
      let f = some_fault fits writes10 unset b after in leads_to (sym f.1) (leads_fault g numbers stack live index sixteen f.0)

  pub barred : Barred fits writes10 unset → (after : After) (c : Cause) {r : Next} {numbers stack : List ℕ} {t : State}
      → Leads r numbers stack t (guarded fits writes10 unset after) → Leads r numbers stack t (faults c)
  barred b after c {r} {numbers} {stack} {t} h = fault_any r (leads_to (some_fault fits writes10 unset b after).1 h) c

  pub passes : fits ≡ true → writes10 ≡ false → unset ≡ false → {r : Next} {numbers stack : List ℕ} {t : State} {after : After}
      → Leads r numbers stack t after → Leads r numbers stack t (guarded fits writes10 unset after)
  unfolding guarded
  passes f w u h = leads_to (sym (simp (f, w, u))) h

-- what `has` answered, told of the mask
pub told : (b s v : Bool) → b ≡ s → not b ≡ v → not s ≡ v
told b s v e h = ap not (sym e) ∙ h

-- of two registers, whether one is unset
pub first_unset : (x y : Bool) → x ≡ true → x || y ≡ true
first_unset x y e = rw e

pub second_unset : (x y : Bool) → x ≡ false → y ≡ true → x || y ≡ true
second_unset x y e f = rw (e, f)

pub both_set : (x y : Bool) → x ≡ false → y ≡ false → x || y ≡ false
both_set x y e f = rw (e, f)

pub not_unset : (b : Bool) → not b ≡ false → b ≡ true
not_unset true e = refl
not_unset false e = cc

pub first_set : (a b : Bool) → not a || not b ≡ false → a ≡ true
first_set true b e = refl
first_set false b e = cc

pub second_set : (a b : Bool) → not a || not b ≡ false → b ≡ true
second_set true b e = not_unset b e
second_set false b e = cc

-- ---- the effects

pub jump_is : (taken : Bool) (g stack : List ℕ) (live index off to : ℕ) → to ≡ cond taken ((index + 1 + off) % 2 ^ 64) (index + 1)
    → state_of g live stack to ≡ jumped taken (state_of g live stack index) off
unfolding state_of jumped
jump_is taken g stack live index off to e = rw e

pub load_found : (t : State) (dst v : ℕ) (found : Option ℕ) → found ≡ Some v → goes (put t dst v) ≡ after_load t dst found
unfolding after_load
load_found t dst v found e = rw e

pub load_lost : (t : State) (dst : ℕ) (found : Option ℕ) → found ≡ None → faults BadAccess ≡ after_load t dst found
unfolding after_load
load_lost t dst found e = rw e

module _ (w : World) (g stack : List ℕ) (live index a x : ℕ) (size : Size) where
  pub store_made : within w.S (length stack) a (bytes size) ≡ true → (stack' : List ℕ)
      → stack' ≡ write_bytes (bytes size) stack (a - w.S) x
      → goes (state_of g live stack' (index + 1)) ≡ after_store w (state_of g live stack index) a size x
  unfolding state_of after_store
  store_made e stack' made = simp e (rw made)

  pub store_barred : within w.S (length stack) a (bytes size) ≡ false
      → faults BadAccess ≡ after_store w (state_of g live stack index) a size x
  unfolding state_of after_store
  store_barred e = simp e
