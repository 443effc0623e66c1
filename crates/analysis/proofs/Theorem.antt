-- The theorem: what the analysis accepts is safe.
use mathlib.Core.Path.{◌≡◌, refl, sym, ap, ◌∙◌}
use mathlib.Core.Bool.{Bool, true, false, cond, not, ◌&&◌, ◌||◌}
use mathlib.Core.Logic.{◌⊎◌, inl, inr}
use mathlib.Core.List.{List}
use Prim.Native.Nat.{ℕ, zero, suc, ◌+◌, ◌-◌, ◌*◌, ◌/◌, ◌%◌, ◌^◌, ◌≤◌}
use native.Mathlib.Nat.{zero-add}
use native.Mathlib.Omega.{arith}
use lib.ListN.{length, get_or, replicate}
use lib.Dec.{eqb, leb, ltb}
use borrow.Author.Tests.{ltb-false, le-ltb, eq-eqb}
use Rattle.std.specs.Prelude.{Some}
use Rattle.machine.specs.declared.outcome.Outcome.TheVariants.{Verdict, Budget}
use Rattle.machine.specs.Machine.{World, bad_program, bad_record, bad_stack, bad_address, overlap, refused, interpreted, runs}
use Rattle.analysis.specs.declared.Finding.{Finding}
use Rattle.analysis.specs.declared.Finding.TheVariants.{Accepted, Refused}
use Rattle.analysis.specs.declared.Reason.TheVariants.{BadLength, LongRecord}
use Rattle.analysis.specs.Values.{start_facts}
use Rattle.analysis.specs.Paths.{connected}
use Rattle.analysis.specs.Judged.{nobody, send, pass, formed, followed, on_paths, on_form, judged}
use Rattle.analysis.specs.Safe.{Laid, Bytes, Answer, Safe}
use Rattle.analysis.proofs.LayoutFree.{start_config}
use Rattle.number.proofs.Laws.{exact_in}
use Rattle.analysis.proofs.Meaning.{Describes}
use Rattle.analysis.proofs.Simulation.{Apart}
use Rattle.analysis.proofs.Running.{comes_run, start_same}
use Rattle.analysis.proofs.Tests.{or-false, or_right}
use Rattle.analysis.proofs.Stable.{Ends, stable_ends}
use Rattle.analysis.proofs.Annotated.{send_sends, accepted_onward, refused_not_accepted, accepted_settled}

-- ---- the start

zeros : (n i : ℕ) → ◌≡◌ {A = ℕ} (get_or (replicate n 0) i 0) 0
zeros zero i = refl
zeros (suc n) zero = refl
zeros (suc n) (suc i) = zeros n i

pub start_described : Describes start_facts start_config
unfolding start_facts start_config
start_described =
    record {
      registers = (tt, ((refl, exact_in 0 (omega arith)), (tt, (tt, (tt, (tt, (tt, (tt, (tt, (tt, ((refl, exact_in 512 (omega arith)), tt)))))))))));
      stack_size = refl;
      stack_bytes = λ i. rw (zeros 512 i) (omega arith);
    }

-- ---- where the unit may lay memory, nothing is refused

address_good : (a : ℕ) → 2 ^ 16 ≤ a → a ≤ 2 ^ 47 → bad_address a ≡ false
unfolding bad_address
address_good a p q = or-false _ _ (le-ltb _ _ p) (le-ltb _ _ q)

and_middle : (a b : Bool) → (a && false && b) ≡ false
and_middle true b = refl
and_middle false b = refl

and_last : (a b : Bool) → (a && b && false) ≡ false
and_last true true = refl
and_last true false = refl
and_last false b = refl

apart_no_overlap : (P R S : ℕ) → (R ≡ 0) ⊎ ((P + R ≤ S) ⊎ (S + 512 ≤ P)) → overlap P R S ≡ false
unfolding overlap
apart_no_overlap P R S (inl e) = rw (le-ltb 0 R (omega arith)) refl
apart_no_overlap P R S (inr (inl h)) = rw (le-ltb S (P + R) h) (and_last (ltb 0 R) (ltb P (S + 512)))
apart_no_overlap P R S (inr (inr h)) = rw (le-ltb P (S + 512) h) (and_middle (ltb 0 R) (ltb S (P + R)))

record_small : (R : ℕ) → bad_record R ≡ false → R ≤ 1024
unfolding bad_record
record_small R e = ltb-false 1024 R e

module _ (program rec : List ℕ) (good_length : bad_program (length program) ≡ false) (good_record : bad_record (length rec) ≡ false) where
  pub laid_not_refused : (world : Laid (length rec)) → refused (length program) (length rec) (length world.before) world.P world.S ≡ false
  unfolding refused bad_stack
  laid_not_refused w =
      or-false _ _ (or-false _ _ (or-false _ _ (or-false _ _ (or-false _ _ good_length good_record) (ap not (eq-eqb _ _ w.stack_size)))
      (address_good w.P w.record_low w.record_high)) (address_good w.S w.stack_low w.stack_high))
      (apart_no_overlap w.P (length rec) w.S w.apart)

  laid_apart : (world : Laid (length rec)) → Apart (record { rec = rec; P = world.P; S = world.S })
  laid_apart w = record { small = record_small (length rec) good_record; record_high = w.record_high; stack_high = w.stack_high; apart = w.apart }

  -- a layout-free run to a verdict, within as many steps as there are instructions, is all that is promised
  pub comes_answer : Ends program rec start_config (length program / 8) → Answer program rec
  unfolding interpreted
  comes_answer e =
      record {
        verdict = e.verdict;
        steps = e.steps;
        few = e.few;
        left = e.left;
        everywhere = λ w b.
            let world : World = record { rec = rec; P = w.P; S = w.S } in
            rw (laid_not_refused w)
            (ap (runs program world b 0) (sym (start_same program world (laid_apart w)))
            ∙ comes_run program world (laid_apart w) start_size e.comes b 0
            ∙ (λ i. record { outcome = cond (leb e.steps b) (Verdict e.verdict (zero-add e.steps i)) (Budget (zero-add b i)); stack = e.left b }));
      }
    where
      start_size : length start_config.stack ≡ 512
      start_size = start_described.stack_size

-- ---- from the pass to the start's verdict

module _ (program rec : List ℕ) (record_bytes : Bytes rec) (short : length program / 8 ≤ 2 ^ 64) where
  pub followed_ends : (followed program (length rec)).finding ≡ Accepted → Ends program rec start_config (length program / 8)
  unfolding followed start_config
  followed_ends e =
      let t = accepted_onward (send (length program / 8) 0 (Some start_facts) nobody (2 * (length program / 8))) 0 (pass program (length rec) (length program / 8) 0) _
      (send_sends (length program / 8) 0 (Some start_facts) nobody (2 * (length program / 8))) e in
      let s = t.2.1 start_config start_described in
      let w = accepted_settled program rec record_bytes short t.0 t.1 t.3 in
      let r = stable_ends program rec w.facts w.stable (λ c. length program / 8 - (c.index + 1)) w.falls start_config s.0 (w.covers start_config s.1) in
      record { verdict = r.verdict; steps = r.steps; left = r.left; few = omega (arith, r.few, s.0); comes = r.comes }

-- ---- what an accepted program has passed

pub record Passed (program : List ℕ) (R : ℕ) : Type 0 where
  pub good_length : bad_program (length program) ≡ false
  pub good_record : bad_record R ≡ false
  pub good_form : formed program (length program / 8) 0 ≡ Accepted
  pub good_paths : connected program ≡ Accepted
  pub good_values : (followed program R).finding ≡ Accepted

pub accepted_passed : (program : List ℕ) (R : ℕ) → (judged program R).finding ≡ Accepted → Passed program R
unfolding judged on_form on_paths
accepted_passed program R e = go (bad_program (length program)) refl (bad_record R) refl (formed program (length program / 8) 0) refl e
  where
    paths : bad_program (length program) ≡ false → bad_record R ≡ false → formed program (length program / 8) 0 ≡ Accepted
        → (g : Finding) → connected program ≡ g → (on_paths program R g).finding ≡ Accepted → Passed program R
    paths p q f Accepted c a = record { good_length = p; good_record = q; good_form = f; good_paths = c; good_values = a }
    paths p q f (Refused reason place) c a = absurd (refused_not_accepted _ _ a)

    go : (p : Bool) → bad_program (length program) ≡ p → (r : Bool) → bad_record R ≡ r → (f : Finding) → formed program (length program / 8) 0 ≡ f
        → (cond p (record { finding = Refused BadLength 0; work = 0 }) (cond r (record { finding = Refused LongRecord 0; work = 0 }) (on_form program R f))).finding ≡ Accepted
        → Passed program R
    go true p r q f h a = absurd (refused_not_accepted _ _ a)
    go false p true q f h a = absurd (refused_not_accepted _ _ a)
    go false p false q Accepted h a = paths p q h (connected program) refl a
    go false p false q (Refused reason place) h a = absurd (refused_not_accepted _ _ a)

-- at most 4,096 instructions
pub length_short : (l : ℕ) → bad_program l ≡ false → l / 8 ≤ 4096
unfolding bad_program
length_short l e = let h : l ≤ 8 * 4096 = ltb-false _ _ (or_right (eqb l 0 || not (eqb (l % 8) 0)) (ltb (8 * 4096) l) e) in omega arith

-- ---- the theorem

pub accepted_safe : (program : List ℕ) (R : ℕ) → (judged program R).finding ≡ Accepted → Safe program R
unfolding Safe
accepted_safe program R e rec l bytes =
    let p = accepted_passed program R e in
    let short : length program / 8 ≤ 2 ^ 64 = omega (arith, length_short (length program) p.good_length) in
    comes_answer program rec p.good_length (rw l p.good_record)
    (followed_ends program rec bytes short (rw l p.good_values))
