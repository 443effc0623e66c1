-- The layouts that Safe speaks of are those that the interpreter does not refuse.
use mathlib.Core.Path.{◌≡◌, refl, sym, ap, ◌∙◌}
use mathlib.Core.Bool.{Bool, true, false, not, ◌&&◌, ◌||◌, true≢false}
use mathlib.Core.Logic.{◌↔◌, ◌⊎◌, inl, inr}
use mathlib.Core.List.{List}
use Prim.Native.Nat.{ℕ, ◌+◌, ◌%◌, ◌^◌, ◌≤◌, ◌<◌}
use native.Mathlib.Omega.{arith}
use lib.ListN.{length}
use lib.Dec.{eqb, ltb}
use borrow.Author.Tests.{ltb-false, eqb-true, not-false, lt-ltb}
use Rattle.machine.specs.declared.outcome.Outcome.TheVariants.{Refused}
use Rattle.machine.specs.Machine.{bad_program, bad_record, bad_stack, bad_address, overlap, refused, interpreted}
use Rattle.machine.proofs.Refusals.{Broken, program_empty, program_ragged, program_too_long, record_too_long, stack_not_512, record_too_low, record_too_high, stack_too_low, stack_too_high, record_in_stack, refused_broken}
use Rattle.analysis.specs.Safe.{Allowed}
use Rattle.analysis.proofs.Tests.{or_left, or_right}

-- ---- what the tests that are passed say

address_bounds : (a : ℕ) → bad_address a ≡ false → (2 ^ 16 ≤ a) × (a ≤ 2 ^ 47)
unfolding bad_address
address_bounds a e = (ltb-false _ _ (or_left _ _ e), ltb-false _ _ (or_right (ltb a (2 ^ 16)) _ e))

no_overlap_apart : (P R S : ℕ) → overlap P R S ≡ false → (R ≡ 0) ⊎ ((P + R ≤ S) ⊎ (S + 512 ≤ P))
unfolding overlap
no_overlap_apart P R S e = go (ltb 0 R) refl (ltb P (S + 512)) refl (ltb S (P + R)) refl e
  where
    go : (a : Bool) → ltb 0 R ≡ a → (b : Bool) → ltb P (S + 512) ≡ b → (c : Bool) → ltb S (P + R) ≡ c → (a && b && c) ≡ false → (R ≡ 0) ⊎ ((P + R ≤ S) ⊎ (S + 512 ≤ P))
    go false p b q c r h = inl (let l : R ≤ 0 = ltb-false 0 R p in omega arith)
    go true p false q c r h = inr (inr (ltb-false _ _ q))
    go true p true q false r h = inr (inl (ltb-false _ _ r))
    go true p true q true r h = absurd (true≢false h)

stack_512 : (l : ℕ) → bad_stack l ≡ false → l ≡ 512
unfolding bad_stack
stack_512 l e = eqb-true _ _ (not-false _ e)

module _ (program rec stack : List ℕ) (P S : ℕ) where
  tests_allow : refused (length program) (length rec) (length stack) P S ≡ false → Allowed program rec stack P S
  unfolding refused
  tests_allow e =
      let e1 = or_left _ _ e in
      let e2 = or_left _ _ e1 in
      let e3 = or_left _ _ e2 in
      let e4 = or_left _ _ e3 in
      let p = address_bounds P (or_right (bad_program (length program) || bad_record (length rec) || bad_stack (length stack)) _ e2) in
      let s = address_bounds S (or_right (bad_program (length program) || bad_record (length rec) || bad_stack (length stack) || bad_address P) _ e1) in
      record {
        good_length = or_left _ _ e4;
        good_record = or_right (bad_program (length program)) _ e4;
        world = record {
          P = P;
          S = S;
          before = stack;
          record_low = p.0;
          record_high = p.1;
          stack_low = s.0;
          stack_high = s.1;
          apart = no_overlap_apart P (length rec) S
              (or_right (bad_program (length program) || bad_record (length rec) || bad_stack (length stack) || bad_address P || bad_address S) _ e);
          stack_size = stack_512 (length stack) (or_right (bad_program (length program) || bad_record (length rec)) _ e3);
        };
        same_P = refl;
        same_S = refl;
        same_stack = refl;
      }

  bad_length : (l : ℕ) → (l ≡ 0) ⊎ ((l % 8 ≡ 0 → ⊥) ⊎ (32768 < l)) → bad_program l ≡ false → ⊥
  unfolding bad_program
  bad_length l (inl h) e = true≢false (sym (ap (λ m. eqb m 0) h) ∙ or_left _ _ (or_left _ _ e))
  bad_length l (inr (inl h)) e = h (eqb-true _ _ (not-false _ (or_right (eqb l 0) _ (or_left _ _ e))))
  bad_length l (inr (inr h)) e = true≢false (sym (lt-ltb _ _ h) ∙ or_right (eqb l 0 || not (eqb (l % 8) 0)) _ e)

  long_record : (l : ℕ) → 1024 < l → bad_record l ≡ false → ⊥
  unfolding bad_record
  long_record l h e = true≢false (sym (lt-ltb _ _ h) ∙ e)

  allowed_unbroken : Allowed program rec stack P S → Broken program rec stack P S → ⊥
  allowed_unbroken a (program_empty h) = bad_length (length program) (inl h) a.good_length
  allowed_unbroken a (program_ragged h) = bad_length (length program) (inr (inl h)) a.good_length
  allowed_unbroken a (program_too_long h) = bad_length (length program) (inr (inr h)) a.good_length
  allowed_unbroken a (record_too_long h) = long_record (length rec) h a.good_record
  allowed_unbroken a (stack_not_512 h) = h (sym (ap length a.same_stack) ∙ a.world.stack_size)
  allowed_unbroken a (record_too_low h) = omega (arith, a.world.record_low, a.same_P)
  allowed_unbroken a (record_too_high h) = omega (arith, a.world.record_high, a.same_P)
  allowed_unbroken a (stack_too_low h) = omega (arith, a.world.stack_low, a.same_S)
  allowed_unbroken a (stack_too_high h) = omega (arith, a.world.stack_high, a.same_S)
  allowed_unbroken a (record_in_stack x p q r s) = go a.world.apart
    where
      go : (length rec ≡ 0) ⊎ ((a.world.P + length rec ≤ a.world.S) ⊎ (a.world.S + 512 ≤ a.world.P)) → ⊥
      go (inl h) = omega (arith, p, q, h)
      go (inr (inl h)) = omega (arith, p, q, r, s, h, a.same_P, a.same_S)
      go (inr (inr h)) = omega (arith, p, q, r, s, h, a.same_P, a.same_S)

  pub not_refused_iff_allowed : (budget : ℕ) → ((interpreted program rec P S stack budget).outcome ≡ Refused → ⊥) ↔ Allowed program rec stack P S
  unfolding interpreted
  not_refused_iff_allowed budget = (λ h. go (refused (length program) (length rec) (length stack) P S) refl h, λ a e. allowed_unbroken a (refused_broken program rec stack P S budget e))
    where
      go : (b : Bool) → refused (length program) (length rec) (length stack) P S ≡ b → ((interpreted program rec P S stack budget).outcome ≡ Refused → ⊥) → Allowed program rec stack P S
      go true e h = absurd (h (rw e refl))
      go false e h = tests_allow e
