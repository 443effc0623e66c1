-- A program of good form without loads is accepted if and only if its layout-free run comes to a verdict: every number in it is exact, so
-- that the analysis follows that run and nothing else.
use mathlib.Core.Path.{◌≡◌, refl, sym, ap, ◌∙◌, subst}
use mathlib.Core.Bool.{Bool, true, false, cond}
use mathlib.Core.Logic.{◌↔◌, ◌⊎◌, inl, inr}
use mathlib.Core.List.{List}
use Prim.Native.Nat.{ℕ, zero, suc, ◌+◌, ◌/◌, ◌^◌, ◌≤◌, ◌<◌}
use native.Mathlib.Nat.{eq-or-lt_of_le, mod-eq_of_lt}
use native.Mathlib.Omega.{arith}
use lib.ListN.{length}
use lib.Dec.{eqb}
use borrow.Author.Tests.{eq-eqb, ne_eqb, lt-ltb}
use Rattle.std.specs.Prelude.{Option, Some, None}
use Rattle.analysis.specs.declared.Finding.TheVariants.{Accepted}
use Rattle.analysis.specs.declared.Effect.{Effect}
use Rattle.analysis.specs.declared.Effect.TheVariants.{Refuse, Put, Keep, Fork, Goto, Stop}
use Rattle.analysis.specs.Values.{Facts, start_facts, meeting}
use Rattle.analysis.specs.Effects.{effect}
use Rattle.analysis.specs.Form.{instruction, HasForm}
use Rattle.analysis.specs.Judged.{flows, along, apply, Waiting, nobody, arrive, onward, send, and_then, distribute, visit, conclude, pass, followed, on_paths, on_form, judged}
use Rattle.analysis.specs.Safe.{Bytes}
use Rattle.analysis.proofs.LayoutFree.{Config, Course, stuck, ends, goes, free, Comes, at_once, later, start_config}
use Rattle.analysis.proofs.Meaning.{Describes, Awaits}
use Rattle.analysis.proofs.Sound.{Follows}
use Rattle.analysis.proofs.SoundInstructions.{effect_follows}
use Rattle.analysis.proofs.Annotated.{instruction_words}
use Rattle.analysis.proofs.Refusing.{Lawful, effect_lawful, some_instruction}
use Rattle.analysis.proofs.FormLaws.{orderly_passes}
use Rattle.analysis.proofs.Paths.{connected_iff}
use Rattle.analysis.proofs.ExactEffects.{facts, Matches, is_load, effect_matches}
use Rattle.analysis.proofs.Theorem.{start_described, accepted_passed, followed_ends, length_short}

-- from index i on nothing waits but what c has, at its index
Alone : ℕ → Waiting → Config → Type 0
Alone i p c = (j : ℕ) → i ≤ j → p j ≡ cond (eqb j c.index) (Some (facts c)) None

-- nothing waits
Idle : ℕ → Waiting → Type 0
Idle i p = (j : ℕ) → i ≤ j → p j ≡ None

module _ (p : Waiting) (c : Config) (alone : Alone c.index p c) where
  alone_here : p c.index ≡ Some (facts c)
  unfolding Alone
  alone_here = alone c.index (omega arith) ∙ ap (λ b. cond b (Some (facts c)) None) (eq-eqb c.index c.index refl)

  idle_after : Idle (c.index + 1) p
  unfolding Alone Idle
  idle_after j l = alone j (omega arith) ∙ ap (λ b. cond b (Some (facts c)) None) (ne_eqb j c.index (λ e. omega arith))

nothing_yet : (i : ℕ) (p : Waiting) (c : Config) → i < c.index → Alone i p c → p i ≡ None
unfolding Alone
nothing_yet i p c l alone = alone i (omega arith) ∙ ap (λ b. cond b (Some (facts c)) None) (ne_eqb i c.index (λ e. omega arith))

later_alone : (i : ℕ) (p : Waiting) (c : Config) → Alone i p c → Alone (i + 1) p c
unfolding Alone
later_alone i p c alone j l = alone j (omega arith)

-- what arrives where nothing waits is alone
arrives_alone : (i : ℕ) (p : Waiting) → Idle i p → (c : Config) → i ≤ c.index → (a : Facts) → a ≡ facts c → Alone i (arrive p c.index a) c
unfolding Alone Idle arrive meeting
arrives_alone i p idle c l a e j m = go (eqb j c.index)
  where
    go : (b : Bool) → cond b (Some (meeting (p j) a)) (p j) ≡ cond b (Some (facts c)) None
    go true = ap Some (ap (λ w. meeting w a) (idle j m) ∙ e)
    go false = idle j m

module _ (program : List ℕ) (R : ℕ) (form : HasForm program R) (short : length program / 8 ≤ 2 ^ 64)
    (no_loads : (i : ℕ) → i < length program / 8 → is_load (instruction program i) ≡ false) (rec : List ℕ) (size : length rec ≡ R) (record_bytes : Bytes rec) where
  idle_accepted : (k i : ℕ) (p : Waiting) (work : ℕ) → Idle i p → (pass program R k i p work).finding ≡ Accepted
  unfolding pass visit conclude Idle
  idle_accepted zero i p work idle = refl
  idle_accepted (suc k) i p work idle = rw (idle i (omega arith)) (idle_accepted k (i + 1) p work (λ j l. idle j (omega arith)))

  skipped : (k i : ℕ) (p : Waiting) (work : ℕ) → p i ≡ None → (pass program R k (i + 1) p work).finding ≡ Accepted
      → (conclude (visit program R i p work (p i)) i (pass program R k (i + 1))).finding ≡ Accepted
  unfolding visit conclude
  skipped k i p work e h = rw e h

  -- what comes of one index, by the effect there
  abbrev Proceeds : Config → Waiting → ℕ → Effect → Course → Type 0
  Proceeds c p work e stuck = Unit {0}
  Proceeds c p work e (ends v) = (w : ℕ) × (distribute (length program / 8) c.index p work (apply (facts c) e) ≡ onward p w)
  Proceeds c p work e (goes c') = c'.index < length program / 8
      → (q : Waiting) × (w : ℕ) × (distribute (length program / 8) c.index p work (apply (facts c) e) ≡ onward q w) × (c.index < c'.index) × Alone (c.index + 1) q c'

  -- facts that come to the next index, or to a target, and nothing else
  goes_on_lem : (c c' : Config) (p : Waiting) (work : ℕ) (next : Option Facts) (target : ℕ) → Idle (c.index + 1) p → c'.index ≡ c.index + 1 → next ≡ Some (facts c')
      → c'.index < length program / 8
      → (q : Waiting) × (w : ℕ) × (distribute (length program / 8) c.index p work (flows next None target) ≡ onward q w) × (c.index < c'.index) × Alone (c.index + 1) q c'
  unfolding distribute and_then send
  goes_on_lem c c' p work next target idle e f l = (
    arrive p c'.index (facts c'),
    work + 11,
    rw f (rw (sym e) (rw (lt-ltb c'.index (length program / 8) l) refl)),
    omega (arith, e),
    arrives_alone (c.index + 1) p idle c' (omega (arith, e)) (facts c') refl,
  )

  goes_there : (c c' : Config) (p : Waiting) (work : ℕ) (there : Option Facts) (target : ℕ) → Idle (c.index + 1) p → c'.index ≡ target → c.index < target
      → there ≡ Some (facts c') → c'.index < length program / 8
      → (q : Waiting) × (w : ℕ) × (distribute (length program / 8) c.index p work (flows None there target) ≡ onward q w) × (c.index < c'.index) × Alone (c.index + 1) q c'
  unfolding distribute and_then send
  goes_there c c' p work there target idle e m f l = (
    arrive p c'.index (facts c'),
    work + 11,
    rw f (rw (sym e) (rw (lt-ltb c'.index (length program / 8) l) refl)),
    omega (arith, e, m),
    arrives_alone (c.index + 1) p idle c' (omega (arith, e, m)) (facts c') refl,
  )

  proceeds : (c : Config) (p : Waiting) (work : ℕ) (e : Effect) (o : Course) → Idle (c.index + 1) p → Lawful (length program / 8) c.index e
      → Matches c e o → Proceeds c p work e o
  unfolding apply distribute and_then send
  proceeds c p work (Refuse reason) stuck idle law m = tt
  proceeds c p work (Refuse reason) (ends v) idle law m = absurd m
  proceeds c p work (Refuse reason) (goes c') idle law m = absurd m
  proceeds c p work (Put d v) stuck idle law m = tt
  proceeds c p work (Put d v) (ends u) idle law m = absurd m
  proceeds c p work (Put d v) (goes c') idle law m = λ l. goes_on_lem c c' p work _ 0 idle m.0 (ap Some m.1) l
  proceeds c p work Keep stuck idle law m = tt
  proceeds c p work Keep (ends u) idle law m = absurd m
  proceeds c p work Keep (goes c') idle law m = λ l. goes_on_lem c c' p work _ 0 idle m.0 (ap Some m.1) l
  proceeds c p work (Fork d s o t target) stuck idle law m = tt
  proceeds c p work (Fork d s o t target) (ends u) idle law m = absurd m
  proceeds c p work (Fork d s o t target) (goes c') idle law (inl m) = λ l. rw m.2 (goes_on_lem c c' p work (along (facts c) d s o) target idle m.0 m.1 l)
  proceeds c p work (Fork d s o t target) (goes c') idle law (inr m) =
      λ l. rw m.1 (goes_there c c' p work (along (facts c) d s t) target idle (m.0 ∙ mod-eq_of_lt (omega (arith, law.1, short))) law.2 m.2 l)
  proceeds c p work (Goto target) stuck idle law m = tt
  proceeds c p work (Goto target) (ends u) idle law m = absurd m
  proceeds c p work (Goto target) (goes c') idle law m =
      λ l. goes_there c c' p work (Some (facts c)) target idle (m.0 ∙ mod-eq_of_lt (omega (arith, law.0, short))) law.1 (ap Some m.1) l
  proceeds c p work Stop stuck idle law m = tt
  proceeds c p work Stop (ends u) idle law m = (work, refl)
  proceeds c p work Stop (goes c') idle law m = absurd m

  -- the facts that are sent describe what they are sent for
  sent_described : (c c' : Config) (e : Effect) → Matches c e (goes c') → Follows c.index (apply (facts c) e) (goes c') → Describes (facts c') c'
  unfolding apply
  sent_described c c' (Refuse reason) m f = absurd m
  sent_described c c' (Put d v) m (inl f) = subst (λ a. Describes a c') m.1 f.1
  sent_described c c' (Put d v) m (inr f) = absurd f.2
  sent_described c c' Keep m (inl f) = subst (λ a. Describes a c') m.1 f.1
  sent_described c c' Keep m (inr f) = absurd f.2
  sent_described c c' (Fork d s o t target) (inl m) (inl f) = subst (λ w. Awaits w c') m.1 f.1
  sent_described c c' (Fork d s o t target) (inl m) (inr f) = absurd (subst (λ w. Awaits w c') m.2 f.2)
  sent_described c c' (Fork d s o t target) (inr m) (inl f) = absurd (subst (λ w. Awaits w c') m.1 f.1)
  sent_described c c' (Fork d s o t target) (inr m) (inr f) = subst (λ w. Awaits w c') m.2 f.2
  sent_described c c' (Goto target) m (inl f) = absurd f.1
  sent_described c c' (Goto target) m (inr f) = subst (λ a. Describes a c') m.1 f.2
  sent_described c c' Stop m f = absurd m

  -- ---- the pass follows the run

  module _ (c : Config) (inside : c.index < length program / 8) (described : Describes (facts c) c) where
    matches : (o : Course) → free rec c (instruction program c.index) ≡ o → Matches c (effect R c.index (facts c) (instruction program c.index)) o
    matches o e =
        subst (Matches c (effect R c.index (facts c) (instruction program c.index))) e
        (effect_matches R rec c described (instruction program c.index) (instruction_words program c.index) (no_loads c.index inside))

    follows : (o : Course) → free rec c (instruction program c.index) ≡ o
        → Follows c.index (apply (facts c) (effect R c.index (facts c) (instruction program c.index))) o
    follows o e =
        subst (Follows c.index (apply (facts c) (effect R c.index (facts c) (instruction program c.index)))) e
        (subst (λ r. Follows c.index (apply (facts c) (effect r c.index (facts c) (instruction program c.index))) (free rec c (instruction program c.index))) size
        (effect_follows (facts c) c described rec record_bytes (instruction program c.index) (instruction_words program c.index)))

    lawful : Lawful (length program / 8) c.index (effect R c.index (facts c) (instruction program c.index))
    lawful = effect_lawful (length program / 8) c.index R (facts c) (instruction program c.index) inside (form.orderly.fine c.index inside)

  comes_inside : {c : Config} {v m : ℕ} {left : ℕ → List ℕ} → Comes program rec c v m left → c.index < length program / 8
  comes_inside (at_once l e) = l
  comes_inside (later c' l e r) = l

  -- whatever waits later, alone and described, is accepted
  abbrev Later : ℕ → ℕ → Type 0
  Later k i = (q : Waiting) (w : ℕ) (c : Config) (v m : ℕ) (left : ℕ → List ℕ) → i ≤ c.index → Alone i q c → Describes (facts c) c → Comes program rec c v m left
      → (pass program R k i q w).finding ≡ Accepted

  step_accepted : (k : ℕ) (p : Waiting) (work : ℕ) (c : Config) (v m : ℕ) (left : ℕ → List ℕ) → Alone c.index p c → Describes (facts c) c → Comes program rec c v m left
      → Later k (c.index + 1) → (conclude (visit program R c.index p work (p c.index)) c.index (pass program R k (c.index + 1))).finding ≡ Accepted
  unfolding visit conclude
  step_accepted k p work c v m left alone d (at_once l e) more =
      let t = proceeds c p (work + 1) (effect R c.index (facts c) (instruction program c.index)) (ends v) (idle_after p c alone) (lawful c l d) (matches c l d (ends v) e) in
      rw (alone_here p c alone) (rw t.1 (idle_accepted k (c.index + 1) p t.0 (idle_after p c alone)))
  step_accepted k p work c v m left alone d (later c' l e r) more =
      let t = proceeds c p (work + 1) (effect R c.index (facts c) (instruction program c.index)) (goes c') (idle_after p c alone) (lawful c l d) (matches c l d (goes c') e) (comes_inside r) in
      rw (alone_here p c alone) (rw t.2
      (more t.0 t.1 c' _ _ _ (omega (arith, t.3)) t.4 (sent_described c c' (effect R c.index (facts c) (instruction program c.index)) (matches c l d (goes c') e) (follows c l d (goes c') e)) r))

  run_accepted : (k i : ℕ) → i + k ≡ length program / 8 → Later k i
  unfolding pass
  run_accepted zero i e p work c v m left l alone d r = absurd (omega (arith, comes_inside r))
  run_accepted (suc k) i e p work c v m left l alone d r = go (run_accepted k (i + 1) (omega arith)) (eq-or-lt_of_le l)
    where
      go : Later k (i + 1) → (i ≡ c.index) ⊎ (i < c.index) → (conclude (visit program R i p work (p i)) i (pass program R k (i + 1))).finding ≡ Accepted
      go more (inl q) =
          subst (λ j. (conclude (visit program R j p work (p j)) j (pass program R k (j + 1))).finding ≡ Accepted) (sym q)
          (step_accepted k p work c v m left (subst (λ j. Alone j p c) q alone) d r (subst (λ j. Later k (j + 1)) q more))
      go more (inr q) = skipped k i p work (nothing_yet i p c q alone) (more p work c v m left (omega arith) (later_alone i p c alone) d r)

-- ---- the theorem

module _ (program : List ℕ) (R : ℕ) (form : HasForm program R) (no_loads : (i : ℕ) → i < length program / 8 → is_load (instruction program i) ≡ false)
    (rec : List ℕ) (size : length rec ≡ R) (record_bytes : Bytes rec) where
  short : length program / 8 ≤ 2 ^ 64
  short = omega (arith, length_short (length program) form.orderly.good_length)

  comes_followed : (v m : ℕ) (left : ℕ → List ℕ) → Comes program rec start_config v m left → (followed program R).finding ≡ Accepted
  unfolding followed conclude send start_config start_facts Idle nobody
  comes_followed v m left r =
      rw (lt-ltb 0 (length program / 8) (some_instruction program R form))
      (run_accepted program R form short no_loads rec size record_bytes (length program / 8) 0 (omega arith) (arrive nobody 0 start_facts) _ start_config v m left (omega arith)
      (arrives_alone 0 nobody (λ j l. refl) start_config (omega arith) start_facts refl) start_described r)

  -- accepted: the run comes to a verdict; and the other way round
  pub accepted_iff_the_run_ends : ((judged program R).finding ≡ Accepted) ↔ ((v : ℕ) × (k : ℕ) × (left : ℕ → List ℕ) × Comes program rec start_config v k left)
  unfolding judged on_form on_paths
  accepted_iff_the_run_ends = (
    λ e. let w = followed_ends program rec record_bytes short (rw size (accepted_passed program R e).good_values) in (w.verdict, w.steps, w.left, w.comes),
    λ r. rw (form.orderly.good_length, form.orderly.good_record, orderly_passes program R form.orderly, (connected_iff program).1 form.all_reached) (comes_followed r.0 r.1 r.2 r.3),
  )
