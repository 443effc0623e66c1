-- The first half of the theorem: where the pass accepts, the facts that it settled on at each index are stable, and each step goes forward.
use mathlib.Core.Path.{◌≡◌, refl, sym, ap, ◌∙◌, subst}
use mathlib.Core.Bool.{Bool, true, false, cond}
use mathlib.Core.Logic.{inl, inr, ⊎_elim}
use mathlib.Core.List.{List}
use Prim.Native.Nat.{ℕ, zero, suc, ◌+◌, ◌-◌, ◌*◌, ◌/◌, ◌^◌, ◌≤◌, ◌<◌}
use native.Mathlib.Nat.{eq-or-lt_of_le, mod-eq_of_lt}
use native.Mathlib.Omega.{arith}
use lib.ListN.{length}
use lib.Dec.{eqb, ltb}
use borrow.Author.Tests.{eq-eqb, ne_eqb, ltb-true}
use Rattle.std.specs.Prelude.{Option, Some, None}
use Rattle.word.proofs.Extend.{extend_below}
use Rattle.machine.specs.declared.instruction.Operand.{Operand}
use Rattle.machine.specs.declared.instruction.Operand.TheVariants.{Immediate, Register}
use Rattle.machine.specs.declared.instruction.Instruction.{Instruction}
use Rattle.machine.specs.declared.instruction.Instruction.TheVariants.{Alu, Neg, Jump, Always, Exit, Load, Store, NoInstruction}
use Rattle.machine.specs.Instruction.{decode, fields, meaning}
use Rattle.machine.specs.Machine.{is_no_instruction}
use Rattle.machine.proofs.Proper.{Extended, ProperOperand, Proper}
use Rattle.machine.proofs.Meaning.{meaning_proper}
use Rattle.analysis.specs.declared.Reason.{Reason}
use Rattle.analysis.specs.declared.Reason.TheVariants.{JumpsOut}
use Rattle.analysis.specs.declared.Finding.{Finding}
use Rattle.analysis.specs.declared.Finding.TheVariants.{Accepted, Refused}
use Rattle.analysis.specs.Values.{Facts, meeting}
use Rattle.analysis.specs.Effects.{effect}
use Rattle.analysis.specs.Form.{instruction}
use Rattle.analysis.specs.Judged.{Flow, refuses, flows, apply, Waiting, arrive, Progress, halted, onward, send, and_then, distribute, visit, Walk, conclude, pass}
use Rattle.analysis.specs.Safe.{Bytes}
use Rattle.analysis.proofs.Literal.{conclude_halted, conclude_onward}
use Rattle.analysis.proofs.LayoutFree.{Config, Course, stuck, ends, goes, free}
use Rattle.analysis.proofs.Meaning.{Describes, Awaits, meeting_covers_waiting, meeting_covers_coming}
use Rattle.analysis.proofs.Sound.{WordOperand, Words, Follows}
use Rattle.analysis.proofs.SoundInstructions.{effect_follows}
use Rattle.analysis.proofs.Stable.{Into, Stable, Falls}

-- ---- what an instruction holds is of 64 bits

proper_word : (s : Operand) → ProperOperand s → WordOperand s
proper_word (Immediate n) h = subst (λ m. m < 2 ^ 64) h (extend_below 32 (omega arith) (omega arith) n)
proper_word (Register r) h = tt

off_word : (off : ℕ) → Extended 16 off → off < 2 ^ 64
off_word off h = subst (λ m. m < 2 ^ 64) h (extend_below 16 (omega arith) (omega arith) off)

proper_words : (ins : Instruction) → (is_no_instruction ins ≡ false → Proper ins) → Words ins
unfolding is_no_instruction
proper_words (Alu w op d s) h = proper_word s (h refl).2
proper_words (Neg w d) h = tt
proper_words (Jump w k d s off) h = proper_word s (h refl).1
proper_words (Always off) h = tt
proper_words Exit h = tt
proper_words (Load z d s off) h = off_word off (h refl).2
proper_words (Store z d off s) h = (off_word off (h refl).2, proper_word s (h refl).1)
proper_words NoInstruction h = tt

pub instruction_words : (program : List ℕ) (i : ℕ) → Words (instruction program i)
unfolding instruction decode
instruction_words program i = proper_words (meaning (fields program (i * 8))) (meaning_proper (fields program (i * 8)))

-- ---- what waits

-- nothing that was awaited is forgotten
abbrev pub Grows : Waiting → Waiting → Type 0
Grows p q = (x : ℕ) (c : Config) → Awaits (p x) c → Awaits (q x) c

-- G holds of what waits then, unless the program is refused
abbrev pub Unless : Progress → (Waiting → Type 0) → Type 0
Unless (halted reason p work) G = Unit {0}
Unless (onward q work) G = G q

arrive_grows : (p : Waiting) (j : ℕ) (a : Facts) → Grows p (arrive p j a)
unfolding arrive
arrive_grows p j a x c h = go (eqb x j)
  where
    go : (b : Bool) → Awaits (cond b (Some (meeting (p x) a)) (p x)) c
    go true = meeting_covers_waiting (p x) a c h
    go false = h

arrive_awaits : (p : Waiting) (j : ℕ) (a : Facts) (c : Config) → Describes a c → Awaits (arrive p j a j) c
unfolding arrive
arrive_awaits p j a c h = rw (eq-eqb j j refl) (meeting_covers_coming (p j) a c h)

-- j is one of the n indices, and what o describes is awaited there
abbrev Sent : ℕ → ℕ → Option Facts → Waiting → Type 0
Sent n j o q = (c : Config) → Awaits o c → (j < n) × Awaits (q j) c

pub send_sends : (n j : ℕ) (o : Option Facts) (p : Waiting) (work : ℕ) → Unless (send n j o p work) (λ q. Grows p q × Sent n j o q)
unfolding send
send_sends n j None p work = (λ x c h. h, λ c h. absurd h)
send_sends n j (Some a) p work = go (ltb j n) refl
  where
    go : (b : Bool) → ltb j n ≡ b → Unless (cond b (onward (arrive p j a) (work + 11)) (halted JumpsOut p work)) (λ q. Grows p q × Sent n j (Some a) q)
    go true e = (arrive_grows p j a, λ c h. (ltb-true _ _ e, arrive_awaits p j a c h))
    go false e = tt

distribute_sends : (n i : ℕ) (p : Waiting) (work : ℕ) (next there : Option Facts) (target : ℕ)
    → Unless (distribute n i p work (flows next there target)) (λ q. Grows p q × Sent n (i + 1) next q × Sent n target there q)
unfolding distribute and_then
distribute_sends n i p work next there target = go (send n (i + 1) next p work) (send_sends n (i + 1) next p work)
  where
    two : (q : Waiting) → Grows p q → Sent n (i + 1) next q → (r : Progress) → Unless r (λ u. Grows q u × Sent n target there u)
        → Unless r (λ u. Grows p u × Sent n (i + 1) next u × Sent n target there u)
    two q g s (halted reason v k) h = tt
    two q g s (onward u k) h = (λ x c m. h.0 x c (g x c m), λ c m. ((s c m).0, h.0 (i + 1) c (s c m).1), h.1)

    go : (r : Progress) → Unless r (λ q. Grows p q × Sent n (i + 1) next q)
        → Unless (and_then r (send n target there)) (λ q. Grows p q × Sent n (i + 1) next q × Sent n target there q)
    go (halted reason u k) h = tt
    go (onward q k) h = two q h.0 h.1 (send n target there q k) (send_sends n target there q k)

abbrev IsRefused : Finding → Type 0
IsRefused Accepted = ⊥
IsRefused (Refused reason place) = Unit {0}

pub refused_not_accepted : (reason : Reason) (place : ℕ) → Refused reason place ≡ Accepted → ⊥
refused_not_accepted reason place e = subst IsRefused e tt

pub accepted_onward : (r : Progress) (i : ℕ) (more : Waiting → ℕ → Walk) (G : Waiting → Type 0) → Unless r G → (conclude r i more).finding ≡ Accepted
    → (q : Waiting) × (work : ℕ) × G q × ((more q work).finding ≡ Accepted)
accepted_onward (halted reason p work) i more G h e =
    absurd (refused_not_accepted reason i (sym (ap (λ (w : Walk). w.finding) (conclude_halted reason p work i more)) ∙ e))
accepted_onward (onward q work) i more G h e = (q, work, h, sym (ap (λ (w : Walk). w.finding) (conclude_onward q work i more)) ∙ e)

module _ (program rec : List ℕ) (record_bytes : Bytes rec) (short : length program / 8 ≤ 2 ^ 64) where
  -- a step from index i that is not stuck, and ends, or goes on to a later index, where it is awaited
  unfoldable pub Moves : ℕ → Waiting → Course → Type 0
  Moves i q stuck = ⊥
  Moves i q (ends v) = Unit {0}
  Moves i q (goes c) = (i < c.index) × (c.index < length program / 8) × Awaits (q c.index) c

  moved : (i : ℕ) (next there : Option Facts) (target : ℕ) (q : Waiting) → Sent (length program / 8) (i + 1) next q → Sent (length program / 8) target there q
      → (o : Course) → Follows i (flows next there target) o → Moves i q o
  unfolding Moves
  moved i next there target q a b stuck h = h
  moved i next there target q a b (ends v) h = tt
  moved i next there target q a b (goes c) (inl h) =
      let s = a c h.1 in
      subst (λ j. (i < j) × (j < length program / 8) × Awaits (q j) c) (sym h.0) (omega arith, s.0, s.1)
  moved i next there target q a b (goes c) (inr h) =
      let s = b c h.2 in
      let e : c.index ≡ target = h.1 ∙ mod-eq_of_lt (omega (arith, s.0, short)) in
      subst (λ j. (i < j) × (j < length program / 8) × Awaits (q j) c) (sym e) (h.0, s.0, s.1)

  abbrev Visited : ℕ → Waiting → Option Facts → Waiting → Type 0
  Visited i p w q = Grows p q × ((c : Config) → c.index ≡ i → Awaits w c → Moves i q (free rec c (instruction program i)))

  distribute_moves : (i : ℕ) (p : Waiting) (work : ℕ) (a : Facts) (f : Flow)
      → ((c : Config) → c.index ≡ i → Describes a c → Follows i f (free rec c (instruction program i)))
      → Unless (distribute (length program / 8) i p work f) (Visited i p (Some a))
  unfolding distribute
  distribute_moves i p work a (refuses reason) h = tt
  distribute_moves i p work a (flows next there target) h =
      go (distribute (length program / 8) i p work (flows next there target)) (distribute_sends (length program / 8) i p work next there target)
    where
      go : (r : Progress) → Unless r (λ q. Grows p q × Sent (length program / 8) (i + 1) next q × Sent (length program / 8) target there q) → Unless r (Visited i p (Some a))
      go (halted reason u k) s = tt
      go (onward q k) s = (s.0, λ c e d. moved i next there target q s.1 s.2 (free rec c (instruction program i)) (h c e d))

  visit_moves : (i : ℕ) (p : Waiting) (work : ℕ) (w : Option Facts) → Unless (visit program (length rec) i p work w) (Visited i p w)
  unfolding visit
  visit_moves i p work None = (λ x c h. h, λ c e h. absurd h)
  visit_moves i p work (Some a) =
      distribute_moves i p (work + 1) a (apply a (effect (length rec) i a (instruction program i)))
      (λ c e d. subst (λ j. Follows j (apply a (effect (length rec) j a (instruction program i))) (free rec c (instruction program i))) e
      (effect_follows a c d rec record_bytes (instruction program i) (instruction_words program i)))

  -- ---- the facts settled on
  Ahead : ℕ → Waiting → Type 0
  Ahead i facts = (c : Config) → i ≤ c.index → c.index < length program / 8 → Awaits (facts c.index) c → Moves c.index facts (free rec c (instruction program c.index))

  -- what waits from index i on has been settled on, and is stable from there
  Annotated : ℕ → Waiting → Type 0
  Annotated i p = (facts : Waiting) × ((x : ℕ) (c : Config) → i ≤ x → Awaits (p x) c → Awaits (facts x) c) × Ahead i facts

  moves_on : (i : ℕ) (p q : Waiting) (o : Course) → ((x : ℕ) (c : Config) → i < x → Awaits (p x) c → Awaits (q x) c) → Moves i p o → Moves i q o
  unfolding Moves
  moves_on i p q stuck f h = h
  moves_on i p q (ends v) f h = tt
  moves_on i p q (goes c) f h = (h.0, h.1, f c.index c h.0 h.2)

  with_at : ℕ → Option Facts → Waiting → Waiting
  with_at i w facts = λ x. cond (eqb x i) w (facts x)

  at_same : (i : ℕ) (w : Option Facts) (facts : Waiting) → with_at i w facts i ≡ w
  unfolding with_at
  at_same i w facts = rw (eq-eqb i i refl) refl

  at_later : (i : ℕ) (w : Option Facts) (facts : Waiting) (x : ℕ) → i < x → with_at i w facts x ≡ facts x
  unfolding with_at
  at_later i w facts x l = rw (ne_eqb x i (λ e. omega arith)) refl

  -- one index more is settled
  settle : (i : ℕ) (p q : Waiting) → Visited i p (p i) q → Annotated (i + 1) q → Annotated i p
  unfolding Annotated Ahead
  settle i p q v w = (facts, covers, ahead)
    where
      facts : Waiting
      facts = with_at i (p i) w.0

      covers : (x : ℕ) (c : Config) → i ≤ x → Awaits (p x) c → Awaits (facts x) c
      covers x c l h =
          ⊎_elim (λ (e : i ≡ x). subst (λ y. Awaits (facts y) c) e (rw (at_same i (p i) w.0) (rw e h)))
          (λ (m : i < x). rw (at_later i (p i) w.0 x m) (w.1 x c (omega arith) (v.0 x c h))) (eq-or-lt_of_le l)

      -- what the later indices settled on covers what waited there
      grown : (x : ℕ) (c : Config) → i < x → Awaits (q x) c → Awaits (facts x) c
      grown x c l h = rw (at_later i (p i) w.0 x l) (w.1 x c (omega arith) h)

      ahead : (c : Config) → i ≤ c.index → c.index < length program / 8 → Awaits (facts c.index) c → Moves c.index facts (free rec c (instruction program c.index))
      ahead c l m h =
          ⊎_elim (λ (e : i ≡ c.index).
          subst (λ y. Moves y facts (free rec c (instruction program y))) e
          (moves_on i q facts (free rec c (instruction program i)) grown (v.1 c (sym e) (subst (λ u. Awaits u c) (ap facts (sym e) ∙ at_same i (p i) w.0) h))))
          (λ (k : i < c.index).
          moves_on c.index w.0 facts (free rec c (instruction program c.index))
          (λ x b g u. rw (at_later i (p i) w.0 x (let z : i < x = omega arith in z)) u)
          (w.2 c (omega arith) m (subst (λ u. Awaits u c) (at_later i (p i) w.0 c.index k) h))) (eq-or-lt_of_le l)

  pass_annotated : (k i : ℕ) → i + k ≡ length program / 8 → (p : Waiting) (work : ℕ) → (pass program (length rec) k i p work).finding ≡ Accepted → Annotated i p
  unfolding pass Annotated Ahead
  pass_annotated zero i m p work e = (p, λ x c l h. h, λ c l b h. absurd (omega arith))
  pass_annotated (suc k) i m p work e =
      let t = accepted_onward (visit program (length rec) i p work (p i)) i (pass program (length rec) k (i + 1)) (Visited i p (p i)) (visit_moves i p work (p i)) e in
      settle i p t.0 t.2 (pass_annotated k (i + 1) (omega arith) t.0 t.1 t.3)

  into_of : (facts : Waiting) (i : ℕ) (o : Course) → Moves i facts o → Into program rec facts o
  unfolding Moves
  into_of facts i stuck h = h
  into_of facts i (ends v) h = tt
  into_of facts i (goes c) h = (h.1, h.2)

  forward_of : (facts : Waiting) (c c' : Config) → Moves c.index facts (goes c') → length program / 8 - (c'.index + 1) < length program / 8 - (c.index + 1)
  unfolding Moves
  forward_of facts c c' h = omega (arith, h.0, h.1)

  -- ---- the first half
  pub record Settled (p : Waiting) : Type 0 where
    pub facts : Waiting
    pub covers : (c : Config) → Awaits (p 0) c → Awaits (facts 0) c
    pub stable : Stable program rec facts
    pub falls : Falls program rec facts (λ c. length program / 8 - (c.index + 1))

  pub accepted_settled : (p : Waiting) (work : ℕ) → (pass program (length rec) (length program / 8) 0 p work).finding ≡ Accepted → Settled p
  unfolding Annotated Ahead
  accepted_settled p work e =
      let w : Annotated 0 p = pass_annotated (length program / 8) 0 (omega arith) p work e in
      record {
        facts = w.0;
        covers = λ c h. w.1 0 c (omega arith) h;
        stable = λ c l h. into_of w.0 c.index (free rec c (instruction program c.index)) (w.2 c (omega arith) l h);
        falls = λ c c' l h g. forward_of w.0 c c' (subst (Moves c.index w.0) g (w.2 c (omega arith) l h));
      }
