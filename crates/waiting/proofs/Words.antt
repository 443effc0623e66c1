-- How scratch memory holds values and states: what is read after it is written, and what equal words hold.
use Prim.Native.Nat.{ℕ, zero, suc, ◌+◌, ◌*◌, ◌≤◌, ◌<◌}
use mathlib.Core.Path.{◌≡◌, refl, sym, ap, ap₂, ◌∙◌, subst}
use mathlib.Core.Logic.{◌⊎◌, inl, inr, ⊎_elim}
use mathlib.Core.List.{List, ◌∷◌}
use lib.ListN.{length, get_or, set, length-set}
use lib.Seq.{get_or-set_same, get_or-set_other, ext_get_or}
use native.Mathlib.Omega.{arith}
use native.Mathlib.Nat.{eq-or-lt_of_le}
use Rattle.analysis.specs.declared.Gone.TheVariants.{Never}
use Rattle.analysis.specs.declared.Value.{Value}
use Rattle.analysis.specs.declared.Value.TheVariants.{Unusable}
use Rattle.analysis.specs.Values.{Facts}
use Rattle.waiting.specs.declared.value.Held.{Held}
use Rattle.waiting.specs.Layout.{value_words}
use Rattle.waiting.proofs.ByKind.{kind_of_its_word}
use Rattle.waiting.specs.State.{word_of, held_in, held_at, values_at, facts_at, Wrote, Holds, Stored}

-- ---- a value

-- the words m with five more written at `at`
abbrev pub written : List ℕ → ℕ → Held → List ℕ
written m at h =
    set (set (set (set (set m at (word_of h.kind)) (at + 1) h.number.bits.value) (at + 2) h.number.bits.mask) (at + 3) h.number.range.lo)
    (at + 4) h.number.range.hi

module _ (m : List ℕ) (at : ℕ) (h : Held) where
  m0 : List ℕ
  m0 = set m at (word_of h.kind)

  m1 : List ℕ
  m1 = set m0 (at + 1) h.number.bits.value

  m2 : List ℕ
  m2 = set m1 (at + 2) h.number.bits.mask

  m3 : List ℕ
  m3 = set m2 (at + 3) h.number.range.lo

  written_elsewhere : (i : ℕ) → (i < at) ⊎ (at + value_words ≤ i) → get_or (written m at h) i 0 ≡ get_or m i 0
  unfolding m0 m1 m2 m3
  written_elsewhere i apart =
      get_or-set_other m3 (at + 4) i h.number.range.hi 0 (⊎_elim (λ l e. omega arith) (λ l e. omega arith) apart)
      ∙ get_or-set_other m2 (at + 3) i h.number.range.lo 0 (⊎_elim (λ l e. omega arith) (λ l e. omega arith) apart)
      ∙ get_or-set_other m1 (at + 2) i h.number.bits.mask 0 (⊎_elim (λ l e. omega arith) (λ l e. omega arith) apart)
      ∙ get_or-set_other m0 (at + 1) i h.number.bits.value 0 (⊎_elim (λ l e. omega arith) (λ l e. omega arith) apart)
      ∙ get_or-set_other m at i (word_of h.kind) 0 (⊎_elim (λ l e. omega arith) (λ l e. omega arith) apart)

  module _ (fit : at + value_words ≤ length m) where
    word_0 : get_or (written m at h) at 0 ≡ word_of h.kind
    unfolding m0 m1 m2 m3
    word_0 =
        get_or-set_other m3 (at + 4) at h.number.range.hi 0 (omega arith)
        ∙ get_or-set_other m2 (at + 3) at h.number.range.lo 0 (omega arith)
        ∙ get_or-set_other m1 (at + 2) at h.number.bits.mask 0 (omega arith)
        ∙ get_or-set_other m0 (at + 1) at h.number.bits.value 0 (omega arith)
        ∙ get_or-set_same m at (word_of h.kind) 0 (omega arith)

    word_1 : get_or (written m at h) (at + 1) 0 ≡ h.number.bits.value
    unfolding m0 m1 m2 m3
    word_1 =
        get_or-set_other m3 (at + 4) (at + 1) h.number.range.hi 0 (omega arith)
        ∙ get_or-set_other m2 (at + 3) (at + 1) h.number.range.lo 0 (omega arith)
        ∙ get_or-set_other m1 (at + 2) (at + 1) h.number.bits.mask 0 (omega arith)
        ∙ get_or-set_same m0 (at + 1) h.number.bits.value 0 (simp length-set (omega arith))

    word_2 : get_or (written m at h) (at + 2) 0 ≡ h.number.bits.mask
    unfolding m0 m1 m2 m3
    word_2 =
        get_or-set_other m3 (at + 4) (at + 2) h.number.range.hi 0 (omega arith)
        ∙ get_or-set_other m2 (at + 3) (at + 2) h.number.range.lo 0 (omega arith)
        ∙ get_or-set_same m1 (at + 2) h.number.bits.mask 0 (simp length-set (omega arith))

    word_3 : get_or (written m at h) (at + 3) 0 ≡ h.number.range.lo
    unfolding m0 m1 m2 m3
    word_3 =
        get_or-set_other m3 (at + 4) (at + 3) h.number.range.hi 0 (omega arith)
        ∙ get_or-set_same m2 (at + 3) h.number.range.lo 0 (simp length-set (omega arith))

    word_4 : get_or (written m at h) (at + 4) 0 ≡ h.number.range.hi
    unfolding m0 m1 m2 m3
    word_4 = get_or-set_same m3 (at + 4) h.number.range.hi 0 (simp length-set (omega arith))

    written_here : held_at (written m at h) at ≡ h
    unfolding held_at
    written_here = rw (word_0, word_1, word_2, word_3, word_4, kind_of_its_word h.kind)

pub writing_five_words : (m : List ℕ) (at : ℕ) (h : Held) → at + value_words ≤ length m → Wrote m (written m at h) at h
writing_five_words m at h fit =
    record { size = simp length-set; held = written_here m at h fit; word = word_0 m at h fit; others = written_elsewhere m at h }

pub equal_words_hold_equal_values : (m m' : List ℕ) (a b : ℕ) → ((i : ℕ) → i < value_words → get_or m' (b + i) 0 ≡ get_or m (a + i) 0) → held_at m' b ≡ held_at m a
unfolding held_at
equal_words_hold_equal_values m m' a b h =
    rw (zeroth, h 1 (omega arith), h 2 (omega arith), h 3 (omega arith), h 4 (omega arith))
  where
    zeroth : get_or m' b 0 ≡ get_or m a 0
    zeroth = rw (let q : b + 0 ≡ b = omega arith in q, let q : a + 0 ≡ a = omega arith in q) at (h 0 (omega arith))

-- ---- a state

pub number_of_values : (k : ℕ) (m : List ℕ) (at : ℕ) → length (values_at k m at) ≡ k
unfolding values_at
number_of_values zero m at = refl
number_of_values (suc k) m at = ap suc (number_of_values k m (at + value_words))

pub value_of_a_state : (k : ℕ) (m : List ℕ) (at r : ℕ) → r < k → get_or (values_at k m at) r (Unusable Never) ≡ held_in (held_at m (at + value_words * r))
unfolding values_at
value_of_a_state zero m at r h = absurd (omega arith)
value_of_a_state (suc k) m at zero h = ap (λ x. held_in (held_at m x)) (omega arith)
value_of_a_state (suc k) m at (suc r) h = value_of_a_state k m (at + value_words) r (omega arith) ∙ ap (λ x. held_in (held_at m x)) (omega arith)

pub equal_words_hold_equal_states : (k : ℕ) (m m' : List ℕ) (a b : ℕ) → ((i : ℕ) → i < value_words * k → get_or m' (b + i) 0 ≡ get_or m (a + i) 0)
    → values_at k m' b ≡ values_at k m a
unfolding values_at
equal_words_hold_equal_states zero m m' a b h = refl
equal_words_hold_equal_states (suc k) m m' a b h =
    ap₂ (λ x y. x ∷ y)
    (ap held_in (equal_words_hold_equal_values m m' a b (λ i l. h i (omega arith))))
    (equal_words_hold_equal_states k m m' (a + 5) (b + 5) (λ i l. further i (h (5 + i) (omega arith))))
  where
    further : (i : ℕ) → get_or m' (b + (5 + i)) 0 ≡ get_or m (a + (5 + i)) 0 → get_or m' (b + 5 + i) 0 ≡ get_or m (a + 5 + i) 0
    further i e = subst (λ x. get_or m' x 0 ≡ get_or m (a + 5 + i) 0) (let q : b + (5 + i) ≡ b + 5 + i = omega arith in q)
        (subst (λ x. get_or m' (b + (5 + i)) 0 ≡ get_or m x 0) (let q : a + (5 + i) ≡ a + 5 + i = omega arith in q) e)

pub a_state_is_its_values : (m : List ℕ) (at : ℕ) (a : List Value) → length a ≡ 11
    → ((r : ℕ) → r < 11 → held_in (held_at m (at + value_words * r)) ≡ get_or a r (Unusable Never)) → values_at 11 m at ≡ a
a_state_is_its_values m at a l h =
    ext_get_or (Unusable Never) (values_at 11 m at) a (number_of_values 11 m at ∙ sym l)
    (λ r g. let k : r < 11 = rw (number_of_values 11 m at) at g in value_of_a_state 11 m at r k ∙ h r k)

-- the first k of eleven values of a are stored
pub record Storing (m m' : List ℕ) (at : ℕ) (a : List Value) (k : ℕ) : Type 0 where
  pub size : length m' ≡ length m
  pub few : k ≤ 11
  pub held : (r : ℕ) → r < k → held_in (held_at m' (at + value_words * r)) ≡ get_or a r (Unusable Never)
  pub others : (i : ℕ) → (i < at) ⊎ (at + value_words * k ≤ i) → get_or m' i 0 ≡ get_or m i 0

pub one_more_is_stored : (m m' m'' : List ℕ) (at : ℕ) (a : List Value) (k : ℕ) (v : Value) → k < 11 → get_or a k (Unusable Never) ≡ v
    → Storing m m' at a k → Holds m' m'' (at + value_words * k) v → Storing m m'' at a (k + 1)
one_more_is_stored m m' m'' at a k v l is h w = record {
  size = w.size ∙ h.size;
  few = omega arith;
  held = λ r g. ⊎_elim (λ (e : r ≡ k). here r e) (λ (g' : r < k). before r g') (eq-or-lt_of_le (let q : r ≤ k = omega arith in q));
  others = λ i g. w.others i (⊎_elim (λ x. inl (omega arith)) (λ x. inr (omega arith)) g)
      ∙ h.others i (⊎_elim (λ x. inl x) (λ x. inr (omega arith)) g);
}
  where
    here : (r : ℕ) → r ≡ k → held_in (held_at m'' (at + value_words * r)) ≡ get_or a r (Unusable Never)
    here r e = rw e (w.held ∙ sym is)

    before : (r : ℕ) → r < k → held_in (held_at m'' (at + value_words * r)) ≡ get_or a r (Unusable Never)
    before r g =
        ap held_in (equal_words_hold_equal_values m' m'' (at + value_words * r) (at + value_words * r) (λ i l. w.others (at + value_words * r + i) (inl (omega arith)))) ∙ h.held r g

pub all_is_stored : (m m' : List ℕ) (at : ℕ) (a : Facts) (k : ℕ) → length a.registers ≡ 11 → 11 ≤ k
    → Storing m m' at a.registers k → Stored m m' at a
unfolding facts_at
all_is_stored m m' at a k l all h = record {
  size = h.size;
  held = ap (λ x. record { registers = x }) (a_state_is_its_values m' at a.registers l (λ r g. h.held r (omega arith)));
  others = λ i g. h.others i (⊎_elim (λ x. inl x) (λ x. inr (let q = h.few in omega arith)) g);
}
