-- States in words: a register is read and changed, a state is copied, two are joined.
use Prim.Native.Nat.{ℕ, zero, suc, ◌+◌, ◌*◌, ◌≤◌, ◌<◌}
use mathlib.Core.Path.{◌≡◌, refl, sym, ap, ap₂, ◌∙◌, subst}
use mathlib.Core.Bool.{Bool, true, false}
use mathlib.Core.Logic.{◌⊎◌, inl, inr, ⊎_elim}
use mathlib.Core.List.{List, [], ◌∷◌}
use lib.ListN.{length, get_or, set, replicate, length-set}
use lib.Seq.{get_or-set_same, get_or-set_other}
use lib.Dec.{ltb, eqb}
use native.Mathlib.Omega.{arith}
use native.Mathlib.Nat.{eq-or-lt_of_le}
use Rattle.std.proofs.lemmas.List.{get_or-replicate, length-replicate}
use borrow.Author.Tests.{eqb-true, eqb-false, ltb-true, ltb-false}
use Rattle.number.specs.declared.Number.{Number}
use Rattle.number.specs.Sharpen.{exact, just}
use Rattle.analysis.specs.declared.Region.TheVariants.{Record, Stack}
use Rattle.analysis.specs.declared.Gone.TheVariants.{Never}
use Rattle.analysis.specs.declared.Value.{Value}
use Rattle.analysis.specs.declared.Value.TheVariants.{Unusable, Plain, Address}
use Rattle.analysis.specs.Values.{Facts, value_of, start_facts, joined_value, joined_values, joined_facts}
use Rattle.analysis.specs.Judged.{having}
use Rattle.waiting.specs.declared.value.Held.{Held}
use Rattle.waiting.specs.declared.value.Kind.TheVariants as kind
use Rattle.waiting.specs.State.{kind_of, of_kind, held_in, held_at, values_at, facts_at, nothing_known, Holds, Changed, PutBack, Stored}
use Rattle.waiting.specs.Layout.{value_words, state_words}
use Rattle.waiting.proofs.Parts.{Replaced}
use Rattle.waiting.proofs.Words.{equal_words_hold_equal_values, number_of_values, value_of_a_state, equal_words_hold_equal_states, a_state_is_its_values, Storing, one_more_is_stored}

-- ---- a register of a state

pub register_in_range : (m : List ℕ) (at r : ℕ) → r < 11 → value_of (facts_at m at) r ≡ held_in (held_at m (at + value_words * r))
unfolding value_of facts_at
register_in_range m at r l = value_of_a_state 11 m at r l

beyond_a_list : (a : List Value) (r : ℕ) → length a ≤ r → get_or a r (Unusable Never) ≡ Unusable Never
beyond_a_list [] r l = refl
beyond_a_list (x ∷ a) zero l = absurd (omega arith)
beyond_a_list (x ∷ a) (suc r) l = beyond_a_list a r (omega arith)

pub register_out_of_range : (m : List ℕ) (at r : ℕ) → 11 ≤ r → value_of (facts_at m at) r ≡ Unusable Never
unfolding value_of facts_at
register_out_of_range m at r l = beyond_a_list (values_at 11 m at) r (let q = number_of_values 11 m at in omega arith)

set_beyond : (a : List Value) (d : ℕ) (v : Value) → length a ≤ d → set a d v ≡ a
set_beyond [] d v l = refl
set_beyond (x ∷ a) zero v l = absurd (omega arith)
set_beyond (x ∷ a) (suc d) v l = ap (λ y. x ∷ y) (set_beyond a d v (omega arith))

-- r is not register d: its words are others
apart : (at r d i : ℕ) → i < value_words → (r ≡ d → ⊥) → (at + value_words * r + i < at + value_words * d) ⊎ (at + value_words * d + value_words ≤ at + value_words * r + i)
apart at r d i l ne = pick (ltb r d) refl
  where
    pick : (b : Bool) → ltb r d ≡ b → (at + value_words * r + i < at + value_words * d) ⊎ (at + value_words * d + value_words ≤ at + value_words * r + i)
    pick true e = let q : r < d = ltb-true _ _ e in inl (omega arith)
    pick false e = let q : d ≤ r = ltb-false _ _ e in inr (⊎_elim (λ (z : d ≡ r). absurd (ne (sym z))) (λ (z : d < r). omega arith) (eq-or-lt_of_le q))

module _ (m m' : List ℕ) (at d : ℕ) (h : Held) (put : Changed m m' at d h) where
  old : List Value
  old = values_at 11 m at

  abbrev Has : ℕ → Type 0
  Has r = held_in (held_at m' (at + value_words * r)) ≡ get_or (set old d (held_in h)) r (Unusable Never)

  the_register_put : (r : ℕ) → r < 11 → r ≡ d → Has r
  unfolding old
  the_register_put r g e =
      ap (λ x. held_in (held_at m' (at + value_words * x))) e ∙ ap held_in (put.held (omega arith))
      ∙ sym (get_or-set_same old d (held_in h) (Unusable Never) (let q = number_of_values 11 m at in omega arith))
      ∙ ap (λ x. get_or (set old d (held_in h)) x (Unusable Never)) (sym e)

  another_register : (r : ℕ) → r < 11 → (r ≡ d → ⊥) → Has r
  unfolding old
  another_register r g ne =
      ap held_in (equal_words_hold_equal_values m m' (at + value_words * r) (at + value_words * r) (λ i k. put.others (at + value_words * r + i) (apart at r d i k ne)))
      ∙ sym (value_of_a_state 11 m at r g) ∙ sym (get_or-set_other old d r (held_in h) (Unusable Never) ne)

  each_register : (r : ℕ) → r < 11 → Has r
  each_register r g = pick (eqb r d) refl
    where
      pick : (b : Bool) → eqb r d ≡ b → Has r
      pick true e = the_register_put r g (eqb-true r d e)
      pick false e = another_register r g (eqb-false r d e)

  words_outside_the_state : (i : ℕ) → (i < at) ⊎ (at + state_words ≤ i) → (b : Bool) → ltb d 11 ≡ b → get_or m' i 0 ≡ get_or m i 0
  words_outside_the_state i g true e =
      let q : d < 11 = ltb-true _ _ e in put.others i (⊎_elim (λ x. inl (omega arith)) (λ x. inr (omega arith)) g)
  words_outside_the_state i g false e = ap (λ x. get_or x i 0) (put.outside (ltb-false _ _ e))

  pub a_changed_register_is_stored : Stored m m' at (having (facts_at m at) d (held_in h))
  unfolding having facts_at old
  a_changed_register_is_stored = record {
    size = put.size;
    held = ap (λ x. record { registers = x })
        (a_state_is_its_values m' at (set old d (held_in h)) (length-set old d (held_in h) ∙ number_of_values 11 m at) each_register);
    others = λ i g. words_outside_the_state i g (ltb d 11) refl;
  }

-- words that are put back into a state
pub outside_of_the_state : (m m' : List ℕ) (at d : ℕ) (w : List ℕ) → PutBack m m' at d w → (i : ℕ) → (i < at) ⊎ (at + state_words ≤ i)
    → get_or m' i 0 ≡ get_or m i 0
outside_of_the_state m m' at d w back i g = go (ltb d 11) refl
  where
    go : (b : Bool) → ltb d 11 ≡ b → get_or m' i 0 ≡ get_or m i 0
    go true e = let q : d < 11 = ltb-true _ _ e in back.others i (⊎_elim (λ x. inl (omega arith)) (λ x. inr (omega arith)) g)
    go false e = ap (λ x. get_or x i 0) (back.outside (ltb-false _ _ e))

-- ---- a state is stored in steps

-- what was stored is altered
a_stored_state_is_altered : (f : Facts → Facts) (m m' m'' : List ℕ) (at : ℕ) (a : Facts) → Stored m m' at a → Stored m' m'' at (f (facts_at m' at))
    → Stored m m'' at (f a)
a_stored_state_is_altered f m m' m'' at a h g =
    record { size = g.size ∙ h.size; held = g.held ∙ ap f h.held; others = λ i l. g.others i l ∙ h.others i l }

pub the_start_is_written : (m m' m'' m''' : List ℕ) (at : ℕ) (e f : Number) → Stored m m' at nothing_known
    → Changed m' m'' at 1 (record { kind = kind.Record; number = e }) → Changed m'' m''' at 10 (record { kind = kind.Stack; number = f })
    → e ≡ exact 0 → f ≡ exact 512 → Stored m m''' at start_facts
unfolding nothing_known start_facts having held_in of_kind
the_start_is_written m m' m'' m''' at e f h g k is-0 is-512 =
    subst (λ x. Stored m m''' at (having (having nothing_known 1 (Address Record x)) 10 (Address Stack (exact 512)))) is-0
    (subst (λ x. Stored m m''' at (having (having nothing_known 1 (Address Record e)) 10 (Address Stack x))) is-512
    (a_stored_state_is_altered (λ a. having a 10 (Address Stack f)) m m'' m''' at _
    (a_stored_state_is_altered (λ a. having a 1 (Address Record e)) m m' m'' at nothing_known h (a_changed_register_is_stored m' m'' at 1 _ g))
    (a_changed_register_is_stored m'' m''' at 10 _ k)))

-- the first k words of a state are copied
pub record Copying (m m' : List ℕ) (from to k : ℕ) : Type 0 where
  pub size : length m' ≡ length m
  pub few : k ≤ state_words
  pub held : (r : ℕ) → r < k → get_or m' (to + r) 0 ≡ get_or m (from + r) 0
  pub others : (i : ℕ) → (i < to) ⊎ (to + k ≤ i) → get_or m' i 0 ≡ get_or m i 0

pub a_state_is_copied : (m m' : List ℕ) (from to k : ℕ) → state_words ≤ k → Copying m m' from to k → Stored m m' to (facts_at m from)
unfolding facts_at
a_state_is_copied m m' from to k all h = record {
  size = h.size;
  held = ap (λ x. record { registers = x }) (equal_words_hold_equal_states 11 m m' from to (λ i l. h.held i (let q = h.few in omega arith)));
  others = λ i g. h.others i (⊎_elim (λ x. inl x) (λ x. inr (let q = h.few in omega arith)) g);
}

-- where the words up to the end of a state are as they were, the state is
pub a_state_is_kept : (m m' : List ℕ) (at : ℕ) → ((i : ℕ) → i < at + state_words → get_or m' i 0 ≡ get_or m i 0) → facts_at m' at ≡ facts_at m at
unfolding facts_at
a_state_is_kept m m' at h = ap (λ x. record { registers = x }) (equal_words_hold_equal_states 11 m m' at at (λ i l. h (at + i) (omega arith)))

-- ---- two states are joined

length_of_a_join : (a b : List Value) → length a ≡ length b → length (joined_values a b) ≡ length a
unfolding joined_values
length_of_a_join [] b h = refl
length_of_a_join (x ∷ a) [] h = absurd (omega arith)
length_of_a_join (x ∷ a) (y ∷ b) h = ap suc (length_of_a_join a b (omega arith))

register_of_a_join : (a b : List Value) (r : ℕ) → length a ≡ length b → r < length a
    → get_or (joined_values a b) r (Unusable Never) ≡ joined_value (get_or a r (Unusable Never)) (get_or b r (Unusable Never))
unfolding joined_values
register_of_a_join [] b r h l = absurd (omega arith)
register_of_a_join (x ∷ a) [] r h l = absurd (omega arith)
register_of_a_join (x ∷ a) (y ∷ b) zero h l = refl
register_of_a_join (x ∷ a) (y ∷ b) (suc r) h l = register_of_a_join a b r (omega arith) (omega arith)

pub a_state_has_eleven : (m : List ℕ) (at : ℕ) → length (facts_at m at).registers ≡ 11
unfolding facts_at
a_state_has_eleven m at = number_of_values 11 m at

-- what the join of the state at `to` and of the one at `from` holds
abbrev pub joined_state : List ℕ → ℕ → ℕ → Facts
joined_state m from to = joined_facts (facts_at m to) (facts_at m from)

pub a_join_keeps_the_length : (m : List ℕ) (from to : ℕ) → length (joined_state m from to).registers ≡ 11
unfolding joined_facts
a_join_keeps_the_length m from to =
    length_of_a_join (facts_at m to).registers (facts_at m from).registers (a_state_has_eleven m to ∙ sym (a_state_has_eleven m from))
    ∙ a_state_has_eleven m to

register_of_joined_facts : (a b : Facts) (r : ℕ) → length a.registers ≡ 11 → length b.registers ≡ 11 → r < 11
    → get_or (joined_facts a b).registers r (Unusable Never) ≡ joined_value (value_of a r) (value_of b r)
unfolding joined_facts value_of
register_of_joined_facts a b r la lb l = register_of_a_join a.registers b.registers r (la ∙ sym lb) (omega arith)

pub a_register_is_joined : (m m' m'' : List ℕ) (from to r : ℕ) → from + state_words ≤ to → r < 11
    → Storing m m' to (joined_state m from to).registers r
    → Holds m' m'' (to + value_words * r) (joined_value (held_in (held_at m' (to + value_words * r))) (held_in (held_at m' (from + value_words * r))))
    → Storing m m'' to (joined_state m from to).registers (r + 1)
a_register_is_joined m m' m'' from to r far l h w = one_more_is_stored m m' m'' to (joined_state m from to).registers r _ l is h w
  where
    from_is : held_in (held_at m' (from + value_words * r)) ≡ value_of (facts_at m from) r
    from_is = ap held_in (equal_words_hold_equal_values m m' (from + value_words * r) (from + value_words * r) (λ i g. h.others (from + value_words * r + i) (inl (omega arith))))
        ∙ sym (register_in_range m from r l)

    to_is : held_in (held_at m' (to + value_words * r)) ≡ value_of (facts_at m to) r
    to_is = ap held_in (equal_words_hold_equal_values m m' (to + value_words * r) (to + value_words * r) (λ i g. h.others (to + value_words * r + i) (inr (omega arith))))
        ∙ sym (register_in_range m to r l)

    is : get_or (joined_state m from to).registers r (Unusable Never)
        ≡ joined_value (held_in (held_at m' (to + value_words * r))) (held_in (held_at m' (from + value_words * r)))
    is = register_of_joined_facts (facts_at m to) (facts_at m from) r (a_state_has_eleven m to) (a_state_has_eleven m from) l
        ∙ ap₂ joined_value (sym to_is) (sym from_is)

pub never_known : (r : ℕ) → get_or nothing_known.registers r (Unusable Never) ≡ Unusable Never
unfolding nothing_known
never_known r = all_alike 11 r
  where
    all_alike : (k r : ℕ) → get_or (replicate k (Unusable Never)) r (Unusable Never) ≡ Unusable Never
    all_alike zero r = refl
    all_alike (suc k) zero = refl
    all_alike (suc k) (suc r) = all_alike k r

-- words that are 0 hold values that are unset
pub nothing_is_known_of_zeros : (m m' part : List ℕ) (at : ℕ) → part ≡ replicate state_words 0 → Replaced m m' at part → Stored m m' at nothing_known
unfolding facts_at nothing_known held_in held_at kind_of of_kind
nothing_is_known_of_zeros m m' part at e h = record {
  size = h.size;
  held = ap (λ x. record { registers = x })
      (a_state_is_its_values m' at nothing_known.registers registers (λ r l. unset_at r l ∙ sym (never_known r)));
  others = λ i g. h.others i (⊎_elim (λ x. inl x) (λ x. inr (omega (arith, size))) g);
}
  where
    size : length part ≡ state_words
    size = ap length e ∙ length-replicate {A = ℕ} state_words 0

    registers : length nothing_known.registers ≡ 11
    registers = refl

    zero_at : (k : ℕ) → k < state_words → get_or m' (at + k) 0 ≡ 0
    zero_at k l = h.here k (omega (arith, size)) ∙ ap (λ x. get_or x k 0) e ∙ get_or-replicate state_words k 0 0 l

    unset_at : (r : ℕ) → r < 11 → held_in (held_at m' (at + value_words * r)) ≡ Unusable Never
    unset_at r l = rw (zero_at (value_words * r) (omega arith))

-- ---- the words of one number

pub one_number : (m : List ℕ) (at r : ℕ) → r < 11 → get_or m (at + value_words * r) 0 ≡ 2 → get_or m (at + value_words * r + 2) 0 ≡ 0
    → get_or m (at + value_words * r + 3) 0 ≡ get_or m (at + value_words * r + 1) 0 → get_or m (at + value_words * r + 4) 0 ≡ get_or m (at + value_words * r + 1) 0
    → value_of (facts_at m at) r ≡ Plain (exact (get_or m (at + value_words * r + 1) 0))
unfolding held_in of_kind kind_of held_at exact just
one_number m at r l kind mask lo hi = register_in_range m at r l ∙ rw (kind, mask, lo, hi)
