-- How words hold the states that wait: a block is written, and the others wait as they did.
use Prim.Native.Nat.{ℕ, ◌+◌, ◌-◌, ◌*◌, ◌≤◌, ◌<◌}
use mathlib.Core.Path.{◌≡◌, refl, sym, ap, ap₂, ◌∙◌, subst, fun_ext}
use mathlib.Core.Bool.{Bool, true, false, cond}
use mathlib.Core.Logic.{◌⊎◌, inl, inr, ⊎_elim}
use mathlib.Core.List.{List}
use lib.ListN.{length, get_or, set, length-set}
use lib.Seq.{get_or-set_same, get_or-set_other}
use lib.Dec.{ltb, eqb}
use native.Mathlib.Omega.{arith}
use native.Mathlib.Nat.{eq-or-lt_of_le}
use borrow.Author.Tests.{ne_eqb, eqb-true, eqb-false, lt-ltb, ltb-true, ltb-false}
use Rattle.std.specs.Prelude.{Option, Some, None}
use Rattle.analysis.specs.Values.{Facts, start_facts, joined_facts, meeting}
use Rattle.analysis.specs.Judged.{Waiting, nobody, having, arrive}
use Rattle.waiting.specs.declared.value.Held.{Held}
use Rattle.waiting.specs.State.{held_in, facts_at, Changed, PutBack, Stored}
use Rattle.waiting.specs.Store.{waiting_in, Cleared, Arrived, Begun}
use Rattle.waiting.specs.Layout.{value_words, state_words, block_words, state_of}
use Rattle.waiting.proofs.States.{a_changed_register_is_stored, outside_of_the_state}
use Rattle.waiting.proofs.Words.{equal_words_hold_equal_states}

-- ---- blocks

-- a block that a path came to, or nothing
abbrev block_at : List ℕ → ℕ → Option Facts
block_at m b = cond (eqb (get_or m b 0) 1) (Some (facts_at m (b + 1))) None

equal_states : (m m' : List ℕ) (at : ℕ) → ((i : ℕ) → i < state_words → get_or m' (at + i) 0 ≡ get_or m (at + i) 0) → facts_at m' at ≡ facts_at m at
unfolding facts_at
equal_states m m' at h = ap (λ x. record { registers = x }) (equal_words_hold_equal_states 11 m m' at at h)

equal_blocks : (m m' : List ℕ) (b : ℕ) → ((i : ℕ) → i < block_words → get_or m' (b + i) 0 ≡ get_or m (b + i) 0) → block_at m' b ≡ block_at m b
equal_blocks m m' b h =
    ap₂ (λ x y. cond (eqb x 1) (Some y) None) (rw (let q : b + 0 ≡ b = omega arith in q) at (h 0 (omega arith))) (equal_states m m' (b + 1) (λ i l. further i (h (1 + i) (omega arith))))
  where
    further : (i : ℕ) → get_or m' (b + (1 + i)) 0 ≡ get_or m (b + (1 + i)) 0 → get_or m' (b + 1 + i) 0 ≡ get_or m (b + 1 + i) 0
    further i e = subst (λ x. get_or m' x 0 ≡ get_or m x 0) (let q : b + (1 + i) ≡ b + 1 + i = omega arith in q) e

side : (j x i : ℕ) → i < block_words → (x ≡ j → ⊥) → (block_words * x + i < block_words * j) ⊎ (block_words * j + block_words ≤ block_words * x + i)
side j x i k ne = pick (ltb x j) refl
  where
    pick : (b : Bool) → ltb x j ≡ b → (block_words * x + i < block_words * j) ⊎ (block_words * j + block_words ≤ block_words * x + i)
    pick true e = let q : x < j = ltb-true _ _ e in inl (omega arith)
    pick false e = let q : j ≤ x = ltb-false _ _ e in inr (⊎_elim (λ (z : j ≡ x). absurd (ne (sym z))) (λ (z : j < x). omega arith) (eq-or-lt_of_le q))

-- one block is written
pub others_wait_as_before : (n : ℕ) (m m' : List ℕ) (j : ℕ) (a : Facts) → j < n
    → get_or m' (block_words * j) 0 ≡ 1 → facts_at m' (state_of j) ≡ meeting (waiting_in n m j) a
    → ((i : ℕ) → (i < block_words * j) ⊎ (block_words * j + block_words ≤ i) → get_or m' i 0 ≡ get_or m i 0)
    → waiting_in n m' ≡ arrive (waiting_in n m) j a
unfolding waiting_in arrive
others_wait_as_before n m m' j a l mark held others = fun_ext (λ x. go x (eqb x j) refl)
  where
    here : waiting_in n m' j ≡ Some (meeting (waiting_in n m j) a)
    here = rw (lt-ltb j n l, mark) (ap Some (held ∙ ap (λ b. meeting (cond b (block_at m (block_words * j)) None) a) (lt-ltb j n l)))

    go : (x : ℕ) (b : Bool) → eqb x j ≡ b → waiting_in n m' x ≡ cond b (Some (meeting (waiting_in n m x) a)) (waiting_in n m x)
    go x true e = rw (eqb-true x j e) here
    go x false e =
        ap (λ y. cond (ltb x n) y None) (equal_blocks m m' (block_words * x) (λ i k. others (block_words * x + i) (side j x i k (eqb-false x j e))))

pub a_marked_block_waits : (n : ℕ) (m : List ℕ) (j : ℕ) → j < n → get_or m (block_words * j) 0 ≡ 1 → waiting_in n m j ≡ Some (facts_at m (state_of j))
unfolding waiting_in
a_marked_block_waits n m j l e = rw (lt-ltb j n l, e)

pub nothing_waits_in_an_unmarked_block : (n : ℕ) (m : List ℕ) (j : ℕ) → (get_or m (block_words * j) 0 ≡ 1 → ⊥) → waiting_in n m j ≡ None
unfolding waiting_in
nothing_waits_in_an_unmarked_block n m j ne = rw (ne_eqb (get_or m (block_words * j) 0) 1 ne) (either (ltb j n))
  where
    either : (b : Bool) → ◌≡◌ {A = Option Facts} (cond b None None) None
    either true = refl
    either false = refl

pub a_state_comes_to_a_marked_block : (n i : ℕ) (m m' : List ℕ) (j : ℕ) (a : Facts) → i < j → j < n → get_or m (block_words * j) 0 ≡ 1
    → Stored m m' (state_of j) (joined_facts (facts_at m (state_of j)) a) → Arrived n i m m' j a
unfolding meeting
a_state_comes_to_a_marked_block n i m m' j a before l mark st = record {
  size = st.size;
  waits = others_wait_as_before n m m' j a l (st.others (block_words * j) (inl (omega arith)) ∙ mark)
      (st.held ∙ ap (λ o. meeting o a) (sym (a_marked_block_waits n m j l mark)))
      (λ k h. st.others k (⊎_elim (λ x. inl (omega arith)) (λ x. inr (omega arith)) h));
  kept = λ k h. st.others k (inl (omega arith));
}

pub a_state_comes_to_an_unmarked_block : (n i : ℕ) (m m' : List ℕ) (j : ℕ) (a : Facts) → i < j → j < n → block_words * n ≤ length m
    → (get_or m (block_words * j) 0 ≡ 1 → ⊥) → Stored m m' (state_of j) a → Arrived n i m (set m' (block_words * j) 1) j a
unfolding meeting
a_state_comes_to_an_unmarked_block n i m m' j a before l fit ne st = record {
  size = length-set m' (block_words * j) 1 ∙ st.size;
  waits = others_wait_as_before n m (set m' (block_words * j) 1) j a l (get_or-set_same m' (block_words * j) 1 0 (let q = st.size in omega arith))
      (same ∙ st.held ∙ ap (λ o. meeting o a) (sym (nothing_waits_in_an_unmarked_block n m j ne)))
      (λ k h. get_or-set_other m' (block_words * j) k 1 0 (⊎_elim (λ x e. omega arith) (λ x e. omega arith) h)
      ∙ st.others k (⊎_elim (λ x. inl (omega arith)) (λ x. inr (omega arith)) h));
  kept = λ k h. get_or-set_other m' (block_words * j) k 1 0 (λ e. omega arith) ∙ st.others k (inl (omega arith));
}
  where
    same : facts_at (set m' (block_words * j) 1) (state_of j) ≡ facts_at m' (state_of j)
    same = equal_states m' (set m' (block_words * j) 1) (state_of j) (λ k h. get_or-set_other m' (block_words * j) (state_of j + k) 1 0 (λ e. omega arith))

pub a_changed_state_comes_to_an_unmarked_block : (n i d : ℕ) (m copied m' : List ℕ) (j : ℕ) (a : Facts) (h : Held) → i < j → j < n
    → block_words * n ≤ length m → (get_or m (block_words * j) 0 ≡ 1 → ⊥) → Stored m copied (state_of j) a → Changed copied m' (state_of j) d h
    → Arrived n i m (set m' (block_words * j) 1) j (having a d (held_in h))
a_changed_state_comes_to_an_unmarked_block n i d m copied m' j a h before l fit ne st put =
    a_state_comes_to_an_unmarked_block n i m m' j (having a d (held_in h)) before l fit ne (record {
      size = changed.size ∙ st.size;
      held = changed.held ∙ ap (λ b. having b d (held_in h)) st.held;
      others = λ k o. changed.others k o ∙ st.others k o;
    })
  where
    changed : Stored copied m' (state_of j) (having (facts_at copied (state_of j)) d (held_in h))
    changed = a_changed_register_is_stored copied m' (state_of j) d h put

-- ---- a register is changed, and put back

-- the words outside of the state at index i do not tell what waits at another index
others_do_not_see : (n i : ℕ) (m m' : List ℕ) → ((k : ℕ) → (k < state_of i) ⊎ (state_of i + state_words ≤ k) → get_or m' k 0 ≡ get_or m k 0)
    → (x : ℕ) → (x ≡ i → ⊥) → waiting_in n m' x ≡ waiting_in n m x
unfolding waiting_in
others_do_not_see n i m m' h x ne =
    ap (λ y. cond (ltb x n) y None)
    (equal_blocks m m' (block_words * x) (λ k l. h (block_words * x + k) (⊎_elim (λ z. inl (omega arith)) (λ z. inr (omega arith)) (side i x k l ne))))

what_waits_is_kept : (n i : ℕ) (m m' : List ℕ) → ((k : ℕ) → k < block_words * i + block_words → get_or m' k 0 ≡ get_or m k 0) → waiting_in n m' i ≡ waiting_in n m i
unfolding waiting_in
what_waits_is_kept n i m m' h = ap (λ y. cond (ltb i n) y None) (equal_blocks m m' (block_words * i) (λ k l. h (block_words * i + k) (omega arith)))

-- before is changed to sent, what is done then leaves done, and the register's words are put back
module _ (n i d : ℕ) (m sent done m' : List ℕ) (h : Held) (w : List ℕ)
    (was : d < 11 → (k : ℕ) → k < value_words → get_or w k 0 ≡ get_or m (state_of i + value_words * d + k) 0)
    (put : Changed m sent (state_of i) d h) (back : PutBack done m' (state_of i) d w)
    (kept : (k : ℕ) → k < block_words * i + block_words → get_or done k 0 ≡ get_or sent k 0) where
  at_the_register : d < 11 → (k : ℕ) → state_of i + value_words * d ≤ k → k < state_of i + value_words * d + 5 → get_or m' k 0 ≡ get_or m k 0
  at_the_register l k low high =
      subst (λ x. get_or m' x 0 ≡ get_or m x 0) (let q : state_of i + value_words * d + (k - (state_of i + value_words * d)) ≡ k = omega arith in q)
      (back.words l (k - (state_of i + value_words * d)) (omega arith) ∙ was l (k - (state_of i + value_words * d)) (omega arith))

  beside_it : (k : ℕ) → k < block_words * i + block_words → (k < state_of i + value_words * d) ⊎ (state_of i + value_words * d + value_words ≤ k) → get_or m' k 0 ≡ get_or m k 0
  beside_it k l g = back.others k g ∙ kept k l ∙ put.others k g

  pub what_was_is_back : (k : ℕ) → k < block_words * i + block_words → get_or m' k 0 ≡ get_or m k 0
  what_was_is_back k l = go (ltb d 11) refl (ltb k (state_of i + value_words * d)) refl (ltb k (state_of i + value_words * d + 5)) refl
    where
      go : (a : Bool) → ltb d 11 ≡ a → (b : Bool) → ltb k (state_of i + value_words * d) ≡ b → (c : Bool) → ltb k (state_of i + value_words * d + 5) ≡ c
          → get_or m' k 0 ≡ get_or m k 0
      go a p true q c r = beside_it k l (inl (ltb-true _ _ q))
      go a p false q false r = beside_it k l (inr (ltb-false _ _ r))
      go true p false q true r = at_the_register (ltb-true _ _ p) k (ltb-false _ _ q) (ltb-true _ _ r)
      go false p false q true r = let z : 11 ≤ d = ltb-false _ _ p in let y : state_of i + value_words * d ≤ k = ltb-false _ _ q in absurd (omega arith)

  -- what becomes of what waits, index by index, becomes of what waited before
  pub what_is_done_is_done : (f : Waiting → Waiting) → ((p q : Waiting) (x : ℕ) → p x ≡ q x → f p x ≡ f q x) → ((p : Waiting) → f p i ≡ p i)
      → waiting_in n done ≡ f (waiting_in n sent) → waiting_in n m' ≡ f (waiting_in n m)
  what_is_done_is_done f each here does = fun_ext (λ x. pick x (eqb x i) refl)
    where
      there : (x : ℕ) → (x ≡ i → ⊥) → waiting_in n m' x ≡ f (waiting_in n m) x
      there x ne =
          others_do_not_see n i done m' (outside_of_the_state done m' (state_of i) d w back) x ne
          ∙ ap (λ w. w x) does
          ∙ each (waiting_in n sent) (waiting_in n m) x (others_do_not_see n i m sent (a_changed_register_is_stored m sent (state_of i) d h put).others x ne)

      pick : (x : ℕ) (b : Bool) → eqb x i ≡ b → waiting_in n m' x ≡ f (waiting_in n m) x
      pick x true e = rw (eqb-true x i e) (what_waits_is_kept n i m m' what_was_is_back ∙ sym (here (waiting_in n m)))
      pick x false e = there x (eqb-false x i e)

-- ---- the marks are cleared

pub all_is_cleared : (n : ℕ) (m m' : List ℕ) → length m' ≡ length m → ((x : ℕ) → x < n → get_or m' (block_words * x) 0 ≡ 0) → Cleared n m m'
unfolding waiting_in nobody
all_is_cleared n m m' size h = record { size = size; waits = fun_ext (λ x. go x (ltb x n) refl) }
  where
    go : (x : ℕ) (b : Bool) → ltb x n ≡ b → cond b (block_at m' (block_words * x)) None ≡ None
    go x true e = rw (h x (ltb-true _ _ e))
    go x false e = refl

pub the_start_waits : (n : ℕ) (m m' m'' : List ℕ) → 0 < n → block_words * n ≤ length m → Cleared n m m' → Stored m' m'' 1 start_facts → Begun n m (set m'' 0 1)
unfolding meeting nobody
the_start_waits n m m' m'' l fit clear st = record {
  size = length-set m'' 0 1 ∙ st.size ∙ clear.size;
  waits = others_wait_as_before n m' (set m'' 0 1) 0 start_facts l (get_or-set_same m'' 0 1 0 (let q = st.size in let p = clear.size in omega arith))
      (same ∙ st.held ∙ ap (λ p. meeting (p 0) start_facts) (sym clear.waits))
      (λ k h. get_or-set_other m'' 0 k 1 0 (⊎_elim (λ x e. omega arith) (λ x e. omega arith) h)
      ∙ st.others k (⊎_elim (λ x. absurd (omega arith)) (λ x. inr (omega arith)) h))
      ∙ ap (λ p. arrive p 0 start_facts) clear.waits;
}
  where
    same : facts_at (set m'' 0 1) 1 ≡ facts_at m'' 1
    same = equal_states m'' (set m'' 0 1) 1 (λ k h. get_or-set_other m'' 0 (1 + k) 1 0 (λ e. omega arith))
