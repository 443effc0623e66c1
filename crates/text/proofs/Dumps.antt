-- What one more character does to the text that is stripped, and to the number of line ends; what the answers of the pairs say of the text.
use mathlib.Core.Bool.{Bool, true, false}
use mathlib.Core.List.{List, [], ◌∷◌, ◌++◌, append-nil}
use mathlib.Core.Path.{◌≡◌, refl, sym, ap, ◌∙◌}
use Prim.Native.Nat.{ℕ, ◌+◌, ◌≤◌, ◌<◌}
use native.Mathlib.Numerals.{add-one}
use native.Mathlib.Omega.{arith}
use lib.ListN.{length, take, drop, get_or, set}
use lib.Seq.{drop-cons, drop-length, append_snoc, take-suc-set}
use Rattle.std.proofs.Common.{Option, Some, None, Ok, cond, count_by}
use lib.Dec.{eqb}
use Rattle.std.proofs.lemmas.List.Recursion.{is_count_by}
use Rattle.text.specs.Hex.{paired, Spelled}
use Rattle.text.specs.Dump.{commented, kept, bare_from, bare_of, Bare, Unspelled, Dumped, line_ends}

-- n characters of bare and what is left of the rest of s are what is left of s
pub record Stripping (s bare : List ℕ) (c : Bool) (n i : ℕ) : Type 0 where
  pub same : take n bare ++ bare_from c (drop i s) ≡ bare_of s

pub stripping_start : (s bare : List ℕ) → Stripping s bare false 0 0
unfolding bare_of
stripping_start s bare = record { same = refl }

module _ (s : List ℕ) (i : ℕ) (l : i < length s) where
  bare_next : (c : Bool) → bare_from c (drop i s) ≡ take (kept (commented c (get_or s i 0)) (get_or s i 0)) (get_or s i 0 ∷ []) ++ bare_from (commented c (get_or s i 0)) (drop (i + 1) s)
  unfolding bare_from
  bare_next c = rw (add-one i, drop-cons s i 0 l)

  pub stripping_more : (bare : List ℕ) (c d : Bool) (n : ℕ) → Stripping s bare c n i → n < length bare → d ≡ commented c (get_or s i 0) → kept d (get_or s i 0) ≡ 1 → Stripping s (set bare n (get_or s i 0)) d (n + 1) (i + 1)
  stripping_more bare c d n g room e k =
      record {
        same =
            rw (add-one n) (ap (λ (u : List ℕ). u ++ bare_from d (drop (i + 1) s)) (take-suc-set bare n (get_or s i 0) room)) ∙
            append_snoc (take n bare) (get_or s i 0) (bare_from d (drop (i + 1) s)) ∙
            ap (λ (u : List ℕ). take n bare ++ u) (sym (bare_next c ∙ rw (← e, k))) ∙
            g.same;
      }

  pub stripping_past : (bare : List ℕ) (c d : Bool) (n : ℕ) → Stripping s bare c n i → d ≡ commented c (get_or s i 0) → kept d (get_or s i 0) ≡ 0 → Stripping s bare d n (i + 1)
  stripping_past bare c d n g e k =
      record { same = ap (λ (u : List ℕ). take n bare ++ u) (sym (bare_next c ∙ rw (← e, k))) ∙ g.same }

pub stripping_end : (s bare : List ℕ) (c : Bool) (n i : ℕ) → Stripping s bare c n i → i ≡ length s → n ≤ length bare → Bare s bare n
unfolding bare_from
stripping_end s bare c n i g e h =
    record { room = h; left = sym (append-nil (take n bare)) ∙ rw (e, drop-length s) at g.same }

counted_more : (t : Bool) (n : ℕ) → cond t 1 0 + n ≡ cond t (1 + n) n
counted_more true n = refl
counted_more false n = omega arith

pub ends_counted : (s : List ℕ) → line_ends s ≡ count_by (λ b. eqb b 10) s
unfolding line_ends
ends_counted s = is_count_by line_ends (λ b. eqb b 10) refl (λ b s. counted_more (eqb b 10) (line_ends s)) s

-- the pairs are read from the text that is left
module _ (s bare : List ℕ) (n m : ℕ) (b : Bare s bare n) (e : m ≡ n) (out : List ℕ) (room scratch : ℕ) (r : Option ℕ) (g : Spelled (take m bare) out room (paired (take m bare) room) r) where
  bare_left : take m bare ≡ bare_of s
  bare_left = rw e b.left

  pub dump_read : (k : ℕ) → r ≡ Some k → Dumped s out scratch room (Ok k)
  dump_read k h = record { answers = rw (bare_left, h) at g }

  pub dump_unspelled : r ≡ None → Unspelled s scratch room
  dump_unspelled h = record { none = λ l. rw bare_left at (sym g.count) ∙ h }
