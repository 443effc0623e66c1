-- How to reason of what is left on a way: `Kept` and `Left` through the steps by which the definitions make what is left.
use mathlib.Core.Path.{◌≡◌, refl}
use mathlib.Core.Bool.{Bool, true, false, cond, ◌&&◌}
use Prim.Native.Nat.{ℕ, ◌≤◌}
use native.Mathlib.Omega.{arith}
use lib.Dec.{leb}
use borrow.Author.Tests.{leb-true, le-leb}
use Rattle.std.specs.Prelude.{Some, None}
use Rattle.known_bits.specs.KnownBits.{Well}
use Rattle.number.specs.declared.Range.{Range}
use Rattle.number.specs.declared.Number.{Number}
use Rattle.number.specs.Refined.{Refined}
use Rattle.number.specs.Meaning.{In, RangeWithin, Narrower, Kept, Left}
use Rattle.number.specs.Compare.{settled, exchanged, firsts}

-- ---- what is left, with more or less said of it
pub left_map : (r : Refined) (P Q : Number → Number → Type 0) → ((d s : Number) → P d s → Q d s) → Left r P → Left r Q
left_map None P Q f h = tt
left_map (Some (d, s)) P Q f h = f d s h

pub left_both : (r : Refined) (P Q : Number → Number → Type 0) → Left r P → Left r Q → Left r (λ d s. P d s × Q d s)
left_both None P Q h k = tt
left_both (Some (d, s)) P Q h k = (h, k)

-- a way on which what would be left cannot be is excluded
pub nothing_left : (r : Refined) (A : Type 0) → Left r (λ d s. A) → (A → ⊥) → r ≡ None
nothing_left None A h n = refl
nothing_left (Some (d, s)) A h n = absurd (n h)

-- a test that excludes the way
pub unless_leaves : (b : Bool) (r : Refined) (P : Number → Number → Type 0) → (b ≡ false → Left r P) → Left (cond b None r) P
unless_leaves true r P f = tt
unless_leaves false r P f = f refl

-- ---- the numbers exchanged
pub exchanged_keeps : (r : Refined) (x y : ℕ) → Kept r x y → Kept (exchanged r) y x
unfolding exchanged
exchanged_keeps None x y h = h
exchanged_keeps (Some (d, s)) x y h = (h.1, h.0)

pub exchanged_leaves : (r : Refined) (P : Number → Number → Type 0) → Left r (λ d s. P s d) → Left (exchanged r) P
unfolding exchanged
exchanged_leaves None P h = tt
exchanged_leaves (Some (d, s)) P h = h

-- ---- the first of each
pub firsts_keep : (p q : Refined) (x y : ℕ) → Kept p x x → Kept q y y → Kept (firsts p q) x y
unfolding firsts
firsts_keep None q x y h k = h
firsts_keep (Some (m, m')) None x y h k = k
firsts_keep (Some (m, m')) (Some (n, n')) x y h k = (h.0, k.0)

pub firsts_leave : (p q : Refined) (P Q : Number → Type 0) → Left p (λ m m'. P m) → Left q (λ n n'. Q n) → Left (firsts p q) (λ m n. P m × Q n)
unfolding firsts
firsts_leave None q P Q h k = tt
firsts_leave (Some (m, m')) None P Q h k = tt
firsts_leave (Some (m, m')) (Some (n, n')) P Q h k = (h, k)

-- ---- no range that is left is empty
abbrev pub NotEmpty : Range → Type 0
NotEmpty r = r.lo ≤ r.hi

pub some_of_within : {a b : Range} → RangeWithin a b → NotEmpty a → NotEmpty b
some_of_within h s = omega arith

pub settled_keeps : (d s : Number) (x y : ℕ) → In d x → In s y → Kept (settled d s) x y
unfolding settled
settled_keeps d s x y hx hy =
    rw (le-leb d.range.lo d.range.hi (omega arith), le-leb s.range.lo s.range.hi (omega arith)) (hx, hy)

pub settled_leaves : (d s : Number) (P : Number → Number → Type 0) → (NotEmpty d.range → NotEmpty s.range → P d s) → Left (settled d s) P
unfolding settled
settled_leaves d s P f = go (leb d.range.lo d.range.hi) (leb s.range.lo s.range.hi) (leb-true _ _) (leb-true _ _)
  where
    go : (a b : Bool) → (a ≡ true → NotEmpty d.range) → (b ≡ true → NotEmpty s.range) → Left (cond (a && b) (Some (d, s)) None) P
    go true true h k = f (h refl) (k refl)
    go true false h k = tt
    go false b h k = tt

-- what each way leaves of both numbers: neither is wider than before, neither is empty, and both keep the form
pub record Sharper (d s d' s' : Number) : Type 0 where
  pub first : Narrower d' d
  pub second : Narrower s' s
  pub some_first : NotEmpty d'.range
  pub some_second : NotEmpty s'.range
  pub form_first : Well 64 d.bits → Well 64 d'.bits
  pub form_second : Well 64 s.bits → Well 64 s'.bits

pub sharper_exchanged : (d s d' s' : Number) → Sharper d s d' s' → Sharper s d s' d'
sharper_exchanged d s d' s' h =
    record {
      first = h.second;
      second = h.first;
      some_first = h.some_second;
      some_second = h.some_first;
      form_first = h.form_second;
      form_second = h.form_first;
    }
