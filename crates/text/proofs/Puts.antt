-- Texts put one after the other are one text put; what is put where there is room for it, and where there is none.
use mathlib.Core.Bool.{Bool, true, false}
use mathlib.Core.List.{List, [], ◌∷◌, ◌++◌}
use mathlib.Core.Path.{◌≡◌, refl, sym, ap, ◌∙◌}
use Prim.Native.Nat.{ℕ, suc, ◌+◌, ◌≤◌, ◌<◌}
use native.Mathlib.Omega.{arith}
use lib.ListN.{length, take, drop, set, length-append}
use lib.Seq.{sets, length-sets, sets-eq, set_out}
use lib.Dec.{leb}
use borrow.Author.Tests.{leb-true, leb-false}
use Rattle.text.specs.Buffer.{Put}

sets_out : (t l : List ℕ) (i : ℕ) → length l ≤ i → sets l i t ≡ l
sets_out [] l i h = refl
sets_out (a ∷ t) l i h = rw (set_out l i a h) (sets_out t l (suc i) (omega arith))

sets_append : (s t l : List ℕ) (i : ℕ) → sets l i (s ++ t) ≡ sets (sets l i s) (i + length s) t
sets_append [] t l i = let e : i + 0 ≡ i = omega arith in rw e
sets_append (a ∷ s) t l i =
    let e : i + suc (length s) ≡ suc i + length s = omega arith in rw e (sets_append s t (set l i a) (suc i))

pub put_none : (out : List ℕ) (at : ℕ) → Put out at [] out at
put_none out at = record { text = refl; end = omega arith }

pub put_one : (out : List ℕ) (at b : ℕ) → at < length out → Put out at (b ∷ []) (set out at b) (at + 1)
put_one out at b h = record { text = refl; end = omega arith }

pub put_outside : (out : List ℕ) (at : ℕ) (t : List ℕ) → length out ≤ at → Put out at t out at
put_outside out at t h = record { text = sym (sets_out t out at h); end = omega arith }

module _ (out : List ℕ) (at : ℕ) (s m : List ℕ) (i : ℕ) (p : Put out at s m i) where
  put_length : length m ≡ length out
  put_length = ap length p.text ∙ length-sets out at s

  -- past the end of out nothing is put, at whichever index
  seam_by : (b : Bool) (t : List ℕ) → leb (at + length s) (length out) ≡ b → sets (sets out at s) i t ≡ sets (sets out at s) (at + length s) t
  seam_by true t e =
      let h : i ≡ at + length s = omega (arith, p.end, leb-true (at + length s) (length out) e) in ap (λ (k : ℕ). sets (sets out at s) k t) h
  seam_by false t e =
      sets_out t (sets out at s) i (omega (arith, p.end, length-sets out at s, leb-false (at + length s) (length out) e)) ∙
      sym (sets_out t (sets out at s) (at + length s) (omega (arith, length-sets out at s, leb-false (at + length s) (length out) e)))

pub put_both : {out s m t l : List ℕ} {at i r : ℕ} → Put out at s m i → Put m i t l r → Put out at (s ++ t) l r
put_both {out} {s} {m} {t} {l} {at} {i} {r} p q =
    record {
      text = q.text ∙ ap (λ (x : List ℕ). sets x i t) p.text ∙ seam_by out at s m i p (leb (at + length s) (length out)) t refl ∙ sym (sets_append s t out at);
      end = omega (arith, p.end, q.end, put_length out at s m i p, length-append s t);
    }

-- the text from at on, and all else as it was, where there is room
pub put_room : (out : List ℕ) (at : ℕ) (t m : List ℕ) (r : ℕ) → Put out at t m r → at + length t ≤ length out → (m ≡ take at out ++ t ++ drop (at + length t) out) × (r ≡ at + length t)
put_room out at t m r p h = (p.text ∙ sets-eq t out at h, omega (arith, p.end))

pub put_beyond : (out : List ℕ) (at : ℕ) (t m : List ℕ) (r : ℕ) → Put out at t m r → length out ≤ at → (m ≡ out) × (r ≡ at)
put_beyond out at t m r p h = (p.text ∙ sets_out t out at h, omega (arith, p.end))
