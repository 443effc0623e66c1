-- Texts written one after the other are one text written. `using` the set `pages`, the check finds it by itself.
use Rattle.std.specs.Prelude.{max}
use Rattle.std.proofs.Common.{◌≡◌, refl, sym, ◌∙◌, subst, List, [], ◌∷◌, ◌++◌, ℕ, ◌+◌, ◌<◌, ◌≤◌, length, set, take, get_or, add-one}
use lib.Seq.{take-suc}
use native.Mathlib.Omega.{arith}
use Rattle.std.proofs.Math.Seq.{length-sets}
use Rattle.text.specs.declared.page.Page.{Page}
use Rattle.text.specs.Buffer.{Put}
use Rattle.text.specs.Page.{Sheet, sheet, written, Longer, Wrote}
use Rattle.text.proofs.Puts.{put_none, put_one, put_outside, put_both}

same_sheet : (n e f : ℕ) (a b : List ℕ) → a ≡ b → e ≡ f → ◌≡◌ {A = Sheet} (record { name = n; bytes = a; end = e }) (record { name = n; bytes = b; end = f })
same_sheet n e f a b p q = rw (p, q)

put_written : (s : Sheet) (t : List ℕ) → Put s.bytes s.end t (written s t).bytes (written s t).end
unfolding written
put_written s t = record { text = refl; end = refl }

written_of_put : (s : Sheet) (t m : List ℕ) (r : ℕ) → Put s.bytes s.end t m r → written s t ≡ record { name = s.name; bytes = m; end = r }
unfolding written
written_of_put s t m r p = same_sheet _ _ _ _ _ (sym p.text) (sym p.end)

pub written_both : (s : Sheet) (t u : List ℕ) → written (written s t) u ≡ written s (t ++ u)
unfolding written
written_both s t u = sym (written_of_put s (t ++ u) _ _ (put_both (put_written s t) (put_written (written s t) u)))

pub written_none : (s : Sheet) → written s [] ≡ s
unfolding written
written_none s = written_of_put s [] _ _ (put_none _ _)

-- one letter, where there is room for it, and any text where there is none
pub written_one : (s : Sheet) (b : ℕ) → s.end < length s.bytes → written s (b ∷ []) ≡ record { name = s.name; bytes = set s.bytes s.end b; end = s.end + 1 }
unfolding written
written_one s b h = written_of_put s (b ∷ []) _ _ (put_one _ _ _ h)

pub written_outside : (s : Sheet) (t : List ℕ) → length s.bytes ≤ s.end → written s t ≡ s
unfolding written
written_outside s t h = written_of_put s t _ _ (put_outside _ _ _ h)

pub ruleset pages = (written_both, written_none)

pub wrote_none : (p : Page) → Wrote p [] p
wrote_none p = record { becomes = sym (written_none (sheet p)) }

pub wrote_both : {p q r : Page} {s t : List ℕ} → Wrote p s q → Wrote q t r → Wrote p (s ++ t) r
wrote_both {p} {q} {r} {s} {t} a b = record { becomes = b.becomes ∙ rw a.becomes (written_both (sheet p) s t) }

-- one more letter of s
pub wrote_more : {p q r : Page} (s : List ℕ) (i : ℕ) → Wrote p (take i s) q → Wrote q (get_or s i 0 ∷ []) r → i < length s → Wrote p (take (i + 1) s) r
wrote_more s i a b h = rw (add-one i, take-suc s i 0 h) (wrote_both a b)

-- what is written leaves a page that is no shorter
longer_sheet : (s : Sheet) (t : List ℕ) → (length (written s t).bytes ≡ length s.bytes) × ((s.end ≤ (written s t).end) × ((written s t).end ≤ max s.end (length s.bytes)))
unfolding written
longer_sheet s t = (length-sets s.bytes s.end t, (omega arith, omega arith))

pub longer_wrote : {p q : Page} {t : List ℕ} → Wrote p t q → Longer p q
longer_wrote {p} {q} {t} a = subst (λ r. (length r.bytes ≡ length p.out.now) × ((p.at ≤ r.end) × (r.end ≤ max p.at (length p.out.now)))) (sym a.becomes) (longer_sheet (sheet p) t)

-- what is written is put behind what was written before
pub wrote_put : {p q : Page} {t : List ℕ} → Wrote p t q → Put p.out.now p.at t q.out.now q.at
wrote_put {p} {q} {t} a = rw (sym a.becomes) at (put_written (sheet p) t)

pub wrote_of_put : {p q : Page} {t : List ℕ} → q.out.ghost_name ≡ p.out.ghost_name → Put p.out.now p.at t q.out.now q.at → Wrote p t q
wrote_of_put {p} {q} {t} e h = record { becomes = sym (written_of_put (sheet p) t q.out.now q.at h ∙ rw e) }
