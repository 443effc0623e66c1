-- A line that begins as "accepted" does, and the status 0, are said of an accepted finding and of nothing else.
use mathlib.Core.Path.{◌≡◌, refl}
use mathlib.Core.Logic.{◌↔◌}
use Prim.Native.Nat.{ℕ}
use native.Mathlib.Omega.{arith}
use lib.ListN.{get_or}
use Rattle.analysis.specs.declared.Finding.{Finding}
use Rattle.analysis.specs.declared.Finding.TheVariants.{Accepted, Refused}
use Rattle.std.specs.Prelude.{Ok, Err}
use Rattle.analysis.specs.Answer.{Answer}
use Rattle.reports.specs.Line.{finding_text, finding_status, answer_text, answer_status}

abbrev Yes : Answer → Type 0
Yes (Ok j) = j.finding ≡ Accepted
Yes (Err e) = ⊥

-- the letter a
finding_begins : (f : Finding) (n : ℕ) → (get_or (finding_text f n) 0 0 ≡ 97) ↔ (f ≡ Accepted)
finding_begins Accepted n = (λ e. refl, λ e. refl)
finding_begins (Refused reason place) n = (λ e. absurd (omega arith), λ e. let z : ◌≡◌ {A = ℕ} 0 1 = cc in absurd (omega arith))

pub answer_begins : (a : Answer) (n : ℕ) → (get_or (answer_text a n) 0 0 ≡ 97) ↔ Yes a
answer_begins (Ok j) n = finding_begins j.finding n
answer_begins (Err small) n = (λ e. absurd (omega arith), λ e. absurd e)

finding_zero : (f : Finding) → (finding_status f ≡ 48) ↔ (f ≡ Accepted)
finding_zero Accepted = (λ e. refl, λ e. refl)
finding_zero (Refused reason place) = (λ e. absurd (omega arith), λ e. let z : ◌≡◌ {A = ℕ} 0 1 = cc in absurd (omega arith))

pub status_zero : (a : Answer) → (answer_status a ≡ 48) ↔ Yes a
status_zero (Ok j) = finding_zero j.finding
status_zero (Err small) = (λ e. absurd (omega arith), λ e. absurd e)
