-- What is told of a register is what waits at the index; where `annotate` left it, it is what the analysis follows to there.
use mathlib.Core.Bool.{true, false}
use mathlib.Core.List.{List}
use mathlib.Core.Path.{◌≡◌}
use Prim.Native.Nat.{ℕ, ◌/◌, ◌≤◌}
use native.Mathlib.Omega.{arith}
use lib.ListN.{length}
use lib.Dec.{ltb}
use borrow.Author.Tests.{ltb-false}
use Rattle.text.specs.declared.page.Page.{Page}
use Rattle.text.specs.Page.{Wrote}
use Rattle.analysis.specs.Judged.{followed}
use Rattle.verifier.specs.Answered.{passes_form, Annotates}
use Rattle.waiting.specs.Layout.{words}
use Rattle.waiting.specs.Store.{waiting_in}
use Rattle.explain.specs.Known.{known_text, Tells}

-- in memory that has the words, the text is that of what waits at the index
pub what_is_told : {n : ℕ} {m : List ℕ} {i r : ℕ} {p q : Page} → Tells n m i r p q → words n ≤ length m → Wrote p (known_text (waiting_in n m i) r) q
unfolding known_text
what_is_told t h = rw (t.waits h) at t.text

-- the text written is that of the state that the analysis follows to index i
pub told_as_followed : (program : List ℕ) (R size : ℕ) (m : List ℕ) (i r : ℕ) (p q : Page)
    → length m ≡ size → Annotates program R size m → passes_form program R ≡ true → ltb size (words (length program / 8)) ≡ false
    → Tells (length program / 8) m i r p q → Wrote p (known_text ((followed program R).waiting i) r) q
told_as_followed program R size m i r p q is a form room t =
    rw (a.holds form room i) at (what_is_told t (omega (arith, ltb-false size (words (length program / 8)) room)))
