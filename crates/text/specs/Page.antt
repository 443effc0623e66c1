-- What is written on a page.
use Rattle.std.specs.Prelude.{List, ◌≡◌, ℕ, ◌+◌, ◌≤◌, min, max, length}
use Rattle.std.proofs.lemmas.List.Edits.{sets}
use Rattle.text.specs.declared.page.Page.{Page}

-- the memory that a page is over, what stands there, and where what is written ends
pub record Sheet : Type 0 where
  pub name : ℕ
  pub bytes : List ℕ
  pub end : ℕ

abbrev pub sheet : Page → Sheet
sheet p = record { name = p.out.ghost_name; bytes = p.out.now; end = p.at }

-- s with the text t behind what is written, as far as there is room
unfoldable pub written : Sheet → List ℕ → Sheet
written s t = record { name = s.name; bytes = sets s.bytes s.end t; end = max s.end (min (s.end + length t) (length s.bytes)) }

-- q is the page p with some more text, or none: over bytes of the same length, and its end is p's, or further on and among them
abbrev pub Longer : Page → Page → Type 0
Longer p q = (length q.out.now ≡ length p.out.now) × ((p.at ≤ q.at) × (q.at ≤ max p.at (length p.out.now)))

-- q is the page p with the text t behind what is written
pub record Wrote (p : Page) (t : List ℕ) (q : Page) : Type 0 where
  pub becomes : sheet q ≡ written (sheet p) t
