-- Pieces of a text, and pieces of those.
use Rattle.std.proofs.Common.{ℕ, ◌-◌, List, ◌++◌, [], take, drop, slice_range, ap, ◌∙◌, append_assoc}
use Rattle.std.proofs.lemmas.List.{take-append-drop, append-nil}
use Rattle.text.specs.Part.{Part}

pub part_whole : (whole : List ℕ) → Part whole whole
part_whole whole = record { before = []; behind = []; split = rw (append-nil whole) }

pub part_of_part : (whole piece inner : List ℕ) → Part whole piece → Part piece inner → Part whole inner
part_of_part whole piece inner p q = record {
  before = p.before ++ q.before;
  behind = q.behind ++ p.behind;
  split = rw (p.split, q.split) (simp append_assoc);
}

pub part_take : (whole piece : List ℕ) (n : ℕ) → Part whole piece → Part whole (take n piece)
part_take whole piece n p = record {
  before = p.before;
  behind = drop n piece ++ p.behind;
  split = p.split ∙ ap (λ l. p.before ++ l) (rw (← append_assoc, take-append-drop n piece));
}

pub part_from_drop : (whole : List ℕ) (n : ℕ) → Part whole (drop n whole)
part_from_drop whole n = record {
  before = take n whole;
  behind = [];
  split = rw (append-nil, take-append-drop n whole);
}

pub part_drop : (whole piece : List ℕ) (n : ℕ) → Part whole piece → Part whole (drop n piece)
part_drop whole piece n p = part_of_part whole piece (drop n piece) p (part_from_drop piece n)

pub part_from_range : (whole : List ℕ) (n m : ℕ) → Part whole (slice_range whole n m)
part_from_range whole n m = part_take whole (drop n whole) (m - n) (part_from_drop whole n)

pub take_of_part : (whole piece inner : List ℕ) (n : ℕ) → Part whole piece → Part piece inner → Part whole (take n inner)
take_of_part whole piece inner n p q = part_take whole inner n (part_of_part whole piece inner p q)
