-- Pieces of the arguments, and of their words.
use Rattle.std.proofs.Common.{ℕ, List, [], slice_range, refl}
use Rattle.text.specs.Part.{Part}
use Rattle.text.proofs.Parts.{part_of_part, part_from_range}

pub part_nil : (whole : List ℕ) → Part whole []
part_nil whole = record { before = []; behind = whole; split = refl }

pub range_of_part : (whole piece : List ℕ) (n m : ℕ) → Part whole piece → Part whole (slice_range piece n m)
range_of_part whole piece n m p = part_of_part whole piece (slice_range piece n m) p (part_from_range piece n m)
