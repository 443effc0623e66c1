-- Where a program that was found lies.
use Rattle.std.specs.Prelude.{ℕ, ◌≤◌}
use Rattle.loading.specs.declared.Place.{Place}
use Rattle.loading.specs.declared.Place.TheVariants.{InFile, Spelled}

-- in a file of k bytes, or at the start of a buffer of room bytes
abbrev pub Lies : ℕ → ℕ → Place → Type 0
Lies k room (InFile start end) = (start ≤ end) × (end ≤ k)
Lies k room (Spelled size) = size ≤ room
