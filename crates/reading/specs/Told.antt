-- What the C function promises: where the program that its code and the caller's answer tell of lies.
use Rattle.std.specs.Prelude.{◌≡◌, List, ℕ, ◌+◌, ◌≤◌, ◌<◌, length, get_or}

-- for a file of k bytes, a buffer of room bytes, and the answer's words before and after
pub record Told (k room : ℕ) (before after : List ℕ) (code : ℕ) : Type 0 where
  pub too_short : length before < 2 → (code ≡ 99) × (after ≡ before)
  pub in_file : code ≡ 0 → get_or after 0 0 + get_or after 1 0 ≤ k
  pub spelled : code ≡ 1 → get_or after 0 0 ≤ room
  pub trouble : 2 ≤ code → after ≡ before
