-- The ends of a pair, and the pair that the code builds from a number and a mask.
use Rattle.std.specs.Prelude.{ℕ}
use Rattle.std.specs.Int.Bits.{bit_or, bit_xor}
use Rattle.known_bits.specs.declared.Bits.{Bits}

-- the greatest number of a pair; the least is its value
abbrev pub top : Bits → ℕ
top p = bit_or p.value p.mask

-- the pair of a number that is known
abbrev pub exactly : ℕ → Bits
exactly x = record { value = x; mask = 0 }

-- s with the bits of m unknown. What m leaves unknown is cleared by (s | m) ^ m, which names no width
abbrev pub packed : ℕ → ℕ → Bits
packed s m = record { value = bit_xor (bit_or s m) m; mask = m }

-- s with the bits unknown where lo and hi differ, or where ma or mb is 1
abbrev pub spread : ℕ → ℕ → ℕ → ℕ → ℕ → Bits
spread s lo hi ma mb = packed s (bit_or (bit_or (bit_xor hi lo) ma) mb)

-- a function on numbers, done to value and mask
abbrev pub each : (ℕ → ℕ) → Bits → Bits
each f p = record { value = f p.value; mask = f p.mask }
