-- The laws by which the fields of an instruction, fetched piece by piece, are those of the definition.
use mathlib.Core.Path.{◌≡◌}
use mathlib.Core.List.{List}
use Prim.Native.Nat.{ℕ, ◌+◌, ◌/◌, ◌%◌, ◌<◌}
use native.Mathlib.Omega.{arith}
use lib.ListN.{get_or}
use Rattle.word.specs.Word.{read_bytes}
use Rattle.word.proofs.Bytes.{read_below, read_splits}
use Rattle.machine.specs.Instruction.{fields}

module _ (m : List ℕ) (i : ℕ) (byte : (j : ℕ) → get_or m j 0 < 256) where
  -- imm is the upper half of the eight bytes
  upper : read_bytes 8 m i / 4294967296 ≡ read_bytes 4 m (i + 4)
  upper = omega (arith, read_splits 4 4 m i, read_below 4 m i byte)

  -- a byte is twice four bits
  pub two_registers : (registers : ℕ) → registers ≡ read_bytes 1 m (i + 1) → (registers % 16 < 16) × (registers / 16 < 16)
  unfolding read_bytes
  two_registers registers r-is = (omega arith, omega (arith, r-is, byte (i + 1)))

  pub fields_by_parts : (registers off word : ℕ) → registers ≡ read_bytes 1 m (i + 1) → off ≡ read_bytes 2 m (i + 2) → word ≡ read_bytes 8 m i
      → record { opcode = get_or m i 0; dst = registers % 16; src = registers / 16; off = off; imm = word / 4294967296 } ≡ fields m i
  unfolding fields read_bytes
  fields_by_parts registers off word r-is off-is w-is =
      let one : registers ≡ get_or m (i + 1) 0 = omega arith in
      rw (one, off-is, w-is, upper)
