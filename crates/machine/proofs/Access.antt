-- The law by which the code of memory meets the definitions: bytes joined to a word.
use Rattle.std.proofs.Common.{ℕ}
use mathlib.Core.Path.{◌≡◌, ap, ◌∙◌}
use mathlib.Core.List.{List}
use Prim.Native.Nat.{ℕ, ◌+◌, ◌*◌, ◌%◌, ◌^◌, ◌≤◌, ◌<◌}
use native.Mathlib.Omega.{arith}
use lib.ListN.{get_or}
use lib.Pow.{shl_exact}
use lib.Bits.{bit_or, or_shifted_r}
use Rattle.word.specs.Word.{read_bytes}
use Rattle.word.proofs.Bytes.{bytes_pow, read_below, read_splits}

-- ---- b bytes joined above a bytes, as one word

pub joined : (a b : ℕ) (m : List ℕ) (i : ℕ) → ((j : ℕ) → get_or m j 0 < 256) → a + b ≤ 8
    → bit_or (read_bytes a m i) (read_bytes b m (i + a) * 2 ^ (8 * a) % 2 ^ 64) ≡ read_bytes (a + b) m i
joined a b m i small short =
    let whole = shl_exact (8 * b) (8 * a) 64 (read_below b m (i + a) small) (omega arith) in
    ap (bit_or (read_bytes a m i)) whole ∙ or_shifted_r (read_bytes b m (i + a)) (8 * a) (read_bytes a m i) (read_below a m i small)
    ∙ rw (read_splits a b m i, bytes_pow a) (omega arith)
