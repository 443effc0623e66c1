-- The best pair for the cut to v bits.
use mathlib.Core.Path.{◌≡◌, sym}
use mathlib.Core.Logic.{inl, inr}
use Prim.Native.Nat.{ℕ, ◌^◌, ◌≤◌, ◌<◌}
use native.Mathlib.Nat.{mod-le, lt_of_le_of_lt}
use native.Mathlib.Decide.{dec_lt}
use Rattle.word.specs.Word.{bit, cut}
use Rattle.word.proofs.Bit.{bit_mod}
use Rattle.word.proofs.Cut.{cut_below, cut_small}
use Rattle.known_bits.specs.declared.Bits.{Bits}
use Rattle.known_bits.specs.Formula.{low}
use Rattle.known_bits.specs.KnownBits.{Well, Best}
use Rattle.known_bits.proofs.Laws.{high_bit}
use Rattle.known_bits.proofs.Methods.{Image1, From, selected}

pub cut_bit : (v k x : ℕ) → k < v → bit k (cut v x) ≡ bit k x
unfolding cut
cut_bit v k x l = bit_mod v k x l

cut_at_most : (v x : ℕ) → cut v x ≤ x
unfolding cut
cut_at_most v x = mod-le x (2 ^ v)

-- nothing is cut off a pair of w bits
pub low_same : (w : ℕ) (p : Bits) → p.value < 2 ^ w → p.mask < 2 ^ w → p ≡ low w p
unfolding low
low_same w p hv hm = λ i. record { value = sym (cut_small w hv) i; mask = sym (cut_small w hm) i }

pub low_best : (v w : ℕ) (a : Bits) → Well w a → Best w (Image1 w (cut v) a) (low v a)
unfolding low
low_best v w a ga = selected w a ga (cut v) (λ x h. lt_of_le_of_lt (cut_at_most v x) h) (λ k l. go k l (dec_lt k v))
  where
    go : (k : ℕ) → k < w → Dec (k < v) → From w (cut v) k
    go k i (yes l) = inl (k, i, λ x hx. cut_bit v k x l)
    go k i (no n) = inr (λ x hx. high_bit v k (cut v x) n (cut_below v x))
