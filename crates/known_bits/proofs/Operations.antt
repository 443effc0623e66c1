-- The best pair for ADD, SUB, AND, OR, XOR and MOV at w bits, for operands of w bits.
use mathlib.Core.Path.{◌≡◌, refl, sym, ap, ◌∙◌, subst}
use Prim.Native.Nat.{ℕ, ◌+◌, ◌%◌, ◌^◌, ◌≤◌, ◌<◌}
use native.Mathlib.Omega.{arith}
use lib.Bits.{bit_or, xor_self, or_zero_l}
use Rattle.word.specs.Word.{bit, alu}
use Rattle.word.specs.declared.Operation.TheVariants.{Add, Sub, And, Or, Xor, Mov}
use Rattle.word.proofs.Bit.{bit_mod, bit_add, carry, carry_lt, carry_low, carry_mono, bit_sub, borrow, borrow_lt, borrow_low, borrow_mono, low_le}
use Rattle.word.proofs.Cut.{cut_small}
use Rattle.word.proofs.Pinned.{add_is_the_sum, and_bit_by_bit, or_bit_by_bit, xor_bit_by_bit, result_below}
use Rattle.known_bits.specs.declared.Bits.{Bits}
use Rattle.known_bits.specs.Formula.{sum, difference, digits, parity}
use Rattle.known_bits.specs.KnownBits.{Well, Mem, Best}
use Rattle.known_bits.specs.Pair.{packed, top}
use Rattle.known_bits.proofs.Base.{same_numbers_is_best}
use Rattle.known_bits.proofs.Tight.{mem_least, mem_top, mem_low, mem_high}
use Rattle.known_bits.proofs.Methods.{Image, monotone, carried}

-- the low bits of the numbers of a pair lie between those of its ends
module _ (w : ℕ) (p : Bits) (g : Well w p) (k x : ℕ) (l : k < w) (h : Mem w p x) where
  low_least : p.value % 2 ^ k ≤ x % 2 ^ k
  low_least = low_le k p.value x (λ j m. mem_low w p g x h j (omega arith))

  low_top : x % 2 ^ k ≤ top p % 2 ^ k
  low_top = low_le k x (top p) (λ j m. mem_high w p g x h j (omega arith))

sub_bit : (w k x y : ℕ) → k < w → x < 2 ^ w → y < 2 ^ w → bit k (alu w Sub x y) ≡ (bit k x + bit k y + borrow k x y) % 2
unfolding alu
sub_bit w k x y l hx hy = rw (cut_small w hx, cut_small w hy) (bit_sub w k x y l hx hy)

module _ (w : ℕ) (a b : Bits) (ga : Well w a) (gb : Well w b) where
  pub add_best : Best w (Image w (alu w Add) a b) (sum w a b)
  unfolding sum
  add_best =
      carried w a b ga gb (alu w Add) (result_below w Add) carry
      (λ k x y l hx hy. ap (bit k) (add_is_the_sum w x y) ∙ bit_mod w k (x + y) l ∙ bit_add k x y)
      carry_low
      carry_lt a.value b.value (top a) (top b) (mem_least w a ga) (mem_least w b gb) (mem_top w a ga) (mem_top w b gb)
      (λ k x y l hx hy. carry_mono k a.value b.value x y (low_least w a ga k x l hx) (low_least w b gb k y l hy))
      (λ k x y l hx hy. carry_mono k x y (top a) (top b) (low_top w a ga k x l hx) (low_top w b gb k y l hy))
      a.value b.value (mem_least w a ga) (mem_least w b gb)

  -- the ends are crossed, since the borrow grows with y and falls with x
  pub sub_best : Best w (Image w (alu w Sub) a b) (difference w a b)
  unfolding difference
  sub_best =
      carried w a b ga gb (alu w Sub) (result_below w Sub) borrow
      (sub_bit w)
      borrow_low
      borrow_lt (top a) b.value a.value (top b) (mem_top w a ga) (mem_least w b gb) (mem_least w a ga) (mem_top w b gb)
      (λ k x y l hx hy. borrow_mono k (top a) b.value x y (low_top w a ga k x l hx) (low_least w b gb k y l hy))
      (λ k x y l hx hy. borrow_mono k x y a.value (top b) (low_least w a ga k x l hx) (low_top w b gb k y l hy))
      a.value b.value (mem_least w a ga) (mem_least w b gb)

  -- no carry at all
  pub xor_best : Best w (Image w (alu w Xor) a b) (parity w a b)
  unfolding parity
  xor_best =
      subst (λ (n : ℕ). Best w (Image w (alu w Xor) a b) (packed (alu w Xor a.value b.value) (bit_or n b.mask)))
      (ap (λ (n : ℕ). bit_or n a.mask) (xor_self (alu w Xor a.value b.value)) ∙ or_zero_l a.mask)
      (carried w a b ga gb (alu w Xor) (result_below w Xor) (λ k x y. 0)
      (λ k x y l hx hy. omega (arith, xor_bit_by_bit w x y k l)) (λ k x y x' y' p q. refl) (λ k x y. omega arith)
      a.value b.value a.value b.value (mem_least w a ga) (mem_least w b gb) (mem_least w a ga) (mem_least w b gb)
      (λ k x y l hx hy. omega arith) (λ k x y l hx hy. omega arith) a.value b.value (mem_least w a ga) (mem_least w b gb))

  pub and_best : Best w (Image w (alu w And) a b) (digits w And a b)
  unfolding digits
  and_best =
      monotone w a b ga gb (alu w And) (result_below w And)
      (λ k x y x' y' l hx hy. omega (arith, and_bit_by_bit w x y k l, and_bit_by_bit w x' y' k l))

  pub or_best : Best w (Image w (alu w Or) a b) (digits w Or a b)
  unfolding digits
  or_best =
      monotone w a b ga gb (alu w Or) (result_below w Or)
      (λ k x y x' y' l hx hy. omega (arith, or_bit_by_bit w x y k l, or_bit_by_bit w x' y' k l))

-- ---- MOV gives its source, whatever the other operand is
mov_is : (w x y : ℕ) → y < 2 ^ w → alu w Mov x y ≡ y
unfolding alu
mov_is w x y h = cut_small w h

module _ (w : ℕ) (a b : Bits) (ga : Well w a) (gb : Well w b) where
  pub mov_best : Best w (Image w (alu w Mov) a b) b
  mov_best =
      same_numbers_is_best w (Image w (alu w Mov) a b) b gb
      (λ z i. subst (λ (n : ℕ). Mem w b n) (sym (i.4 ∙ mov_is w i.0 i.1 i.3.fits)) i.3)
      (λ z m. (a.value, z, mem_least w a ga, m, sym (mov_is w a.value z m.fits)))
