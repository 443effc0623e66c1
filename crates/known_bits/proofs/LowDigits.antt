-- Shift and add, digit by digit: its cut to w bits is shift and add at w bits, and the digits that are left change nothing once they are 0,
-- or once all is unknown from the lowest bit on that they can reach.
use mathlib.Core.Bool.{Bool, true, false, cond}
use mathlib.Core.Path.{◌≡◌, refl, sym, ap, ap₂, ◌∙◌, subst}
use Prim.Native.Nat.{ℕ, zero, suc, ◌+◌, ◌-◌, ◌*◌, ◌/◌, ◌%◌, ◌^◌, ◌≤◌, ◌<◌, max}
use native.Mathlib.Nat.{mod-lt, mod-one, mod_self, zero-mod, add-mod, add-zero}
use native.Mathlib.Decide.{dec_lt}
use native.Mathlib.Omega.{arith}
use lib.Bits.{bit_or, bit_xor, or_mod, xor_mod}
use lib.Dec.{eqb}
use lib.Pow.{pow_pos}
use borrow.Author.Tests.{eq-eqb}
use Rattle.word.specs.Word.{bit, cut, alu}
use Rattle.word.specs.declared.Operation.TheVariants.{Add}
use Rattle.word.proofs.Bit.{bit_lt, bit_zero, bit_or_lem, bit_mod, bit_shr, low_eq}
use Rattle.word.proofs.Cut.{cut_wider}
use Rattle.word.proofs.Pinned.{add_is_the_sum}
use Rattle.known_bits.specs.declared.Bits.{Bits}
use Rattle.known_bits.specs.Formula.{low, sum, joined, placed, with_digit, low_digits, shift_and_add}
use Rattle.known_bits.specs.Pair.{top, packed, spread}
use Rattle.known_bits.proofs.Base.{by_cases}
use Rattle.known_bits.proofs.Covering.{low_of_multiple, zeros_of_a_product}
use Rattle.known_bits.proofs.Laws.{high_bit}
use Rattle.known_bits.proofs.Tight.{packed_value, spread_bit}

-- ---- the same low w bits
record Alike (w : ℕ) (p q : Bits) : Type 0 where
  values : (i : ℕ) → i < w → bit i p.value ≡ bit i q.value
  masks : (i : ℕ) → i < w → bit i p.mask ≡ bit i q.mask

alike_low : (w : ℕ) (p q : Bits) → Alike w p q → low w p ≡ low w q
unfolding low cut
alike_low w p q h = λ i. record { value = low_eq w p.value q.value h.values i; mask = low_eq w p.mask q.mask h.masks i }

alike_then : (w : ℕ) (p q r : Bits) → Alike w p q → Alike w q r → Alike w p r
alike_then w p q r g h =
    record { values = λ i l. g.values i l ∙ h.values i l; masks = λ i l. g.masks i l ∙ h.masks i l }

-- no bit is both known to be 1 and unknown
abbrev Apart : Bits → Type 0
Apart r = (i : ℕ) → bit i r.value + bit i r.mask < 2

packed_apart : (s m : ℕ) → Apart (packed s m)
packed_apart s m i = omega (arith, packed_value i s m, bit_lt i s, bit_lt i m)

sum_apart : (w : ℕ) (p q : Bits) → Apart (sum w p q)
unfolding sum
sum_apart w p q = packed_apart (alu w Add p.value q.value) (sum w p q).mask

joined_apart : (p q : Bits) → Apart (joined p q)
unfolding joined
joined_apart p q = packed_apart p.value (joined p q).mask

low_digits_apart : (w : ℕ) (a b : Bits) (n : ℕ) → Apart (low_digits w a b n)
unfolding low_digits with_digit
low_digits_apart w a b zero = λ i. omega (arith, bit_zero i)
low_digits_apart w a b (suc k) =
    by_cases Apart (eqb (bit k a.mask) 0)
    (λ e. by_cases Apart (eqb (bit k a.value) 0) (λ i. low_digits_apart w a b k) (λ i. sum_apart w _ _)) (λ e. joined_apart _ _)

-- ---- where all is unknown from bit j on, nothing changes by what has no bit below j
low_bit_of_sum : (i j x y : ℕ) → i < j → i < 64 → y % 2 ^ j ≡ 0 → bit i (alu 64 Add x y) ≡ bit i x
low_bit_of_sum i j x y l h z =
    ap (bit i) (add_is_the_sum 64 x y) ∙ bit_mod 64 i (x + y) h ∙ sym (bit_mod j i (x + y) l)
    ∙ ap (bit i) (add-mod x y (2 ^ j) ∙ ap (λ (n : ℕ). (x % 2 ^ j + n) % 2 ^ j) (z ∙ sym (zero-mod (2 ^ j)))
    ∙ sym (add-mod x 0 (2 ^ j)) ∙ ap (λ (n : ℕ). n % 2 ^ j) (add-zero x)) ∙ bit_mod j i x l

module _ (w j : ℕ) (small : w ≤ 64) (r s : Bits) (apart : Apart r) (unknown : (i : ℕ) → j ≤ i → i < w → bit i r.mask ≡ 1)
    (zv : s.value % 2 ^ j ≡ 0) (zm : s.mask % 2 ^ j ≡ 0) where
  abbrev lo : ℕ
  lo = alu 64 Add r.value s.value

  abbrev hi : ℕ
  hi = alu 64 Add (top r) (top s)

  zt : top s % 2 ^ j ≡ 0
  zt = or_mod s.value s.mask j ∙ ap₂ bit_or zv zm

  sum_mask : (i : ℕ) → i < w → bit i (sum 64 r s).mask ≡ bit i r.mask
  unfolding sum
  sum_mask i l = spread_bit i lo lo hi r.mask s.mask ∙ go (dec_lt i j)
    where
      go : Dec (i < j) → max (max ((bit i hi + bit i lo) % 2) (bit i r.mask)) (bit i s.mask) ≡ bit i r.mask
      go (yes h) =
          omega (
            arith,
            low_bit_of_sum i j r.value s.value h (omega arith) zv,
            low_bit_of_sum i j (top r) (top s) h (omega arith) zt,
            bit_or_lem i r.value r.mask,
            low_of_multiple j s.mask zm i h,
            apart i,
          )
      go (no h) = omega (arith, unknown i (omega arith) l, bit_lt i s.mask)

  sum_value : (i : ℕ) → i < w → bit i (sum 64 r s).value ≡ bit i r.value
  unfolding sum
  sum_value i l = packed_value i lo (sum 64 r s).mask ∙ go (dec_lt i j)
    where
      go : Dec (i < j) → bit i lo - bit i (sum 64 r s).mask ≡ bit i r.value
      go (yes h) = omega (arith, sum_mask i l, low_bit_of_sum i j r.value s.value h (omega arith) zv, apart i)
      go (no h) = omega (arith, sum_mask i l, unknown i (omega arith) l, bit_lt i lo, apart i)

  sum_absorbed : Alike w (sum 64 r s) r
  sum_absorbed = record { values = sum_value; masks = sum_mask }

  joined_mask : (i : ℕ) → i < w → bit i (joined r (sum 64 r s)).mask ≡ bit i r.mask
  unfolding joined
  joined_mask i l =
      omega (arith, spread_bit i r.value (sum 64 r s).value r.value r.mask (sum 64 r s).mask, sum_value i l, sum_mask i l, bit_lt i r.mask)

  joined_value_lem : (i : ℕ) → i < w → bit i (joined r (sum 64 r s)).value ≡ bit i r.value
  unfolding joined
  joined_value_lem i l = omega (arith, packed_value i r.value (joined r (sum 64 r s)).mask, joined_mask i l, apart i)

  join_absorbed : Alike w (joined r (sum 64 r s)) r
  join_absorbed = record { values = joined_value_lem; masks = joined_mask }

-- ---- the digits of a that are left
-- from k on
from_on : (P : ℕ → Type 0) (k : ℕ) → P k → ((n : ℕ) → k ≤ n → P n → P (suc n)) → (m : ℕ) → k ≤ m → P m
from_on P k base step zero l = subst P (omega arith) base
from_on P k base step (suc m) l = go (dec_lt m k) (from_on P k base step m)
  where
    go : Dec (m < k) → (k ≤ m → P m) → P (suc m)
    go (yes h) before = let e : k ≡ suc m = omega arith in subst P e base
    go (no h) before = step m (omega arith) (before (omega arith))

alike_self : (w : ℕ) (p : Bits) → Alike w p p
alike_self w p = record { values = λ i l. refl; masks = λ i l. refl }

pub cut_of_multiple : (w m x : ℕ) → x % 2 ^ m ≡ 0 → x % 2 ^ w % 2 ^ m ≡ 0
cut_of_multiple w m x z = low_eq m (x % 2 ^ w) 0 (λ i l. go i l (dec_lt i w) ∙ sym (bit_zero i)) ∙ zero-mod (2 ^ m)
  where
    go : (i : ℕ) → i < m → Dec (i < w) → bit i (x % 2 ^ w) ≡ 0
    go i l (yes h) = bit_mod w i x h ∙ low_of_multiple m x z i l
    go i l (no h) = high_bit w i (x % 2 ^ w) h (mod-lt x (pow_pos w))

module _ (w : ℕ) (small : w ≤ 64) (a b : Bits) (j : ℕ) (zv : b.value % 2 ^ j ≡ 0) (zm : b.mask % 2 ^ j ≡ 0) where
  placed_multiple : (k x : ℕ) → x % 2 ^ j ≡ 0 → (x * 2 ^ k) % 2 ^ 64 % 2 ^ (j + k) ≡ 0
  placed_multiple k x z = cut_of_multiple 64 (j + k) (x * 2 ^ k) (zeros_of_a_product x (2 ^ k) j k z (mod_self (2 ^ k)))

  digit_absorbed : (k : ℕ) (r : Bits) → Apart r → ((i : ℕ) → j + k ≤ i → i < w → bit i r.mask ≡ 1) → Alike w (with_digit 64 a b k r) r
  unfolding with_digit placed
  digit_absorbed k r apart unknown =
      by_cases (λ (p : Bits). Alike w p r) (eqb (bit k a.mask) 0)
      (λ e. by_cases (λ (p : Bits). Alike w p r) (eqb (bit k a.value) 0) (λ i. alike_self w r)
      (λ i. sum_absorbed w (j + k) small r (placed 64 k b) apart unknown (placed_multiple k b.value zv) (placed_multiple k b.mask zm)))
      (λ e. join_absorbed w (j + k) small r (placed 64 k b) apart unknown (placed_multiple k b.value zv) (placed_multiple k b.mask zm))

  -- they can reach no bit below j + k
  module _ (k : ℕ) (unknown : (i : ℕ) → j + k ≤ i → i < w → bit i (low_digits 64 a b k).mask ≡ 1) where
    later_absorbed : (m : ℕ) → k ≤ m → Alike w (low_digits 64 a b m) (low_digits 64 a b k)
    unfolding low_digits
    later_absorbed =
        from_on (λ m. Alike w (low_digits 64 a b m) (low_digits 64 a b k)) k (alike_self w (low_digits 64 a b k))
        (λ n g h. alike_then w _ _ _ (digit_absorbed n _ (low_digits_apart 64 a b n) (λ i f l. h.masks i l ∙ unknown i (omega arith) l)) h)

    pub unknown_absorbs_the_rest : k ≤ 64 → low w (low_digits 64 a b k) ≡ low w (shift_and_add 64 a b)
    unfolding shift_and_add
    unknown_absorbs_the_rest l = sym (alike_low w _ _ (later_absorbed 64 l))

module _ (a b : Bits) (k : ℕ) (z : top a / 2 ^ k ≡ 0) where
  no_digit : (n : ℕ) → k ≤ n → (bit n a.mask ≡ 0) × (bit n a.value ≡ 0)
  no_digit n l =
      let c : n ≡ k + (n - k) = omega arith in
      let e : bit n (top a) ≡ 0 = ap (λ (m : ℕ). bit m (top a)) c ∙ sym (bit_shr k (n - k) (top a)) ∙ ap (bit (n - k)) z ∙ bit_zero (n - k) in
      (omega (arith, bit_or_lem n a.value a.mask), omega (arith, bit_or_lem n a.value a.mask))

  pub zeros_add_nothing : k ≤ 64 → low_digits 64 a b k ≡ shift_and_add 64 a b
  unfolding shift_and_add low_digits with_digit
  zeros_add_nothing l =
      from_on (λ m. low_digits 64 a b k ≡ low_digits 64 a b m) k refl
      (λ n g h. h ∙ simp (eq-eqb _ _ (no_digit n g).0, eq-eqb _ _ (no_digit n g).1)) 64 l

-- ---- the cut to w bits
module _ (w : ℕ) where
  low_packed : (s m : ℕ) → low w (packed s m) ≡ packed (cut w s) (cut w m)
  unfolding low cut
  low_packed s m = λ i. record {
    value = (xor_mod (bit_or s m) m w ∙ ap (λ (n : ℕ). bit_xor n (m % 2 ^ w)) (or_mod s m w)) i;
    mask = m % 2 ^ w;
  }

  low_spread : (s lo hi ma mb : ℕ) → low w (spread s lo hi ma mb) ≡ spread (cut w s) (cut w lo) (cut w hi) (cut w ma) (cut w mb)
  unfolding cut
  low_spread s lo hi ma mb =
      low_packed s (spread s lo hi ma mb).mask
      ∙ ap (packed (s % 2 ^ w))
      (or_mod (bit_or (bit_xor hi lo) ma) mb w ∙ ap (λ (n : ℕ). bit_or n (mb % 2 ^ w))
      (or_mod (bit_xor hi lo) ma w ∙ ap (λ (n : ℕ). bit_or n (ma % 2 ^ w)) (xor_mod hi lo w)))

  low_joined : (p q : Bits) → low w (joined p q) ≡ joined (low w p) (low w q)
  unfolding joined low
  low_joined p q = low_spread p.value q.value p.value p.mask q.mask

  choice : (t u : Bool) (x y z x' y' z' : Bits) → low w x ≡ x' → low w y ≡ y' → low w z ≡ z'
      → low w (cond t (cond u x y) z) ≡ cond t (cond u x' y') z'
  choice true true x y z x' y' z' p q s = p
  choice true false x y z x' y' z' p q s = q
  choice false u x y z x' y' z' p q s = s

  module _ (small : w ≤ 64) where
    cut_of_sum : (x y : ℕ) → cut w (alu 64 Add x y) ≡ alu w Add (cut w x) (cut w y)
    unfolding cut
    cut_of_sum x y =
        ap (cut w) (add_is_the_sum 64 x y) ∙ cut_wider w 64 (x + y) small ∙ add-mod x y (2 ^ w) ∙ sym (add_is_the_sum w (x % 2 ^ w) (y % 2 ^ w))

    low_sum : (p q : Bits) → low w (sum 64 p q) ≡ sum w (low w p) (low w q)
    unfolding sum low cut
    low_sum p q =
        low_spread _ _ _ p.mask q.mask
        ∙ ap₂ (λ (s t : ℕ). spread s s t (p.mask % 2 ^ w) (q.mask % 2 ^ w)) (cut_of_sum p.value q.value)
        (cut_of_sum (top p) (top q) ∙ ap₂ (alu w Add) (or_mod p.value p.mask w) (or_mod q.value q.mask w))

    low_placed : (k : ℕ) (b : Bits) → low w (placed 64 k b) ≡ placed w k b
    unfolding low placed cut
    low_placed k b = λ i. record { value = cut_wider w 64 (b.value * 2 ^ k) small i; mask = cut_wider w 64 (b.mask * 2 ^ k) small i }

    low_of_low_digits : (a b : Bits) (n : ℕ) → low w (low_digits 64 a b n) ≡ low_digits w a b n
    unfolding low_digits with_digit low cut
    low_of_low_digits a b zero = λ i. record { value = zero-mod (2 ^ w) i; mask = zero-mod (2 ^ w) i }
    low_of_low_digits a b (suc k) =
        let ih = low_of_low_digits a b k in
        let more : low w (sum 64 (low_digits 64 a b k) (placed 64 k b)) ≡ sum w (low_digits w a b k) (placed w k b) =
        low_sum _ _ ∙ ap₂ (sum w) ih (low_placed k b) in
        choice (eqb (bit k a.mask) 0) (eqb (bit k a.value) 0) _ _ _ _ _ _ ih more (low_joined _ _ ∙ ap₂ joined ih more)

    pub cut_of_shift_and_add : (a b : Bits) → low w (shift_and_add 64 a b) ≡ shift_and_add w a b
    unfolding shift_and_add
    cut_of_shift_and_add a b =
        sym (unknown_absorbs_the_rest w small a b 0 (mod-one b.value) (mod-one b.mask) w (λ i g l. absurd (omega arith)) small)
        ∙ low_of_low_digits a b w
