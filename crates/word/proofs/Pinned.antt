-- Every definition of `specs/Word.antt` held to a characterisation that does not share its text: a mistake there would be consistent
-- everywhere else. Width w throughout; d % 2 ^ w is the low w bits of d.
use Rattle.std.proofs.Common.{◌≡◌, ℕ, suc, ◌+◌, ◌-◌, ◌*◌, ◌/◌, ◌%◌, ◌^◌, ◌<◌, ◌≤◌, min, max, Bool, true, false, cond, not, eqb, ltb, leb, ◌↔◌, List, length, get_or, ℤ, pos, negsuc, sym, refl, ap, ◌∙◌, lt_of_lt_of_le, lt_of_le_of_lt, mod-lt, mod-eq_of_lt, div-add-mod', div-le_self, arith, pow_pos, ltb-true, le-ltb, lt-ltb, eq-eqb, ne_eqb, eqb-true, le-leb, leb-true}
use native.Mathlib.Nat.{mod-mod, mod-le, mod_self, add-mod, mod-add-mod, add-mod-mod, add-mod_right}
use native.Mathlib.Decide.{dec_lt}
use lib.Bits.{bit_and, and_lt, or_lt, xor_lt}
use lib.IntN.{sub_ℕ}
use lib.Pow.{split, shr_le}
use lib.Signed.{lt_z, le_z, shr_z}
use borrow.Author.Tests.{eqb-false, not-true, lt-leb}
use Rattle.word.specs.declared.Operation.{Operation}
use Rattle.word.specs.declared.Operation.TheVariants.{Add, Sub, Mul, Div, Or, And, Lsh, Rsh, Neg, Mod, Xor, Mov, Arsh}
use Rattle.word.specs.declared.Comparison.TheVariants.{Eq, Gt, Ge, Set, Ne, Sgt, Sge, Lt, Le, Slt, Sle}
use Rattle.word.specs.Word.{cut, bit, extend, shift_signed, alu, moved, compare, read_bytes, write_bytes}
use Rattle.word.proofs.Bit.{bit_lt, bit_zero, bit_and_lem, bit_or_lem, bit_xor_lem, bit_mod, bit_shr, bit_shl, bit_shl_low, low_suc, some_bit}
use Rattle.word.proofs.Bytes.{read_written, written_byte, write_length, write_keeps_below, write_keeps_above, read_splits}
use Rattle.word.proofs.Cut.{cut_below, mod_times_mod, product_mod}
use Rattle.word.proofs.Extend.{two_halves, half_le, moved_low, moved_high, extend_low, extend_below, extend_negative, extend_complement, shift_low, shift_high}

-- ---- parts of a number

pub cut_leaves_a_multiple : (w x : ℕ) → x / 2 ^ w * 2 ^ w + cut w x ≡ x
unfolding cut
cut_leaves_a_multiple w x = split x w

-- with `bit_lt`: the digit of 2 ^ k
pub bit_is_a_digit : (k x : ℕ) → x % 2 ^ suc k ≡ bit k x * 2 ^ k + x % 2 ^ k
bit_is_a_digit k x = low_suc k x

-- ---- the operations
module _ (w : ℕ) where
  module _ (d s : ℕ) where
    pub add_is_the_sum : alu w Add d s ≡ (d + s) % 2 ^ w
    unfolding alu cut
    add_is_the_sum = sym (add-mod d s (2 ^ w))

    pub sub_undoes_add : alu w Sub (alu w Add d s) s ≡ d % 2 ^ w
    unfolding alu cut
    sub_undoes_add =
        let b : s % 2 ^ w < 2 ^ w = mod-lt s (pow_pos w) in
        let e : d % 2 ^ w + s % 2 ^ w + (2 ^ w - s % 2 ^ w) ≡ d % 2 ^ w + 2 ^ w = omega arith in
        rw (mod-mod (d % 2 ^ w + s % 2 ^ w) (2 ^ w), mod-add-mod (d % 2 ^ w + s % 2 ^ w) (2 ^ w) (2 ^ w - s % 2 ^ w), e)
        (add-mod_right (d % 2 ^ w) (2 ^ w) ∙ mod-mod d (2 ^ w))

    pub add_undoes_sub : alu w Add (alu w Sub d s) s ≡ d % 2 ^ w
    unfolding alu cut
    add_undoes_sub =
        let b : s % 2 ^ w < 2 ^ w = mod-lt s (pow_pos w) in
        let e : d % 2 ^ w + (2 ^ w - s % 2 ^ w) + s % 2 ^ w ≡ d % 2 ^ w + 2 ^ w = omega arith in
        rw (mod-mod (d % 2 ^ w + (2 ^ w - s % 2 ^ w)) (2 ^ w), mod-add-mod (d % 2 ^ w + (2 ^ w - s % 2 ^ w)) (2 ^ w) (s % 2 ^ w), e)
        (add-mod_right (d % 2 ^ w) (2 ^ w) ∙ mod-mod d (2 ^ w))

    pub neg_cancels : alu w Add d (alu w Neg d s) ≡ 0
    unfolding alu cut
    neg_cancels =
        let b : d % 2 ^ w < 2 ^ w = mod-lt d (pow_pos w) in
        let e : d % 2 ^ w + (2 ^ w - d % 2 ^ w) ≡ 2 ^ w = omega arith in
        rw (mod-mod (2 ^ w - d % 2 ^ w) (2 ^ w), add-mod-mod (d % 2 ^ w) (2 ^ w - d % 2 ^ w) (2 ^ w), e) (mod_self (2 ^ w))

    pub mul_is_the_product : alu w Mul d s ≡ (d * s) % 2 ^ w
    unfolding alu cut
    mul_is_the_product = product_mod d s (2 ^ w)

    pub mov_is_the_source : alu w Mov d s ≡ s % 2 ^ w
    unfolding alu cut
    mov_is_the_source = refl

    -- quotient and rest, by a divisor that is not 0
    module _ (h : 0 < s % 2 ^ w) where
      pub division_equation : alu w Div d s * (s % 2 ^ w) + alu w Mod d s ≡ d % 2 ^ w
      unfolding alu cut
      division_equation = simp (ne_eqb (s % 2 ^ w) 0 (λ e. omega arith)) (div-add-mod' (d % 2 ^ w) (s % 2 ^ w))

      pub rest_below_divisor : alu w Mod d s < s % 2 ^ w
      unfolding alu cut
      rest_below_divisor = simp (ne_eqb (s % 2 ^ w) 0 (λ e. omega arith)) (mod-lt (d % 2 ^ w) h)

    pub div_by_zero : s % 2 ^ w ≡ 0 → alu w Div d s ≡ 0
    unfolding alu cut
    div_by_zero h = simp (eq-eqb (s % 2 ^ w) 0 h)

    pub mod_by_zero : s % 2 ^ w ≡ 0 → alu w Mod d s ≡ d % 2 ^ w
    unfolding alu cut
    mod_by_zero h = simp (eq-eqb (s % 2 ^ w) 0 h)

    -- bit by bit
    module _ (k : ℕ) (h : k < w) where
      pub and_bit_by_bit : bit k (alu w And d s) ≡ min (bit k d) (bit k s)
      unfolding alu cut
      and_bit_by_bit = rw (bit_and_lem k (d % 2 ^ w) (s % 2 ^ w), bit_mod w k d h, bit_mod w k s h)

      pub or_bit_by_bit : bit k (alu w Or d s) ≡ max (bit k d) (bit k s)
      unfolding alu cut
      or_bit_by_bit = rw (bit_or_lem k (d % 2 ^ w) (s % 2 ^ w), bit_mod w k d h, bit_mod w k s h)

      pub xor_bit_by_bit : bit k (alu w Xor d s) ≡ (bit k d + bit k s) % 2
      unfolding alu cut
      xor_bit_by_bit = rw (bit_xor_lem k (d % 2 ^ w) (s % 2 ^ w), bit_mod w k d h, bit_mod w k s h)

    -- a count comes back at every w
    pub lsh_count_periodic : alu w Lsh d (s + w) ≡ alu w Lsh d s
    unfolding alu
    lsh_count_periodic = rw (add-mod_right s w)

    pub rsh_count_periodic : alu w Rsh d (s + w) ≡ alu w Rsh d s
    unfolding alu
    rsh_count_periodic = rw (add-mod_right s w)

    pub arsh_count_periodic : alu w Arsh d (s + w) ≡ alu w Arsh d s
    unfolding alu
    arsh_count_periodic = rw (add-mod_right s w)

  -- shifts by n < w
  module _ (d n : ℕ) (h : n < w) where
    pub lsh_multiplies : alu w Lsh d n ≡ (d * 2 ^ n) % 2 ^ w
    unfolding alu cut
    lsh_multiplies = rw (mod-eq_of_lt h) (mod_times_mod d (2 ^ n) (2 ^ w))

    pub rsh_divides : alu w Rsh d n ≡ d % 2 ^ w / 2 ^ n
    unfolding alu cut
    rsh_divides = rw (mod-eq_of_lt h)

    pub lsh_moves_bits_up : (k : ℕ) → n + k < w → bit (n + k) (alu w Lsh d n) ≡ bit k d
    lsh_moves_bits_up k l = ap (bit (n + k)) lsh_multiplies ∙ bit_mod w (n + k) (d * 2 ^ n) l ∙ bit_shl n k d

    pub lsh_fills_with_zeros : (k : ℕ) → k < n → bit k (alu w Lsh d n) ≡ 0
    lsh_fills_with_zeros k l = ap (bit k) lsh_multiplies ∙ bit_mod w k (d * 2 ^ n) (omega arith) ∙ bit_shl_low n k d l

    pub rsh_moves_bits_down : (k : ℕ) → bit k (alu w Rsh d n) ≡ bit (n + k) (d % 2 ^ w)
    rsh_moves_bits_down k = ap (bit k) rsh_divides ∙ bit_shr n k (d % 2 ^ w)

-- ---- every result has w bits

either_below : (b : Bool) {x y n : ℕ} → x < n → y < n → cond b x y < n
either_below true h l = h
either_below false h l = l

pub result_below : (w : ℕ) (op : Operation) (d s : ℕ) → alu w op d s < 2 ^ w
unfolding alu shift_signed
result_below w Add d s = mod-lt _ (pow_pos w)
result_below w Sub d s = mod-lt _ (pow_pos w)
result_below w Mul d s = mod-lt _ (pow_pos w)
result_below w Div d s = either_below (eqb (cut w s) 0) (pow_pos w) (lt_of_le_of_lt (div-le_self (cut w d) (cut w s)) (cut_below w d))
result_below w Or d s = or_lt w (cut w d) (cut w s) (cut_below w d) (cut_below w s)
result_below w And d s = and_lt w (cut w d) (cut w s) (cut_below w d) (cut_below w s)
result_below w Lsh d s = mod-lt _ (pow_pos w)
result_below w Rsh d s = lt_of_le_of_lt (shr_le (cut w d) (s % w)) (cut_below w d)
result_below w Neg d s = mod-lt _ (pow_pos w)
result_below w Mod d s = either_below (eqb (cut w s) 0) (cut_below w d) (lt_of_le_of_lt (mod-le (cut w d) (cut w s)) (cut_below w d))
result_below w Xor d s = xor_lt w (cut w d) (cut w s) (cut_below w d) (cut_below w s)
result_below w Mov d s = cut_below w s
result_below w Arsh d s =
    either_below (ltb (cut w d) (2 ^ (w - 1))) (lt_of_le_of_lt (shr_le (cut w d) (s % w)) (cut_below w d)) (omega (arith, pow_pos w))

-- ---- signed values

-- two's complement: from half the range on, x - 2 ^ w
unfoldable pub signed : ℕ → ℕ → ℤ
signed w x = cond (ltb x (2 ^ (w - 1))) (pos x) (sub_ℕ x (2 ^ w))

pub signed_low : (w x : ℕ) → x < 2 ^ (w - 1) → signed w x ≡ pos x
unfolding signed
signed_low w x h = simp (lt-ltb _ _ h)

pub signed_high : (w x : ℕ) → 2 ^ (w - 1) ≤ x → x < 2 ^ w → signed w x ≡ negsuc (2 ^ w - 1 - x)
unfolding signed
signed_high w x h l = let e : 2 ^ w - suc x ≡ 2 ^ w - 1 - x = omega arith in simp (le-ltb _ _ h, lt-ltb _ _ l, e)

pub extend_keeps_the_signed_value : (w x : ℕ) → 0 < w → w ≤ 64 → signed 64 (extend w x) ≡ signed w (x % 2 ^ w)
unfolding cut
extend_keeps_the_signed_value w x h l = go (dec_lt (cut w x) (2 ^ (w - 1)))
  where
    go : Dec (cut w x < 2 ^ (w - 1)) → signed 64 (extend w x) ≡ signed w (cut w x)
    go (yes a) =
        ap (signed 64) (extend_low w x a) ∙ signed_low 64 (cut w x) (lt_of_lt_of_le a (half_le w h l)) ∙ sym (signed_low w (cut w x) a)
    go (no a) =
        let b : 2 ^ (w - 1) ≤ cut w x = omega arith in
        signed_high 64 (extend w x) (extend_negative w h l x b) (extend_below w h l x)
        ∙ ap negsuc (extend_complement w h l x b) ∙ sym (signed_high w (cut w x) b (cut_below w x))

-- `shr_z` rounds down
pub arsh_divides_the_signed_value : (w d n : ℕ) → n < w → signed w (alu w Arsh d n) ≡ shr_z (signed w (d % 2 ^ w)) (2 ^ n)
unfolding alu cut
arsh_divides_the_signed_value w d n h =
    ap (λ (k : ℕ). signed w (shift_signed w (d % 2 ^ w) k)) (mod-eq_of_lt h)
    ∙ go (d % 2 ^ w) (mod-lt d (pow_pos w)) (dec_lt (d % 2 ^ w) (2 ^ (w - 1)))
  where
    go : (x : ℕ) → x < 2 ^ w → Dec (x < 2 ^ (w - 1)) → signed w (shift_signed w x n) ≡ shr_z (signed w x) (2 ^ n)
    go x l (yes a) = rw (shift_low w x n a, signed_low w x a) (signed_low w (x / 2 ^ n) (lt_of_le_of_lt (shr_le x n) a))
    go x l (no a) =
        let b : 2 ^ (w - 1) ≤ x = omega arith in
        let y = (2 ^ w - 1 - x) / 2 ^ n in
        let t : y ≤ 2 ^ w - 1 - x = shr_le (2 ^ w - 1 - x) n in
        let e : 2 ^ w - 1 - (2 ^ w - 1 - y) ≡ y = omega arith in
        rw (shift_high w x n b, signed_high w x b l)
        (signed_high w (2 ^ w - 1 - y) (omega (arith, two_halves w (omega arith))) (omega (arith, pow_pos w)) ∙ ap negsuc e)

-- ---- the comparisons

module _ (w d s : ℕ) where
  pub eq_is_equality : (compare w Eq d s ≡ true) ↔ (d % 2 ^ w ≡ s % 2 ^ w)
  unfolding compare cut
  eq_is_equality = (eqb-true (d % 2 ^ w) (s % 2 ^ w), eq-eqb (d % 2 ^ w) (s % 2 ^ w))

  pub ne_is_difference : (compare w Ne d s ≡ true) ↔ (d % 2 ^ w ≡ s % 2 ^ w → ⊥)
  unfolding compare cut
  ne_is_difference =
      (λ e. eqb-false (d % 2 ^ w) (s % 2 ^ w) (not-true _ e), λ n. ap not (ne_eqb (d % 2 ^ w) (s % 2 ^ w) n))

  pub gt_is_more : (compare w Gt d s ≡ true) ↔ (s % 2 ^ w < d % 2 ^ w)
  unfolding compare cut
  gt_is_more = (ltb-true (s % 2 ^ w) (d % 2 ^ w), lt-ltb (s % 2 ^ w) (d % 2 ^ w))

  pub ge_is_at_least : (compare w Ge d s ≡ true) ↔ (s % 2 ^ w ≤ d % 2 ^ w)
  unfolding compare cut
  ge_is_at_least = (leb-true (s % 2 ^ w) (d % 2 ^ w), le-leb (s % 2 ^ w) (d % 2 ^ w))

  pub lt_is_less : (compare w Lt d s ≡ true) ↔ (d % 2 ^ w < s % 2 ^ w)
  unfolding compare cut
  lt_is_less = (ltb-true (d % 2 ^ w) (s % 2 ^ w), lt-ltb (d % 2 ^ w) (s % 2 ^ w))

  pub le_is_at_most : (compare w Le d s ≡ true) ↔ (d % 2 ^ w ≤ s % 2 ^ w)
  unfolding compare cut
  le_is_at_most = (leb-true (d % 2 ^ w) (s % 2 ^ w), le-leb (d % 2 ^ w) (s % 2 ^ w))

  pub set_is_a_shared_bit : (compare w Set d s ≡ true) ↔ ((k : ℕ) × (k < w) × (bit k d ≡ 1) × (bit k s ≡ 1))
  unfolding compare cut alu
  set_is_a_shared_bit = (there, not_zero)
    where
      both : ℕ
      both = bit_and (d % 2 ^ w) (s % 2 ^ w)

      there : not (eqb both 0) ≡ true → (k : ℕ) × (k < w) × (bit k d ≡ 1) × (bit k s ≡ 1)
      there e =
          let b : both < 2 ^ w = and_lt w _ _ (mod-lt d (pow_pos w)) (mod-lt s (pow_pos w)) in
          let r = some_bit w both (λ z. eqb-false both 0 (not-true _ e) (sym (mod-eq_of_lt b) ∙ z)) in
          let m : bit r.0 both ≡ min (bit r.0 d) (bit r.0 s) = and_bit_by_bit w d s r.0 r.1 in
          (r.0, r.1, omega (arith, r.2, bit_lt r.0 d), omega (arith, r.2, bit_lt r.0 s))

      not_zero : (k : ℕ) × (k < w) × (bit k d ≡ 1) × (bit k s ≡ 1) → not (eqb both 0) ≡ true
      not_zero (k, l, p, q) =
          let m : bit k both ≡ min (bit k d) (bit k s) = and_bit_by_bit w d s k l in
          ap not (ne_eqb both 0 (λ z. let e : bit k both ≡ 0 = ap (bit k) z ∙ bit_zero k in omega arith))

-- ---- the signed order

ltb_agrees : (a b c d : ℕ) → (a < b → c < d) → (b ≤ a → d ≤ c) → ltb a b ≡ ltb c d
ltb_agrees a b c d p q = go (dec_lt a b)
  where
    go : Dec (a < b) → ltb a b ≡ ltb c d
    go (yes h) = lt-ltb a b h ∙ sym (lt-ltb c d (p h))
    go (no h) = let l : b ≤ a = omega arith in le-ltb a b l ∙ sym (le-ltb c d (q l))

leb_turned : (a b : ℕ) → leb a b ≡ not (ltb b a)
leb_turned a b = go (dec_lt b a)
  where
    go : Dec (b < a) → leb a b ≡ not (ltb b a)
    go (yes h) = lt-leb a b h ∙ sym (ap not (lt-ltb b a h))
    go (no h) = let l : a ≤ b = omega arith in le-leb a b l ∙ sym (ap not (le-ltb b a l))

le_z_turned : (a b : ℤ) → le_z a b ≡ not (lt_z b a)
le_z_turned (pos a) (pos b) = leb_turned a b
le_z_turned (pos a) (negsuc b) = refl
le_z_turned (negsuc a) (pos b) = refl
le_z_turned (negsuc a) (negsuc b) = leb_turned b a

module _ (w : ℕ) (h : 0 < w) where
  moved_keeps_the_signed_order : (x y : ℕ) → x < 2 ^ w → y < 2 ^ w → ltb (moved w x) (moved w y) ≡ lt_z (signed w x) (signed w y)
  moved_keeps_the_signed_order x y hx hy = go (dec_lt x (2 ^ (w - 1))) (dec_lt y (2 ^ (w - 1)))
    where
      go : Dec (x < 2 ^ (w - 1)) → Dec (y < 2 ^ (w - 1)) → ltb (moved w x) (moved w y) ≡ lt_z (signed w x) (signed w y)
      go (yes a) (yes b) =
          rw (moved_low w h a, moved_low w h b, signed_low w x a, signed_low w y b)
          (ltb_agrees (x + 2 ^ (w - 1)) (y + 2 ^ (w - 1)) x y (λ l. omega arith) (λ l. omega arith))
      go (yes a) (no b) =
          let b' : 2 ^ (w - 1) ≤ y = omega arith in
          rw (moved_low w h a, moved_high w h b' hy, signed_low w x a, signed_high w y b' hy)
          (le-ltb (x + 2 ^ (w - 1)) (y - 2 ^ (w - 1)) (omega (arith, two_halves w h)))
      go (no a) (yes b) =
          let a' : 2 ^ (w - 1) ≤ x = omega arith in
          rw (moved_high w h a' hx, moved_low w h b, signed_high w x a' hx, signed_low w y b)
          (lt-ltb (x - 2 ^ (w - 1)) (y + 2 ^ (w - 1)) (omega (arith, two_halves w h)))
      go (no a) (no b) =
          let a' : 2 ^ (w - 1) ≤ x = omega arith in
          let b' : 2 ^ (w - 1) ≤ y = omega arith in
          rw (moved_high w h a' hx, moved_high w h b' hy, signed_high w x a' hx, signed_high w y b' hy)
          (ltb_agrees (x - 2 ^ (w - 1)) (y - 2 ^ (w - 1)) (2 ^ w - 1 - y) (2 ^ w - 1 - x) (λ l. omega arith) (λ l. omega arith))

  signed_less : (d s : ℕ) → ltb (moved w (d % 2 ^ w)) (moved w (s % 2 ^ w)) ≡ lt_z (signed w (d % 2 ^ w)) (signed w (s % 2 ^ w))
  signed_less d s = moved_keeps_the_signed_order (d % 2 ^ w) (s % 2 ^ w) (mod-lt d (pow_pos w)) (mod-lt s (pow_pos w))

  signed_at_most : (d s : ℕ) → leb (moved w (d % 2 ^ w)) (moved w (s % 2 ^ w)) ≡ le_z (signed w (d % 2 ^ w)) (signed w (s % 2 ^ w))
  signed_at_most d s =
      leb_turned (moved w (d % 2 ^ w)) (moved w (s % 2 ^ w)) ∙ ap not (signed_less s d)
      ∙ sym (le_z_turned (signed w (d % 2 ^ w)) (signed w (s % 2 ^ w)))

  module _ (d s : ℕ) where
    pub slt_is_less : compare w Slt d s ≡ lt_z (signed w (d % 2 ^ w)) (signed w (s % 2 ^ w))
    unfolding compare cut
    slt_is_less = signed_less d s

    pub sle_is_at_most : compare w Sle d s ≡ le_z (signed w (d % 2 ^ w)) (signed w (s % 2 ^ w))
    unfolding compare cut
    sle_is_at_most = signed_at_most d s

    pub sgt_is_more : compare w Sgt d s ≡ lt_z (signed w (s % 2 ^ w)) (signed w (d % 2 ^ w))
    unfolding compare cut
    sgt_is_more = signed_less s d

    pub sge_is_at_least : compare w Sge d s ≡ le_z (signed w (s % 2 ^ w)) (signed w (d % 2 ^ w))
    unfolding compare cut
    sge_is_at_least = signed_at_most s d

-- ---- numbers as bytes

pub one_byte_is_the_element : (m : List ℕ) (i : ℕ) → read_bytes 1 m i ≡ get_or m i 0
unfolding read_bytes
one_byte_is_the_element m i = omega arith

pub lower_bytes_come_first : (a b : ℕ) (m : List ℕ) (i : ℕ) → read_bytes (a + b) m i ≡ read_bytes a m i + 256 ^ a * read_bytes b m (i + a)
lower_bytes_come_first = read_splits

module _ (n : ℕ) (m : List ℕ) (i x : ℕ) where
  pub read_undoes_write : i + n ≤ length m → read_bytes n (write_bytes n m i x) i ≡ x % 2 ^ (8 * n)
  read_undoes_write = read_written n m i x

  pub write_puts_byte_by_byte : (k : ℕ) → i + n ≤ length m → k < n → get_or (write_bytes n m i x) (i + k) 0 ≡ x / 256 ^ k % 256
  write_puts_byte_by_byte = written_byte n m i x

  pub write_changes_no_byte_below : (j : ℕ) → j < i → get_or (write_bytes n m i x) j 0 ≡ get_or m j 0
  write_changes_no_byte_below = write_keeps_below n m i x

  pub write_changes_no_byte_above : (j : ℕ) → i + n ≤ j → get_or (write_bytes n m i x) j 0 ≡ get_or m j 0
  write_changes_no_byte_above = write_keeps_above n m i x

  pub write_changes_no_length : length (write_bytes n m i x) ≡ length m
  write_changes_no_length = write_length n m i x
