-- The operands of an operation: a range modulo m and a Number modulo a power of two, so at w bits and as a count.
use mathlib.Core.Path.{◌≡◌, refl, sym, ap, ◌∙◌, subst}
use mathlib.Core.Logic.{inl, inr}
use Prim.Native.Nat.{ℕ, ◌+◌, ◌-◌, ◌*◌, ◌/◌, ◌%◌, ◌^◌, ◌≤◌, ◌<◌, max}
use native.Mathlib.Nat.{mod-lt, le_trans, le_refl, le-div_iff_mul-le, div-mul-le_self, mul-le-mul_left, div-add-mod', div-eq_of_lt-le, div-eq_of_lt, mul-add-mod_self_right, mod-eq_of_lt}
use native.Mathlib.Omega.{arith}
use lib.Pow.{pow_pos}
use Rattle.word.specs.declared.Operation.{Operation}
use Rattle.word.specs.declared.Operation.TheVariants.{Add, Sub, Mul, Div, Or, And, Lsh, Rsh, Neg, Mod, Xor, Mov, Arsh}
use Rattle.word.proofs.Bit.{low_le}
use Rattle.known_bits.specs.Pair.{top}
use Rattle.known_bits.proofs.Tight.{mem_low, mem_high}
pub use Rattle.number.specs.Demanded.{Wide}
use Rattle.number.specs.declared.Range.{Range}
use Rattle.number.specs.declared.Number.{Number}
use Rattle.number.specs.Meaning.{Within, In}
use Rattle.number.specs.Computed.{block, modulo, second}
use Rattle.number.proofs.Cases.{by_equal}

-- what holds of both widths
pub at_either_width : (P : ℕ → Type 0) → P 64 → P 32 → (w : ℕ) → Wide w → P w
at_either_width P at-64 at-32 w (inl e) = subst P (sym e) at-64
at_either_width P at-64 at-32 w (inr e) = subst P (sym e) at-32

-- a range is known by its ends
pub same_ends : (r : Range) (l h : ℕ) → r.lo ≡ l → r.hi ≡ h → r ≡ record { lo = l; hi = h }
same_ends r l h p q = λ i. record { lo = p i; hi = q i }

-- ---- a range modulo m
-- a quotient grows with the dividend and falls with the divisor
pub quotient_in_order : (x x' y y' : ℕ) → x ≤ x' → y' ≤ y → 0 < y' → x / y ≤ x' / y'
quotient_in_order x x' y y' p q h =
    (le-div_iff_mul-le h).1 (le_trans (mul-le-mul_left (x / y) q) (le_trans (div-mul-le_self x y) p))

-- numbers with the same quotient have their rests in the order that they have
pub rest_in_order : (x y m : ℕ) → x / m ≡ y / m → x ≤ y → x % m ≤ y % m
rest_in_order x y m e l =
    let q : x / m * m ≡ y / m * m = ap (λ (n : ℕ). n * m) e in
    omega (arith, div-add-mod' x m, div-add-mod' y m)

-- all numbers between two with the same quotient have it
pub same_quotient_between : (l x h m : ℕ) → 0 < m → l / m ≡ h / m → l ≤ x → x ≤ h → (l / m ≡ x / m) × (x / m ≡ h / m)
same_quotient_between l x h m p e i j =
    let u = quotient_in_order l x m m i (le_refl m) p in
    let v = quotient_in_order x h m m j (le_refl m) p in
    (omega arith, omega arith)

pub block_in : (m : ℕ) (r : Range) (x : ℕ) → 0 < m → Within r x → Within (block m r) (x % m)
unfolding block
block_in m r x p i =
    by_equal (λ s. Within s (x % m)) (r.lo / m) (r.hi / m)
    (λ q. let e = same_quotient_between r.lo x r.hi m p q i.low i.high in
    record { low = rest_in_order r.lo x m e.0 i.low; high = rest_in_order x r.hi m e.1 i.high })
    (λ _. record { low = omega arith; high = omega (arith, mod-lt x p) })

-- one that lies within the block number q keeps its form
pub block_keeps : (m q l h : ℕ) (r : Range) → r.lo ≡ q * m + l → r.hi ≡ q * m + h → l < m → h < m → block m r ≡ record { lo = l; hi = h }
unfolding block
block_keeps m q l h r e f below above =
    by_equal (λ s. s ≡ record { lo = l; hi = h }) (r.lo / m) (r.hi / m)
    (λ _. same_ends _ _ _ (rest r.lo l e below) (rest r.hi h f above))
    (λ n. absurd (n (quotient r.lo l e below ∙ sym (quotient r.hi h f above))))
  where
    quotient : (x k : ℕ) → x ≡ q * m + k → k < m → x / m ≡ q
    quotient x k e b = div-eq_of_lt-le m (omega arith) (omega arith)

    rest : (x k : ℕ) → x ≡ q * m + k → k < m → x % m ≡ k
    rest x k e b = ap (λ (n : ℕ). n % m) e ∙ mul-add-mod_self_right q m k ∙ mod-eq_of_lt b

-- one that reaches beyond the first block does not
pub block_of_more : (m : ℕ) (r : Range) → r.lo < m → m ≤ r.hi → block m r ≡ record { lo = 0; hi = m - 1 }
unfolding block
block_of_more m r below above =
    by_equal (λ s. s ≡ record { lo = 0; hi = m - 1 }) (r.lo / m) (r.hi / m)
    (λ e. absurd (omega (arith, div-eq_of_lt {n = r.lo} {m = m} below, (le-div_iff_mul-le {k = m} {x = 1} {y = r.hi} (omega arith)).1 (omega arith))))
    (λ _. refl)

-- ---- a Number modulo a power of two
module _ (j : ℕ) (n : Number) where
  pub modulo_in : j ≤ 64 → (x : ℕ) → In n x → Within (modulo (2 ^ j) n) (x % 2 ^ j)
  unfolding modulo
  modulo_in h x i =
      let b = block_in (2 ^ j) n.range x (pow_pos j) i.range in
      let l = low_le j n.bits.value x (λ k g. mem_low 64 n.bits i.form x i.bits k (omega arith)) in
      let t = low_le j x (top n.bits) (λ k g. mem_high 64 n.bits i.form x i.bits k (omega arith)) in
      record { low = omega arith; high = omega arith }

  pub modulo_low_below : (modulo (2 ^ j) n).lo < 2 ^ j
  unfolding modulo block
  modulo_low_below =
      by_equal (λ (r : Range). max r.lo (n.bits.value % 2 ^ j) < 2 ^ j) (n.range.lo / 2 ^ j) (n.range.hi / 2 ^ j)
      (λ _. omega (arith, mod-lt n.range.lo (pow_pos j), mod-lt n.bits.value (pow_pos j)))
      (λ _. omega (arith, mod-lt n.bits.value (pow_pos j)))

  pub modulo_below : (modulo (2 ^ j) n).hi < 2 ^ j
  unfolding modulo
  modulo_below = omega (arith, mod-lt (top n.bits) (pow_pos j))

-- ---- the second operand: of a shift a count
-- modulo what it is taken
unfoldable pub base : ℕ → Operation → ℕ
base w Add = 2 ^ w
base w Sub = 2 ^ w
base w Mul = 2 ^ w
base w Div = 2 ^ w
base w Or = 2 ^ w
base w And = 2 ^ w
base w Lsh = w
base w Rsh = w
base w Neg = 2 ^ w
base w Mod = 2 ^ w
base w Xor = 2 ^ w
base w Mov = 2 ^ w
base w Arsh = w

pub second_is_modulo : (w : ℕ) (op : Operation) (b : Number) → second w op b ≡ modulo (base w op) b
unfolding second base
second_is_modulo w Add b = refl
second_is_modulo w Sub b = refl
second_is_modulo w Mul b = refl
second_is_modulo w Div b = refl
second_is_modulo w Or b = refl
second_is_modulo w And b = refl
second_is_modulo w Lsh b = refl
second_is_modulo w Rsh b = refl
second_is_modulo w Neg b = refl
second_is_modulo w Mod b = refl
second_is_modulo w Xor b = refl
second_is_modulo w Mov b = refl
second_is_modulo w Arsh b = refl

whole : (w : ℕ) → Wide w → (j : ℕ) × (j ≤ 64) × (2 ^ w ≡ 2 ^ j)
whole = at_either_width (λ w. (j : ℕ) × (j ≤ 64) × (2 ^ w ≡ 2 ^ j)) (64, omega arith, refl) (32, omega arith, refl)

count : (w : ℕ) → Wide w → (j : ℕ) × (j ≤ 64) × (w ≡ 2 ^ j)
count = at_either_width (λ w. (j : ℕ) × (j ≤ 64) × (w ≡ 2 ^ j)) (6, omega arith, refl) (5, omega arith, refl)

-- 64 and 32 are powers of two as well
pub base_is_power : (w : ℕ) → Wide w → (op : Operation) → (j : ℕ) × (j ≤ 64) × (base w op ≡ 2 ^ j)
unfolding base
base_is_power w h Add = whole w h
base_is_power w h Sub = whole w h
base_is_power w h Mul = whole w h
base_is_power w h Div = whole w h
base_is_power w h Or = whole w h
base_is_power w h And = whole w h
base_is_power w h Lsh = count w h
base_is_power w h Rsh = count w h
base_is_power w h Neg = whole w h
base_is_power w h Mod = whole w h
base_is_power w h Xor = whole w h
base_is_power w h Mov = whole w h
base_is_power w h Arsh = count w h

module _ (w : ℕ) (h : Wide w) (op : Operation) (b : Number) where
  pub second_in : (y : ℕ) → In b y → Within (second w op b) (y % base w op)
  second_in y i =
      let p = base_is_power w h op in
      rw (second_is_modulo w op b, p.2) (modulo_in p.0 b p.1 y i)

  pub second_below : (second w op b).hi < base w op
  second_below =
      let p = base_is_power w h op in
      rw (second_is_modulo w op b, p.2) (modulo_below p.0 b)
