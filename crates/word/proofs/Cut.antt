-- The laws of `cut`: the low w bits of a number, of a product and of a difference.
use Rattle.std.proofs.Common.{◌≡◌, ℕ, ◌+◌, ◌-◌, ◌*◌, ◌/◌, ◌%◌, ◌^◌, ◌<◌, ◌≤◌, sym, ap, ◌∙◌, mod-lt, mod-eq_of_lt, mul_comm, div-add-mod', arith, pow_pos}
use native.Mathlib.Nat.{mod-mod, add-mul-mod_self_right}
use lib.Pow.{mod-mod-pow}
use Rattle.word.specs.Word.{cut}

pub cut_below : (w x : ℕ) → cut w x < 2 ^ w
unfolding cut
cut_below w x = mod-lt x (pow_pos w)

pub cut_small : (w : ℕ) {x : ℕ} → x < 2 ^ w → cut w x ≡ x
unfolding cut
cut_small w h = mod-eq_of_lt h

pub cut_64 : {x : ℕ} → x < 2 ^ 64 → cut 64 x ≡ x
cut_64 h = cut_small 64 h

pub cut_cut : (w x : ℕ) → cut w (cut w x) ≡ cut w x
unfolding cut
cut_cut w x = mod-mod x (2 ^ w)

pub cut_wider : (w v x : ℕ) → w ≤ v → cut w (cut v x) ≡ cut w x
unfolding cut
cut_wider w v x h = let e : v ≡ v - w + w = omega arith in rw e (mod-mod-pow x (v - w) w)

-- a factor may be cut before the product is, as a summand may (`mod-add-mod`)
pub mod_times_mod : (a b m : ℕ) → (a % m * b) % m ≡ (a * b) % m
mod_times_mod a b m =
    sym
    (ap (λ (x : ℕ). (x * b) % m) (sym (div-add-mod' a m)) ∙ ap (λ (x : ℕ). x % m) (grouped (a / m) (a % m))
    ∙ add-mul-mod_self_right (a % m * b) (a / m * b) m)
  where
    grouped : (q r : ℕ) → (q * m + r) * b ≡ r * b + q * b * m
    grouped q r = omega arith

pub product_mod : (a b m : ℕ) → (a % m * (b % m)) % m ≡ (a * b) % m
product_mod a b m =
    mod_times_mod a (b % m) m ∙ ap (λ (x : ℕ). x % m) (mul_comm a (b % m)) ∙ mod_times_mod b a m ∙ ap (λ (x : ℕ). x % m) (mul_comm b a)

-- what a subtraction that wraps gives: the number that makes d with s
pub difference : (r d s : ℕ) → r < 2 ^ 64 → d < 2 ^ 64 → s < 2 ^ 64 → (r + s) % 2 ^ 64 ≡ d → r ≡ (d + (2 ^ 64 - s)) % 2 ^ 64
difference r d s hr hd hs e = omega arith
