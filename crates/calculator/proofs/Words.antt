-- The low bits of numbers, as the code cuts them.
use Rattle.std.proofs.Common.{◌≡◌, ℕ, ◌-◌, ◌*◌, ◌/◌, ◌%◌, ◌<◌, ap, sym, ◌∙◌, arith}
use Rattle.std.proofs.Math.Nat.{div-add-mod, mul-div_cancel_left}

-- what is left of a number without its rest
start : (m x : ℕ) → x - x % m ≡ m * (x / m)
start m x = omega (arith, div-add-mod x m)

-- numbers are in one block of m if it starts at the same number
pub one_block : (m x y : ℕ) → 0 < m → x - x % m ≡ y - y % m → x / m ≡ y / m
one_block m x y p e =
    sym (mul-div_cancel_left (x / m) p) ∙ ap (λ (k : ℕ). k / m) (sym (start m x) ∙ e ∙ start m y) ∙ mul-div_cancel_left (y / m) p

pub other_block : (m x y : ℕ) → ¬ (x - x % m ≡ y - y % m) → ¬ (x / m ≡ y / m)
other_block m x y n e = n (start m x ∙ ap (λ (k : ℕ). m * k) e ∙ sym (start m y))
