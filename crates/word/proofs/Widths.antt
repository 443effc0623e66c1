-- What all widths have in common.
use Rattle.std.proofs.Common.{◌≡◌, ℕ, ◌<◌, ◌≤◌, ◌⊎◌, inl, inr, arith}

pub is_positive : {w : ℕ} → (w ≡ 64) ⊎ ((w ≡ 32) ⊎ (w ≡ 16)) → 0 < w
is_positive (inl e) = omega arith
is_positive (inr (inl e)) = omega arith
is_positive (inr (inr e)) = omega arith

pub fits_a_word : {w : ℕ} → (w ≡ 64) ⊎ ((w ≡ 32) ⊎ (w ≡ 16)) → w ≤ 64
fits_a_word (inl e) = omega arith
fits_a_word (inr (inl e)) = omega arith
fits_a_word (inr (inr e)) = omega arith
