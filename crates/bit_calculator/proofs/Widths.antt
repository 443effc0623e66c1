-- A width of words is one that the laws of known bits speak of.
use Rattle.std.proofs.Common.{◌≡◌, refl, sym, subst, ℕ, ◌-◌, ◌^◌, ◌%◌, ◌⊎◌, inl, inr, arith}
use Rattle.word.specs.Word.{cut}
use Rattle.known_bits.proofs.Class4.{Width, width}

pub width_of_words : {w : ℕ} → (w ≡ 64) ⊎ ((w ≡ 32) ⊎ (w ≡ 16)) → Width w
width_of_words {w = w} (inl e) = width w (inl e)
width_of_words {w = w} (inr (inl e)) = width w (inr e)
width_of_words (inr (inr e)) = record { places = 4; power = e; enough = omega arith; some = omega arith; small = omega arith }

-- the greatest word of a width
pub greatest_word : {w : ℕ} → (w ≡ 64) ⊎ ((w ≡ 32) ⊎ (w ≡ 16)) → cut w 18446744073709551615 ≡ 2 ^ w - 1
unfolding cut
greatest_word (inl e) = subst (λ v. 18446744073709551615 % 2 ^ v ≡ 2 ^ v - 1) (sym e) refl
greatest_word (inr (inl e)) = subst (λ v. 18446744073709551615 % 2 ^ v ≡ 2 ^ v - 1) (sym e) refl
greatest_word (inr (inr e)) = subst (λ v. 18446744073709551615 % 2 ^ v ≡ 2 ^ v - 1) (sym e) refl
