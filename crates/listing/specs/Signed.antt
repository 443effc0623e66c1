-- Words of 64 bits as the signed numbers that they stand for.
use Rattle.std.specs.Prelude.{cond, List, ◌∷◌, ℕ, ◌-◌, ◌^◌, ltb}
use Rattle.text.specs.Buffer.{decimal}

-- the character + or -
unfoldable pub sign : ℕ → ℕ
sign n = cond (ltb n (2 ^ 63)) 43 45

unfoldable pub magnitude : ℕ → ℕ
magnitude n = cond (ltb n (2 ^ 63)) n (2 ^ 64 - n)

-- the sign, of which there is always one, and the magnitude
unfoldable pub signed_text : ℕ → List ℕ
signed_text n = sign n ∷ decimal (magnitude n)
