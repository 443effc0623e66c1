-- Half the range is added at the width and taken off at 64 bits.
use Rattle.std.proofs.Common.{◌≡◌, ℕ, ◌+◌, ◌-◌, ◌%◌, ◌^◌, ◌<◌, ◌∙◌, arith}
use Rattle.word.proofs.Extend.{extend_of_moved}
use Rattle.word.proofs.Widths.{is_positive, fits_a_word}
use Rattle.word.proofs.sign.extend.Goals as goal

taken_off : (m h : ℕ) → m < 2 ^ 64 → h < 2 ^ 64 → ((m + (2 ^ 64 - h)) % 2 ^ 64 + h) % 2 ^ 64 ≡ m
taken_off m h a b = omega arith

pub returns : goal.returns
returns g c =
    let known = g.met.W.Width.one_of_three in
    extend_of_moved g.W.Width.BITS (is_positive known) (fits_a_word known) _ _ (omega arith)
    (rw (← c.half.ensures) (taken_off c.moved.result c.half.result (omega arith) (omega arith)) ∙ c.moved.ensures)
