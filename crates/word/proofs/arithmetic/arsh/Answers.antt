-- The operand is extended with its sign and shifted as a word.
use Rattle.std.proofs.Common.{◌%◌}
use Rattle.word.specs.Word.{alu}
use Rattle.word.proofs.Extend.{cut_shift_extended}
use Rattle.word.proofs.Widths.{is_positive, fits_a_word}
use Rattle.word.proofs.arithmetic.arsh.Goals as goal

pub returns : goal.returns
unfolding alu
returns g c =
    let known = g.met.W.Width.one_of_three in
    let w = g.W.Width.BITS in
    rw (c.cut.ensures, c.shift_signed.ensures, c.extend.ensures, c.BITS.ensures)
    (cut_shift_extended w (is_positive known) (fits_a_word known) c.args.d (c.args.s % w))
