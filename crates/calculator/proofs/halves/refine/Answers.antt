-- Either way of the low halves is that of the whole.
use Rattle.std.proofs.Common.{sym, ap, ◌∙◌}
use Rattle.number.proofs.Halves.{refined32_is}
use Rattle.number.specs.Halves.{whole}
use Rattle.calculator.proofs.halves.refine.Goals as goal

pub returns : goal.returns
returns c =
    let a = c.args in
    c.whole.ensures ∙ ap (whole a.d a.s) c.low_halves.ensures ∙ sym (refined32_is a.c a.way a.d a.s)
