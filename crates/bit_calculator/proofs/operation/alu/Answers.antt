-- `alu` is the formula for operands that are cut; what it promises is a law.
use Rattle.std.proofs.Common.{sym, ap₂, ◌∙◌, subst}
use Rattle.known_bits.specs.declared.Bits.{Bits}
use Rattle.known_bits.specs.Computed.{Computed}
use Rattle.known_bits.specs.Formula.{formula, calculated}
use Rattle.known_bits.proofs.Computing.{calculated_at_width}
use Rattle.bit_calculator.proofs.Widths.{width_of_words}
use Rattle.bit_calculator.proofs.operation.alu.Goals as goal

pub returns : goal.returns
unfolding calculated
returns g c =
    let w = g.W.Width.BITS in
    let op = c.args.op in
    let a = c.args.a in
    let b = c.args.b in
    let e = c.formula.ensures ∙ ap₂ (formula w op) c.cut.ensures.value c.cut-2.ensures.value in
    record {
      value = e;
      computed = subst (λ (r : Bits). Computed w op a b r) (sym e) (calculated_at_width w (width_of_words g.met.W.Width.one_of_three) op a b);
    }
