-- The cut pair is the best one for the numbers that are cut.
use Rattle.std.proofs.Common.{◌≡◌, sym, subst}
use Rattle.known_bits.specs.declared.Bits.{Bits}
use Rattle.known_bits.specs.Formula.{low}
use Rattle.known_bits.specs.KnownBits.{Best, Cuts}
use Rattle.known_bits.proofs.Class4.{low_best}
use Rattle.bit_calculator.proofs.paths.cut.Goals as goal

pub returns-clause-best : goal.returns-clause-best
unfolding low
returns-clause-best g c =
    let a = c.args.a in
    let w = g.W.Width.BITS in
    let e : record { value = c.cut.result; mask = c.cut-2.result } ≡ low w a = cc in
    λ ga. subst (λ (r : Bits). Best 64 (Cuts w a) r) (sym e) (low_best w 64 a ga)
