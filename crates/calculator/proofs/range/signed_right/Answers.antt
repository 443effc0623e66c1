-- `signed_right` by the signs of the ends: half of the greatest number of a width is the greatest that is not negative.
use Rattle.std.proofs.Common.{◌≡◌, ◌-◌, ◌^◌, pow_pos, arith}
use borrow.Author.Tests.{lt-ltb, le-ltb, le-leb, lt-leb}
use Rattle.word.proofs.Extend.{two_halves}
use Rattle.word.proofs.Widths.{is_positive}
use Rattle.number.specs.Ranges.{signed_right_range}
use Rattle.bit_calculator.proofs.Words.{greatest_of_a_width}
use Rattle.calculator.proofs.range.signed_right.Goals as goal

pub returns-then-a-highest : goal.returns-then-a-highest
unfolding signed_right_range
returns-then-a-highest g c =
    let known = g.met.W.Width.one_of_three in
    let w = g.W.Width.BITS in
    let e : c.cut-highest.result ≡ 2 ^ w - 1 = greatest_of_a_width known c.cut-highest.ensures in
    simp (lt-ltb c.args.a.hi (2 ^ (w - 1)) (omega (arith, two_halves w (is_positive known), pow_pos (w - 1)))) c.crossed.ensures

pub returns-then-highest-a : goal.returns-then-highest-a
unfolding signed_right_range
returns-then-highest-a g c =
    let known = g.met.W.Width.one_of_three in
    let w = g.W.Width.BITS in
    let a = c.args.a in
    let e : c.cut-highest.result ≡ 2 ^ w - 1 = greatest_of_a_width known c.cut-highest.ensures in
    simp (
      le-ltb a.hi (2 ^ (w - 1)) (omega (arith, two_halves w (is_positive known))),
      le-leb (2 ^ (w - 1)) a.lo (omega (arith, two_halves w (is_positive known))),
    )
    c.straight.ensures

pub returns-else-highest-a : goal.returns-else-highest-a
unfolding signed_right_range
returns-else-highest-a g c =
    let known = g.met.W.Width.one_of_three in
    let w = g.W.Width.BITS in
    let a = c.args.a in
    let e : c.cut-highest.result ≡ 2 ^ w - 1 = greatest_of_a_width known c.cut-highest.ensures in
    simp (
      le-ltb a.hi (2 ^ (w - 1)) (omega (arith, two_halves w (is_positive known))),
      lt-leb (2 ^ (w - 1)) a.lo (omega (arith, two_halves w (is_positive known), pow_pos (w - 1))),
    )
    c.everything.ensures
