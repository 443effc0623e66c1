-- `signed_right` by the sign of the least and the greatest number.
use Rattle.std.proofs.Common.{◌≡◌, ◌-◌, ◌/◌, ◌^◌, sym, ap, ◌∙◌, pow_pos, arith}
use borrow.Author.Tests.{lt-ltb, le-ltb}
use Rattle.word.proofs.Extend.{two_halves}
use Rattle.word.proofs.Widths.{is_positive}
use Rattle.known_bits.specs.Formula.{among, up_to, signed_right}
use Rattle.known_bits.specs.Pair.{packed}
use Rattle.bit_calculator.proofs.Words.{greatest_of_a_width}
use Rattle.bit_calculator.proofs.counts.signed_right.Goals as goal

pub returns-then-t-last : goal.returns-then-t-last
unfolding signed_right
returns-then-t-last g c =
    let known = g.met.W.Width.one_of_three in
    let w = g.W.Width.BITS in
    let e : c.cut-last.result ≡ 2 ^ w - 1 = greatest_of_a_width known c.cut-last.ensures in
    simp (lt-ltb c.args.t (2 ^ (w - 1)) (omega (arith, two_halves w (is_positive known), pow_pos (w - 1))))
    (c.among.ensures ∙ ap among c.up_to.ensures)

pub returns-then-v-last : goal.returns-then-v-last
unfolding signed_right
returns-then-v-last g c =
    let known = g.met.W.Width.one_of_three in
    let w = g.W.Width.BITS in
    let a = c.args in
    let e : c.cut-last.result ≡ 2 ^ w - 1 = greatest_of_a_width known c.cut-last.ensures in
    simp (
      le-ltb a.t (2 ^ (w - 1)) (omega (arith, two_halves w (is_positive known))),
      lt-ltb a.v (2 ^ (w - 1)) (omega (arith, two_halves w (is_positive known), pow_pos (w - 1))),
    )
    (c.among-then-v-last.ensures ∙ ap among e)

pub returns-else-v-last : goal.returns-else-v-last
unfolding signed_right
returns-else-v-last g c =
    let known = g.met.W.Width.one_of_three in
    let w = g.W.Width.BITS in
    let a = c.args in
    let e : c.cut-last.result ≡ 2 ^ w - 1 = greatest_of_a_width known c.cut-last.ensures in
    simp (
      le-ltb a.t (2 ^ (w - 1)) (omega (arith, two_halves w (is_positive known))),
      le-ltb a.v (2 ^ (w - 1)) (omega (arith, two_halves w (is_positive known))),
      sym e,
    )
    (c.pack.ensures
    ∙ ap (packed c.cut-last.result) (c.up_to-else-v-last.ensures ∙ ap (λ n. up_to (n / 2 ^ a.n)) c.saturating_sub.ensures))
