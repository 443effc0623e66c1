-- `shift_and_add` stops where the digits that are left change nothing. The loop keeps the low k digits times b.
use Rattle.std.proofs.Common.{◌≡◌, suc, ◌+◌, ◌/◌, ◌^◌, ap, ◌∙◌, arith}
use Rattle.bit_calculator.proofs.ProductCuts.{kept}
use Rattle.known_bits.specs.Formula.{low, from_bit, with_digit, low_digits, shift_and_add}
use Rattle.known_bits.specs.Pair.{top}
use Rattle.std.specs.Int.Count.{count_trailing_zeros}
use Rattle.known_bits.proofs.ShiftAndAdd.{zeros_add_nothing}
use Rattle.bit_calculator.proofs.AddedDigits.{tested_unknown_absorbs}
use Rattle.bit_calculator.proofs.products.shift_and_add.Goals as goal

pub loop-k-init : goal.loop-k-init
unfolding low_digits
loop-k-init c = c.exactly-r.ensures

pub returns-then-digits-k-eq0 : goal.returns-then-digits-k-eq0
returns-then-digits-k-eq0 c =
    let at = c.loop-k in
    let z : top c.args.a / 2 ^ at.k ≡ 0 = rw c.top-digits.ensures at c.if-digits-k-eq0.true in
    λ w s e. ap (low w) (at.invariant ∙ zeros_add_nothing c.args.a c.args.b at.k z (omega arith))

pub returns-then-reach-k : goal.returns-then-reach-k
returns-then-reach-k c =
    let at = c.loop-k in
    let reach = c.from_bit-reach in
    let n = reach.ensures ∙ ap from_bit (c.trailing.ensures ∙ ap (count_trailing_zeros 64) c.top.ensures) in
    λ w s e. tested_unknown_absorbs c.args.a c.args.b at.r at.k reach.result w at.invariant n
    (rw (kept c.args.all w e) at c.if-reach-k.true) (omega arith) s

pub loop-k-preserved : goal.loop-k-preserved
unfolding low_digits
loop-k-preserved c =
    let at = c.loop-k in
    let n : suc at.k ≡ at.k + 1 = omega arith in
    c.with_digit-r.ensures ∙ ap (with_digit 64 c.args.a c.args.b at.k) at.invariant ∙ ap (low_digits 64 c.args.a c.args.b) n

pub returns : goal.returns
unfolding shift_and_add
returns c =
    let at = c.loop-k in
    let n : at.k ≡ 64 = omega arith in
    λ w s e. ap (low w) (at.invariant ∙ ap (low_digits 64 c.args.a c.args.b) n)
