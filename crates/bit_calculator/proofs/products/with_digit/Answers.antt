-- `with_digit` by whether the digit is 0, 1 or unknown.
use Rattle.std.proofs.Common.{ap, ◌∙◌}
use Rattle.known_bits.specs.Formula.{joined, placed}
use Rattle.bit_calculator.proofs.AddedDigits.{no_1_is_added, a_1_is_added, an_unknown_digit_may_be_added}
use Rattle.bit_calculator.proofs.products.with_digit.Goals as goal

pub returns-then-top-k-eq0 : goal.returns-then-top-k-eq0
returns-then-top-k-eq0 c = no_1_is_added _ _ _ _ (rw c.top.ensures at c.if-top-k-eq0.true)

pub returns-then-a-k-eq0 : goal.returns-then-a-k-eq0
unfolding placed
returns-then-a-k-eq0 c = c.add-more.ensures ∙ a_1_is_added _ _ _ _ (rw c.top.ensures at c.if-top-k-eq0.false) c.if-a-k-eq0.true

pub returns : goal.returns
unfolding placed
returns c = c.join.ensures.value ∙ ap (joined c.args.r) c.add-more.ensures ∙ an_unknown_digit_may_be_added _ _ _ _ c.if-a-k-eq0.false
