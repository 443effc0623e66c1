-- `by_digits` is the low bits of the three views.
use Rattle.std.proofs.Common.{ap, ap₂, ◌∙◌}
use Rattle.std.specs.Int.Bits.{bit_and, bit_or}
use Rattle.word.specs.Word.{cut}
use Rattle.known_bits.specs.Formula.{product_mask}
use Rattle.bit_calculator.proofs.ProductCuts.{kept, three_views_cut}
use Rattle.bit_calculator.proofs.products.by_digits.Goals as goal

pub returns : goal.returns
returns c =
    let p = c.shift_and_add-p in
    let q = c.shift_and_add-q in
    let m = c.product_mask-mask.ensures ∙ ap₂ product_mask c.top.ensures c.top-2.ensures in
    λ w s e n.
    (λ i. record { value = kept c.args.all w e (bit_or p.result.value q.result.value) i; mask = (kept c.args.all w e _ ∙ ap (λ x. cut w (bit_and x (bit_and p.result.mask q.result.mask))) m) i })
    ∙ three_views_cut c.args.a c.args.b w n p.result q.result (p.ensures w s e) (q.ensures w s e)
