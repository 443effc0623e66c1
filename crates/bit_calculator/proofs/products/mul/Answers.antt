-- `mul` by whether both factors are known, and whether nothing but a length is known of both.
use Rattle.std.proofs.Common.{arith}
use Rattle.bit_calculator.proofs.ProductCuts.{kept, known_product_cut, plain_product_cut}
use Rattle.bit_calculator.proofs.products.mul.Goals as goal

pub returns-then-a-b-eq0 : goal.returns-then-a-b-eq0
returns-then-a-b-eq0 c =
    λ w s e. rw (c.exactly.ensures, kept c.args.all w e, c.mul.ensures) (known_product_cut c.args.a c.args.b w c.if-a-b-eq0.true)

pub returns-then-up_to-b : goal.returns-then-up_to-b
returns-then-up_to-b c =
    let a = c.args.a in
    let b = c.args.b in
    λ w s e. rw (c.among.ensures, kept c.args.all w e, c.product_mask.ensures, c.top.ensures, c.top-then-up_to-b.ensures)
    (plain_product_cut a b w (omega arith) (omega arith) c.if-a-b-eq0-2.true
    (rw c.up_to.ensures at c.if-up_to-a.true) (rw c.up_to-then-up_to-a.ensures at c.if-up_to-b.true))
