-- `same_quotient` by whether the divisor is known.
use Rattle.std.proofs.Common.{◌≡◌, ◌/◌, eqb, sym, ap, ap₂, ◌∙◌, arith}
use borrow.Author.Tests.{eq-eqb, ne_eqb}
use Rattle.number.specs.declared.Range.{Range}
use Rattle.number.specs.Ranges.{straight, same_quotient}
use Rattle.calculator.proofs.Fitting.{quotient_of_words}
use Rattle.calculator.proofs.range.same_quotient.Goals as goal

pub returns-then-b : goal.returns-then-b
unfolding same_quotient
returns-then-b c = simp (ne_eqb _ _ c.if-b.true)

pub returns : goal.returns
unfolding same_quotient straight
returns c =
    let a = c.args.a in
    let b = c.args.b in
    let e : b.lo ≡ b.hi = omega arith in
    simp (eq-eqb b.lo b.hi e)
    (ap₂ eqb
    (ap (λ (r : Range). r.lo) c.straight-quotients.ensures ∙ quotient_of_words a.lo b.lo (omega arith) (omega arith))
    (ap (λ (r : Range). r.hi) c.straight-quotients.ensures ∙ quotient_of_words a.hi b.hi (omega arith) (omega arith) ∙ ap (λ n. a.hi / n) (sym e)))
