-- `shift` by what is known of the count.
use Rattle.std.proofs.Common.{◌≡◌, ◌-◌, ◌%◌, ap, ap₂, ◌∙◌}
use Rattle.std.specs.Int.Bits.{bit_and}
use borrow.Author.Tests.{eq-eqb, ne_eqb}
use Rattle.known_bits.specs.Formula.{joined, single, shifted, shifted_by}
use Rattle.known_bits.specs.Shift.{operation}
use Rattle.bit_calculator.proofs.shifts.shift.Goals as goal

pub returns-then-m-eq0 : goal.returns-then-m-eq0
unfolding shifted single
returns-then-m-eq0 g c =
    let z : c.args.b.mask % g.W.Width.BITS ≡ 0 = rw c.BITS.ensures at c.if-m-eq0.true in
    simp (eq-eqb _ _ z) c.by.ensures

pub returns-then-m-eq0-2 : goal.returns-then-m-eq0-2
unfolding shifted single
returns-then-m-eq0-2 g c =
    let w = g.W.Width.BITS in
    let m = c.args.b.mask % w in
    let n : ¬ (m ≡ 0) = rw c.BITS.ensures at c.if-m-eq0.false in
    let z : bit_and m (m - 1) ≡ 0 = rw c.BITS.ensures at c.if-m-eq0-2.true in
    simp (ne_eqb _ _ n, eq-eqb _ _ z)
    (c.join.ensures.value
    ∙ ap₂ joined c.by-then-m-eq0-2.ensures
    (c.by-then-m-eq0-2-2.ensures ∙ ap (shifted_by w (operation c.args.shift) c.args.a) c.top.ensures))

pub returns-else-m-eq0-2 : goal.returns-else-m-eq0-2
unfolding shifted single
returns-else-m-eq0-2 g c =
    let m = c.args.b.mask % g.W.Width.BITS in
    let n : ¬ (m ≡ 0) = rw c.BITS.ensures at c.if-m-eq0.false in
    let s : ¬ (bit_and m (m - 1) ≡ 0) = rw c.BITS.ensures at c.if-m-eq0-2.false in
    simp (ne_eqb _ _ n, ne_eqb _ _ s) c.unknown.ensures
