-- Numbers are in one block where the rest of both is the same.
use Rattle.std.proofs.Common.{◌≡◌, ◌-◌, ◌/◌, ◌%◌, ◌^◌, arith, pow_pos}
use native.Mathlib.Nat.{mod-le}
use borrow.Author.Tests.{eq-eqb, ne_eqb}
use Rattle.word.specs.Word.{cut}
use Rattle.number.specs.Sharpen.{everything}
use Rattle.number.specs.Computed.{block}
use Rattle.calculator.proofs.Words.{one_block, other_block}
use Rattle.calculator.proofs.operation.low.Goals as goal

pub overflow_sub-s : goal.overflow_sub-s
unfolding cut
overflow_sub-s g c = omega (arith, mod-le c.args.s.lo (2 ^ g.W.Width.BITS))

pub overflow_sub-s-2 : goal.overflow_sub-s-2
unfolding cut
overflow_sub-s-2 g c = omega (arith, mod-le c.args.s.hi (2 ^ g.W.Width.BITS))

pub returns-then-s-lo : goal.returns-then-s-lo
unfolding block cut
returns-then-s-lo g c =
    let m = 2 ^ g.W.Width.BITS in
    let s = c.args.s in
    let e : s.lo - s.lo % m ≡ s.hi - s.hi % m = rw (c.cut-lo.ensures, c.cut-hi.ensures) at c.if-s-lo.true in
    simp (eq-eqb (s.lo / m) (s.hi / m) (one_block m s.lo s.hi (pow_pos g.W.Width.BITS) e), c.cut-lo.ensures, c.cut-hi.ensures)

pub returns-else-s-lo : goal.returns-else-s-lo
unfolding block cut everything
returns-else-s-lo g c =
    let m = 2 ^ g.W.Width.BITS in
    let s = c.args.s in
    let n : ¬ (s.lo - s.lo % m ≡ s.hi - s.hi % m) = rw (c.cut-lo.ensures, c.cut-hi.ensures) at c.if-s-lo.false in
    simp (ne_eqb (s.lo / m) (s.hi / m) (other_block m s.lo s.hi n)) c.everything.ensures
