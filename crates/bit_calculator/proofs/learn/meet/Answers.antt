-- `meet` by whether the known bits agree.
use native.Mathlib.Omega.{arith}
use mathlib.Core.Path.{◌≡◌, sym, subst}
use lib.Bits.{bit_and, bit_or}
use borrow.Author.Tests.{eq-eqb, ne_eqb}
use Rattle.std.specs.Prelude.{Option, Some, None}
use Rattle.known_bits.specs.declared.Bits.{Bits}
use Rattle.known_bits.specs.Formula.{met}
use Rattle.known_bits.specs.Learn.{Learns}
use Rattle.known_bits.specs.KnownBits.{Both}
use Rattle.known_bits.proofs.LearnLaws.{met_learns}
use Rattle.bit_calculator.proofs.learn.meet.Goals as goal

pub returns-then-a-unknown : goal.returns-then-a-unknown
unfolding met
returns-then-a-unknown c = let a = c.args.a in
    let b = c.args.b in
    let e : None ≡ met a b = simp (ne_eqb _ _ c.if-a-unknown.true) in
    record { value = e; learns = λ ga gb. subst (λ (r : Option Bits). Learns (Both a b) r) (sym e) (met_learns a b ga gb) }

pub returns : goal.returns
unfolding met
returns c = let a = c.args.a in
    let b = c.args.b in
    let u = bit_or a.mask b.mask in
    let e : Some (record { value = bit_or a.value b.value; mask = bit_and a.mask b.mask }) ≡ met a b =
    simp (eq-eqb (bit_or a.value u) (bit_or b.value u) (omega arith)) in
    record { value = e; learns = λ ga gb. subst (λ (r : Option Bits). Learns (Both a b) r) (sym e) (met_learns a b ga gb) }
