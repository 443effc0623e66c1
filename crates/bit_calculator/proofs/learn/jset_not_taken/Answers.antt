-- `jset_not_taken` by whether a known bit is shared.
use native.Mathlib.Omega.{arith}
use mathlib.Core.Path.{◌≡◌, sym, subst}
use lib.Bits.{bit_and, bit_or, bit_xor}
use borrow.Author.Tests.{eq-eqb, ne_eqb}
use Rattle.std.specs.Prelude.{Option, Some, None}
use Rattle.known_bits.specs.declared.Bits.{Bits}
use Rattle.known_bits.specs.Formula.{cleared}
use Rattle.known_bits.specs.Learn.{Learns}
use Rattle.known_bits.specs.KnownBits.{Apart}
use Rattle.known_bits.proofs.LearnLaws.{cleared_learns}
use Rattle.bit_calculator.proofs.learn.jset_not_taken.Goals as goal

pub returns-then-a-s-ne0 : goal.returns-then-a-s-ne0
unfolding cleared
returns-then-a-s-ne0 c = let a = c.args.a in
    let s = c.args.s in
    let e : None ≡ cleared a s = simp (ne_eqb _ _ c.if-a-s-ne0.true) in
    record { value = e; learns = λ ga. subst (λ (r : Option Bits). Learns (Apart a s) r) (sym e) (cleared_learns a s (omega arith) ga) }

pub returns : goal.returns
unfolding cleared
returns c = let a = c.args.a in
    let s = c.args.s in
    let e : Some (record { value = a.value; mask = bit_xor (bit_or a.mask s) s }) ≡ cleared a s = simp (eq-eqb (bit_and a.value s) 0 (omega arith)) in
    record { value = e; learns = λ ga. subst (λ (r : Option Bits). Learns (Apart a s) r) (sym e) (cleared_learns a s (omega arith) ga) }
