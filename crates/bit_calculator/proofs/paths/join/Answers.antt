-- `join` is the formula, which gives the best pair for the numbers of either, and covers both whatever the pairs are.
use native.Mathlib.Omega.{arith}
use mathlib.Core.Path.{sym, subst}
use Rattle.known_bits.specs.declared.Bits.{Bits}
use Rattle.known_bits.specs.KnownBits.{Sound, Best, Either}
use Rattle.known_bits.specs.Formula.{joined}
use Rattle.known_bits.proofs.Joined.{joined_sound, joined_best}
use Rattle.bit_calculator.proofs.paths.join.Goals as goal

pub returns : goal.returns
unfolding joined
returns c = let a = c.args.a in
    let b = c.args.b in
    let e = c.pack_spread.ensures in record { value = e; best = λ ga gb. subst (λ (r : Bits). Best 64 (Either a b) r) (sym e) (joined_best 64 a b ga gb); sound = subst (λ (r : Bits). Sound 64 (Either a b) r) (sym e) (joined_sound 64 a b (omega arith) (omega arith) (omega arith) (omega arith)) }
