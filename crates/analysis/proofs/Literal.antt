-- What a definition says, as a sentence: the proofs cite these and not the text, so that a definition that says something else is refused here.
use mathlib.Core.Path.{◌≡◌, refl}
use Prim.Native.Nat.{ℕ, ◌≤◌}
use native.Mathlib.Omega.{arith}
use Rattle.std.specs.Prelude.{Some, None}
use Rattle.machine.specs.declared.instruction.Operand.{Operand}
use Rattle.number.specs.declared.Number.{Number}
use Rattle.analysis.specs.declared.Reason.{Reason}
use Rattle.analysis.specs.declared.Finding.TheVariants.{Refused}
use Rattle.analysis.specs.declared.Region.{Region}
use Rattle.analysis.specs.declared.Region.TheVariants.{Record, Stack}
use Rattle.analysis.specs.declared.Value.TheVariants.{Plain}
use Rattle.analysis.specs.Values.{Facts}
use Rattle.analysis.specs.Effects.{limit}
use Rattle.analysis.specs.Judged.{having, with_operand, along, Waiting, halted, onward, Walk, conclude}

-- a way that is possible is followed with all that was known, but for the two operands; one that is excluded is not followed
pub along_possible : (a : Facts) (d : ℕ) (s : Operand) (x y : Number) → along a d s (Some (x, y)) ≡ Some (with_operand (having a d (Plain x)) s (Plain y))
unfolding along
along_possible a d s x y = refl

pub along_excluded : (a : Facts) (d : ℕ) (s : Operand) → along a d s None ≡ None
unfolding along
along_excluded a d s = refl

-- a refusal ends the pass, at its place; otherwise it goes on
pub conclude_halted : (reason : Reason) (p : Waiting) (work i : ℕ) (more : Waiting → ℕ → Walk)
    → conclude (halted reason p work) i more ≡ record { finding = Refused reason i; work = work; waiting = p }
unfolding conclude
conclude_halted reason p work i more = refl

pub conclude_onward : (p : Waiting) (work i : ℕ) (more : Waiting → ℕ → Walk) → conclude (onward p work) i more ≡ more p work
unfolding conclude
conclude_onward p work i more = refl

-- a longer record is no less
pub limit_grows : (R S : ℕ) → R ≤ S → (p : Region) → limit R p ≤ limit S p
unfolding limit
limit_grows R S l Record = omega arith
limit_grows R S l Stack = omega arith
