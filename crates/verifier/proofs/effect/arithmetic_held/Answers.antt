-- By the operation's role: the functions are those of the roles.
use Rattle.std.proofs.Common.{sym, ◌∙◌}
use Rattle.machine.specs.Machine.{bits}
use Rattle.analysis.specs.Effects.{arithmetic, role}
use Rattle.verifier.proofs.ByKind.{one_value_read_as_two}
use Rattle.verifier.proofs.Outcomes.{long_calculates, short_calculates}
use Rattle.verifier.proofs.effect.arithmetic_held.Goals as goal

pub returns-in-Mov : goal.returns-in-Mov
unfolding arithmetic role
returns-in-Mov c = rw (c.in-Long.is, c.in-Mov.is, sym c.operand_held-y.ensures) c.copied.ensures

pub returns-in-Add : goal.returns-in-Add
unfolding arithmetic role
returns-in-Add c = rw (c.in-Long.is, c.in-Add.is, sym c.operand_held-y.ensures, sym c.register.ensures.value) c.added.ensures

pub returns-in-Sub : goal.returns-in-Sub
unfolding arithmetic role
returns-in-Sub c = rw (c.in-Long.is, c.in-Sub.is, sym c.operand_held-y.ensures, sym c.register-in-Sub.ensures.value) c.subtracted.ensures

pub returns-in_default : goal.returns-in_default
unfolding arithmetic bits
returns-in_default c =
    rw (c.in-Long.is, long_calculates c.args.op c.in_default.not-Mov c.in_default.not-Add c.in_default.not-Sub, sym c.operand_held-y.ensures, sym c.register-in_default.ensures.value)
    (rw c.in-Long.is at c.calculated.ensures)

pub returns-in-Mov-op : goal.returns-in-Mov-op
unfolding arithmetic role bits
returns-in-Mov-op c =
    rw (c.in-Short.is, c.in-Mov-op.is, sym c.operand_held-y.ensures)
    (rw (c.in-Short.is, c.in-Mov-op.is) at c.calculated-in-Mov-op.ensures ∙ sym (one_value_read_as_two _ _))

pub returns-in_default-op : goal.returns-in_default-op
unfolding arithmetic bits
returns-in_default-op c =
    rw (c.in-Short.is, short_calculates c.args.op c.in_default-op.not-Mov, sym c.operand_held-y.ensures, sym c.register-in_default-op.ensures.value)
    (rw c.in-Short.is at c.calculated-in_default-op.ensures)
