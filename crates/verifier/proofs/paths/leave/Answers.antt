-- Opcode and off are those of the instruction, and its target is inside of the program.
use Rattle.std.proofs.Common.{sym, arith, rules}
use Rattle.verifier.proofs.Targets.{no_jump, an_exit, the_target_is_inside, a_jump}
use Rattle.verifier.proofs.paths.leave.Goals as goal

pub returns-then-f : goal.returns-then-f
returns-then-f c = no_jump _ _ _ _ (sym c.fields_at-f.ensures.fields) c.requires.fine _ (search rules) c.if-f.true

pub returns-then-f-2 : goal.returns-then-f-2
returns-then-f-2 c = an_exit _ _ _ _ (sym c.fields_at-f.ensures.fields) c.requires.fine _ (search rules) c.if-f-2.true

pub returns : goal.returns
returns c =
    a_jump _ _ _ _ (sym c.fields_at-f.ensures.fields) c.requires.fine c.if-f.false c.if-f-2.false _ _ (rw c.extend.ensures at c.insert.ensures)

pub overflow_add-at-2 : goal.overflow_add-at-2
overflow_add-at-2 c =
    let q = the_target_is_inside _ _ _ _ (sym c.fields_at-f.ensures.fields) c.requires.fine c.if-f.false c.if-f-2.false in
    rw c.extend.ensures (omega (arith, q))

pub insert-requires : goal.insert-requires
insert-requires c =
    let q = the_target_is_inside _ _ _ _ (sym c.fields_at-f.ensures.fields) c.requires.fine c.if-f.false c.if-f-2.false in
    rw c.extend.ensures (omega (arith, q))
