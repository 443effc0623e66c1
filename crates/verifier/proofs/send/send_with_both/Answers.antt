-- The first register is changed around the second.
use Rattle.std.proofs.Common.{sym}
use Rattle.analysis.specs.Judged.{with_operand}
use Rattle.verifier.proofs.Steps.{a_state_changed_twice_is_sent}
use Rattle.verifier.proofs.send.send_with_both.Goals as goal

pub returns-in-Immediate : goal.returns-in-Immediate
unfolding with_operand
returns-in-Immediate c = rw (c.in-Immediate.is, sym c.plain.ensures) c.send_with.ensures

pub returns-in-Register : goal.returns-in-Register
unfolding with_operand
returns-in-Register c =
    let is = c.state_of-state.ensures in
    rw c.in-Register.is
    (a_state_changed_twice_is_sent _ _ _ _ _ _ _ _ _ _ _ _ _ _ _ c.requires.0 c.plain-in-Register.ensures (rw (c.state_at.ensures.0, c.state_at.ensures.1) at c.words_of_register-words.ensures)
    (rw is at c.put_register.ensures.changed) (rw is at c.put_words_back.ensures) (rw c.plain-in-Register-2.ensures at c.send_with-step.ensures))
